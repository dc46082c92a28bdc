use Rattle.std.proofs.Common.{ap, sym, ◌∙◌}
use Rattle.ft_segments.specs.Packing.{word_at}
use Rattle.ft_songedit.proofs.RootPut.{root_shown}
use Rattle.ft_songedit.proofs.cell_edit.root_with_body.Goals as goal

pub returns-clause-answer : goal.returns-clause-answer
returns-clause-answer g c = λ p channels x ids may root shows few within j lt.
    c.put_body_id.ensures x ids.bodies few within
    (λ k l. c.segment_words-words.ensures.answer p may k l ∙ ap (λ s. word_at p.pool s k) (sym root)
    ∙ root_shown p.pool channels x ids k shows l)
    j lt
