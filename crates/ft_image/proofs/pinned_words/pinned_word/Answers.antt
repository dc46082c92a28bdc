use Rattle.ft_image.specs.PassLaws.{reads_nothing}
use Rattle.ft_image.proofs.Noted.{pinned_before, pinned_noted, pinned_answer}
use Rattle.ft_image.proofs.pinned_words.pinned_word.Goals as goal

pub returns-then-seg-segments-clause-on : goal.returns-then-seg-segments-clause-on
returns-then-seg-segments-clause-on g c = reads_nothing c.args.pass.now

pub returns-clause-narrows : goal.returns-clause-narrows
returns-clause-narrows g c =
    let old = c.args.pass.now in
    let new = c.pinned_word.new.pass in
    let on = pinned_noted old new _ _ _ _ c.pinned_word.ensures.noted in
    pinned_before c.a_history_agrees_with_fewer_reads.ensures old new c.args.channel on

pub returns-clause-answer : goal.returns-clause-answer
returns-clause-answer g c =
    pinned_answer c.a_read_word_is_that_of_its_version.ensures.pinned c.args.pass.now c.pinned_word.new.pass c.args.channel
    c.args.seg c.args.at c.pinned_word.result c.pinned_word.ensures.noted
