use Rattle.ft_image.specs.PassLaws.{reads_nothing}
use Rattle.ft_image.proofs.Noted.{held_before, word_noted, held_answer}
use Rattle.ft_image.proofs.pass_words.held_word.Goals as goal

pub returns-then-seg-segments-clause-on : goal.returns-then-seg-segments-clause-on
returns-then-seg-segments-clause-on g c = reads_nothing c.args.pass.now

pub returns-clause-narrows : goal.returns-clause-narrows
returns-clause-narrows g c =
    let old = c.args.pass.now in
    let on = word_noted old c.word.new.pass _ _ _ c.word.ensures.noted in
    held_before c.a_history_agrees_with_fewer_reads.ensures old c.word.new.pass on

pub returns-clause-answer : goal.returns-clause-answer
returns-clause-answer g c =
    held_answer c.a_read_word_is_that_of_its_version.ensures.held c.args.pass.now c.word.new.pass c.args.seg c.args.at
    c.word.result c.word.ensures.noted
