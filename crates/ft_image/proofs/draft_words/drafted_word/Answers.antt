use Rattle.ft_image.proofs.DraftFills.{steps_before}
use Rattle.ft_image.proofs.draft_words.drafted_word.Goals as goal

pub returns-clause-narrows : goal.returns-clause-narrows
returns-clause-narrows c p s shown = steps_before c.args.pass.now c.written_word.new.pass p s c.written_word.ensures.on shown

pub returns-clause-answer : goal.returns-clause-answer
returns-clause-answer c p shown = c.written_word.ensures.answer p shown.0
