use Rattle.std.proofs.Common.{◌∙◌, refl, arith}
use Rattle.ft_image.proofs.DraftFills.{fills_nothing, fills_through, steps_fill, steps_words, steps_may}
use Rattle.ft_image.proofs.draft_words.DraftWordsFill.fill_law.Goals as goal

pub returns-clause-here : goal.returns-clause-here
returns-clause-here c = λ v. (refl, refl, fills_nothing v.pass.now)

pub returns-clause-through : goal.returns-clause-through
returns-clause-through c = λ u v w e f. (e.0 ∙ f.0, e.1 ∙ f.1, fills_through u.pass.now v.pass.now w.pass.now e.2 f.2)

pub returns-clause-read : goal.returns-clause-read
returns-clause-read c = λ v w e. (e.0, e.1, steps_fill v.pass.now w.pass.now e.2)

pub returns-clause-words : goal.returns-clause-words
returns-clause-words c = λ v w e. steps_words v.pass.now w.pass.now e.2

pub returns-clause-may : goal.returns-clause-may
returns-clause-may c = λ v w s e may. steps_may v.pass.now w.pass.now s e.2 may

pub returns-clause-room : goal.returns-clause-room
returns-clause-room c = λ v s may. let inside = may.0 in let long = may.1 in omega arith
