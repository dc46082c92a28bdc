use Rattle.std.proofs.Common.{◌≡◌, ◌∙◌, ◌/◌, ℕ, ap, arith, rules, w16}
use Rattle.std.specs.Prelude.{FitsSigned}
use Rattle.std.proofs.lemmas.Int.{to_z-of_z}
use Rattle.ft_image.specs.Read.{MayShowSample, body_at}
use Rattle.ft_image.proofs.Samples.{sample_found}
use Rattle.ft_image.proofs.sample_reading.frame.Goals as goal

pub returns-clause-answer : goal.returns-clause-answer
returns-clause-answer g c = λ p m x may shows of lt.
    let root = c.args.sample in
    let place = c.args.place in
    let before : MayShowSample g.V.WordView.may_show c.body_of_frame-body.new.view p root = λ s is used. c.frame_word-word.ensures.narrows p s (may s is used) in
    let body = c.body_of_frame-body.ensures.answer p m x before shows of lt in
    let same : place / 1024 ≡ place / 4 / 256 = omega arith in
    let word = c.frame_word-word.ensures.answer p m root x may shows of (omega arith)
    (body ∙ ap (λ (b : ℕ). body_at p.pool root b) same) in
    let fits : FitsSigned w16 c.frame_in.result = search rules in
    to_z-of_z w16 c.frame_in.result fits ∙ c.frame_in.ensures x (sample_found p m root x shows of).valid word
