use Rattle.std.proofs.Common.{◌≡◌, ◌∙◌, ◌*◌, ◌/◌, ◌%◌, ℕ, ap, sym, refl, arith}
use Rattle.ft_segments.specs.Packing.{word_at, id_at}
use Rattle.ft_image.specs.Values.{frames_word}
use Rattle.ft_image.specs.Read.{body_at}
use Rattle.ft_image.proofs.Samples.{sample_found, body_found}
use Rattle.ft_image.proofs.sample_reading.frame_word.Goals as goal

pub returns-clause-answer : goal.returns-clause-answer
returns-clause-answer g c = λ p m root x may shows of lt in_body.
    let word = c.args.word in
    let body = c.args.body in
    let place = 4 * word in
    let sample = sample_found p m root x shows of in
    let index = id_at p.pool root 16 (place / 1024 / 1024) in
    let same : word / 256 ≡ place / 1024 = omega arith in
    let at = in_body ∙ ap (λ (b : ℕ). body_at p.pool root b) same in
    let one = body_found p x root place index body sample lt refl at in
    let four : place / 4 ≡ word = omega arith in
    c.word.ensures.answer p (may body (sample.within body one.0) one.0)
    ∙ ap (λ (k : ℕ). word_at p.pool body (k % 256)) (sym four)
    ∙ one.1
    ∙ ap (λ (k : ℕ). frames_word x.frames k) four
