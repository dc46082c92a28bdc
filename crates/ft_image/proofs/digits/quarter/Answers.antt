use Rattle.std.proofs.Common.{◌≡◌, ◌<◌, ◌*◌, ◌/◌, ◌%◌, ◌^◌, ℕ, zero, suc, ap, ◌∙◌, arith}
use Rattle.ft_segments.specs.Packing.{digit}
use Rattle.ft_image.proofs.digits.quarter.Goals as goal

shifted : (word place : ℕ) → place < 4 → word / 2 ^ (16 * place) % 65536 ≡ digit 65536 word place
shifted word zero lt = omega arith
shifted word (suc zero) lt = omega arith
shifted word (suc (suc zero)) lt = omega arith
shifted word (suc (suc (suc zero))) lt = omega arith
shifted word (suc (suc (suc (suc place)))) lt = absurd (omega arith)

pub returns : goal.returns
returns c =
    ap (λ (n : ℕ). c.args.word / 2 ^ (16 * n) % 65536) c.from.ensures
    ∙ shifted c.args.word c.args.place c.requires
