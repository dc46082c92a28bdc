use Rattle.std.proofs.Common.{◌≡◌, ◌≤◌, ◌/◌, ◌-◌, ℕ, suc, refl, ◌∙◌, arith}
use Rattle.ft_segments.specs.Packing.{digit}
use Rattle.ft_image.proofs.digits.byte.Goals as goal

high : (word place low : ℕ) → 4 ≤ place → low ≡ place - 4
    → digit 256 (word / 256 / 256 / 256 / 256) low ≡ digit 256 word place
high word place low le is = let e : place ≡ suc (suc (suc (suc low))) = omega arith in rw e refl

pub returns : goal.returns
returns c = c.low_byte-2.ensures ∙ high c.args.word c.args.place (c.args.place - 4) c.if-place-lt4.false refl
