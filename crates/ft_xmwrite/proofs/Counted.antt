-- How many blocks the generated song has.
use Rattle.std.proofs.Common.{◌≡◌, ℕ, zero, suc, ◌+◌, ◌*◌, [], refl, ap, arith}
use Rattle.std.specs.List.{sum_by}
use Rattle.std.proofs.lemmas.List.Sums.{sum_by-cons}
use Rattle.ft_types.specs.Blocks.{pieces_of, pattern_blocks, sample_blocks, instrument_blocks, blocks_of}
use Rattle.ft_xmwrite.specs.Generate.{draw, drawn, drawn_frame, drawn_pattern, drawn_sample, drawn_instrument, generated}
use Rattle.ft_xmwrite.proofs.Generated.{length-drawn}

-- values of which each that can be drawn counts as much
sum_drawn : {A : Type 0} → (f : A → ℕ) (one : ℕ → A × ℕ) (n x k : ℕ) → ((y : ℕ) → f (one y).0 ≡ k)
    → sum_by f (drawn n one x).0 ≡ n * k
unfolding drawn
sum_drawn f one zero x k each = omega arith
sum_drawn f one (suc n) x k each =
    let a = sum_by-cons f (one x).0 (drawn n one (one x).1).0 in
    let b = sum_drawn f one n (one x).1 k each in
    let c = each x in
    omega arith

pattern_three : (x : ℕ) → pattern_blocks 8 (drawn_pattern x).0 ≡ 3
unfolding drawn_pattern
pattern_three x = refl

sample_eighteen : (x : ℕ) → sample_blocks (drawn_sample x).0 ≡ 18
unfolding drawn_sample
sample_eighteen x =
    let long = length-drawn drawn_frame 16384 (draw 256 x).1 in
    ap (λ (n : ℕ). 1 + pieces_of n 1024 + pieces_of (pieces_of n 1024) 1024) long

instrument_nineteen : (x : ℕ) → instrument_blocks (drawn_instrument x).0 ≡ 19
unfolding drawn_instrument
instrument_nineteen x =
    let one = sum_by-cons sample_blocks (drawn_sample x).0 [] in
    let many = sample_eighteen x in
    omega arith

pub generated_blocks : (number : ℕ) → blocks_of (generated number) ≡ 425
unfolding generated
generated_blocks number =
    let patterns = drawn 40 drawn_pattern number in
    let a = sum_drawn (pattern_blocks 8) drawn_pattern 40 number 3 pattern_three in
    let b = sum_drawn instrument_blocks drawn_instrument 16 patterns.1 19 instrument_nineteen in
    omega arith
