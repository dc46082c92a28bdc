use Rattle.std.proofs.Common.{◌≡◌, ◌<◌, ℕ, length}
use Rattle.std.specs.Prelude.{slice_index}
use Rattle.ft_segments.specs.Packing.{digit}
use Rattle.ft_image.proofs.changing.with_byte.Given as goal

abbrev pub invariant-loop-i : goal.invariant-loop-i
invariant-loop-i l = (length l.bytes ≡ 8) × ((k : ℕ) → k < l.i → slice_index l.bytes k ≡ digit 256 l.word k)
