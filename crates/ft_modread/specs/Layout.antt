-- Parts of a file by their places.
use Rattle.std.specs.Prelude.{ℕ, ◌+◌, ◌-◌, ◌*◌, List, ◌++◌, take, drop, length, map, replicate, slice_index}
use Rattle.std.specs.List.{range_with_len}

-- the n bytes from a place on; fewer where the file ends before
abbrev pub file_part : ℕ → ℕ → List ℕ → List ℕ
file_part at n file = take n (drop at file)

-- a number of two bytes, the high one first
abbrev pub high_first : List ℕ → ℕ → ℕ
high_first bytes at = 256 * slice_index bytes at + slice_index bytes (at + 1)

-- bytes that are missing up to n are 0
abbrev pub filled_up : ℕ → List ℕ → List ℕ
filled_up n bytes = bytes ++ replicate (n - length bytes) 0

-- what f says of each number below n, in order
unfoldable pub each : {A : Type 0} → ℕ → (ℕ → A) → List A
each n f = map f (range_with_len 0 n)
