-- The waves of vibrato and tremolo, of 64 positions.
use Rattle.std.specs.Prelude.{ℕ, ◌-◌, ◌*◌, ◌%◌, ◌==◌, ℤ, pos, ◌-ℤ◌, List, [], ◌∷◌, slice_index, nat_le, nat_lt, if◌then◌else◌}

-- the first quarter of a sine, up to 255
abbrev pub sines : List ℕ
sines =
    0 ∷ 24 ∷ 49 ∷ 74 ∷ 97 ∷ 120 ∷ 141 ∷ 161 ∷ 180 ∷ 197 ∷ 212 ∷ 224 ∷ 235 ∷ 244 ∷ 250 ∷ 253 ∷ 255
    ∷ []

-- its first half: the second quarter is the first, backwards
abbrev pub half_sine : ℕ → ℕ
half_sine place =
    if nat_le place 16 then slice_index sines place else slice_index sines (32 - place)

-- a wave is above 0 for the first 32 positions, and as far below for the others
abbrev pub mirrored : ℕ → ℕ → ℤ
mirrored position size = if nat_lt position 32 then pos size else (pos 0 -ℤ pos size)

-- kind 0 is a sine, 1 a ramp down, 2 a square, 3 a ramp up
unfoldable pub wave_of : ℕ → ℕ → ℤ
wave_of kind position =
    if kind == 0 then mirrored position (half_sine (position % 32))
    else (if kind == 1 then (pos 255 -ℤ pos (8 * position))
    else (if kind == 2 then mirrored position 255
    else (pos (8 * position) -ℤ pos 255)))
