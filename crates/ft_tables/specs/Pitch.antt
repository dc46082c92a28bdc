-- Pitch: the notes that are played, their periods, the frequencies of periods, and the steps of
-- voices.
use Rattle.std.specs.Prelude.{ℕ, zero, suc, ◌+◌, ◌-◌, ◌*◌, ◌/◌, ◌%◌, ◌^◌, ℤ, pos, negsuc, ◌+ℤ◌, ◌-ℤ◌, ◌*ℤ◌, Bool, false, List, [], ◌∷◌, slice_index, nat_le, nat_lt, nat_abs, if◌then◌else◌}
use Rattle.std.specs.Int.Signed.{shr_z}

-- the quotient, rounded down
abbrev pub floor_div : ℤ → ℕ → ℤ
floor_div z n = shr_z z n

-- ---- notes

-- the note that is played for a note of a pattern, with the sample's relative note; 48 is C-4
abbrev pub played_note : ℕ → ℤ → ℤ
played_note note relative = (pos note -ℤ pos 1) +ℤ relative

-- notes from 0 to 118 are played
abbrev pub is_played : ℤ → Bool
is_played (pos note) = nat_le note 118
is_played (negsuc below) = false

-- ---- periods

-- linear periods: 64 a semitone, half a finetune of 1/128 semitone
unfoldable pub linear_period_of : ℕ → ℤ → ℕ
linear_period_of note finetune = nat_abs ((pos 7680 -ℤ pos (64 * note)) -ℤ floor_div finetune 2)

-- the Amiga periods of the twelve notes of an octave
abbrev pub amiga_octave : List ℕ
amiga_octave = 856 ∷ 808 ∷ 762 ∷ 720 ∷ 678 ∷ 640 ∷ 604 ∷ 570 ∷ 538 ∷ 508 ∷ 480 ∷ 453 ∷ []

-- the Amiga period of a note without finetune: half as long an octave higher
abbrev pub amiga_note : ℕ → ℕ
amiga_note note = slice_index amiga_octave (note % 12) * 32 / 2 ^ (note / 12)

-- that of the note before it
abbrev pub amiga_before : ℕ → ℕ
amiga_before zero = 28992
amiga_before (suc note) = amiga_note note

-- with a finetune of 1/128 semitone: on the straight line to the next note, or to the one before
unfoldable pub amiga_period_of : ℕ → ℤ → ℕ
amiga_period_of note (pos up) =
    amiga_note note - (amiga_note note - amiga_note (note + 1)) * up / 128
amiga_period_of note (negsuc down) =
    amiga_note note + (amiga_before note - amiga_note note) * (down + 1) / 128

-- the period of a note that is played, of either kind
abbrev pub period_of : Bool → ℕ → ℤ → ℕ
period_of linear note finetune =
    if linear then linear_period_of note finetune else amiga_period_of note finetune

-- ---- frequencies

-- powers of two by twelfths of an octave, of 65,536
abbrev pub twelfths : List ℕ
twelfths =
    65536 ∷ 69433 ∷ 73562 ∷ 77936 ∷ 82570 ∷ 87480 ∷ 92682 ∷ 98193 ∷ 104032 ∷ 110218 ∷ 116772
    ∷ 123715 ∷ 131072 ∷ []

-- a power of two below one octave, 768 parts of it: a straight line within each twelfth
unfoldable pub power_at : ℕ → ℕ
power_at part =
    let low = slice_index twelfths (part / 64) in
    low + (slice_index twelfths (part / 64 + 1) - low) * (part % 64) / 64

-- octaves above multiply by two, and octaves below divide by it
abbrev pub by_octaves : ℕ → ℤ → ℕ
by_octaves n (pos up) = n * 2 ^ up
by_octaves n (negsuc down) = n / 2 ^ (down + 1)

-- the frequency of a linear period in 1/65,536 Hz: 8,363 Hz at 4608, and an octave for each 768
-- below
unfoldable pub linear_frequency_of : ℕ → ℕ
linear_frequency_of period =
    let d = pos 4608 -ℤ pos period in
    let octave = floor_div d 768 in
    by_octaves (8363 * power_at (nat_abs (d -ℤ (pos 768 *ℤ octave)))) octave

-- the frequency of an Amiga period: 8,363 Hz at 1712, and half of it where the period is twice as
-- long
unfoldable pub amiga_frequency_of : ℕ → ℕ
amiga_frequency_of period = 8363 * 1712 * 65536 / period

unfoldable pub frequency16_of : Bool → ℕ → ℕ
frequency16_of linear period =
    if linear then linear_frequency_of period else amiga_frequency_of period

-- an Amiga period that many semitones higher; from an octave on it is halved first
unfoldable pub amiga_higher : ℕ → ℕ → ℕ
amiga_higher semitones period =
    if nat_lt semitones 12 then period * 65536 / slice_index twelfths semitones
    else period / 2 * 65536 / slice_index twelfths (semitones - 12)

-- frames of the sample for each frame of output, with 32 bits of fraction
unfoldable pub step_of : Bool → ℕ → ℕ → ℕ
step_of linear rate period = frequency16_of linear period * 65536 / rate
