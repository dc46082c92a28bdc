-- The bytes of a WAV file of stereo sound in 16 bits.
use Rattle.std.specs.Prelude.{ℕ, ℤ, ◌+◌, ◌*◌, List, [], ◌∷◌, ◌++◌, codes}
use Rattle.std.specs.List.{concat, flat_map}
use Rattle.std.specs.Int.{w16, cast_unsigned}
use Rattle.byteorder.specs.Endian.{little_bytes}

-- the bytes of the sound of that many frames: two numbers of two bytes each
abbrev pub data_size : ℕ → ℕ
data_size frames = 4 * frames

-- the 44 bytes before the sound: the rate counts frames in a second
unfoldable pub wav_head_bytes : ℕ → ℕ → List ℕ
wav_head_bytes rate frames = concat (
    codes "RIFF" ∷ little_bytes 4 (36 + data_size frames) ∷ codes "WAVE"
    -- the chunk that names the form: its size, plain numbers, two channels, frames and bytes in a
    -- second, bytes in a frame, bits in a number
    ∷ codes "fmt " ∷ little_bytes 4 16 ∷ little_bytes 2 1 ∷ little_bytes 2 2
    ∷ little_bytes 4 rate ∷ little_bytes 4 (4 * rate) ∷ little_bytes 2 4 ∷ little_bytes 2 16
    -- the chunk of the sound
    ∷ codes "data" ∷ little_bytes 4 (data_size frames) ∷ [])

-- a number of 16 bits, the low byte first; one below 0 in two's complement
abbrev pub number_bytes : ℤ → List ℕ
number_bytes number = little_bytes 2 (cast_unsigned w16 number)

-- the numbers of some sound, each in two bytes
abbrev pub sound_bytes : List ℤ → List ℕ
sound_bytes sound = flat_map number_bytes sound

-- a whole file: the head for that many frames, and then the sound, left before right in each frame
abbrev pub wav_bytes : ℕ → ℕ → List ℤ → List ℕ
wav_bytes rate frames sound = wav_head_bytes rate frames ++ sound_bytes sound
