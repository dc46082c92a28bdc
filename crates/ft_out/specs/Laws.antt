-- What holds of sound as bytes.
use Rattle.std.specs.Prelude.{◌≡◌, ℤ, List, ◌++◌}
use Rattle.ft_out.specs.Wav.{sound_bytes}

-- some sound and then other sound are the two together
abbrev pub SoundInTurn : Type 0
SoundInTurn = (first second : List ℤ)
    → sound_bytes (first ++ second) ≡ sound_bytes first ++ sound_bytes second
