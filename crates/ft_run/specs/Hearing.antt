-- What hears the sound of ticks, and what a sink takes of it.
use Rattle.std.specs.Prelude.{◌≡◌, ◌≤◌, ℕ, ℤ, List, Option}
use Rattle.std.specs.Io.KnownBytes.{Appends}
use Rattle.ft_outer.specs.Counts.{Rose}
use Rattle.ft_outer.specs.Pieces.{TakesFront}
use Rattle.ft_out.specs.Wav.{sound_bytes}

-- A sink took the bytes of these numbers, and counted no fault
pub record TakesSound (old new : Option (List ℕ)) (before now : ℕ) (numbers : List ℤ) : Type 0
  where
    pub took : Appends old new (sound_bytes numbers)
    pub kept : now ≡ before

-- A sink took a front of the bytes of these numbers, and counted a fault
pub record TakesSoundFront (old new : Option (List ℕ)) (before now : ℕ) (numbers : List ℤ) : Type 0
  where
    pub took : TakesFront old new (sound_bytes numbers)
    pub later : before ≤ now
    pub rose : Rose before now
