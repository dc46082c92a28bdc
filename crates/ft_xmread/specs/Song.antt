-- Which fault a file has, and what a reader answers to it.
use Rattle.std.specs.Prelude.{◌≡◌, ◌⊎◌, ℕ, ◌<◌, ◌≤◌, List, length, Result, Ok, Err, IsTrue, IsFalse}
use Rattle.ft_types.specs.declared.module.Module.{Module}
use Rattle.ft_xmread.specs.declared.fault.XmFault.{XmFault}
use Rattle.ft_xmread.specs.declared.fault.XmFault.TheVariants as faults
use Rattle.ft_xmread.specs.Identification.{stands}
use Rattle.ft_xmread.specs.File.{song_in}

-- the identification's bytes are there, and this is the first that differs
pub record IsFirstWrong (file : List ℕ) (at : ℕ) : Type 0 where
  pub long : 17 ≤ length file
  pub within : at < 17
  pub wrong : IsFalse (stands file at)
  pub before : (k : ℕ) → k < at → IsTrue (stands file k)

-- the first field, from the left, that is missing or fails its check
abbrev pub HasFault : List ℕ → XmFault → Type 0
HasFault file fault = song_in file ≡ Err fault

-- what may be answered: the fault of the bytes, or running out of memory
abbrev pub IsFaultOf : List ℕ → XmFault → Type 0
IsFaultOf file fault = (fault ≡ faults.NoMemory) ⊎ HasFault file fault

-- this song, unless memory runs out
abbrev pub IsThisSong : Result Module XmFault → Module → Type 0
IsThisSong (Ok read) song = read ≡ song
IsThisSong (Err fault) song = fault ≡ faults.NoMemory

-- this fault, unless memory runs out
abbrev pub IsRefusedBy : Result Module XmFault → XmFault → Type 0
IsRefusedBy (Ok song) fault = ⊥
IsRefusedBy (Err answer) fault = (answer ≡ fault) ⊎ (answer ≡ faults.NoMemory)
