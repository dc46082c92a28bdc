-- What a run says of the song that it reads.
use Rattle.std.specs.Prelude.{◌≡◌, ◌≢◌, ◌↔◌, ◌+◌, ◌<◌, ◌≤◌, ℕ, List, [], length, Option, Some, IfSome, Result, Ok, Err}
use Rattle.ft_types.specs.declared.module.Module.{Module}
use Rattle.ft_format.specs.Spelling.{Spells}
use Rattle.ft_xmread.specs.declared.fault.XmFault.{XmFault}
use Rattle.ft_xmread.specs.declared.fault.XmFault.TheVariants as xm
use Rattle.ft_xmread.specs.Song.{HasFault}
use Rattle.ft_modread.specs.declared.fault.ModFault.{ModFault}
use Rattle.ft_modread.specs.declared.fault.ModFault.TheVariants as mods
use Rattle.ft_modread.specs.Songs.{SpellsMod}
use Rattle.ft_modread.specs.Answers.{HasModFault}
use Rattle.ft_run.specs.declared.song.TheConstants.{MOST_BYTES}
use Rattle.ft_run.specs.declared.status.Status.{Status}
use Rattle.ft_run.specs.declared.status.Status.TheVariants.{Done, Song, SongRead}
use Rattle.ft_run.specs.declared.status.SongFault.TheVariants.{Xm, Mod, TooBig}
use Rattle.ft_run.specs.Statuses.{IsCounted, IsAccepted, IsAfterReading, RefusesSong}

-- the source held these bytes, which are few enough for a song
abbrev pub IsSongFile : Option (List ℕ) → List ℕ → Type 0
IsSongFile held file = (held ≡ Some file) × (length file ≤ MOST_BYTES)

-- What a run says of the song of a source. Of the source it is known what it has left, where it
-- says so, how many bytes it gave, and how often it failed.
pub record ReadsSong {Source : Type 0} (left : Source → Option (List ℕ))
    (given faults : Source → ℕ) (old new : Source) (result : Status) : Type 0 where
  -- it could not be read only where the source counted a fault, and else none was counted
  pub count : IsCounted SongRead result (faults old) (faults new)
  -- it is too big exactly where the source gave more bytes than a song has at most
  pub too_big : (result ≡ Song TooBig) ↔ (given old + MOST_BYTES < given new)
  -- where the source is known, that is exactly where it held more
  pub held_more : (file : List ℕ) → left old ≡ Some file → result ≡ Song TooBig
      → MOST_BYTES < length file
  pub told_more : (file : List ℕ) → left old ≡ Some file → MOST_BYTES < length file
      → RefusesSong result TooBig
  -- it is refused by a fault exactly where its bytes have that fault
  pub fault : (file : List ℕ) (fault : XmFault) → left old ≡ Some file → result ≡ Song (Xm fault)
      → HasFault file fault
  pub refused : (file : List ℕ) (fault : XmFault) → IsSongFile (left old) file → HasFault file fault
      → RefusesSong result (Xm fault)
  pub never_memory : result ≢ Song (Xm xm.NoMemory)
  -- a song that its bytes spell is taken
  pub accepted : (file : List ℕ) (song : Module) → IsSongFile (left old) file → Spells file song
      → IsAccepted result
  -- it is read to its end
  pub whole : IsAfterReading result → IfSome (left old) (λ _. left new ≡ Some [])

-- What `import` says of the ProTracker module of a source, of which the same is known.
pub record ReadsMod {Source : Type 0} (left : Source → Option (List ℕ))
    (given faults : Source → ℕ) (old new : Source) (result : Status) : Type 0 where
  -- it could not be read, and it is too big, as a song
  pub count : IsCounted SongRead result (faults old) (faults new)
  pub too_big : (result ≡ Song TooBig) ↔ (given old + MOST_BYTES < given new)
  pub held_more : (file : List ℕ) → left old ≡ Some file → result ≡ Song TooBig
      → MOST_BYTES < length file
  pub told_more : (file : List ℕ) → left old ≡ Some file → MOST_BYTES < length file
      → RefusesSong result TooBig
  -- it is refused by a fault exactly where that is the first of its bytes
  pub fault : (file : List ℕ) (fault : ModFault) → left old ≡ Some file → result ≡ Song (Mod fault)
      → HasModFault file fault
  pub refused : (file : List ℕ) (fault : ModFault) → IsSongFile (left old) file
      → HasModFault file fault → RefusesSong result (Mod fault)
  pub never_memory : result ≢ Song (Mod mods.NoMemory)
  -- a module that its bytes spell is taken
  pub accepted : (file : List ℕ) (song : Module) → IsSongFile (left old) file
      → SpellsMod file song → IsAccepted result
  -- it is read to its end
  pub whole : IsAfterReading result → IfSome (left old) (λ _. left new ≡ Some [])

-- the status of a run that ends once its song is read
abbrev pub ending : Result Module Status → Status
ending (Ok song) = Done
ending (Err status) = status

-- what was read is this song, unless it could not be read, or memory ran out
abbrev pub IsReadAs : Result Module Status → Module → Type 0
IsReadAs (Ok read) song = read ≡ song
IsReadAs (Err status) song = IsAccepted status
