-- How runs end: the statuses that a command has, and those that name a cause.
use Rattle.std.specs.Prelude.{◌≡◌, ◌≢◌, ℕ, Result, Ok, Err}
use Rattle.ft_types.specs.declared.module.Module.{Module}
use Rattle.ft_outer.specs.Counts.{Rose}
use Rattle.ft_xmread.specs.declared.fault.XmFault.{XmFault}
use Rattle.ft_xmread.specs.declared.fault.XmFault.TheVariants as faults
use Rattle.ft_modread.specs.declared.fault.ModFault.{ModFault}
use Rattle.ft_modread.specs.declared.fault.ModFault.TheVariants as mods
use Rattle.ft_run.specs.declared.status.SongFault.{SongFault}
use Rattle.ft_run.specs.declared.status.Status.{Status}
use Rattle.ft_run.specs.declared.status.Status.TheVariants.{Done, Usage, Song, SongRead, WavWrite, LedgerWrite, PoolSmall, NoMemory}
use Rattle.ft_run.specs.declared.status.SongFault.TheVariants.{Xm, Mod, TooBig}

-- ---- what a command can end with

-- `step`, so far
abbrev pub IsOfStep : Status → Type 0
IsOfStep Done = Unit {0}
IsOfStep (Song (Xm fault)) = Unit {0}
IsOfStep (Song TooBig) = Unit {0}
IsOfStep SongRead = Unit {0}
IsOfStep WavWrite = Unit {0}
IsOfStep (PoolSmall need had) = Unit {0}
IsOfStep NoMemory = Unit {0}
IsOfStep status = ⊥

-- `copy`
abbrev pub IsOfCopy : Status → Type 0
IsOfCopy Done = Unit {0}
IsOfCopy (Song (Xm fault)) = Unit {0}
IsOfCopy (Song TooBig) = Unit {0}
IsOfCopy SongRead = Unit {0}
IsOfCopy WavWrite = Unit {0}
IsOfCopy NoMemory = Unit {0}
IsOfCopy status = ⊥

-- `gen`
abbrev pub IsOfGen : Status → Type 0
IsOfGen Done = Unit {0}
IsOfGen WavWrite = Unit {0}
IsOfGen LedgerWrite = Unit {0}
IsOfGen NoMemory = Unit {0}
IsOfGen status = ⊥

-- `import`
abbrev pub IsOfImport : Status → Type 0
IsOfImport Done = Unit {0}
IsOfImport (Song (Mod fault)) = Unit {0}
IsOfImport (Song TooBig) = Unit {0}
IsOfImport SongRead = Unit {0}
IsOfImport WavWrite = Unit {0}
IsOfImport NoMemory = Unit {0}
IsOfImport status = ⊥

-- words that are no command
abbrev pub RefusesWords : Status → Type 0
RefusesWords Usage = Unit {0}
RefusesWords NoMemory = Unit {0}
RefusesWords status = ⊥

-- ---- how far a run came

-- a song that isn't read to its end, or isn't taken
abbrev pub IsUnread : Status → Type 0
IsUnread (Song (Xm fault)) = Unit {0}
IsUnread (Song TooBig) = Unit {0}
IsUnread SongRead = Unit {0}
IsUnread NoMemory = Unit {0}
IsUnread status = ⊥

-- nor is a ProTracker module
abbrev pub IsUnreadMod : Status → Type 0
IsUnreadMod (Song (Mod fault)) = Unit {0}
IsUnreadMod (Song TooBig) = Unit {0}
IsUnreadMod SongRead = Unit {0}
IsUnreadMod NoMemory = Unit {0}
IsUnreadMod status = ⊥

-- it ended before it began to write
abbrev pub IsBeforePlay : Status → Type 0
IsBeforePlay Usage = Unit {0}
IsBeforePlay (Song fault) = Unit {0}
IsBeforePlay SongRead = Unit {0}
IsBeforePlay (PoolSmall need had) = Unit {0}
IsBeforePlay NoMemory = Unit {0}
IsBeforePlay status = ⊥

-- it read its song to the end, and took it
abbrev pub IsAfterReading : Status → Type 0
IsAfterReading Done = Unit {0}
IsAfterReading WavWrite = Unit {0}
IsAfterReading LedgerWrite = Unit {0}
IsAfterReading (PoolSmall need had) = Unit {0}
IsAfterReading status = ⊥

-- it wrote all, unless memory ran out
abbrev pub IsDone : Status → Type 0
IsDone Done = Unit {0}
IsDone NoMemory = Unit {0}
IsDone status = ⊥

-- a song that was read, and for which the pool has room, is played: all is written, or a write
-- failed, or memory ran out
abbrev pub IsPlayEnd : Status → Type 0
IsPlayEnd Done = Unit {0}
IsPlayEnd WavWrite = Unit {0}
IsPlayEnd NoMemory = Unit {0}
IsPlayEnd status = ⊥

-- ---- what is said of a song

-- the song is taken, unless it could not be read, or memory ran out
abbrev pub IsAccepted : Status → Type 0
IsAccepted Done = Unit {0}
IsAccepted WavWrite = Unit {0}
IsAccepted (PoolSmall need had) = Unit {0}
IsAccepted SongRead = Unit {0}
IsAccepted NoMemory = Unit {0}
IsAccepted status = ⊥

-- the song is refused for this, unless it could not be read, or memory ran out
abbrev pub RefusesSong : Status → SongFault → Type 0
RefusesSong (Song found) fault = found ≡ fault
RefusesSong SongRead fault = Unit {0}
RefusesSong NoMemory fault = Unit {0}
RefusesSong status fault = ⊥

-- the pool is too small for a song of that many blocks, unless it could not be read, or memory ran
-- out
abbrev pub RefusesPool : Status → ℕ → ℕ → Type 0
RefusesPool (PoolSmall need had) blocks segments = (need ≡ blocks) × (had ≡ segments)
RefusesPool SongRead blocks segments = Unit {0}
RefusesPool NoMemory blocks segments = Unit {0}
RefusesPool status blocks segments = ⊥

-- the status of a run whose song has this fault
abbrev pub refusal_of : XmFault → Status
refusal_of faults.NoMemory = NoMemory
refusal_of fault = Song (Xm fault)

-- a song that was read, or the status of a run whose song has this fault
abbrev pub song_or_status : Result Module XmFault → Result Module Status
song_or_status (Ok song) = Ok song
song_or_status (Err fault) = Err (refusal_of fault)

-- the same of a ProTracker module
abbrev pub mod_refusal_of : ModFault → Status
mod_refusal_of mods.NoMemory = NoMemory
mod_refusal_of fault = Song (Mod fault)

abbrev pub mod_or_status : Result Module ModFault → Result Module Status
mod_or_status (Ok song) = Ok song
mod_or_status (Err fault) = Err (mod_refusal_of fault)

-- ---- counts of the outside

-- the status that names a fault of the outside comes only where its count rose, and any other
-- leaves the count
pub record IsCounted (cause result : Status) (before now : ℕ) : Type 0 where
  pub told : result ≡ cause → Rose before now
  pub kept : (result ≢ cause) → now ≡ before
