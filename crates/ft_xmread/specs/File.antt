-- A whole file.
use Rattle.std.specs.Prelude.{◌+◌, ◌≡◌, ℕ, List, Result, Ok, Err}
use Rattle.ft_types.specs.declared.module.Module.{Module}
use Rattle.ft_format.specs.Header.{song_from}
use Rattle.ft_xmread.specs.declared.fault.XmFault.{XmFault}
use Rattle.ft_xmread.specs.declared.fault.XmFault.TheVariants as faults
use Rattle.ft_xmread.specs.Reader.{FileReading, times, give}
use Rattle.ft_xmread.specs.Parts.{◌>>=◌}
use Rattle.ft_xmread.specs.Identification.{identification_at}
use Rattle.ft_xmread.specs.Header.{header_at}
use Rattle.ft_xmread.specs.Pattern.{pattern_at}
use Rattle.ft_xmread.specs.Instrument.{instrument_spelled_at}

-- What follows the identification: a header, then the patterns, then the instruments, which count
-- from 1.
unfoldable pub song_spelled_at : FileReading Module
song_spelled_at = do
  raw ← header_at
  patterns ← times (pattern_at raw.sizes.channels) 0 raw.settings.patterns
  instruments ← times (λ k. instrument_spelled_at (k + 1)) 0 raw.settings.instruments
  give (song_from raw patterns instruments)

abbrev pub file_at : FileReading Module
file_at = do
  _ ← identification_at
  song_spelled_at

-- what a reading gave, without the place behind it
abbrev pub value_of : {A B : Type 0} → Result (A × B) XmFault → Result A XmFault
value_of (Ok x) = Ok x.0
value_of (Err fault) = Err fault

-- The module that a file gives, or its first fault. Bytes behind the song are skipped.
unfoldable pub song_in : List ℕ → Result Module XmFault
song_in file = value_of (file_at (record { at = 0; left = file }))

-- this is what was answered, unless memory ran out
abbrev pub Answers : Result Module XmFault → Result Module XmFault → Type 0
Answers (Ok song) read = read ≡ Ok song
Answers (Err faults.NoMemory) read = Unit {0}
Answers (Err fault) read = read ≡ Err fault
