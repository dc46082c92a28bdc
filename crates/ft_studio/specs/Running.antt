-- What becomes of the words of a command line.
use Rattle.std.specs.Prelude.{◌≡◌, ◌↔◌, ◌⊎◌, ◌<◌, List, [], Option, Some, None, IfSome, Result, Ok, Err, String, drop}
use Rattle.std.specs.declared.alloc.Global.{Global}
use Rattle.ft_outer.specs.Files.{file_given}
use Rattle.ft_words.specs.Files.{AreNamedBy}
use Rattle.ft_words.specs.Refused.{IsNoCommand, IsRefused}
use Rattle.ft_words.specs.declared.files.FileNames.{FileNames}
use Rattle.ft_run.specs.declared.song.TheConstants.{MOST_BYTES}
use Rattle.ft_run.specs.declared.status.Status.{Status}
use Rattle.ft_run.specs.declared.status.Status.TheVariants as status
use Rattle.ft_run.specs.declared.status.SongFault.TheVariants.{TooBig}
use Rattle.ft_run.specs.Commands.{texts, AskForStep, AskForCopy, AskForGen, AskForImport}
use Rattle.ft_run.specs.Statuses.{IsCounted, IsOfStep, IsOfCopy, IsOfGen, IsOfImport, RefusesWords}
use Rattle.ft_studio.specs.declared.outside.Outside.{Outside}
use Rattle.ft_studio.specs.declared.running.Ran.{Ran}
use Rattle.ft_studio.specs.Outside.{first_name, closed_source, closed_sink, closed_sink_of}

-- each file is the one that the words name, and none is opened yet
pub record AreFilesOf (words : List (String Global)) (files : Outside) : Type 0 where
  pub names : FileNames
  pub named : AreNamedBy (texts words) names
  pub song : files.song ≡ closed_source (first_name names.song)
  pub wav : files.wav ≡ closed_sink (first_name names.wav)
  pub ledger : files.ledger ≡ closed_sink_of names.ledger

-- the status is one of these words, whatever the files hold
pub record IsStatusOf (words : List (String Global)) (result : Status) : Type 0 where
  pub no_command : IsNoCommand (texts words) → result ≡ status.Usage
  pub refused : IsRefused (texts words) → RefusesWords result
  pub usage : result ≡ status.Usage → IsRefused (texts words)
  pub of_step : AskForStep (texts words) → IsOfStep result
  pub of_copy : AskForCopy (texts words) → IsOfCopy result
  pub of_gen : AskForGen (texts words) → IsOfGen result
  pub of_import : AskForImport (texts words) → IsOfImport result

-- the status is the one to which the run on these files came: a failed read or write is told exactly
-- where it was counted, and a song that is too big exactly where its file gave too much
pub record IsStatusOn (files : Outside) (result : Status) : Type 0 where
  pub song : IsCounted status.SongRead result 0 files.song.faults
  pub wav : IsCounted status.WavWrite result 0 files.wav.faults
  pub too_big : (result ≡ status.Song TooBig) ↔ (MOST_BYTES < file_given files.song.file)

-- words were run: on the files that they name, or on none where they are refused or memory ran out
pub record WereRun (words : List (String Global)) (ran : Ran) : Type 0 where
  pub status : IsStatusOf words ran.status
  pub on : IfSome ran.files (λ files. IsStatusOn files ran.status)
  pub nowhere : ran.files ≡ None → RefusesWords ran.status

-- out of memory, and nothing was run
abbrev pub RanOut : Ran → Type 0
RanOut ran = (ran.status ≡ status.NoMemory) × (ran.files ≡ None)
