-- The exit codes of the program.
use Rattle.std.specs.Prelude.{ℕ}
use Rattle.ft_run.specs.declared.status.Status.{Status}
use Rattle.ft_run.specs.declared.status.Status.TheVariants.{Done, Usage, Song, SongRead, WavWrite, LedgerWrite, PoolSmall, NoMemory, HandEnded}

abbrev pub code_of : Status → ℕ
code_of Done = 0
code_of Usage = 2
code_of (Song fault) = 3
code_of SongRead = 4
code_of WavWrite = 5
code_of LedgerWrite = 6
code_of (PoolSmall need segments) = 7
code_of NoMemory = 8
code_of HandEnded = 9
