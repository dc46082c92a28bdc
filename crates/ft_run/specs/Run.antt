-- What a run writes.
use Rattle.std.specs.Fmt.{decimal}
use Rattle.std.specs.Prelude.{◌≡◌, ◌++◌, codes, length, ℕ, ◌*◌, List, Option, IfSome}
use Rattle.ft_types.specs.declared.module.Module.{Module}
use Rattle.ft_types.specs.Valid.{IsValid}
use Rattle.ft_types.specs.Blocks.{blocks_of}
use Rattle.ft_format.specs.Canon.{canon}
use Rattle.ft_format.specs.Spelling.{Spells}
use Rattle.ft_modread.specs.Songs.{SpellsMod}
use Rattle.ft_replay.specs.Replay.{sound_of_song}
use Rattle.ft_run.specs.Measure.{peak_of_song, ticks_of_song}
use Rattle.ft_out.specs.Wav.{wav_bytes}
use Rattle.ft_xmwrite.specs.Generate.{generated}
use Rattle.ft_words.specs.declared.answer.Step.{Step}
use Rattle.ft_words.specs.declared.answer.Asked.{Asked}
use Rattle.ft_words.specs.declared.answer.Asked.TheVariants as ask
use Rattle.ft_words.specs.Answer.{IsAskedBy}

-- the frames of that many seconds
abbrev pub frames_asked : Step → ℕ
frames_asked step = step.rate * step.seconds

-- the WAV file of a song: its replay from the beginning, for that many frames
unfoldable pub wav_of : Module → Step → List ℕ
wav_of song step =
    wav_bytes step.rate (frames_asked step) (sound_of_song song (frames_asked step) step.rate)

-- the WAV file of the song that the source held, where that is known
pub record IsOutput (step : Step) (held : Option (List ℕ)) (bytes : List ℕ) : Type 0 where
  pub song : Module
  pub valid : IsValid song
  pub told : IfSome held (λ file. Spells file song)
  pub wav : bytes ≡ wav_of song step

-- the canonical bytes of the song that the source held, where that is known
pub record IsCopy (held : Option (List ℕ)) (bytes : List ℕ) : Type 0 where
  pub song : Module
  pub valid : IsValid song
  pub told : IfSome held (λ file. Spells file song)
  pub written : bytes ≡ canon song

-- the canonical bytes of the module that the source held, where that is known
pub record IsImport (held : Option (List ℕ)) (bytes : List ℕ) : Type 0 where
  pub song : Module
  pub valid : IsValid song
  pub told : IfSome held (λ file. SpellsMod file song)
  pub written : bytes ≡ canon song

-- a line of five numbers
abbrev pub generated_line : ℕ → ℕ → ℕ → ℕ → ℕ → List ℕ
generated_line number bytes blocks ticks peak =
    codes "gen " ++ (decimal number ++ (codes " bytes " ++ (decimal bytes
    ++ (codes " blocks " ++ (decimal blocks ++ (codes " ticks " ++ (decimal ticks
    ++ (codes " peak " ++ (decimal peak ++ codes "\n")))))))))

-- a generated song is played for 10 seconds, at 44,100 frames a second
abbrev pub measured_frames : ℕ
measured_frames = 441000

-- the line of a song: its number, its bytes and its blocks; how many ticks it takes, and how loud
-- it is
unfoldable pub line_of_song : ℕ → Module → List ℕ
line_of_song number song =
    generated_line number (length (canon song)) (blocks_of song)
    (ticks_of_song song measured_frames 44100) (peak_of_song song measured_frames 44100)

-- and of a generated one
abbrev pub gen_line : ℕ → List ℕ
gen_line number = line_of_song number (generated number)

-- what is written of the song that the source held
abbrev pub IsWritten : Asked → Option (List ℕ) → List ℕ → Type 0
IsWritten (ask.Step step) held bytes = IsOutput step held bytes
IsWritten ask.Copy held bytes = IsCopy held bytes
IsWritten (ask.Gen number) held bytes = bytes ≡ canon (generated number)
IsWritten ask.Import held bytes = IsImport held bytes

-- what the words ask for is written as these bytes
pub record IsAskedFor (words : List (List ℕ)) (held : Option (List ℕ)) (bytes : List ℕ)
    : Type 0 where
  pub asked : Asked
  pub by : IsAskedBy words asked
  pub written : IsWritten asked held bytes
