-- What `step` says of its pool, and when a run comes to its end.
use Rattle.std.specs.Prelude.{◌≡◌, ◌≢◌, ◌<◌, ◌≤◌, ℕ, List, Option, IfSome}
use Rattle.std.specs.Io.KnownBytes.{Appends}
use Rattle.ft_types.specs.declared.module.Module.{Module}
use Rattle.ft_types.specs.Blocks.{blocks_of}
use Rattle.ft_types.specs.Valid.{IsValid}
use Rattle.ft_format.specs.Spelling.{Spells}
use Rattle.ft_modread.specs.Songs.{SpellsMod}
use Rattle.ft_outer.specs.Counts.{Rose}
use Rattle.ft_outer.specs.Pieces.{TakesFront}
use Rattle.ft_words.specs.declared.answer.Step.{Step}
use Rattle.ft_words.specs.declared.answer.Asked.{Asked}
use Rattle.ft_words.specs.declared.answer.Asked.TheVariants as ask
use Rattle.ft_run.specs.Songs.{IsSongFile}
use Rattle.ft_run.specs.Run.{wav_of}
use Rattle.ft_run.specs.Statuses.{IsCounted, IsPlayEnd, RefusesPool}
use Rattle.ft_run.specs.declared.status.Status.{Status}
use Rattle.ft_run.specs.declared.status.Status.TheVariants.{Done, PoolSmall, WavWrite}

-- the source holds the bytes of this song
abbrev pub HoldsSong : Option (List ℕ) → Module → Type 0
HoldsSong held song = (file : List ℕ) × IsSongFile held file × Spells file song

-- the source holds the bytes of a ProTracker module that spell this song
abbrev pub HoldsMod : Option (List ℕ) → Module → Type 0
HoldsMod held song = (file : List ℕ) × IsSongFile held file × SpellsMod file song

-- these are the segments that a song wants and those of a pool, which are fewer; where the source
-- is known, the song is that of its bytes
pub record IsTooSmall (held : Option (List ℕ)) (segments need had : ℕ) : Type 0 where
  pub song : Module
  pub valid : IsValid song
  pub told : IfSome held (λ file. Spells file song)
  pub wants : need ≡ blocks_of song
  pub has : had ≡ segments
  pub over : segments < blocks_of song

-- What `step` says of a pool of that many segments, by what its source held.
pub record TellsPool (held : Option (List ℕ)) (segments : ℕ) (result : Status) : Type 0 where
  -- the pool is too small only for a song that wants more, and both numbers are named
  pub small : (need had : ℕ) → result ≡ PoolSmall need had → IsTooSmall held segments need had
  -- where the source is known, it is too small exactly where its song wants more
  pub over : (song : Module) → HoldsSong held song → segments < blocks_of song
      → RefusesPool result (blocks_of song) segments
  pub fits : (song : Module) → HoldsSong held song → blocks_of song ≤ segments
      → (need had : ℕ) → result ≢ PoolSmall need had

-- what the words ask for can be done: the source holds a song, and the pool of `step` has room
-- for it
abbrev pub CanBeDone : Asked → Option (List ℕ) → Type 0
CanBeDone (ask.Step step) held =
    (song : Module) × HoldsSong held song × (blocks_of song ≤ step.segments)
CanBeDone ask.Copy held = (song : Module) × HoldsSong held song
CanBeDone (ask.Gen number) held = Unit {0}
CanBeDone ask.Import held = (song : Module) × HoldsMod held song

-- the count didn't rise
abbrev pub NeverRose : ℕ → ℕ → Type 0
NeverRose before now = Rose before now → ⊥

-- How a run ends that has read this song, where its sink held and counted this before and after
pub record PlaysSong (song : Module) (step : Step) (held held_after : Option (List ℕ))
    (faults faults_after : ℕ) (result : Status) : Type 0 where
  -- the pool is said to be too small, with both numbers, exactly where the song wants more segments
  -- than it has: running out of memory never hides it
  pub small : step.segments < blocks_of song → result ≡ PoolSmall (blocks_of song) step.segments
  pub wide : blocks_of song ≤ step.segments → IsPlayEnd result
  pub done : result ≡ Done → Appends held held_after (wav_of song step)
  pub count : IsCounted WavWrite result faults faults_after
  pub front : result ≡ WavWrite → TakesFront held held_after (wav_of song step)
