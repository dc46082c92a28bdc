-- How a song may differ from the one before an edit that reached so far.
use Rattle.std.specs.Prelude.{◌≡◌, ◌≢◌, ◌⊎◌, ℕ, ◌+◌, ◌*◌, ◌/◌, ◌<◌, ◌≤◌, List, [], Option, None, Some, ℤ, pos, length, slice_get, slice_index_or}
use Rattle.ft_types.specs.declared.module.Module.{Module}
use Rattle.ft_types.specs.declared.pattern.Pattern.{Pattern}
use Rattle.ft_types.specs.declared.instrument.Instrument.{Instrument}
use Rattle.ft_types.specs.declared.sample.Sample.{Sample}
use Rattle.ft_types.specs.Blocks.{pieces_of, bodies_of}
use Rattle.ft_types.specs.Views.{empty_cell}
use Rattle.ft_edits.specs.Lists.{without_last}
use Rattle.ft_changes.specs.declared.reach.Reach.{Reach}
use Rattle.ft_changes.specs.declared.reach.Reach.TheVariants as reaches
use Rattle.ft_changes.specs.Parts.{put}

-- ---- all parts but one stay

-- the patterns are these; channels and instruments stay
pub record HasPatterns (now : List Pattern) (old new : Module) : Type 0 where
  pub channels : new.channels ≡ old.channels
  pub patterns : new.patterns ≡ now
  pub instruments : new.instruments ≡ old.instruments

-- the instruments are these; channels and patterns stay
pub record HasInstruments (now : List Instrument) (old new : Module) : Type 0 where
  pub channels : new.channels ≡ old.channels
  pub patterns : new.patterns ≡ old.patterns
  pub instruments : new.instruments ≡ now

-- ---- what becomes of the part

-- cells change in one body of a pattern
pub record IsCellChange (channels body : ℕ) (old new : Pattern) : Type 0 where
  pub there : body < pieces_of (old.rows * channels) 256
  pub rows : new.rows ≡ old.rows
  pub cells : (k : ℕ) → k / 256 ≢ body
      → slice_index_or new.cells k empty_cell ≡ slice_index_or old.cells k empty_cell

-- frames change in the bodies from one on; either in as many bodies, or in all up to the end
pub record IsFramesChange (first last gone : ℕ) (old new : Sample) : Type 0 where
  pub upward : first ≤ last
  pub gone_upward : first ≤ gone
  pub within : gone ≤ bodies_of old
  pub count : bodies_of new + gone ≡ bodies_of old + last
  pub all : (last ≡ gone) ⊎ (gone ≡ bodies_of old)
  pub before : (k : ℕ) → k < 1024 * first
      → slice_index_or new.frames k (pos 0) ≡ slice_index_or old.frames k (pos 0)
  pub behind : (k : ℕ) → 1024 * last ≤ k
      → last ≡ gone → slice_index_or new.frames k (pos 0) ≡ slice_index_or old.frames k (pos 0)

-- the frames of a sample that may be missing
abbrev pub frames_if : Option Sample → List ℤ
frames_if None = []
frames_if (Some sample) = sample.frames

-- ---- by how far the edit reached

pub record IsCellReached (p body : ℕ) (old new : Module) : Type 0 where
  pub before : Pattern
  pub there : slice_get old.patterns p ≡ Some before
  pub after : Pattern
  pub all : HasPatterns (put p after old.patterns) old new
  pub change : IsCellChange old.channels body before after

pub record IsPatternReached (p bodies : ℕ) (old new : Module) : Type 0 where
  pub there : p ≤ length old.patterns
  pub after : Pattern
  pub all : HasPatterns (put p after old.patterns) old new
  pub count : bodies ≡ pieces_of (after.rows * old.channels) 256

pub record IsBareReached (at : ℕ) (old new : Module) : Type 0 where
  pub there : at ≤ length old.instruments
  pub after : Instrument
  pub all : HasInstruments (put at after old.instruments) old new
  pub none : after.samples ≡ []

-- an instrument that is there has these samples now, made of those that it had
pub record IsInstrumentReached (Made : List Sample → List Sample → Type 0) (at : ℕ)
    (old new : Module) : Type 0 where
  pub before : Instrument
  pub there : slice_get old.instruments at ≡ Some before
  pub after : Instrument
  pub all : HasInstruments (put at after old.instruments) old new
  pub made : Made before.samples after.samples

abbrev pub AreTheSame : List Sample → List Sample → Type 0
AreTheSame old new = new ≡ old

abbrev pub AreWithoutLast : List Sample → List Sample → Type 0
AreWithoutLast old new = new ≡ without_last old

-- one of them is another sample with the same frames, or a new one without frames is behind them
pub record HaveSample (s : ℕ) (old new : List Sample) : Type 0 where
  pub there : s ≤ length old
  pub after : Sample
  pub all : new ≡ put s after old
  pub frames : after.frames ≡ frames_if (slice_get old s)

-- one of them has other frames
pub record HaveFrames (s first last gone : ℕ) (old new : List Sample) : Type 0 where
  pub before : Sample
  pub there : slice_get old s ≡ Some before
  pub after : Sample
  pub all : new ≡ put s after old
  pub change : IsFramesChange first last gone before after

abbrev pub IsReached : Reach → Module → Module → Type 0
IsReached reaches.Song old new = HasPatterns old.patterns old new
IsReached reaches.LastPattern old new = HasPatterns (without_last old.patterns) old new
IsReached (reaches.Cell p body) old new = IsCellReached p body old new
IsReached (reaches.Pattern p bodies) old new = IsPatternReached p bodies old new
IsReached (reaches.Instrument at) old new = IsInstrumentReached AreTheSame at old new
IsReached (reaches.Bare at) old new = IsBareReached at old new
IsReached (reaches.LastSample at) old new = IsInstrumentReached AreWithoutLast at old new
IsReached (reaches.Sample at s) old new = IsInstrumentReached (HaveSample s) at old new
IsReached (reaches.Frames at s first last gone) old new =
    IsInstrumentReached (HaveFrames s first last gone) at old new
