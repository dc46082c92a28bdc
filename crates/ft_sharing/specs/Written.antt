-- Which words the segments have that an edit filled: those of the parts that it touches, by the song
-- after it.
use Rattle.std.specs.Prelude.{◌≡◌, ℕ, ◌+◌, ◌*◌, ◌/◌, ◌<◌, ◌≤◌, List, Some, map, slice_get, slice_index, slice_index_or}
use Rattle.ft_types.specs.declared.module.Module.{Module}
use Rattle.ft_types.specs.declared.pattern.Pattern.{Pattern}
use Rattle.ft_types.specs.declared.instrument.Instrument.{Instrument}
use Rattle.ft_types.specs.declared.sample.Sample.{Sample}
use Rattle.ft_types.specs.Blocks.{pieces_of}
use Rattle.ft_types.specs.Views.{empty_cell}
use Rattle.ft_segments.specs.Packing.{ids_word, word_at}
use Rattle.ft_segments.specs.Walk.{PatternIds, IndexIds, SampleIds, InstrumentIds, SongIds}
use Rattle.ft_changes.specs.declared.reach.Reach.{Reach}
use Rattle.ft_changes.specs.declared.reach.Reach.TheVariants as reaches
use Rattle.ft_changes.specs.Parts.{index_roots, body_ids}
use Rattle.ft_image.specs.Values.{cell_word, frames_word}
use Rattle.ft_image.specs.Laid.{pattern_root_word, sample_root_word, instrument_root_word, song_root_word}

-- a segment has these words, by their places
abbrev pub HasWords : List ℕ → ℕ → (ℕ → ℕ) → Type 0
HasWords pool segment word =
    (place : ℕ) → place < 256 → word_at pool segment place ≡ word place

-- what is at a place of two lists is related
abbrev pub AtPlace : {A B : Type 0} → ℕ → (A → B → Type 0) → List A → List B → Type 0
AtPlace {A = A} {B = B} place Related xs ys =
    (x : A) (y : B) → slice_get xs place ≡ Some x → slice_get ys place ≡ Some y → Related x y

-- ---- the song root

abbrev pub pattern_roots : SongIds → List ℕ
pattern_roots ids = map (λ pattern. pattern.root) ids.patterns

abbrev pub instrument_roots : SongIds → List ℕ
instrument_roots ids = map (λ instrument. instrument.root) ids.instruments

abbrev pub RootIsWritten : List ℕ → Module → SongIds → Type 0
RootIsWritten pool song ids =
    HasWords pool ids.root (song_root_word song (pattern_roots ids) (instrument_roots ids))

-- ---- patterns

abbrev pub PatternRootIsWritten : List ℕ → Pattern → PatternIds → Type 0
PatternRootIsWritten pool pattern ids =
    HasWords pool ids.root (pattern_root_word pattern ids.bodies)

-- a body of cells, by its number in the pattern
abbrev pub BodyIsWritten : List ℕ → Pattern → ℕ → ℕ → Type 0
BodyIsWritten pool pattern segment body =
    HasWords pool segment
    (λ place. cell_word (slice_index_or pattern.cells (body * 256 + place) empty_cell))

-- the root and one body
abbrev pub RootAndBodyAreWritten : List ℕ → ℕ → Pattern → PatternIds → Type 0
RootAndBodyAreWritten pool body pattern ids =
    PatternRootIsWritten pool pattern ids
    × BodyIsWritten pool pattern (slice_index ids.bodies body) body

-- the root and so many bodies from the first on
abbrev pub PatternIsWritten : List ℕ → ℕ → Pattern → PatternIds → Type 0
PatternIsWritten pool bodies pattern ids =
    PatternRootIsWritten pool pattern ids
    × ((body : ℕ) → body < bodies
    → BodyIsWritten pool pattern (slice_index ids.bodies body) body)

-- ---- samples

abbrev pub SampleRootIsWritten : List ℕ → Sample → SampleIds → Type 0
SampleRootIsWritten pool sample ids =
    HasWords pool ids.root (sample_root_word sample (index_roots ids))

abbrev pub IndexIsWritten : List ℕ → IndexIds → Type 0
IndexIsWritten pool index = HasWords pool index.root (ids_word index.bodies)

-- a body of frames, by its number in the sample
abbrev pub FramesBodyIsWritten : List ℕ → Sample → ℕ → ℕ → Type 0
FramesBodyIsWritten pool sample segment body =
    HasWords pool segment (λ place. frames_word sample.frames (body * 256 + place))

-- the root, the bodies of frames from one up to another, and the indexes that name them
pub record FramesAreWritten (pool : List ℕ) (first last : ℕ) (sample : Sample) (ids : SampleIds)
    : Type 0 where
  pub root : SampleRootIsWritten pool sample ids
  pub indexes : (k : ℕ) (index : IndexIds) → first / 1024 ≤ k → k < pieces_of last 1024
      → slice_get ids.indexes k ≡ Some index → IndexIsWritten pool index
  pub bodies : (body : ℕ) → first ≤ body → body < last
      → FramesBodyIsWritten pool sample (slice_index (body_ids ids) body) body

-- ---- instruments

abbrev pub sample_roots : InstrumentIds → List ℕ
sample_roots ids = map (λ sample. sample.root) ids.samples

abbrev pub InstrumentRootIsWritten : List ℕ → Instrument → InstrumentIds → Type 0
InstrumentRootIsWritten pool instrument ids =
    HasWords pool ids.root (instrument_root_word instrument (sample_roots ids))

-- the root, and segments of one of its samples
abbrev pub RootAndSampleAreWritten : List ℕ → ℕ → (Sample → SampleIds → Type 0) → Instrument
    → InstrumentIds → Type 0
RootAndSampleAreWritten pool s IsSampleWritten instrument ids =
    InstrumentRootIsWritten pool instrument ids
    × AtPlace s IsSampleWritten instrument.samples ids.samples

-- ---- by how far the edit reached

abbrev pub PatternWritten : List ℕ → ℕ → (Pattern → PatternIds → Type 0) → Module → SongIds
    → Type 0
PatternWritten pool p IsPatternWritten song ids =
    RootIsWritten pool song ids × AtPlace p IsPatternWritten song.patterns ids.patterns

abbrev pub InstrumentWritten : List ℕ → ℕ → (Instrument → InstrumentIds → Type 0) → Module
    → SongIds → Type 0
InstrumentWritten pool at IsInstrumentWritten song ids =
    RootIsWritten pool song ids × AtPlace at IsInstrumentWritten song.instruments ids.instruments

-- in the pool the song's segments that are fresh have its words, by the ids of the song
abbrev pub ReachIsWritten : Reach → List ℕ → Module → SongIds → Type 0
ReachIsWritten reaches.Song pool song ids = RootIsWritten pool song ids
ReachIsWritten reaches.LastPattern pool song ids = RootIsWritten pool song ids
ReachIsWritten (reaches.Cell p body) pool song ids =
    PatternWritten pool p (RootAndBodyAreWritten pool body) song ids
ReachIsWritten (reaches.Pattern p bodies) pool song ids =
    PatternWritten pool p (PatternIsWritten pool bodies) song ids
ReachIsWritten (reaches.Instrument at) pool song ids =
    InstrumentWritten pool at (InstrumentRootIsWritten pool) song ids
ReachIsWritten (reaches.Bare at) pool song ids =
    InstrumentWritten pool at (InstrumentRootIsWritten pool) song ids
ReachIsWritten (reaches.LastSample at) pool song ids =
    InstrumentWritten pool at (InstrumentRootIsWritten pool) song ids
ReachIsWritten (reaches.Sample at s) pool song ids =
    InstrumentWritten pool at (RootAndSampleAreWritten pool s (SampleRootIsWritten pool)) song ids
ReachIsWritten (reaches.Frames at s first last gone) pool song ids =
    InstrumentWritten pool at
    (RootAndSampleAreWritten pool s (FramesAreWritten pool first last)) song ids
