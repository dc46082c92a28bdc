-- Which segments a root names: the walk over the ids of a version.
use Rattle.std.specs.Prelude.{◌≡◌, ℕ, ◌+◌, ◌-◌, ◌*◌, ◌<◌, ◌≤◌, ◌==◌, min, if◌then◌else◌, List, map, sum_by}
use Rattle.std.specs.List.{range_with_len}
use Rattle.ft_types.specs.Blocks.{pieces_of}
use Rattle.ft_segments.specs.Packing.{digit, word_at, id_at}

-- ---- ids

-- a pattern: its root, and the bodies of its cells
pub record PatternIds : Type 0 where
  pub root : ℕ
  pub bodies : List ℕ

-- an index of a sample, and the bodies of frames that it names
pub record IndexIds : Type 0 where
  pub root : ℕ
  pub bodies : List ℕ

-- a sample: its root, and its indexes
pub record SampleIds : Type 0 where
  pub root : ℕ
  pub indexes : List IndexIds

-- an instrument: its root, and its samples
pub record InstrumentIds : Type 0 where
  pub root : ℕ
  pub samples : List SampleIds

-- a song: its root, its patterns and its instruments
pub record SongIds : Type 0 where
  pub root : ℕ
  pub patterns : List PatternIds
  pub instruments : List InstrumentIds

-- ---- what words say of them

-- 0, 1, .., n - 1, each seen by a function
abbrev pub each_below : {A : Type 0} → ℕ → (ℕ → A) → List A
each_below n f = map f (range_with_len 0 n)

-- the channels of a song, by its root
abbrev pub channels_in : List ℕ → ℕ → ℕ
channels_in pool root = digit 256 (word_at pool root 0) 4

-- how many patterns and instruments a song has, by its root
abbrev pub patterns_in : List ℕ → ℕ → ℕ
patterns_in pool root = digit 65536 (word_at pool root 1) 0

abbrev pub instruments_in : List ℕ → ℕ → ℕ
instruments_in pool root = digit 65536 (word_at pool root 1) 1

-- the rows of a pattern, by its root
abbrev pub rows_in : List ℕ → ℕ → ℕ
rows_in pool root = word_at pool root 0

-- how many samples an instrument has, by its root
abbrev pub samples_in : List ℕ → ℕ → ℕ
samples_in pool root = digit 256 (word_at pool root 0) 0

-- the frames of a sample, and its bodies of 1,024 frames, by its root
abbrev pub frames_in : List ℕ → ℕ → ℕ
frames_in pool root = digit 4294967296 (word_at pool root 0) 0

abbrev pub bodies_in : List ℕ → ℕ → ℕ
bodies_in pool root = pieces_of (frames_in pool root) 1024

-- of that many bodies, those of index k: 1,024, or what is left
abbrev pub bodies_of_index : ℕ → ℕ → ℕ
bodies_of_index bodies k = min 1024 (bodies - 1024 * k)

-- ---- the walk

abbrev pub pattern_walk : List ℕ → ℕ → ℕ → PatternIds
pattern_walk pool channels root = record {
  root = root;
  bodies = each_below (pieces_of (rows_in pool root * channels) 256) (λ b. id_at pool root 1 b);
}

abbrev pub index_walk : List ℕ → ℕ → ℕ → IndexIds
index_walk pool count root = record {
  root = root;
  bodies = each_below count (λ j. id_at pool root 0 j);
}

unfoldable pub sample_walk : List ℕ → ℕ → SampleIds
sample_walk pool root = record {
  root = root;
  indexes = each_below (pieces_of (bodies_in pool root) 1024)
      (λ k. index_walk pool (bodies_of_index (bodies_in pool root) k) (id_at pool root 16 k));
}

abbrev pub instrument_walk : List ℕ → ℕ → InstrumentIds
instrument_walk pool root = record {
  root = root;
  samples = each_below (samples_in pool root) (λ s. sample_walk pool (id_at pool root 30 s));
}

unfoldable pub walk : List ℕ → ℕ → SongIds
walk pool root = record {
  root = root;
  patterns = each_below (patterns_in pool root)
      (λ p. pattern_walk pool (channels_in pool root) (id_at pool root 40 p));
  instruments = each_below (instruments_in pool root)
      (λ i. instrument_walk pool (id_at pool root 104 i));
}

-- ---- how often ids name a segment

abbrev pub is_it : ℕ → ℕ → ℕ
is_it segment id = if id == segment then 1 else 0

abbrev pub pattern_uses : ℕ → PatternIds → ℕ
pattern_uses segment ids = is_it segment ids.root + sum_by (is_it segment) ids.bodies

abbrev pub index_uses : ℕ → IndexIds → ℕ
index_uses segment ids = is_it segment ids.root + sum_by (is_it segment) ids.bodies

abbrev pub sample_uses : ℕ → SampleIds → ℕ
sample_uses segment ids = is_it segment ids.root + sum_by (index_uses segment) ids.indexes

abbrev pub instrument_uses : ℕ → InstrumentIds → ℕ
instrument_uses segment ids = is_it segment ids.root + sum_by (sample_uses segment) ids.samples

abbrev pub uses : ℕ → SongIds → ℕ
uses segment ids =
    is_it segment ids.root
    + sum_by (pattern_uses segment) ids.patterns
    + sum_by (instrument_uses segment) ids.instruments

-- ---- versions in a pool

-- a version in the words of a pool: its root names its segments
pub record Placed : Type 0 where
  pub root : ℕ
  pub pool : List ℕ

-- the ids of a version
abbrev pub ids_of : Placed → SongIds
ids_of placed = walk placed.pool placed.root

-- a segment of the version
abbrev pub IsOf : Placed → ℕ → Type 0
IsOf placed segment = 1 ≤ uses segment (ids_of placed)

-- the walk stays among that many segments, and names each once
pub record IsSound (segments : ℕ) (ids : SongIds) : Type 0 where
  pub once : (segment : ℕ) → uses segment ids ≤ 1
  pub within : (segment : ℕ) → 1 ≤ uses segment ids → segment < segments

-- two pools have the same words in a segment
abbrev pub SameWords : List ℕ → List ℕ → ℕ → Type 0
SameWords old new segment =
    (place : ℕ) → place < 256 → word_at new segment place ≡ word_at old segment place
