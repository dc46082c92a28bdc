-- What words say of a song: the table of each kind of segment, and the versions that show a song.
use Rattle.std.specs.Prelude.{◌≡◌, ◌≢◌, ℕ, ◌+◌, ◌*◌, ◌/◌, ◌<◌, ◌≤◌, List, [], map, length, slice_index, slice_index_or, slice_get, Some}
use Rattle.ft_types.specs.declared.module.Module.{Module}
use Rattle.ft_types.specs.declared.pattern.Pattern.{Pattern}
use Rattle.ft_types.specs.declared.instrument.Instrument.{Instrument}
use Rattle.ft_types.specs.declared.sample.Sample.{Sample}
use Rattle.ft_types.specs.Valid.{IsValid}
use Rattle.ft_types.specs.Blocks.{pieces_of, bodies_of, indexes_of}
use Rattle.ft_types.specs.Views.{empty_cell}
use Rattle.ft_segments.specs.Packing.{bytes_word, ids_word, word_at}
use Rattle.ft_segments.specs.Walk.{PatternIds, IndexIds, SampleIds, InstrumentIds, SongIds, Placed, IsSound, bodies_of_index, ids_of}
use Rattle.ft_image.specs.Values.{head_word, counts_word, cell_word, count_bytes, envelope_bytes, points_word, lengths_word, loop_word, tuning_word, frames_word}

-- two lists are as long as each other, and what is at one place of both is related
pub record Pairwise {A B : Type 0} (Related : A → B → Type 0) (xs : List A) (ys : List B) : Type 0
  where
    pub count : length ys ≡ length xs
    pub each : (k : ℕ) (x : A) (y : B) → slice_get xs k ≡ Some x → slice_get ys k ≡ Some y
        → Related x y

-- ---- patterns

-- rows; up to 32 body ids. Body b has the cells 256 b to 256 b + 255, a word each
pub record ShowsPattern (pool : List ℕ) (channels : ℕ) (pattern : Pattern) (ids : PatternIds)
    : Type 0 where
  pub count : length ids.bodies ≡ pieces_of (pattern.rows * channels) 256
  pub rows : word_at pool ids.root 0 ≡ pattern.rows
  pub bodies : (k : ℕ) → k < 8 → word_at pool ids.root (1 + k) ≡ ids_word ids.bodies k
  pub others : (k : ℕ) → 9 ≤ k → k < 256 → word_at pool ids.root k ≡ 0
  pub cells : (b j : ℕ) → b < length ids.bodies → j < 256
      → word_at pool (slice_index ids.bodies b) j
      ≡ cell_word (slice_index_or pattern.cells (b * 256 + j) empty_cell)

-- ---- samples

-- up to 1,024 body ids. Body b of index k has the frames from 1,024 (1,024 k + b) on, four a word
pub record ShowsIndex (pool : List ℕ) (sample : Sample) (k : ℕ) (ids : IndexIds) : Type 0 where
  pub count : length ids.bodies ≡ bodies_of_index (bodies_of sample) k
  pub bodies : (j : ℕ) → j < 256 → word_at pool ids.root j ≡ ids_word ids.bodies j
  pub frames : (b j : ℕ) → b < length ids.bodies → j < 256
      → word_at pool (slice_index ids.bodies b) j
      ≡ frames_word sample.frames ((1024 * k + b) * 256 + j)

-- frames and loop start; the rest of the loop, width, volume and panning; tuning; name; index ids
pub record ShowsSample (pool : List ℕ) (sample : Sample) (ids : SampleIds) : Type 0 where
  pub count : length ids.indexes ≡ indexes_of sample
  pub lengths : word_at pool ids.root 0 ≡ lengths_word sample
  pub loops : word_at pool ids.root 1 ≡ loop_word sample
  pub tuning : word_at pool ids.root 2 ≡ tuning_word sample
  pub name : (k : ℕ) → k < 3 → word_at pool ids.root (3 + k) ≡ bytes_word sample.name k
  pub indexes : word_at pool ids.root 16 ≡ ids_word (map (λ index. index.root) ids.indexes) 0
  pub others : (k : ℕ) → 6 ≤ k → k ≢ 16 → k < 256 → word_at pool ids.root k ≡ 0
  pub each : (k : ℕ) (index : IndexIds) → slice_get ids.indexes k ≡ Some index
      → ShowsIndex pool sample k index

-- ---- instruments

-- counts and vibrato; places of both envelopes; fadeout; name; note map; points of the volume and
-- of the panning; sample ids
pub record ShowsInstrument (pool : List ℕ) (instrument : Instrument) (ids : InstrumentIds) : Type 0
  where
    pub counts : word_at pool ids.root 0 ≡ bytes_word (count_bytes instrument) 0
    pub envelopes : word_at pool ids.root 1 ≡ bytes_word (envelope_bytes instrument) 0
    pub fadeout : word_at pool ids.root 2 ≡ instrument.fadeout
    pub name : (k : ℕ) → k < 3 → word_at pool ids.root (3 + k) ≡ bytes_word instrument.name k
    pub notes : (k : ℕ) → k < 12 → word_at pool ids.root (6 + k) ≡ bytes_word instrument.map k
    pub volume : (k : ℕ) → k < 6
        → word_at pool ids.root (18 + k) ≡ points_word instrument.volume.points k
    pub panning : (k : ℕ) → k < 6
        → word_at pool ids.root (24 + k) ≡ points_word instrument.panning.points k
    pub samples : (k : ℕ) → k < 4
        → word_at pool ids.root (30 + k) ≡ ids_word (map (λ sample. sample.root) ids.samples) k
    pub others : (k : ℕ) → 34 ≤ k → k < 256 → word_at pool ids.root k ≡ 0
    pub each : Pairwise (ShowsSample pool) instrument.samples ids.samples

-- ---- the song

-- head; counts; name; tracker name; orders; pattern ids; instrument ids
pub record ShowsSong (pool : List ℕ) (song : Module) (ids : SongIds) : Type 0 where
  pub head : word_at pool ids.root 0 ≡ head_word song
  pub counts : word_at pool ids.root 1 ≡ counts_word song
  pub name : (k : ℕ) → k < 3 → word_at pool ids.root (2 + k) ≡ bytes_word song.name k
  pub tracker : (k : ℕ) → k < 3 → word_at pool ids.root (5 + k) ≡ bytes_word song.tracker k
  pub orders : (k : ℕ) → k < 32 → word_at pool ids.root (8 + k) ≡ bytes_word song.orders k
  pub patterns : (k : ℕ) → k < 64
      → word_at pool ids.root (40 + k) ≡ ids_word (map (λ pattern. pattern.root) ids.patterns) k
  pub instruments : (k : ℕ) → k < 32 → word_at pool ids.root (104 + k)
      ≡ ids_word (map (λ instrument. instrument.root) ids.instruments) k
  pub others : (k : ℕ) → 136 ≤ k → k < 256 → word_at pool ids.root k ≡ 0

-- these segments of a pool have the words of the song
pub record ShowsParts (pool : List ℕ) (song : Module) (ids : SongIds) : Type 0 where
  pub root : ShowsSong pool song ids
  pub patterns : Pairwise (ShowsPattern pool song.channels) song.patterns ids.patterns
  pub instruments : Pairwise (ShowsInstrument pool) song.instruments ids.instruments

-- ---- versions

-- a version without words
abbrev pub no_version : Placed
no_version = record { root = 0; pool = [] }

-- a version shows a valid song: its walk stays in the pool, names each segment once, and reads it
pub record Shows (placed : Placed) (song : Module) : Type 0 where
  pub valid : IsValid song
  pub sound : IsSound (length placed.pool / 256) (ids_of placed)
  pub stands : ShowsParts placed.pool song (ids_of placed)
