-- The words of a root, as the table of its kind of segment has them, in an array.
use Rattle.std.specs.Prelude.{◌≡◌, ℕ, ◌+◌, ◌<◌, ◌≤◌, List, slice_index}
use Rattle.ft_types.specs.declared.module.Module.{Module}
use Rattle.ft_types.specs.declared.instrument.Instrument.{Instrument}
use Rattle.ft_types.specs.declared.sample.Sample.{Sample}
use Rattle.ft_segments.specs.Packing.{bytes_word, ids_word}
use Rattle.ft_image.specs.Values.{head_word, counts_word, count_bytes, envelope_bytes, points_word, lengths_word, loop_word, tuning_word}

-- so many words from a place on are those of a row, by their numbers
abbrev pub HasRow : List ℕ → ℕ → ℕ → (ℕ → ℕ) → Type 0
HasRow words first count row_word =
    (k : ℕ) → k < count → slice_index words (first + k) ≡ row_word k

-- all others up to the end are 0
abbrev pub ZeroFrom : List ℕ → ℕ → Type 0
ZeroFrom words first = (k : ℕ) → first ≤ k → k < 256 → slice_index words k ≡ 0

-- of a song, with the roots of its patterns and of its instruments
pub record HasSongWords (words : List ℕ) (song : Module) (patterns instruments : List ℕ) : Type 0
  where
    pub head : slice_index words 0 ≡ head_word song
    pub counts : slice_index words 1 ≡ counts_word song
    pub name : HasRow words 2 3 (bytes_word song.name)
    pub tracker : HasRow words 5 3 (bytes_word song.tracker)
    pub orders : HasRow words 8 32 (bytes_word song.orders)
    pub pattern_ids : HasRow words 40 64 (ids_word patterns)
    pub instrument_ids : HasRow words 104 32 (ids_word instruments)
    pub others : ZeroFrom words 136

-- of an instrument, with the roots of its samples
pub record HasInstrumentWords (words : List ℕ) (instrument : Instrument) (samples : List ℕ) : Type 0
  where
    pub counts : slice_index words 0 ≡ bytes_word (count_bytes instrument) 0
    pub envelopes : slice_index words 1 ≡ bytes_word (envelope_bytes instrument) 0
    pub fadeout : slice_index words 2 ≡ instrument.fadeout
    pub name : HasRow words 3 3 (bytes_word instrument.name)
    pub notes : HasRow words 6 12 (bytes_word instrument.map)
    pub volume : HasRow words 18 6 (points_word instrument.volume.points)
    pub panning : HasRow words 24 6 (points_word instrument.panning.points)
    pub sample_ids : HasRow words 30 4 (ids_word samples)
    pub others : ZeroFrom words 34

-- of a sample, with its indexes
pub record HasSampleWords (words : List ℕ) (sample : Sample) (indexes : List ℕ) : Type 0 where
  pub lengths : slice_index words 0 ≡ lengths_word sample
  pub loops : slice_index words 1 ≡ loop_word sample
  pub tuning : slice_index words 2 ≡ tuning_word sample
  pub name : HasRow words 3 3 (bytes_word sample.name)
  pub before : (k : ℕ) → 6 ≤ k → k < 16 → slice_index words k ≡ 0
  pub index_ids : slice_index words 16 ≡ ids_word indexes 0
  pub others : ZeroFrom words 17
