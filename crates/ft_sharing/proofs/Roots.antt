-- What roots show that have the words of their parts.
use Rattle.std.proofs.Common.{◌≡◌, ◌≢◌, ℕ, ◌+◌, ◌-◌, ◌*◌, ◌<◌, ◌≤◌, List, length, refl, ◌∙◌, arith, ne_eqb, lt-ltb, le-ltb}
use Rattle.std.specs.Prelude.{slice_index, slice_get, Some}
use Rattle.ft_types.specs.declared.module.Module.{Module}
use Rattle.ft_types.specs.declared.pattern.Pattern.{Pattern}
use Rattle.ft_types.specs.declared.instrument.Instrument.{Instrument}
use Rattle.ft_types.specs.declared.sample.Sample.{Sample}
use Rattle.ft_types.specs.Blocks.{pieces_of, indexes_of}
use Rattle.ft_segments.specs.Packing.{bytes_word, ids_word}
use Rattle.ft_segments.specs.Walk.{PatternIds, IndexIds, SampleIds, InstrumentIds, SongIds}
use Rattle.ft_changes.specs.Parts.{index_roots}
use Rattle.ft_image.specs.Values.{points_word}
use Rattle.ft_image.specs.Shown.{Pairwise, ShowsPattern, ShowsIndex, ShowsSample, ShowsInstrument, ShowsSong}
use Rattle.ft_image.specs.Laid.{pattern_root_word, sample_root_word, instrument_root_word, song_root_word}
use Rattle.ft_sharing.specs.Written.{pattern_roots, instrument_roots, sample_roots, RootIsWritten, PatternRootIsWritten, BodyIsWritten, SampleRootIsWritten, InstrumentRootIsWritten}

-- ---- patterns

in_ids : (x : Pattern) (ids : List ℕ) (k : ℕ) → k < 8 → pattern_root_word x ids (1 + k) ≡ ids_word ids k
in_ids x ids k lt =
    let less : 1 + k - 1 ≡ k = omega arith in
    rw (ne_eqb (1 + k) 0 (omega arith), lt-ltb (1 + k) 9 (omega arith), less) refl

behind : (x : Pattern) (ids : List ℕ) (k : ℕ) → 9 ≤ k → pattern_root_word x ids k ≡ 0
behind x ids k ge = rw (ne_eqb k 0 (omega arith), le-ltb k 9 ge) refl

pub pattern_shown : (pool : List ℕ) (channels : ℕ) (x : Pattern) (q : PatternIds) → PatternRootIsWritten pool x q
    → length q.bodies ≡ pieces_of (x.rows * channels) 256
    → ((b : ℕ) → b < length q.bodies → BodyIsWritten pool x (slice_index q.bodies b) b)
    → ShowsPattern pool channels x q
pattern_shown pool channels x q root count bodies = record {
  count = count;
  rows = root 0 (omega arith);
  bodies = λ k lt. root (1 + k) (omega arith) ∙ in_ids x q.bodies k lt;
  others = λ k ge lt. root k lt ∙ behind x q.bodies k ge;
  cells = λ b j lt l. bodies b lt j l;
}

-- ---- samples

sample_name : (x : Sample) (ids : List ℕ) (k : ℕ) → k < 3 → sample_root_word x ids (3 + k) ≡ bytes_word x.name k
sample_name x ids k lt =
    let less : 3 + k - 3 ≡ k = omega arith in
    rw (
      ne_eqb (3 + k) 0 (omega arith),
      ne_eqb (3 + k) 1 (omega arith),
      ne_eqb (3 + k) 2 (omega arith),
      lt-ltb (3 + k) 6
          (omega arith),
      less,
    ) refl

sample_others : (x : Sample) (ids : List ℕ) (k : ℕ) → 6 ≤ k → k ≢ 16 → sample_root_word x ids k ≡ 0
sample_others x ids k ge ne =
    rw (ne_eqb k 0 (omega arith), ne_eqb k 1 (omega arith), ne_eqb k 2 (omega arith), le-ltb k 6 ge, ne_eqb k 16 ne) refl

pub sample_shown : (pool : List ℕ) (x : Sample) (q : SampleIds) → SampleRootIsWritten pool x q
    → length q.indexes ≡ indexes_of x
    → ((k : ℕ) (index : IndexIds) → slice_get q.indexes k ≡ Some index → ShowsIndex pool x k index)
    → ShowsSample pool x q
sample_shown pool x q root count each =
    let ids = index_roots q in
    record {
      count = count;
      lengths = root 0 (omega arith);
      loops = root 1 (omega arith);
      tuning = root 2 (omega arith);
      name = λ k lt. root (3 + k) (omega arith) ∙ sample_name x ids k lt;
      indexes = root 16 (omega arith);
      others = λ k ge ne lt. root k lt ∙ sample_others x ids k ge ne;
      each = each;
    }

-- ---- instruments

module _ (x : Instrument) (ids : List ℕ) where
  instrument_name : (k : ℕ) → k < 3 → instrument_root_word x ids (3 + k) ≡ bytes_word x.name k
  instrument_name k lt =
      let less : 3 + k - 3 ≡ k = omega arith in
      rw (
        ne_eqb (3 + k) 0 (omega arith),
        ne_eqb (3 + k) 1 (omega arith),
        ne_eqb (3 + k) 2 (omega arith),
        lt-ltb (3 + k) 6
            (omega arith),
        less,
      ) refl

  instrument_notes : (k : ℕ) → k < 12 → instrument_root_word x ids (6 + k) ≡ bytes_word x.map k
  instrument_notes k lt =
      let less : 6 + k - 6 ≡ k = omega arith in
      rw (
        ne_eqb (6 + k) 0 (omega arith),
        ne_eqb (6 + k) 1 (omega arith),
        ne_eqb (6 + k) 2 (omega arith),
        le-ltb (6 + k) 6 (omega arith),
        lt-ltb (6 + k) 18 (omega arith),
        less,
      ) refl

  instrument_volume : (k : ℕ) → k < 6 → instrument_root_word x ids (18 + k) ≡ points_word x.volume.points k
  instrument_volume k lt =
      let less : 18 + k - 18 ≡ k = omega arith in
      rw (
        ne_eqb (18 + k) 0 (omega arith),
        ne_eqb (18 + k) 1 (omega arith),
        ne_eqb (18 + k) 2 (omega arith),
        le-ltb (18 + k) 6 (omega arith),
        le-ltb (18 + k) 18 (omega arith),
        lt-ltb (18 + k) 24 (omega arith),
        less,
      ) refl

  instrument_panning : (k : ℕ) → k < 6 → instrument_root_word x ids (24 + k) ≡ points_word x.panning.points k
  instrument_panning k lt =
      let less : 24 + k - 24 ≡ k = omega arith in
      rw (
        ne_eqb (24 + k) 0 (omega arith),
        ne_eqb (24 + k) 1 (omega arith),
        ne_eqb (24 + k) 2 (omega arith),
        le-ltb (24 + k) 6 (omega arith),
        le-ltb (24 + k) 18 (omega arith),
        le-ltb (24 + k) 24 (omega arith),
        lt-ltb (24 + k) 30 (omega arith),
        less,
      ) refl

  instrument_samples : (k : ℕ) → k < 4 → instrument_root_word x ids (30 + k) ≡ ids_word ids k
  instrument_samples k lt =
      let less : 30 + k - 30 ≡ k = omega arith in
      rw (
        ne_eqb (30 + k) 0 (omega arith),
        ne_eqb (30 + k) 1 (omega arith),
        ne_eqb (30 + k) 2 (omega arith),
        le-ltb (30 + k) 6 (omega arith),
        le-ltb (30 + k) 18 (omega arith),
        le-ltb (30 + k) 24 (omega arith),
        le-ltb (30 + k) 30 (omega arith),
        lt-ltb (30 + k) 34 (omega arith),
        less,
      ) refl

  instrument_others : (k : ℕ) → 34 ≤ k → instrument_root_word x ids k ≡ 0
  instrument_others k ge =
      rw (
        ne_eqb k 0 (omega arith),
        ne_eqb k 1 (omega arith),
        ne_eqb k 2 (omega arith),
        le-ltb k 6 (omega arith),
        le-ltb k 18 (omega arith),
        le-ltb k 24 (omega arith),
        le-ltb k 30 (omega arith),
        le-ltb k 34 ge,
      ) refl

pub instrument_shown : (pool : List ℕ) (x : Instrument) (q : InstrumentIds) → InstrumentRootIsWritten pool x q
    → Pairwise (ShowsSample pool) x.samples q.samples → ShowsInstrument pool x q
instrument_shown pool x q root samples =
    let ids = sample_roots q in
    record {
      counts = root 0 (omega arith);
      envelopes = root 1 (omega arith);
      fadeout = root 2 (omega arith);
      name = λ k lt. root (3 + k) (omega arith) ∙ instrument_name x ids k lt;
      notes = λ k lt. root (6 + k) (omega arith) ∙ instrument_notes x ids k lt;
      volume = λ k lt. root (18 + k) (omega arith) ∙ instrument_volume x ids k lt;
      panning = λ k lt. root (24 + k) (omega arith) ∙ instrument_panning x ids k lt;
      samples = λ k lt. root (30 + k) (omega arith) ∙ instrument_samples x ids k lt;
      others = λ k ge lt. root k lt ∙ instrument_others x ids k ge;
      each = samples;
    }

-- ---- the song

module _ (m : Module) (ps is : List ℕ) where
  song_name : (k : ℕ) → k < 3 → song_root_word m ps is (2 + k) ≡ bytes_word m.name k
  song_name k lt =
      let less : 2 + k - 2 ≡ k = omega arith in
      rw (ne_eqb (2 + k) 0 (omega arith), ne_eqb (2 + k) 1 (omega arith), lt-ltb (2 + k) 5 (omega arith), less) refl

  song_tracker : (k : ℕ) → k < 3 → song_root_word m ps is (5 + k) ≡ bytes_word m.tracker k
  song_tracker k lt =
      let less : 5 + k - 5 ≡ k = omega arith in
      rw (
        ne_eqb (5 + k) 0 (omega arith),
        ne_eqb (5 + k) 1 (omega arith),
        le-ltb (5 + k) 5 (omega arith),
        lt-ltb (5 + k) 8
            (omega arith),
        less,
      ) refl

  song_orders : (k : ℕ) → k < 32 → song_root_word m ps is (8 + k) ≡ bytes_word m.orders k
  song_orders k lt =
      let less : 8 + k - 8 ≡ k = omega arith in
      rw (
        ne_eqb (8 + k) 0 (omega arith),
        ne_eqb (8 + k) 1 (omega arith),
        le-ltb (8 + k) 5 (omega arith),
        le-ltb (8 + k) 8 (omega arith),
        lt-ltb (8 + k) 40 (omega arith),
        less,
      ) refl

  song_patterns : (k : ℕ) → k < 64 → song_root_word m ps is (40 + k) ≡ ids_word ps k
  song_patterns k lt =
      let less : 40 + k - 40 ≡ k = omega arith in
      rw (
        ne_eqb (40 + k) 0 (omega arith),
        ne_eqb (40 + k) 1 (omega arith),
        le-ltb (40 + k) 5 (omega arith),
        le-ltb (40 + k) 8 (omega arith),
        le-ltb (40 + k) 40 (omega arith),
        lt-ltb (40 + k) 104 (omega arith),
        less,
      ) refl

  song_instruments : (k : ℕ) → k < 32 → song_root_word m ps is (104 + k) ≡ ids_word is k
  song_instruments k lt =
      let less : 104 + k - 104 ≡ k = omega arith in
      rw (
        ne_eqb (104 + k) 0 (omega arith),
        ne_eqb (104 + k) 1 (omega arith),
        le-ltb (104 + k) 5 (omega arith),
        le-ltb (104 + k) 8 (omega arith),
        le-ltb (104 + k) 40 (omega arith),
        le-ltb (104 + k) 104 (omega arith),
        lt-ltb (104 + k) 136 (omega arith),
        less,
      ) refl

  song_others : (k : ℕ) → 136 ≤ k → song_root_word m ps is k ≡ 0
  song_others k ge =
      rw (
        ne_eqb k 0 (omega arith),
        ne_eqb k 1 (omega arith),
        le-ltb k 5 (omega arith),
        le-ltb k 8 (omega arith),
        le-ltb k 40 (omega arith),
        le-ltb k 104 (omega arith),
        le-ltb k 136 ge,
      ) refl

pub root_shown : (pool : List ℕ) (m : Module) (ids : SongIds) → RootIsWritten pool m ids → ShowsSong pool m ids
root_shown pool m ids root =
    let ps = pattern_roots ids in
    let is = instrument_roots ids in
    record {
      head = root 0 (omega arith);
      counts = root 1 (omega arith);
      name = λ k lt. root (2 + k) (omega arith) ∙ song_name m ps is k lt;
      tracker = λ k lt. root (5 + k) (omega arith) ∙ song_tracker m ps is k lt;
      orders = λ k lt. root (8 + k) (omega arith) ∙ song_orders m ps is k lt;
      patterns = λ k lt. root (40 + k) (omega arith) ∙ song_patterns m ps is k lt;
      instruments = λ k lt. root (104 + k) (omega arith) ∙ song_instruments m ps is k lt;
      others = λ k ge lt. root k lt ∙ song_others m ps is k ge;
    }
