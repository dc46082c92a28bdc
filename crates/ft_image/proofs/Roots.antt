-- What roots that were filled show.
use Rattle.std.proofs.Common.{◌≡◌, ◌≢◌, ℕ, ◌+◌, ◌-◌, ◌*◌, ◌<◌, ◌≤◌, List, map, refl, sym, ap, subst, ◌∙◌, arith, ne_eqb, lt-ltb, le-ltb}
use Rattle.std.specs.List.{range_with_len}
use Rattle.std.proofs.lemmas.List.{ext_get_or, length-map}
use Rattle.std.proofs.lemmas.List.FromFn.{get_or-range_with_len, length-range_with_len, length-map-range_with_len}
use Rattle.std.proofs.lemmas.Option.{slice_get_within}
use Rattle.ft_types.specs.declared.module.Module.{Module}
use Rattle.ft_types.specs.declared.instrument.Instrument.{Instrument}
use Rattle.ft_types.specs.declared.sample.Sample.{Sample}
use Rattle.ft_types.specs.Blocks.{bodies_of, indexes_of, sample_blocks}
use Rattle.ft_segments.specs.Packing.{bytes_word, ids_word, word_at}
use Rattle.ft_segments.specs.Walk.{PatternIds, IndexIds, SampleIds, InstrumentIds, each_below, bodies_of_index}
use Rattle.ft_image.specs.Values.{points_word, frames_word}
use Rattle.ft_image.specs.Shown.{Pairwise, ShowsIndex, ShowsSample, ShowsInstrument, ShowsSong}
use Rattle.ft_image.specs.Laid.{laid, index_laid, sample_laid, instrument_laid, song_laid, sample_root_word, instrument_root_word, song_root_word}
use Rattle.ft_image.proofs.Lists.{below_at}
use Rattle.ft_image.proofs.Walks.{root_at}
use Rattle.ft_image.proofs.Stays.{body_at, index_is}

-- ---- samples

-- the roots of indexes follow each other
index_roots : (from indexes bodies n : ℕ)
    → map (λ (index : IndexIds). index.root) (each_below n (index_laid from indexes bodies)) ≡ range_with_len from n
index_roots from indexes bodies n =
    let all = each_below n (index_laid from indexes bodies) in
    let root = λ (index : IndexIds). index.root in
    let len = length-map-range_with_len (index_laid from indexes bodies) 0 n in
    ext_get_or 0 (map (λ (index : IndexIds). index.root) all) (range_with_len from n)
    (omega (arith, length-map all (λ (index : IndexIds). index.root), length-range_with_len from n))
    (λ k lt.
    let here : k < n = omega (arith, length-map all (λ (index : IndexIds). index.root)) in
    root_at (λ (index : IndexIds). index.root) all k (index_laid from indexes bodies k) (below_at n (index_laid from indexes bodies) k here)
    ∙ sym (get_or-range_with_len from n k 0 here))

sample_name : (x : Sample) (ids : List ℕ) (k : ℕ) → k < 3 → sample_root_word x ids (3 + k) ≡ bytes_word x.name k
sample_name x ids k lt =
    let less : 3 + k - 3 ≡ k = omega arith in
    rw (
      ne_eqb (3 + k) 0 (omega arith),
      ne_eqb (3 + k) 1 (omega arith),
      ne_eqb (3 + k) 2 (omega arith),
      lt-ltb (3 + k) 6
          (omega arith),
      less,
    ) refl

sample_others : (x : Sample) (ids : List ℕ) (k : ℕ) → 6 ≤ k → k ≢ 16 → sample_root_word x ids k ≡ 0
sample_others x ids k ge ne =
    rw (ne_eqb k 0 (omega arith), ne_eqb k 1 (omega arith), ne_eqb k 2 (omega arith), le-ltb k 6 ge, ne_eqb k 16 ne) refl

pub sample_filled : (pool : List ℕ) (n : ℕ) (x : Sample)
    → ((j : ℕ) → j < 256 → word_at pool n j ≡ sample_root_word x (range_with_len (n + 1) (indexes_of x)) j)
    → ((k j : ℕ) → k < indexes_of x → j < 256 → word_at pool (n + 1 + k) j
    ≡ ids_word (range_with_len (n + 1 + indexes_of x + 1024 * k) (bodies_of_index (bodies_of x) k)) j)
    → ((b j : ℕ) → b < bodies_of x → j < 256 → word_at pool (n + 1 + indexes_of x + b) j ≡ frames_word x.frames (b * 256 + j))
    → ShowsSample pool x (sample_laid n x)
sample_filled pool n x root ids frames =
    let i = indexes_of x in
    let b = bodies_of x in
    let run = range_with_len (n + 1) i in
    let len = length-map-range_with_len (index_laid (n + 1) i b) 0 i in
    record {
      count = len;
      lengths = root 0 (omega arith);
      loops = root 1 (omega arith);
      tuning = root 2 (omega arith);
      name = λ k lt. root (3 + k) (omega arith) ∙ sample_name x run k lt;
      indexes = root 16 (omega arith) ∙ ap (λ (all : List ℕ). ids_word all 0) (sym (index_roots (n + 1) i b i));
      others = λ k ge ne lt. root k lt ∙ sample_others x run k ge ne;
      each = λ k index is.
          let lt = slice_get_within (sample_laid n x).indexes k index is in
          let here : k < i = omega arith in
          subst (λ (z : IndexIds). ShowsIndex pool x k z) (index_is (n + 1) i b k index here is) (record {
            count = length-range_with_len (n + 1 + i + 1024 * k) (bodies_of_index b k);
            bodies = λ j l. ids k j here l;
            frames = λ c j c_lt l.
                let few : c < bodies_of_index b k = omega (arith, length-range_with_len (n + 1 + i + 1024 * k) (bodies_of_index b k)) in
                let at : n + 1 + i + 1024 * k + c ≡ n + 1 + i + (1024 * k + c) = omega arith in
                body_at pool (n + 1 + i + 1024 * k) (bodies_of_index b k) c j few
                ∙ ap (λ (s : ℕ). word_at pool s j) at ∙ frames (1024 * k + c) j (omega arith) l;
          });
    }

-- ---- instruments

module _ (x : Instrument) (ids : List ℕ) where
  instrument_name : (k : ℕ) → k < 3 → instrument_root_word x ids (3 + k) ≡ bytes_word x.name k
  instrument_name k lt =
      let less : 3 + k - 3 ≡ k = omega arith in
      rw (
        ne_eqb (3 + k) 0 (omega arith),
        ne_eqb (3 + k) 1 (omega arith),
        ne_eqb (3 + k) 2 (omega arith),
        lt-ltb (3 + k) 6
            (omega arith),
        less,
      ) refl

  instrument_notes : (k : ℕ) → k < 12 → instrument_root_word x ids (6 + k) ≡ bytes_word x.map k
  instrument_notes k lt =
      let less : 6 + k - 6 ≡ k = omega arith in
      rw (
        ne_eqb (6 + k) 0 (omega arith),
        ne_eqb (6 + k) 1 (omega arith),
        ne_eqb (6 + k) 2 (omega arith),
        le-ltb (6 + k) 6 (omega arith),
        lt-ltb (6 + k) 18 (omega arith),
        less,
      ) refl

  instrument_volume : (k : ℕ) → k < 6 → instrument_root_word x ids (18 + k) ≡ points_word x.volume.points k
  instrument_volume k lt =
      let less : 18 + k - 18 ≡ k = omega arith in
      rw (
        ne_eqb (18 + k) 0 (omega arith),
        ne_eqb (18 + k) 1 (omega arith),
        ne_eqb (18 + k) 2 (omega arith),
        le-ltb (18 + k) 6 (omega arith),
        le-ltb (18 + k) 18 (omega arith),
        lt-ltb (18 + k) 24 (omega arith),
        less,
      ) refl

  instrument_panning : (k : ℕ) → k < 6 → instrument_root_word x ids (24 + k) ≡ points_word x.panning.points k
  instrument_panning k lt =
      let less : 24 + k - 24 ≡ k = omega arith in
      rw (
        ne_eqb (24 + k) 0 (omega arith),
        ne_eqb (24 + k) 1 (omega arith),
        ne_eqb (24 + k) 2 (omega arith),
        le-ltb (24 + k) 6 (omega arith),
        le-ltb (24 + k) 18 (omega arith),
        le-ltb (24 + k) 24 (omega arith),
        lt-ltb (24 + k) 30 (omega arith),
        less,
      ) refl

  instrument_samples : (k : ℕ) → k < 4 → instrument_root_word x ids (30 + k) ≡ ids_word ids k
  instrument_samples k lt =
      let less : 30 + k - 30 ≡ k = omega arith in
      rw (
        ne_eqb (30 + k) 0 (omega arith),
        ne_eqb (30 + k) 1 (omega arith),
        ne_eqb (30 + k) 2 (omega arith),
        le-ltb (30 + k) 6 (omega arith),
        le-ltb (30 + k) 18 (omega arith),
        le-ltb (30 + k) 24 (omega arith),
        le-ltb (30 + k) 30 (omega arith),
        lt-ltb (30 + k) 34 (omega arith),
        less,
      ) refl

  instrument_others : (k : ℕ) → 34 ≤ k → instrument_root_word x ids k ≡ 0
  instrument_others k ge =
      rw (
        ne_eqb k 0 (omega arith),
        ne_eqb k 1 (omega arith),
        ne_eqb k 2 (omega arith),
        le-ltb k 6 (omega arith),
        le-ltb k 18 (omega arith),
        le-ltb k 24 (omega arith),
        le-ltb k 30 (omega arith),
        le-ltb k 34 ge,
      ) refl

pub instrument_filled : (pool : List ℕ) (n : ℕ) (x : Instrument)
    → ((j : ℕ) → j < 256 → word_at pool n j
    ≡ instrument_root_word x (map (λ (ids : SampleIds). ids.root) (laid sample_blocks sample_laid (n + 1) x.samples)) j)
    → Pairwise (ShowsSample pool) x.samples (laid sample_blocks sample_laid (n + 1) x.samples)
    → ShowsInstrument pool x (instrument_laid n x)
instrument_filled pool n x root samples =
    let ids = map (λ (ids : SampleIds). ids.root) (laid sample_blocks sample_laid (n + 1) x.samples) in
    record {
      counts = root 0 (omega arith);
      envelopes = root 1 (omega arith);
      fadeout = root 2 (omega arith);
      name = λ k lt. root (3 + k) (omega arith) ∙ instrument_name x ids k lt;
      notes = λ k lt. root (6 + k) (omega arith) ∙ instrument_notes x ids k lt;
      volume = λ k lt. root (18 + k) (omega arith) ∙ instrument_volume x ids k lt;
      panning = λ k lt. root (24 + k) (omega arith) ∙ instrument_panning x ids k lt;
      samples = λ k lt. root (30 + k) (omega arith) ∙ instrument_samples x ids k lt;
      others = λ k ge lt. root k lt ∙ instrument_others x ids k ge;
      each = samples;
    }

-- ---- the song

module _ (m : Module) (ps is : List ℕ) where
  song_name : (k : ℕ) → k < 3 → song_root_word m ps is (2 + k) ≡ bytes_word m.name k
  song_name k lt =
      let less : 2 + k - 2 ≡ k = omega arith in
      rw (ne_eqb (2 + k) 0 (omega arith), ne_eqb (2 + k) 1 (omega arith), lt-ltb (2 + k) 5 (omega arith), less) refl

  song_tracker : (k : ℕ) → k < 3 → song_root_word m ps is (5 + k) ≡ bytes_word m.tracker k
  song_tracker k lt =
      let less : 5 + k - 5 ≡ k = omega arith in
      rw (
        ne_eqb (5 + k) 0 (omega arith),
        ne_eqb (5 + k) 1 (omega arith),
        le-ltb (5 + k) 5 (omega arith),
        lt-ltb (5 + k) 8
            (omega arith),
        less,
      ) refl

  song_orders : (k : ℕ) → k < 32 → song_root_word m ps is (8 + k) ≡ bytes_word m.orders k
  song_orders k lt =
      let less : 8 + k - 8 ≡ k = omega arith in
      rw (
        ne_eqb (8 + k) 0 (omega arith),
        ne_eqb (8 + k) 1 (omega arith),
        le-ltb (8 + k) 5 (omega arith),
        le-ltb (8 + k) 8 (omega arith),
        lt-ltb (8 + k) 40 (omega arith),
        less,
      ) refl

  song_patterns : (k : ℕ) → k < 64 → song_root_word m ps is (40 + k) ≡ ids_word ps k
  song_patterns k lt =
      let less : 40 + k - 40 ≡ k = omega arith in
      rw (
        ne_eqb (40 + k) 0 (omega arith),
        ne_eqb (40 + k) 1 (omega arith),
        le-ltb (40 + k) 5 (omega arith),
        le-ltb (40 + k) 8 (omega arith),
        le-ltb (40 + k) 40 (omega arith),
        lt-ltb (40 + k) 104 (omega arith),
        less,
      ) refl

  song_instruments : (k : ℕ) → k < 32 → song_root_word m ps is (104 + k) ≡ ids_word is k
  song_instruments k lt =
      let less : 104 + k - 104 ≡ k = omega arith in
      rw (
        ne_eqb (104 + k) 0 (omega arith),
        ne_eqb (104 + k) 1 (omega arith),
        le-ltb (104 + k) 5 (omega arith),
        le-ltb (104 + k) 8 (omega arith),
        le-ltb (104 + k) 40 (omega arith),
        le-ltb (104 + k) 104 (omega arith),
        lt-ltb (104 + k) 136 (omega arith),
        less,
      ) refl

  song_others : (k : ℕ) → 136 ≤ k → song_root_word m ps is k ≡ 0
  song_others k ge =
      rw (
        ne_eqb k 0 (omega arith),
        ne_eqb k 1 (omega arith),
        le-ltb k 5 (omega arith),
        le-ltb k 8 (omega arith),
        le-ltb k 40 (omega arith),
        le-ltb k 104 (omega arith),
        le-ltb k 136 ge,
      ) refl

pub song_filled : (pool : List ℕ) (m : Module)
    → ((j : ℕ) → j < 256 → word_at pool 0 j ≡ song_root_word m (map (λ (ids : PatternIds). ids.root) (song_laid m).patterns)
    (map (λ (ids : InstrumentIds). ids.root) (song_laid m).instruments) j)
    → ShowsSong pool m (song_laid m)
song_filled pool m root =
    let ps = map (λ (ids : PatternIds). ids.root) (song_laid m).patterns in
    let is = map (λ (ids : InstrumentIds). ids.root) (song_laid m).instruments in
    record {
      head = root 0 (omega arith);
      counts = root 1 (omega arith);
      name = λ k lt. root (2 + k) (omega arith) ∙ song_name m ps is k lt;
      tracker = λ k lt. root (5 + k) (omega arith) ∙ song_tracker m ps is k lt;
      orders = λ k lt. root (8 + k) (omega arith) ∙ song_orders m ps is k lt;
      patterns = λ k lt. root (40 + k) (omega arith) ∙ song_patterns m ps is k lt;
      instruments = λ k lt. root (104 + k) (omega arith) ∙ song_instruments m ps is k lt;
      others = λ k ge lt. root k lt ∙ song_others m ps is k ge;
    }
