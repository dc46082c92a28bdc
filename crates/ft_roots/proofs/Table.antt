-- The words of a root by the table of its kind of segment.
use Rattle.std.proofs.Common.{◌≡◌, ℕ, ◌+◌, ◌-◌, ◌<◌, ◌≤◌, ◌==◌, List, map, ap, sym, ◌∙◌, arith, inl, inr, eq-eqb, ne_eqb, lt-ltb, le-ltb}
use Rattle.std.specs.Prelude.{slice_index, nat_lt, if◌then◌else◌}
use Rattle.std.proofs.lemmas.Bool.{cases_eq, cases_lt}
use Rattle.ft_types.specs.declared.instrument.Instrument.{Instrument}
use Rattle.ft_types.specs.declared.sample.Sample.{Sample}
use Rattle.ft_segments.specs.Packing.{bytes_word, ids_word, word_at}
use Rattle.ft_segments.specs.Walk.{InstrumentIds, SampleIds}
use Rattle.ft_image.specs.Values.{points_word}
use Rattle.ft_image.specs.Laid.{instrument_root_word, sample_root_word}
use Rattle.ft_image.specs.Shown.{ShowsInstrument, ShowsSample}
use Rattle.ft_roots.specs.RootWords.{HasRow, HasInstrumentWords, HasSampleWords}

-- a word of a row by its place in the segment
in_row : (words : List ℕ) (first count k : ℕ) (row_word : ℕ → ℕ) → HasRow words first count row_word → first ≤ k → k < first + count
    → slice_index words k ≡ row_word (k - first)
in_row words first count k row_word has ge lt =
    let here : k ≡ first + (k - first) = omega arith in
    ap (slice_index words) here ∙ has (k - first) (omega arith)

-- ---- instruments

behind_fadeout : (words : List ℕ) (x : Instrument) (ids : List ℕ) (k : ℕ) → HasInstrumentWords words x ids → 3 ≤ k → k < 256
    → slice_index words k
    ≡ (if nat_lt k 6 then bytes_word x.name (k - 3)
    else (if nat_lt k 18 then bytes_word x.map (k - 6)
    else (if nat_lt k 24 then points_word x.volume.points (k - 18)
    else (if nat_lt k 30 then points_word x.panning.points (k - 24)
    else (if nat_lt k 34 then ids_word ids (k - 30) else 0)))))
behind_fadeout words x ids k has ge lt =
    elim (cases_lt k 6) [
      | inl a ↦ rw (lt-ltb k 6 a) (in_row words 3 3 k (bytes_word x.name) has.name ge (omega arith))
      | inr a ↦ elim (cases_lt k 18) [
        | inl b ↦ rw (le-ltb k 6 a, lt-ltb k 18 b) (in_row words 6 12 k (bytes_word x.map) has.notes a (omega arith))
        | inr b ↦ elim (cases_lt k 24) [
          | inl d ↦
              rw (le-ltb k 6 a, le-ltb k 18 b, lt-ltb k 24 d)
              (in_row words 18 6 k (points_word x.volume.points) has.volume b (omega arith))
          | inr d ↦ elim (cases_lt k 30) [
            | inl e ↦
                rw (le-ltb k 6 a, le-ltb k 18 b, le-ltb k 24 d, lt-ltb k 30 e)
                (in_row words 24 6 k (points_word x.panning.points) has.panning d (omega arith))
            | inr e ↦ elim (cases_lt k 34) [
              | inl f ↦
                  rw (le-ltb k 6 a, le-ltb k 18 b, le-ltb k 24 d, le-ltb k 30 e, lt-ltb k 34 f)
                  (in_row words 30 4 k (ids_word ids) has.sample_ids e (omega arith))
              | inr f ↦ rw (le-ltb k 6 a, le-ltb k 18 b, le-ltb k 24 d, le-ltb k 30 e, le-ltb k 34 f) (has.others k f lt)
            ]
          ]
        ]
      ]
    ]

pub instrument_word : (words : List ℕ) (x : Instrument) (ids : List ℕ) (k : ℕ) → HasInstrumentWords words x ids → k < 256
    → slice_index words k ≡ instrument_root_word x ids k
instrument_word words x ids k has lt =
    elim (cases_eq k 0) [
      | inl e ↦ ap (slice_index words) e ∙ has.counts ∙ sym (ap (instrument_root_word x ids) e)
      | inr a ↦ elim (cases_eq k 1) [
        | inl e ↦ ap (slice_index words) e ∙ has.envelopes ∙ sym (ap (instrument_root_word x ids) e)
        | inr b ↦ elim (cases_eq k 2) [
          | inl e ↦ ap (slice_index words) e ∙ has.fadeout ∙ sym (ap (instrument_root_word x ids) e)
          | inr d ↦ rw (ne_eqb k 0 a, ne_eqb k 1 b, ne_eqb k 2 d) (behind_fadeout words x ids k has (omega arith) lt)
        ]
      ]
    ]

pub instrument_shown : (pool words : List ℕ) (x : Instrument) (ids : InstrumentIds) → ShowsInstrument pool x ids
    → ((k : ℕ) → k < 256 → slice_index words k ≡ word_at pool ids.root k)
    → HasInstrumentWords words x (map (λ sample. sample.root) ids.samples)
instrument_shown pool words x ids shown same = record {
  counts = same 0 (omega arith) ∙ shown.counts;
  envelopes = same 1 (omega arith) ∙ shown.envelopes;
  fadeout = same 2 (omega arith) ∙ shown.fadeout;
  name = λ k lt. same (3 + k) (omega arith) ∙ shown.name k lt;
  notes = λ k lt. same (6 + k) (omega arith) ∙ shown.notes k lt;
  volume = λ k lt. same (18 + k) (omega arith) ∙ shown.volume k lt;
  panning = λ k lt. same (24 + k) (omega arith) ∙ shown.panning k lt;
  sample_ids = λ k lt. same (30 + k) (omega arith) ∙ shown.samples k lt;
  others = λ k ge lt. same k lt ∙ shown.others k ge lt;
}

-- ---- samples

behind_tuning : (words : List ℕ) (x : Sample) (ids : List ℕ) (k : ℕ) → HasSampleWords words x ids → 3 ≤ k → k < 256
    → slice_index words k
    ≡ (if nat_lt k 6 then bytes_word x.name (k - 3) else (if k == 16 then ids_word ids 0 else 0))
behind_tuning words x ids k has ge lt =
    elim (cases_lt k 6) [
      | inl a ↦ rw (lt-ltb k 6 a) (in_row words 3 3 k (bytes_word x.name) has.name ge (omega arith))
      | inr a ↦ elim (cases_eq k 16) [
        | inl e ↦ rw (le-ltb k 6 a, eq-eqb k 16 e) (ap (slice_index words) e ∙ has.index_ids)
        | inr ne ↦ elim (cases_lt k 16) [
          | inl b ↦ rw (le-ltb k 6 a, ne_eqb k 16 ne) (has.before k a b)
          | inr b ↦ rw (le-ltb k 6 a, ne_eqb k 16 ne) (has.others k (omega arith) lt)
        ]
      ]
    ]

pub sample_word : (words : List ℕ) (x : Sample) (ids : List ℕ) (k : ℕ) → HasSampleWords words x ids → k < 256
    → slice_index words k ≡ sample_root_word x ids k
sample_word words x ids k has lt =
    elim (cases_eq k 0) [
      | inl e ↦ ap (slice_index words) e ∙ has.lengths ∙ sym (ap (sample_root_word x ids) e)
      | inr a ↦ elim (cases_eq k 1) [
        | inl e ↦ ap (slice_index words) e ∙ has.loops ∙ sym (ap (sample_root_word x ids) e)
        | inr b ↦ elim (cases_eq k 2) [
          | inl e ↦ ap (slice_index words) e ∙ has.tuning ∙ sym (ap (sample_root_word x ids) e)
          | inr d ↦ rw (ne_eqb k 0 a, ne_eqb k 1 b, ne_eqb k 2 d) (behind_tuning words x ids k has (omega arith) lt)
        ]
      ]
    ]

pub sample_shown : (pool words : List ℕ) (x : Sample) (ids : SampleIds) → ShowsSample pool x ids
    → ((k : ℕ) → k < 256 → slice_index words k ≡ word_at pool ids.root k)
    → HasSampleWords words x (map (λ index. index.root) ids.indexes)
sample_shown pool words x ids shown same = record {
  lengths = same 0 (omega arith) ∙ shown.lengths;
  loops = same 1 (omega arith) ∙ shown.loops;
  tuning = same 2 (omega arith) ∙ shown.tuning;
  name = λ k lt. same (3 + k) (omega arith) ∙ shown.name k lt;
  before = λ k ge lt. same k (omega arith) ∙ shown.others k ge (λ e. absurd (omega (arith, e, lt))) (omega arith);
  index_ids = same 16 (omega arith) ∙ shown.indexes;
  others = λ k ge lt. same k lt ∙ shown.others k (omega arith) (λ e. absurd (omega (arith, e, ge))) lt;
}
