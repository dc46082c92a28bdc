-- The words of a song root by their places.
use Rattle.std.proofs.Common.{◌≡◌, ◌≢◌, ℕ, zero, suc, ◌+◌, ◌-◌, ◌/◌, ◌%◌, ◌<◌, ◌≤◌, List, [], ◌∷◌, All, length, map, refl, ap, sym, ◌∙◌, arith, inl, inr, ne_eqb, lt-ltb, le-ltb}
use Rattle.std.specs.Prelude.{slice_index, get_or}
use Rattle.std.specs.List.{range_with_len}
use Rattle.std.proofs.lemmas.Bool.{cases_eq, cases_lt}
use Rattle.ft_types.specs.declared.module.Module.{Module}
use Rattle.ft_segments.specs.Packing as packing
use Rattle.ft_segments.specs.Packing.{digit, bytes_word, ids_word, word_at, id_at}
use Rattle.ft_segments.specs.Walk as walking
use Rattle.ft_segments.specs.Walk.{PatternIds, InstrumentIds, Placed, each_below, ids_of}
use Rattle.ft_image.specs.Shown.{Shows}
use Rattle.ft_image.specs.Laid.{song_root_word}
use Rattle.ft_roots.specs.RootWords.{HasSongWords}

pub song_words : (words : List ℕ) (m : Module) (ps is : List ℕ) → HasSongWords words m ps is
    → (k : ℕ) → k < 256 → slice_index words k ≡ song_root_word m ps is k
song_words words m ps is has k lt =
    elim (cases_eq k 0) [
      | inl e ↦ ap (slice_index words) e ∙ has.head ∙ ap (song_root_word m ps is) (sym e)
      | inr n0 ↦ elim (cases_eq k 1) [
        | inl e ↦ ap (slice_index words) e ∙ has.counts ∙ ap (song_root_word m ps is) (sym e)
        | inr n1 ↦ rw (ne_eqb k 0 n0, ne_eqb k 1 n1) (elim (cases_lt k 5) [
          | inl l5 ↦ rw (lt-ltb k 5 l5)
              (ap (slice_index words) (omega (arith, n0, n1)) ∙ has.name (k - 2) (omega (arith, l5, n0, n1)))
          | inr g5 ↦ rw (le-ltb k 5 g5) (elim (cases_lt k 8) [
            | inl l8 ↦ rw (lt-ltb k 8 l8) (ap (slice_index words) (omega (arith, g5)) ∙ has.tracker (k - 5) (omega (arith, l8, g5)))
            | inr g8 ↦ rw (le-ltb k 8 g8) (elim (cases_lt k 40) [
              | inl l40 ↦ rw (lt-ltb k 40 l40) (ap (slice_index words) (omega (arith, g8)) ∙ has.orders (k - 8) (omega (arith, l40, g8)))
              | inr g40 ↦ rw (le-ltb k 40 g40) (elim (cases_lt k 104) [
                | inl l104 ↦ rw (lt-ltb k 104 l104)
                    (ap (slice_index words) (omega (arith, g40)) ∙ has.pattern_ids (k - 40) (omega (arith, l104, g40)))
                | inr g104 ↦ rw (le-ltb k 104 g104) (elim (cases_lt k 136) [
                  | inl l136 ↦ rw (lt-ltb k 136 l136)
                      (ap (slice_index words) (omega (arith, g104)) ∙ has.instrument_ids (k - 104) (omega (arith, l136, g104)))
                  | inr g136 ↦ rw (le-ltb k 136 g136) (has.others k g136 lt)
                ])
              ])
            ])
          ])
        ])
      ]
    ]

pub shown_words : (words : List ℕ) (p : Placed) (m : Module) → Shows p m
    → ((k : ℕ) → k < 256 → slice_index words k ≡ word_at p.pool p.root k)
    → HasSongWords words m (map (λ (x : PatternIds). x.root) (ids_of p).patterns)
    (map (λ (x : InstrumentIds). x.root) (ids_of p).instruments)
unfolding walking.walk
shown_words words p m shows same =
    let root = shows.stands.root in
    record {
      head = same 0 (omega arith) ∙ root.head;
      counts = same 1 (omega arith) ∙ root.counts;
      name = λ k lt. same (2 + k) (omega (arith, lt)) ∙ root.name k lt;
      tracker = λ k lt. same (5 + k) (omega (arith, lt)) ∙ root.tracker k lt;
      orders = λ k lt. same (8 + k) (omega (arith, lt)) ∙ root.orders k lt;
      pattern_ids = λ k lt. same (40 + k) (omega (arith, lt)) ∙ root.patterns k lt;
      instrument_ids = λ k lt. same (104 + k) (omega (arith, lt)) ∙ root.instruments k lt;
      others = λ k ge lt. same k lt ∙ root.others k ge lt;
    }

digit_low : (word place : ℕ) → digit 65536 word place < 65536
digit_low word zero = omega arith
digit_low word (suc place) = digit_low (word / 65536) place

id_low : (pool : List ℕ) (segment first i : ℕ) → id_at pool segment first i < 65536
unfolding packing.id_at
id_low pool segment first i = digit_low (word_at pool segment (first + i / 4)) (i % 4)

small_at : {A : Type 0} (f : ℕ → A) (root : A → ℕ) → ((k : ℕ) → root (f k) < 65536) → (xs : List ℕ)
    → All (λ x. x < 65536) (map root (map f xs))
small_at f root low [] k d lt = absurd (omega (arith, lt))
small_at f root low (x ∷ xs) zero d lt = low x
small_at f root low (x ∷ xs) (suc k) d lt = small_at f root low xs k d (omega (arith, lt))

pub small_roots : (p : Placed) → All (λ x. x < 65536) (map (λ (x : PatternIds). x.root) (ids_of p).patterns)
    × All (λ x. x < 65536) (map (λ (x : InstrumentIds). x.root) (ids_of p).instruments)
unfolding walking.walk
small_roots p = (
  small_at (λ k. walking.pattern_walk p.pool (walking.channels_in p.pool p.root) (id_at p.pool p.root 40 k)) (λ (x : PatternIds). x.root)
      (λ k. id_low p.pool p.root 40 k) (range_with_len 0 (walking.patterns_in p.pool p.root)),
  small_at (λ k. walking.instrument_walk p.pool (id_at p.pool p.root 104 k)) (λ (x : InstrumentIds). x.root)
      (λ k. id_low p.pool p.root 104 k) (range_with_len 0 (walking.instruments_in p.pool p.root)),
)
