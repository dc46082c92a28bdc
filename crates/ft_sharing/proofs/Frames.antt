-- What a sample shows, by the roots of its indexes and all its bodies; and what it shows when a stretch of
-- them became fresh ones.
use Rattle.std.proofs.Common.{◌≡◌, ◌⊎◌, ℕ, zero, suc, ◌+◌, ◌-◌, ◌*◌, ◌/◌, ◌%◌, ◌<◌, ◌≤◌, List, Some, length, min, get_or, refl, ap, sym, subst, ◌∙◌, arith, inl, inr, ℤ, pos}
use Rattle.std.specs.Prelude.{slice_get, slice_index, slice_index_or}
use Rattle.std.specs.Int.{w16, cast_unsigned}
use Rattle.std.proofs.lemmas.Bool.{cases_lt}
use Rattle.std.proofs.lemmas.List.{length-map}
use Rattle.std.proofs.lemmas.Option.{slice_get_within}
use Rattle.ft_types.specs.declared.sample.Sample.{Sample}
use Rattle.ft_types.specs.Blocks.{pieces_of, bodies_of, indexes_of}
use Rattle.ft_segments.specs.Packing.{packed, ids_word, word_at}
use Rattle.ft_segments.specs.Walk.{IndexIds, SampleIds}
use Rattle.ft_changes.specs.Parts.{grouped, index_roots, body_ids}
use Rattle.ft_changes.specs.Ids.{index_count, indexes_after}
use Rattle.ft_changes.specs.Reached.{IsFramesChange}
use Rattle.ft_changes.specs.Fits.{IsStretch}
use Rattle.ft_image.specs.Values.{frames_word}
use Rattle.ft_image.specs.Shown.{ShowsIndex, ShowsSample}
use Rattle.ft_sharing.specs.Written.{HasWords, FramesBodyIsWritten, FramesAreWritten}
use Rattle.ft_sharing.proofs.Pairs.{stored}
use Rattle.ft_sharing.proofs.Grouped.{roots_in, bodies_in, AreFull, full_count, full_grouped, piece, grouped_at, length-grouped}
use Rattle.ft_sharing.proofs.Stretched.{in_piece, length-piece}
use Rattle.ft_sharing.proofs.Roots.{sample_shown}
use Rattle.ft_sharing.proofs.Refilled.{roots_after, bodies_after, bodies_count, roots_count, counted, body_behind, root_behind, body_before_is, body_behind_is, root_before_is, root_behind_is, piece_before_is, piece_behind_is, bodies_are}

pub record IsFlat (pool : List ℕ) (x : Sample) (roots bodies : List ℕ) : Type 0 where
  pub many_roots : length roots ≡ indexes_of x
  pub many_bodies : length bodies ≡ bodies_of x
  pub names : (k : ℕ) → k < length roots → HasWords pool (slice_index roots k) (ids_word (piece k bodies))
  pub frames : (n : ℕ) → n < length bodies → FramesBodyIsWritten pool x (slice_index bodies n) n

-- ---- to this form and back

pub are_full : (pool : List ℕ) (x : Sample) (q : SampleIds) → ShowsSample pool x q → AreFull (bodies_of x) q.indexes
are_full pool x q shown = (shown.count, λ k index is. (shown.each k index is).count)

-- an index by its place among all
by_place : (n k : ℕ) (xs : List IndexIds) (index : IndexIds) → AreFull n xs → slice_get xs k ≡ Some index
    → (index.root ≡ slice_index (roots_in xs) k) × (index.bodies ≡ piece k (bodies_in xs))
by_place n k xs index full is =
    grouped_at (roots_in xs) (bodies_in xs) k index
    (subst (λ (all : List IndexIds). slice_get all k ≡ Some index) (full_grouped n xs full) is)

pub flat : (pool : List ℕ) (x : Sample) (q : SampleIds) → ShowsSample pool x q → IsFlat pool x (index_roots q) (body_ids q)
flat pool x q shown =
    let full = are_full pool x q shown in
    let many = length-map q.indexes (λ (i : IndexIds). i.root) in
    let count = full_count (bodies_of x) q.indexes full in
    record {
      many_roots = many ∙ shown.count;
      many_bodies = count;
      names = λ k lt j l.
          let one = stored q.indexes k (omega (arith, many, lt)) in
          let at = by_place (bodies_of x) k q.indexes one.0 full one.1 in
          ap (λ (s : ℕ). word_at pool s j) (sym at.0) ∙ (shown.each k one.0 one.1).bodies j l ∙ ap (λ (ids : List ℕ). ids_word ids j) at.1;
      frames = λ n lt j l.
          let here : n / 1024 < length q.indexes = omega (arith, count, lt, shown.count) in
          let one = stored q.indexes (n / 1024) here in
          let at = by_place (bodies_of x) (n / 1024) q.indexes one.0 full one.1 in
          let index = shown.each (n / 1024) one.0 one.1 in
          let few : n % 1024 < length one.0.bodies = omega (arith, index.count, count, lt) in
          let same : 1024 * (n / 1024) + n % 1024 ≡ n = omega arith in
          let is : slice_index one.0.bodies (n % 1024) ≡ slice_index (body_ids q) n
          = ap (λ (ids : List ℕ). get_or ids (n % 1024) 0) at.1
          ∙ in_piece (body_ids q) (1024 * (n / 1024)) 1024 (n % 1024) (omega arith) ∙ ap (λ (m : ℕ). get_or (body_ids q) m 0) same in
          ap (λ (s : ℕ). word_at pool s j) (sym is) ∙ index.frames (n % 1024) j few l
          ∙ ap (λ (m : ℕ). frames_word x.frames (m * 256 + j)) same;
    }

pub from_flat : (pool : List ℕ) (x : Sample) (roots bodies : List ℕ) (k : ℕ) (index : IndexIds) → IsFlat pool x roots bodies
    → k < length roots → slice_get (grouped roots bodies) k ≡ Some index → ShowsIndex pool x k index
from_flat pool x roots bodies k index shown lt is =
    let at = grouped_at roots bodies k index is in
    let count : length index.bodies ≡ min 1024 (length bodies - 1024 * k) = ap length at.1 ∙ length-piece bodies (1024 * k) 1024 in
    record {
      count = omega (arith, count, shown.many_bodies);
      bodies = λ j l. ap (λ (s : ℕ). word_at pool s j) at.0 ∙ shown.names k lt j l ∙ ap (λ (ids : List ℕ). ids_word ids j) (sym at.1);
      frames = λ b j b_lt l.
          let few : b < 1024 = omega (arith, count, b_lt) in
          let here : 1024 * k + b < length bodies = omega (arith, count, b_lt) in
          let e : slice_index index.bodies b ≡ slice_index bodies (1024 * k + b)
          = ap (λ (ids : List ℕ). get_or ids b 0) at.1 ∙ in_piece bodies (1024 * k) 1024 b few in
          ap (λ (s : ℕ). word_at pool s j) e ∙ shown.frames (1024 * k + b) here j l;
    }

-- ---- words of frames that stay

packed-same : (base n : ℕ) (f g : ℕ → ℕ) → ((k : ℕ) → k < n → f k ≡ g k) → packed base n f ≡ packed base n g
packed-same base zero f g same = refl
packed-same base (suc n) f g same =
    let a : f 0 ≡ g 0 = same 0 (omega arith) in
    let b : packed base n (λ k. f (suc k)) ≡ packed base n (λ k. g (suc k))
    = packed-same base n (λ k. f (suc k)) (λ k. g (suc k)) (λ k lt. same (suc k) (omega arith)) in
    rw (a, b) refl

same_word : (xs ys : List ℤ) (k : ℕ)
    → ((i : ℕ) → i < 4 → slice_index_or xs (k * 4 + i) (pos 0) ≡ slice_index_or ys (k * 4 + i) (pos 0))
    → frames_word xs k ≡ frames_word ys k
unfolding frames_word
same_word xs ys k same =
    packed-same 65536 4 (λ i. cast_unsigned w16 (get_or xs (k * 4 + i) (pos 0))) (λ i. cast_unsigned w16 (get_or ys (k * 4 + i) (pos 0)))
    (λ i lt. ap (cast_unsigned w16) (same i lt))

-- ---- a stretch of bodies becomes fresh ones

pub stretch_there : (pool : List ℕ) (x y : Sample) (q : SampleIds) (first last gone : ℕ) → ShowsSample pool x q
    → IsFramesChange first last gone x y → IsStretch first last gone q
stretch_there pool x y q first last gone shown change =
    let count : length (body_ids q) ≡ bodies_of x = full_count (bodies_of x) q.indexes (are_full pool x q shown) in
    record {
      upward = change.upward;
      gone_upward = change.gone_upward;
      within = omega (arith, count, change.within);
      indexes = shown.count ∙ ap (λ n. pieces_of n 1024) (sym count);
      all = subst (λ n. (last ≡ gone) ⊎ (gone ≡ n)) (sym count) change.all;
    }

module _ (pool fresh : List ℕ) (x y : Sample) (q : SampleIds) (first last gone : ℕ) (shown : ShowsSample pool x q)
    (change : IsFramesChange first last gone x y) (count : length fresh ≡ 3 + index_count first last + (last - first)) where
  is : IsStretch first last gone q
  is = stretch_there pool x y q first last gone shown change

  before : IsFlat pool x (index_roots q) (body_ids q)
  before = flat pool x q shown

  abbrev roots : List ℕ
  roots = roots_after first last gone fresh q

  abbrev bodies : List ℕ
  bodies = bodies_after first last gone fresh q

  abbrev after : ℕ → SampleIds
  after root = record { root = root; indexes = indexes_after first last gone fresh q.indexes }

  bodies_fit : length bodies ≡ bodies_of y
  bodies_fit =
      let a = bodies_count first last gone fresh q is count in omega (arith, a, before.many_bodies, change.count)

  roots_fit : length roots ≡ indexes_of y
  roots_fit = counted first last gone fresh q is count ∙ ap (λ n. pieces_of n 1024) bodies_fit

  -- ---- indexes

  name_before : (k : ℕ) → k < first / 1024 → HasWords pool (slice_index roots k) (ids_word (piece k bodies))
  name_before k lt j l =
      ap (λ (s : ℕ). word_at pool s j) (root_before_is first last gone fresh q is count k lt)
      ∙ before.names k (omega (arith, lt, before.many_roots, change.within, change.gone_upward)) j l
      ∙ ap (λ (ids : List ℕ). ids_word ids j) (sym (piece_before_is first last gone fresh q is count k lt))

  name_behind : (k : ℕ) → pieces_of last 1024 ≤ k → k < length roots → HasWords pool (slice_index roots k) (ids_word (piece k bodies))
  name_behind k le lt j l =
      let stay = root_behind first last gone fresh q is count k le lt in
      let e : pieces_of last 1024 ≡ pieces_of gone 1024 = ap (λ n. pieces_of n 1024) stay in
      ap (λ (s : ℕ). word_at pool s j) (root_behind_is first last gone fresh q is count k le stay)
      ∙ before.names k (omega (arith, lt, roots_count first last gone fresh q is count, e)) j l
      ∙ ap (λ (ids : List ℕ). ids_word ids j) (sym (piece_behind_is first last gone fresh q is count k le stay))

  -- ---- bodies

  frames_before : (n : ℕ) → n < first → FramesBodyIsWritten pool y (slice_index bodies n) n
  frames_before n lt j l =
      ap (λ (s : ℕ). word_at pool s j) (body_before_is first last gone fresh q is count n lt)
      ∙ before.frames n (omega (arith, lt, before.many_bodies, change.within, change.gone_upward)) j l
      ∙ sym (same_word y.frames x.frames (n * 256 + j) (λ i few. change.before ((n * 256 + j) * 4 + i) (omega (arith, lt, l, few))))

  frames_behind : (n : ℕ) → last ≤ n → n < length bodies → FramesBodyIsWritten pool y (slice_index bodies n) n
  frames_behind n le lt j l =
      let stay = body_behind first last gone fresh q is count n le lt in
      ap (λ (s : ℕ). word_at pool s j) (body_behind_is first last gone fresh q is count n le stay)
      ∙ before.frames n (omega (arith, lt, bodies_count first last gone fresh q is count, stay)) j l
      ∙ sym (same_word y.frames x.frames (n * 256 + j) (λ i few. change.behind ((n * 256 + j) * 4 + i) (omega (arith, le)) stay))

  -- ---- what was written

  name_written : (root k : ℕ) → FramesAreWritten pool first last y (after root) → first / 1024 ≤ k → k < pieces_of last 1024
      → k < length roots → HasWords pool (slice_index roots k) (ids_word (piece k bodies))
  name_written root k written ge within lt j l =
      let one = stored (grouped roots bodies) k (omega (arith, length-grouped roots bodies, lt)) in
      let at = grouped_at roots bodies k one.0 one.1 in
      ap (λ s. word_at pool s j) (sym at.0) ∙ written.indexes k one.0 ge within one.1 j l ∙ ap (λ ids. ids_word ids j) at.1

  flat_after : (root : ℕ) → FramesAreWritten pool first last y (after root) → IsFlat pool y roots bodies
  flat_after root written = record {
    many_roots = roots_fit;
    many_bodies = bodies_fit;
    names = λ k lt.
        elim (cases_lt k (first / 1024)) [
          | inl low ↦ name_before k low
          | inr ge ↦ elim (cases_lt k (pieces_of last 1024)) [
            | inl within ↦ name_written root k written ge within lt
            | inr high ↦ name_behind k high lt
          ]
        ];
    frames = λ n lt.
        elim (cases_lt n first) [
          | inl low ↦ frames_before n low
          | inr ge ↦ elim (cases_lt n last) [
            | inl within ↦
                subst (λ ids. FramesBodyIsWritten pool y (slice_index ids n) n) (bodies_are first last gone fresh q is count root)
                (written.bodies n ge within)
            | inr high ↦ frames_behind n high lt
          ]
        ];
  }

  pub frames_shown : (root : ℕ)
      → FramesAreWritten pool first last y (record { root = root; indexes = indexes_after first last gone fresh q.indexes })
      → ShowsSample pool y (record { root = root; indexes = indexes_after first last gone fresh q.indexes })
  frames_shown root written =
      sample_shown pool y (after root) written.root (length-grouped roots bodies ∙ roots_fit)
      (λ k index at.
      let lt : k < length roots = omega (arith, slice_get_within (grouped roots bodies) k index at, length-grouped roots bodies) in
      from_flat pool y roots bodies k index (flat_after root written) lt at)
