-- A sample of which a stretch of bodies became fresh ones: how many bodies and indexes there are, and which.
use Rattle.std.proofs.Common.{◌≡◌, ◌⊎◌, ℕ, ◌+◌, ◌-◌, ◌*◌, ◌/◌, ◌<◌, ◌≤◌, List, length, drop, get_or, ap, sym, ◌∙◌, arith, inl, inr}
use Rattle.std.specs.Prelude.{slice_index}
use Rattle.std.proofs.lemmas.List.{length-take, length-drop, length-map, get_or-drop}
use Rattle.ft_types.specs.Blocks.{pieces_of}
use Rattle.ft_edits.specs.Lists.{with_stretch}
use Rattle.ft_segments.specs.Walk.{IndexIds, SampleIds}
use Rattle.ft_changes.specs.Parts.{index_roots, body_ids}
use Rattle.ft_changes.specs.Ids.{index_count, fresh_indexes, fresh_bodies, indexes_after}
use Rattle.ft_changes.specs.Fits.{IsStretch}
use Rattle.ft_sharing.specs.Laws.{IsRefilled, FreshFrames}
use Rattle.ft_sharing.proofs.Grouped.{piece, grouped_at, grouped_bodies, length-grouped}
use Rattle.ft_sharing.proofs.Stretched.{stretched, before_stretch, behind_stretch, in_stretch, in_piece, same_piece}

abbrev pub roots_after : ℕ → ℕ → ℕ → List ℕ → SampleIds → List ℕ
roots_after first last gone fresh ids =
    with_stretch (first / 1024) (pieces_of gone 1024) (λ old. fresh_indexes first last fresh) (index_roots ids)

abbrev pub bodies_after : ℕ → ℕ → ℕ → List ℕ → SampleIds → List ℕ
bodies_after first last gone fresh ids = with_stretch first gone (λ old. fresh_bodies first last fresh) (body_ids ids)

module _ (first last gone : ℕ) (fresh : List ℕ) (ids : SampleIds) (is : IsStretch first last gone ids)
    (count : length fresh ≡ 3 + index_count first last + (last - first)) where
  abbrev roots : List ℕ
  roots = roots_after first last gone fresh ids

  abbrev bodies : List ℕ
  bodies = bodies_after first last gone fresh ids

  -- ---- how many

  many_indexes : first / 1024 + length (fresh_indexes first last fresh) ≡ pieces_of last 1024
  many_indexes =
      let a = length-take (index_count first last) (drop 3 fresh) in
      let b = length-drop 3 fresh in
      omega (arith, a, b, count, is.upward)

  many_bodies : first + length (fresh_bodies first last fresh) ≡ last
  many_bodies =
      let a = length-drop (3 + index_count first last) fresh in
      omega (arith, a, count, is.upward)

  many_roots : length (index_roots ids) ≡ pieces_of (length (body_ids ids)) 1024
  many_roots = length-map ids.indexes (λ (x : IndexIds). x.root) ∙ is.indexes

  pub bodies_count : length bodies + gone ≡ length (body_ids ids) + last
  bodies_count =
      let a = stretched (body_ids ids) (fresh_bodies first last fresh) first gone is.gone_upward is.within in
      omega (arith, a, many_bodies)

  pub roots_count : length roots + pieces_of gone 1024 ≡ length (index_roots ids) + pieces_of last 1024
  roots_count =
      let low : first / 1024 ≤ pieces_of gone 1024 = omega (arith, is.gone_upward) in
      let high : pieces_of gone 1024 ≤ length (index_roots ids) = omega (arith, many_roots, is.within) in
      let a = stretched (index_roots ids) (fresh_indexes first last fresh) (first / 1024) (pieces_of gone 1024) low high in
      omega (arith, a, many_indexes)

  counted_if : (last ≡ gone) ⊎ (gone ≡ length (body_ids ids)) → length roots ≡ pieces_of (length bodies) 1024
  counted_if (inl same) =
      let b : length bodies ≡ length (body_ids ids) = omega (arith, bodies_count, same) in
      let e : pieces_of last 1024 ≡ pieces_of gone 1024 = ap (λ n. pieces_of n 1024) same in
      let f : pieces_of (length bodies) 1024 ≡ pieces_of (length (body_ids ids)) 1024 = ap (λ n. pieces_of n 1024) b in
      omega (arith, roots_count, many_roots, e, f)
  counted_if (inr all) =
      let b : length bodies ≡ last = omega (arith, bodies_count, all) in
      let e : pieces_of gone 1024 ≡ pieces_of (length (body_ids ids)) 1024 = ap (λ n. pieces_of n 1024) all in
      let f : pieces_of (length bodies) 1024 ≡ pieces_of last 1024 = ap (λ n. pieces_of n 1024) b in
      omega (arith, roots_count, many_roots, e, f)

  pub counted : length roots ≡ pieces_of (length bodies) 1024
  counted = counted_if is.all

  -- behind what was written there is nothing, or it stays
  pub body_behind : (n : ℕ) → last ≤ n → n < length bodies → last ≡ gone
  body_behind n le lt =
      elim is.all [
        | inl same ↦ same
        | inr all ↦ absurd (omega (arith, bodies_count, all, le, lt))
      ]

  pub root_behind : (k : ℕ) → pieces_of last 1024 ≤ k → k < length roots → last ≡ gone
  root_behind k le lt =
      elim is.all [
        | inl same ↦ same
        | inr all ↦ absurd (let e : pieces_of gone 1024 ≡ pieces_of (length (body_ids ids)) 1024 = ap (λ n. pieces_of n 1024) all in
            omega (arith, roots_count, many_roots, e, le, lt))
      ]

  -- ---- what stays

  pub body_before_is : (n : ℕ) → n < first → slice_index bodies n ≡ slice_index (body_ids ids) n
  body_before_is n lt =
      before_stretch (body_ids ids) (fresh_bodies first last fresh) first gone n 0 lt (omega (arith, is.within, is.gone_upward))

  pub body_behind_is : (n : ℕ) → last ≤ n → last ≡ gone → slice_index bodies n ≡ slice_index (body_ids ids) n
  body_behind_is n le same =
      behind_stretch (body_ids ids) (fresh_bodies first last fresh) first gone n 0 is.gone_upward is.within
      (omega (arith, le, same)) (omega (arith, many_bodies, same))

  pub root_before_is : (k : ℕ) → k < first / 1024 → slice_index roots k ≡ slice_index (index_roots ids) k
  root_before_is k lt =
      before_stretch (index_roots ids) (fresh_indexes first last fresh) (first / 1024) (pieces_of gone 1024) k 0 lt
      (omega (arith, many_roots, is.within, is.gone_upward))

  pub root_behind_is : (k : ℕ) → pieces_of last 1024 ≤ k → last ≡ gone → slice_index roots k ≡ slice_index (index_roots ids) k
  root_behind_is k le same =
      let e : pieces_of last 1024 ≡ pieces_of gone 1024 = ap (λ n. pieces_of n 1024) same in
      behind_stretch (index_roots ids) (fresh_indexes first last fresh) (first / 1024) (pieces_of gone 1024) k 0
      (omega (arith, is.gone_upward)) (omega (arith, many_roots, is.within)) (omega (arith, le, e)) (omega (arith, many_indexes, e))

  pub piece_before_is : (k : ℕ) → k < first / 1024 → piece k bodies ≡ piece k (body_ids ids)
  piece_before_is k lt =
      same_piece bodies (body_ids ids) (1024 * k) 1024
      (omega (arith, lt, bodies_count, is.within, is.gone_upward, is.upward))
      (λ i few. body_before_is (1024 * k + i) (omega (arith, lt, few)))

  pub piece_behind_is : (k : ℕ) → pieces_of last 1024 ≤ k → last ≡ gone → piece k bodies ≡ piece k (body_ids ids)
  piece_behind_is k le same =
      let low : last ≤ 1024 * k = omega (arith, le) in
      same_piece bodies (body_ids ids) (1024 * k) 1024 (omega (arith, bodies_count, same))
      (λ i few. body_behind_is (1024 * k + i) (omega (arith, low)) same)

  -- ---- what is fresh

  pub bodies_are : (root : ℕ)
      → body_ids (record { root = root; indexes = indexes_after first last gone fresh ids.indexes }) ≡ bodies
  bodies_are root = grouped_bodies roots bodies (omega (arith, counted))

  body_is : (n : ℕ) → first ≤ n → n < last → slice_index bodies n ≡ slice_index fresh (3 + index_count first last + (n - first))
  body_is n le lt =
      in_stretch (body_ids ids) (fresh_bodies first last fresh) first gone n 0 (omega (arith, is.gone_upward, is.within)) le
      (omega (arith, many_bodies, lt))
      ∙ get_or-drop (3 + index_count first last) fresh (n - first) 0

  root_is : (k : ℕ) → first / 1024 ≤ k → k < pieces_of last 1024 → slice_index roots k ≡ slice_index fresh (3 + (k - first / 1024))
  root_is k le lt =
      in_stretch (index_roots ids) (fresh_indexes first last fresh) (first / 1024) (pieces_of gone 1024) k 0
      (omega (arith, many_roots, is.gone_upward, is.within)) le (omega (arith, many_indexes, lt))
      ∙ in_piece fresh 3 (index_count first last) (k - first / 1024) (omega (arith, le, lt))

  refilled : (root : ℕ)
      → IsRefilled first last gone fresh ids (record { root = root; indexes = indexes_after first last gone fresh ids.indexes })
  refilled root =
      let all = bodies_are root in
      record {
        bodies = all;
        count = length-grouped roots bodies ∙ counted ∙ ap (λ (bs : List ℕ). pieces_of (length bs) 1024) (sym all);
        body = λ n le lt. ap (λ (bs : List ℕ). get_or bs n 0) all ∙ body_is n le lt;
        root = λ k index le lt at. (grouped_at roots bodies k index at).0 ∙ root_is k le lt;
        names = λ k index at. (grouped_at roots bodies k index at).1 ∙ ap (piece k) (sym all);
      }

pub fresh_frames : FreshFrames
fresh_frames first last gone fresh ids root is count = refilled first last gone fresh ids is count root
