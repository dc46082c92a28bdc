-- Where an edit refills bodies of a sample.
use Rattle.std.proofs.Common.{◌≡◌, ◌∙◌, ℕ, ◌+◌, ◌-◌, ◌<◌, ◌≤◌, List, ◌++◌, length, drop, get_or, sym, ap, arith, inl, inr}
use Rattle.std.proofs.lemmas.List.{length-drop}
use Rattle.ft_types.specs.declared.edit.Edit.{Edit}
use Rattle.ft_types.specs.declared.sample.Sample.{Sample}
use Rattle.ft_edits.specs.Lists.{with_stretch}
use Rattle.ft_segments.specs.Walk.{SampleIds, Placed}
use Rattle.ft_changes.specs.Ids.{fresh_bodies}
use Rattle.ft_changes.specs.Parts.{body_ids}
use Rattle.ft_smpedit.specs.declared.slots.BodyRange.{BodyRange}
use Rattle.ft_smpedit.specs.Filled.{Refills, indexes_filled}
use Rattle.ft_smpedit.proofs.Places.{kept_before, after_it}
use Rattle.std.proofs.lemmas.List.{get_or-append_right, get_or-drop}

pub refills_before : {V : Type 0} (may_show : V → Placed → ℕ → Type 0) (a b : V) (p : Placed) (root : ℕ) (e : Edit)
    (range : BodyRange) (fresh : List ℕ) (x : Sample) (old new : SampleIds)
    → ((s : ℕ) → may_show b p s → may_show a p s)
    → Refills may_show b p root e range fresh x old new → Refills may_show a p root e range fresh x old new
refills_before may_show a b p root e range fresh x old new narrows r = record {
  song = r.song;
  may = λ s is. narrows s (r.may s is);
  shows = r.shows;
  of = r.of;
  ids = r.ids;
  named = r.named;
  frames = r.frames;
  stretch = r.stretch;
  refilled = r.refilled;
  count = r.count;
  few = r.few;
}

-- ---- bodies that aren't fresh

body_before : (xs ys zs : List ℕ) (first gone n : ℕ) → ys ≡ with_stretch first gone (λ bodies. zs) xs → first ≤ length xs
    → n < first → get_or xs n 0 ≡ get_or ys n 0
body_before xs ys zs first gone n is le lt =
    sym (ap (λ (l : List ℕ). get_or l n 0) is ∙ kept_before xs (zs ++ drop gone xs) first n 0 le lt)

body_behind : (xs ys zs : List ℕ) (first last gone n : ℕ) → ys ≡ with_stretch first gone (λ bodies. zs) xs → first ≤ gone
    → gone ≤ length xs → length zs ≡ last - first → first ≤ last → last ≡ gone → last ≤ n → get_or xs n 0 ≡ get_or ys n 0
body_behind xs ys zs first last gone n is up le count up2 same ge =
    sym (ap (λ (l : List ℕ). get_or l n 0) is
    ∙ after_it xs (zs ++ drop gone xs) first n 0 (omega (arith, up, le)) (omega (arith, up2, ge))
    ∙ get_or-append_right zs (drop gone xs) (last - first) (n - first) 0 count (omega (arith, ge))
    ∙ get_or-drop gone xs (n - first - (last - first)) 0
    ∙ ap (λ k. get_or xs k 0) (omega (arith, up, up2, same, ge)))

fresh_count : (fresh : List ℕ) (first last ic : ℕ) → length fresh ≡ 3 + ic + (last - first) → length (drop (3 + ic) fresh) ≡ last - first
fresh_count fresh first last ic count = let d = length-drop (3 + ic) fresh in omega (arith, d, count)

pub kept_id : {V : Type 0} (may_show : V → Placed → ℕ → Type 0) (v : V) (p : Placed) (root : ℕ) (e : Edit)
    (range : BodyRange) (fresh : List ℕ) (x : Sample) (old new : SampleIds) (n : ℕ)
    → Refills may_show v p root e range fresh x old new → (range.first ≤ n → range.last ≤ n)
    → (range.first ≤ n → range.last ≡ range.gone)
    → get_or (body_ids old) n 0 ≡ get_or (body_ids new) n 0
kept_id may_show v p root e range fresh x old new n r out same =
    let s = r.stretch in
    let zs = fresh_bodies range.first range.last fresh in
    let count = fresh_count fresh range.first range.last (indexes_filled range) r.count in
    elim (Rattle.std.proofs.lemmas.Bool.cases_lt n range.first) [
      | inl below ↦ body_before (body_ids old) (body_ids new) zs range.first range.gone n r.refilled.bodies
          (omega (arith, s.gone_upward, s.within)) below
      | inr over ↦ body_behind (body_ids old) (body_ids new) zs range.first range.last range.gone n r.refilled.bodies
          s.gone_upward s.within count s.upward (same over) (out over)
    ]
