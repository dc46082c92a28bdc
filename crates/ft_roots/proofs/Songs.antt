-- One word of a song root is put in place of another.
use Rattle.std.proofs.Common.{◌≡◌, ◌≢◌, ℕ, zero, suc, ◌+◌, ◌-◌, ◌/◌, ◌<◌, ◌≤◌, List, [], ◌∷◌, length, set, refl, ap, sym, ◌∙◌, arith, inl, inr, ne_eqb, eq-eqb}
use Rattle.std.specs.Prelude.{get_or}
use Rattle.std.proofs.lemmas.Bool.{cases_eq, cases_lt}
use Rattle.std.proofs.lemmas.List.{get_or_past, get_or-take, get_or-set_same, get_or-set_other, length-take}
use Rattle.ft_types.specs.declared.module.Module.{Module}
use Rattle.ft_segments.specs.Packing.{bytes_word, ids_word}
use Rattle.ft_edits.specs.Lists.{without_last}
use Rattle.ft_changes.specs.Parts.{put}
use Rattle.ft_image.specs.Changed.{IsOneChanged}
use Rattle.ft_roots.specs.RootWords.{HasSongWords}
use Rattle.ft_roots.proofs.Rows.{one_stays, row_stays, zeros_stay, row_put}

-- ---- lists of which one element is another

get_here : (xs : List ℕ) (k y : ℕ) → k ≤ length xs → get_or (put k y xs) k 0 ≡ y
get_here [] zero y le = refl
get_here [] (suc k) y le = absurd (omega (arith, le))
get_here (x ∷ xs) zero y le = refl
get_here (x ∷ xs) (suc k) y le = get_here xs k y (omega (arith, le))

get_away : (xs : List ℕ) (k y j : ℕ) → k ≤ length xs → j ≢ k → get_or (put k y xs) j 0 ≡ get_or xs j 0
get_away [] zero y zero le ne = absurd (ne refl)
get_away [] zero y (suc j) le ne = refl
get_away [] (suc k) y j le ne = absurd (omega (arith, le))
get_away (x ∷ xs) zero y zero le ne = absurd (ne refl)
get_away (x ∷ xs) zero y (suc j) le ne = refl
get_away (x ∷ xs) (suc k) y zero le ne = refl
get_away (x ∷ xs) (suc k) y (suc j) le ne = get_away xs k y j (omega (arith, le)) (λ e. ne (ap suc e))

pub put_is_one : (k y : ℕ) (xs : List ℕ) → k ≤ length xs → IsOneChanged k y xs (put k y xs)
put_is_one k y xs le =
    λ j. elim (cases_eq j k) [
      | inl same ↦ ap (λ n. get_or (put k y xs) n 0) same ∙ get_here xs k y le ∙ rw (eq-eqb j k same) refl
      | inr ne ↦ get_away xs k y j le ne ∙ rw (ne_eqb j k ne) refl
    ]

pub set_is_one : (k y : ℕ) (xs : List ℕ) → k < length xs → IsOneChanged k y xs (set xs k y)
set_is_one k y xs lt =
    λ j. elim (cases_eq j k) [
      | inl same ↦ ap (λ n. get_or (set xs k y) n 0) same ∙ get_or-set_same xs k y 0 lt ∙ rw (eq-eqb j k same) refl
      | inr ne ↦ get_or-set_other xs k j y 0 ne ∙ rw (ne_eqb j k ne) refl
    ]

pub last_is_one : (n : ℕ) (xs : List ℕ) → length xs ≡ n + 1 → IsOneChanged n 0 xs (without_last xs)
last_is_one n xs long =
    λ j. elim (cases_lt j n) [
      | inl lt ↦ get_or-take (length xs - 1) xs j 0 (omega (arith, long, lt)) ∙ rw (ne_eqb j n (λ e. absurd (omega (arith, e, lt)))) refl
      | inr ge ↦
          let past : get_or (without_last xs) j 0 ≡ 0 =
          get_or_past (without_last xs) j 0 (omega (arith, length-take (length xs - 1) xs, long, ge)) in
          elim (cases_eq j n) [
            | inl same ↦ past ∙ rw (eq-eqb j n same) refl
            | inr ne ↦ past ∙ rw (ne_eqb j n ne) (sym (get_or_past xs j 0 (omega (arith, long, ge, ne))))
          ]
    ]

-- ---- rows of ids

abbrev pub IdsStay : Type 0
IdsStay = (at number k : ℕ) (row new : List ℕ) → IsOneChanged at number row new → k ≢ at / 4 → ids_word new k ≡ ids_word row k

pub pattern_put : IdsStay → (words : List ℕ) (m : Module) (ps ns is : List ℕ) (p id w : ℕ) → length words ≡ 256 → p < 256
    → IsOneChanged p id ps ns → w ≡ ids_word ns (p / 4)
    → HasSongWords words m ps is → HasSongWords (set words (40 + p / 4) w) m ns is
pattern_put stay words m ps ns is p id w long lt changed word has = record {
  head = one_stays words (40 + p / 4) w 0 (λ e. absurd (omega (arith, e))) ∙ has.head;
  counts = one_stays words (40 + p / 4) w 1 (λ e. absurd (omega (arith, e))) ∙ has.counts;
  name = row_stays words (40 + p / 4) w 2 3 (bytes_word m.name) (inr (omega arith)) has.name;
  tracker = row_stays words (40 + p / 4) w 5 3 (bytes_word m.tracker) (inr (omega arith)) has.tracker;
  orders = row_stays words (40 + p / 4) w 8 32 (bytes_word m.orders) (inr (omega arith)) has.orders;
  pattern_ids = row_put words 40 64 (p / 4) w (ids_word ps) (ids_word ns) (omega (arith, long, lt)) has.pattern_ids word
      (λ k ne. stay p id k ps ns changed ne);
  instrument_ids = row_stays words (40 + p / 4) w 104 32 (ids_word is) (inl (omega (arith, lt))) has.instrument_ids;
  others = zeros_stay words (40 + p / 4) w 136 (omega (arith, lt)) has.others;
}

pub instrument_put : IdsStay → (words : List ℕ) (m : Module) (ps is ns : List ℕ) (i id w : ℕ) → length words ≡ 256 → i < 128
    → IsOneChanged i id is ns → w ≡ ids_word ns (i / 4)
    → HasSongWords words m ps is → HasSongWords (set words (104 + i / 4) w) m ps ns
instrument_put stay words m ps is ns i id w long lt changed word has = record {
  head = one_stays words (104 + i / 4) w 0 (λ e. absurd (omega (arith, e))) ∙ has.head;
  counts = one_stays words (104 + i / 4) w 1 (λ e. absurd (omega (arith, e))) ∙ has.counts;
  name = row_stays words (104 + i / 4) w 2 3 (bytes_word m.name) (inr (omega arith)) has.name;
  tracker = row_stays words (104 + i / 4) w 5 3 (bytes_word m.tracker) (inr (omega arith)) has.tracker;
  orders = row_stays words (104 + i / 4) w 8 32 (bytes_word m.orders) (inr (omega arith)) has.orders;
  pattern_ids = row_stays words (104 + i / 4) w 40 64 (ids_word ps) (inr (omega arith)) has.pattern_ids;
  instrument_ids = row_put words 104 32 (i / 4) w (ids_word is) (ids_word ns) (omega (arith, long, lt)) has.instrument_ids word
      (λ k ne. stay i id k is ns changed ne);
  others = zeros_stay words (104 + i / 4) w 136 (omega (arith, lt)) has.others;
}
