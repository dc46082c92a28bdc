-- Words of an array, one of which is put in place of another.
use Rattle.std.proofs.Common.{◌≡◌, ◌≢◌, ◌⊎◌, ℕ, ◌+◌, ◌<◌, ◌≤◌, List, length, set, ap, sym, ◌∙◌, arith, inl, inr}
use Rattle.std.specs.Prelude.{slice_index}
use Rattle.std.proofs.lemmas.Bool.{cases_eq}
use Rattle.std.proofs.lemmas.List.{get_or-set_same, get_or-set_other}
use Rattle.ft_roots.specs.RootWords.{HasRow, ZeroFrom}

-- a word at another place stays
pub one_stays : (words : List ℕ) (at w k : ℕ) → k ≢ at → slice_index (set words at w) k ≡ slice_index words k
one_stays words at w k ne = get_or-set_other words at k w 0 ne

pub one_put : (words : List ℕ) (at w : ℕ) → at < length words → slice_index (set words at w) at ≡ w
one_put words at w lt = get_or-set_same words at w 0 lt

-- a row that the place isn't in
pub row_stays : (words : List ℕ) (at w first count : ℕ) (row_word : ℕ → ℕ) → (at < first) ⊎ (first + count ≤ at)
    → HasRow words first count row_word → HasRow (set words at w) first count row_word
row_stays words at w first count row_word (inl low) has =
    λ k lt. one_stays words at w (first + k) (λ e. absurd (omega (arith, e, low))) ∙ has k lt
row_stays words at w first count row_word (inr high) has =
    λ k lt. one_stays words at w (first + k) (λ e. absurd (omega (arith, e, high, lt))) ∙ has k lt

pub zeros_stay : (words : List ℕ) (at w first : ℕ) → at < first → ZeroFrom words first → ZeroFrom (set words at w) first
zeros_stay words at w first low zeros =
    λ k ge lt. one_stays words at w k (λ e. absurd (omega (arith, e, low, ge))) ∙ zeros k ge lt

-- a row one of whose words is another, as the words of the new row
pub row_put : (words : List ℕ) (first count a w : ℕ) (row_word new_word : ℕ → ℕ) → first + a < length words
    → HasRow words first count row_word → w ≡ new_word a → ((k : ℕ) → k ≢ a → new_word k ≡ row_word k)
    → HasRow (set words (first + a) w) first count new_word
row_put words first count a w row_word new_word lt has is same =
    λ k l. elim (cases_eq k a) [
      | inl e ↦ ap (λ n. slice_index (set words (first + a) w) (first + n)) e ∙ one_put words (first + a) w lt ∙ is ∙ ap new_word (sym e)
      | inr ne ↦ one_stays words (first + a) w (first + k) (λ e. ne (omega (arith, e))) ∙ has k l ∙ sym (same k ne)
    ]
