-- Bytes cut at each one like this.
use Rattle.std.proofs.Common.{◌≡◌, ℕ, ◌+◌, ◌-◌, ◌==◌, ◌<◌, List, [], ◌∷◌, length, take, drop, Bool, true, false, inl, inr, not, Option, Some, None, Bor, refl, sym, ap, ◌∙◌, arith}
use Rattle.std.specs.List.{slice_split, onto_first, position_or_len, join_with_byte}
use Rattle.std.specs.Option.{option_copied, is_some}
use Rattle.std.proofs.lemmas.Bool.{ne_eqb, cases_Bool}
use Rattle.std.proofs.lemmas.List.{take_rest, drop-drop}
use Rattle.std.proofs.lemmas.List.Sums.{fails_before_first}
use Rattle.std.proofs.lemmas.List.Splits.{slice_split_none, slice_split_first, length-slice_split, slice_split-cons_yes, slice_split-cons_no, join_with_byte-slice_split}
use Rattle.ft_text.specs.LedgerAnswers.{parts_left}
use Rattle.ft_text.specs.LedgerReading.{is_end}

-- where none is like this, they are one part
pub not_cut : (by : ℕ) (bytes : List ℕ) → position_or_len (λ b. b == by) bytes ≡ length bytes
    → slice_split (λ b. b == by) bytes ≡ bytes ∷ []
not_cut by bytes all = slice_split_none (λ b. b == by) bytes (λ k d h. fails_before_first (λ b. b == by) bytes k d (omega arith))

-- the first part, and those behind it
pub first_cut : (by : ℕ) (bytes : List ℕ) (i : ℕ) (front back rest : List ℕ) → position_or_len (λ b. b == by) bytes ≡ i
    → i < length bytes → front ≡ take i bytes → back ≡ drop i bytes → rest ≡ take (length back - 1) (drop 1 back)
    → slice_split (λ b. b == by) bytes ≡ front ∷ slice_split (λ b. b == by) rest
first_cut by bytes i front back rest here within f b r =
    let inside : position_or_len (λ b. b == by) bytes < length bytes = omega arith in
    let behind : rest ≡ drop (i + 1) bytes = r ∙ take_rest back 1 ∙ ap (drop 1) b ∙ drop-drop 1 i bytes in
    slice_split_first (λ b. b == by) bytes 0 inside
    ∙ ap (λ k. take k bytes ∷ slice_split (λ b. b == by) (drop (k + 1) bytes)) here
    ∙ ap (λ f. f ∷ slice_split (λ b. b == by) (drop (i + 1) bytes)) (sym f)
    ∙ ap (λ r. front ∷ slice_split (λ b. b == by) r) (sym behind)

-- there is always a part
pub some_part : (by : ℕ) (bytes : List ℕ) → (length (slice_split (λ b. b == by) bytes) == 0) ≡ false
some_part by bytes = ne_eqb _ 0 (λ none. omega (arith, length-slice_split (λ b. b == by) bytes, none))

-- no word is left where nothing is
pub none_left : (left : Option (Bor (List ℕ))) (words : List (List ℕ)) (over : Bool) → parts_left 32 (option_copied left) ≡ words
    → is_some left ≡ not over → over ≡ (length words == 0)
none_left None words true seen e = ap (λ w. length w == 0) seen
none_left None words false seen e = cc
none_left (Some line) words true seen e = cc
none_left (Some line) words false seen e = sym (some_part 32 line.now) ∙ ap (λ w. length w == 0) seen

-- the words that are left, with a space between two
pub all_left : (left : Option (Bor (List ℕ))) (line : Bor (List ℕ)) (words : List (List ℕ)) → parts_left 32 (option_copied left) ≡ words
    → left ≡ Some line → line.now ≡ join_with_byte 32 words
all_left left line words seen e =
    sym (join_with_byte-slice_split 32 line.now) ∙ ap (λ l. join_with_byte 32 (parts_left 32 (option_copied l))) (sym e)
    ∙ ap (join_with_byte 32) seen

pub no_part : (by : ℕ) (bytes : List ℕ) → slice_split (λ b. b == by) bytes ≡ [] → ⊥
no_part by bytes none = cc (some_part by bytes, ap (λ parts. length parts == 0) none)

end_behind : (parts : List (List ℕ)) → (length parts == 0) ≡ false → is_end ([] ∷ parts) ≡ false
end_behind [] some = absurd (cc)
end_behind (part ∷ parts) some = refl

not_end_onto : (b : ℕ) (parts : List (List ℕ)) → is_end (onto_first b parts) ≡ false
not_end_onto b [] = refl
not_end_onto b (part ∷ parts) = refl

-- where bytes are left, the last part isn't alone and empty
pub not_at_end : (bytes : List ℕ) → (length bytes == 0) ≡ false → is_end (slice_split (λ b. b == 10) bytes) ≡ false
not_at_end [] some = absurd (cc)
not_at_end (b ∷ bytes) some = elim (cases_Bool (b == 10)) [
  | inl is ↦ ap is_end (slice_split-cons_yes (λ b. b == 10) b bytes is) ∙ end_behind _ (some_part 10 bytes)
  | inr other ↦ ap is_end (slice_split-cons_no (λ b. b == 10) b bytes other) ∙ not_end_onto b (slice_split (λ b. b == 10) bytes)
]
