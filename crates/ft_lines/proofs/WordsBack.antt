-- Words that are read where they are.
use Rattle.std.proofs.Common.{◌≡◌, ℕ, suc, ◌+◌, ◌<◌, ◌≤◌, ◌==◌, Bool, true, false, cond, not, List, [], ◌∷◌, ◌++◌, length, take, drop, Option, Some, None, Result, Ok, Err, refl, sym, ap, ◌∙◌, append_assoc, length-append, arith}
use Rattle.std.specs.List.{list_all, prefix_len}
use Rattle.std.proofs.lemmas.Bool.{and_parts, not-true, ne_eqb}
use Rattle.std.proofs.lemmas.List.{take_at, drop_at}
use Rattle.std.proofs.lemmas.List.Concat.{flat_map-append}
use Rattle.ft_lines.specs.Texts.{spaced}
use Rattle.ft_lines.specs.Sequence.{give, follow, ◌>>=◌}
use Rattle.ft_lines.specs.Reading.{LinePlace, Reading, beyond, behind_spaces, first_word, spaces, word_length, next_word, is_over, or_wrong, word}

abbrev pub place : ℕ → List ℕ → LinePlace
place at left = record { at = at; left = left }

-- a byte of a word
abbrev pub is_solid : ℕ → Bool
is_solid b = not (b == 32)

-- a word ends in front of this
abbrev pub ends_word : List ℕ → Bool
ends_word [] = true
ends_word (b ∷ rest) = b == 32

-- bytes without a space
pub record IsWord (w : List ℕ) : Type 0 where
  pub some : 0 < length w
  pub solid : list_all is_solid w ≡ true

-- ---- the next word

one_more : (n : ℕ) → 1 + n ≡ suc n
one_more n = omega arith

length_is : (w rest : List ℕ) → list_all is_solid w ≡ true → ends_word rest ≡ true → prefix_len is_solid (w ++ rest) ≡ length w
length_is [] [] solid end = refl
length_is [] (b ∷ rest) solid end = ap (λ t. cond (not t) (1 + prefix_len is_solid rest) 0) end
length_is (c ∷ w) rest solid end =
    let parts = and_parts (is_solid c) (list_all is_solid w) solid in
    ap (λ t. cond t (1 + prefix_len is_solid (w ++ rest)) 0) parts.0
    ∙ (one_more (prefix_len is_solid (w ++ rest)) ∙ ap suc (length_is w rest parts.1 end))

no_space_first : (w rest : List ℕ) → IsWord w → prefix_len (λ b. b == 32) (w ++ rest) ≡ 0
no_space_first [] rest is = absurd (omega (arith, is.some))
no_space_first (c ∷ w) rest is =
    let parts = and_parts (is_solid c) (list_all is_solid w) is.solid in
    ap (λ t. cond t (1 + prefix_len (λ b. b == 32) (w ++ rest)) 0) (not-true (c == 32) parts.0)

-- reading a word where it begins
abbrev from_start : LinePlace → Result ((ℕ × List ℕ) × LinePlace) ℕ
from_start start = cond (length start.left == 0) (Err start.at) (Ok ((start.at, first_word start), beyond (word_length start.left) start))

next_is : (p : LinePlace) → next_word p ≡ from_start (behind_spaces p)
unfolding next_word
next_is p = refl

begins_here : (at : ℕ) (w rest : List ℕ) → IsWord w → behind_spaces (place at (w ++ rest)) ≡ place (at + 0) (w ++ rest)
unfolding spaces
begins_here at w rest is = ap (λ n. beyond n (place at (w ++ rest))) (no_space_first w rest is)

-- what is read where n bytes are taken
abbrev cut_at : ℕ → List ℕ → ℕ → Result ((ℕ × List ℕ) × LinePlace) ℕ
cut_at at left n = Ok ((at, take n left), place (at + n) (drop n left))

is_there : (at : ℕ) (w rest : List ℕ) → IsWord w → ends_word rest ≡ true
    → from_start (place at (w ++ rest)) ≡ Ok ((at, w), place (at + length w) rest)
unfolding word_length
is_there at w rest is end =
    let left : List ℕ = w ++ rest in
    let some : (length left == 0) ≡ false = ne_eqb (length left) 0 (λ e. omega (arith, e, is.some, length-append w rest)) in
    let found : Result ((ℕ × List ℕ) × LinePlace) ℕ = cut_at at left (prefix_len is_solid left) in
    ap (λ b. cond b (Err at) found) some
    ∙ (ap (cut_at at left) (length_is w rest is.solid end)
    ∙ (ap (λ v. Ok ((at, v), place (at + length w) (drop (length w) left))) (take_at w rest (length w) refl)
    ∙ ap (λ v. Ok ((at, w), place (at + length w) v)) (drop_at w rest (length w) refl)))

-- spaces in front of a word are skipped
skipped : (at : ℕ) (left : List ℕ) → behind_spaces (place at (32 ∷ left)) ≡ behind_spaces (place (at + 1) left)
unfolding spaces
skipped at left =
    let s = prefix_len (λ b. b == 32) left in
    let here : at + (1 + s) ≡ (at + 1) + s = omega arith in
    ap (λ a. place a (drop (1 + s) (32 ∷ left))) here ∙ ap (λ n. place ((at + 1) + s) (drop n (32 ∷ left))) (one_more s)

pub same_behind_space : (at : ℕ) (left : List ℕ) → next_word (place at (32 ∷ left)) ≡ next_word (place (at + 1) left)
same_behind_space at left = next_is (place at (32 ∷ left)) ∙ (ap from_start (skipped at left) ∙ sym (next_is (place (at + 1) left)))

pub word_there : (at : ℕ) (w rest : List ℕ) → IsWord w → ends_word rest ≡ true
    → next_word (place at (w ++ rest)) ≡ Ok ((at + 0, w), place ((at + 0) + length w) rest)
word_there at w rest is end = next_is (place at (w ++ rest)) ∙ (ap from_start (begins_here at w rest is) ∙ is_there (at + 0) w rest is end)

pub not_over : (at : ℕ) (w rest : List ℕ) → IsWord w → is_over (place at (w ++ rest)) ≡ false
not_over at w rest is =
    ap (λ p. length p.left == 0) (begins_here at w rest is)
    ∙ ne_eqb (length (w ++ rest)) 0 (λ e. omega (arith, e, is.some, length-append w rest))

pub not_over_behind_space : (at : ℕ) (w rest : List ℕ) → IsWord w → is_over (place at (32 ∷ (w ++ rest))) ≡ false
not_over_behind_space at w rest is = ap (λ p. length p.left == 0) (skipped at (w ++ rest)) ∙ not_over (at + 1) w rest is

-- ---- what a reading takes

-- a reading gives this value of a text, whatever follows it, and the text has at most that many
-- bytes
pub record Takes {A : Type 0} (reading : Reading A) (x : A) (text : List ℕ) (most : ℕ) : Type 0 where
  pub reads : (at : ℕ) (rest : List ℕ) → ends_word rest ≡ true
      → (end : ℕ) × (reading (place at (text ++ rest)) ≡ Ok (x, place end rest))
  pub short : length text ≤ most

-- the same of words, each behind a space
pub record TakesWords {A : Type 0} (reading : Reading A) (x : A) (words : List (List ℕ)) (most : ℕ) : Type 0 where
  pub taken : Takes reading x (spaced words) most

all_taken : {A : Type 0} (x : A) → Takes (give x) x [] 0
all_taken x = record { reads = λ at rest end. (at, refl); short = omega arith }

pub nothing_taken : {A : Type 0} (x : A) → TakesWords (give x) x [] 0
nothing_taken x = record { taken = all_taken x }

-- a word without a space in front of it
pub word_reads : {A : Type 0} (value : List ℕ → Option A) (x : A) (at : ℕ) (w rest : List ℕ) → IsWord w → ends_word rest ≡ true
    → value w ≡ Some x → word value (place at (w ++ rest)) ≡ Ok (x, place ((at + 0) + length w) rest)
word_reads value x at w rest is end said =
    ap (follow (λ found. or_wrong found.0 (value found.1))) (word_there at w rest is end)
    ∙ ap (λ o. or_wrong (at + 0) o (place ((at + 0) + length w) rest)) said

pub word_is_wrong : {A : Type 0} (value : List ℕ → Option A) (at : ℕ) (w rest : List ℕ) → IsWord w → ends_word rest ≡ true
    → value w ≡ None → word value (place at (w ++ rest)) ≡ Err (at + 0)
word_is_wrong value at w rest is end said =
    ap (follow (λ found. or_wrong found.0 (value found.1))) (word_there at w rest is end)
    ∙ ap (λ o. or_wrong (at + 0) o (place ((at + 0) + length w) rest)) said

pub word_taken : {A : Type 0} (value : List ℕ → Option A) (x : A) (w : List ℕ) (most : ℕ) → IsWord w → value w ≡ Some x
    → length w < most → Takes (word value) x (32 ∷ w) most
word_taken value x w most is said short = record {
  reads = λ at rest end. (
    ((at + 1) + 0) + length w,
    ap (follow (λ found. or_wrong found.0 (value found.1))) (same_behind_space at (w ++ rest))
        ∙ word_reads value x (at + 1) w rest is end said,
  );
  short = omega arith;
}

pub still_ends : (ws : List (List ℕ)) (rest : List ℕ) → ends_word rest ≡ true → ends_word (spaced ws ++ rest) ≡ true
still_ends [] rest end = end
still_ends (w ∷ ws) rest end = refl

taken_in_turn : {A B : Type 0} (first : Reading A) (next : A → Reading B) (x : A) (y : B) (w : List ℕ) (ws : List (List ℕ)) (a b : ℕ)
    → Takes first x (32 ∷ w) a → Takes (next x) y (spaced ws) b → Takes (first >>= next) y (spaced (w ∷ ws)) (a + b)
taken_in_turn first next x y w ws a b one others = record {
  reads = λ at rest end.
      let p = one.reads at (spaced ws ++ rest) (still_ends ws rest end) in
      let q = others.reads p.0 rest end in (
        q.0,
        ap (λ left. follow next (first (place at left))) (append_assoc (32 ∷ w) (spaced ws) rest) ∙ (ap (follow next) p.1 ∙ q.1),
      );
  short = omega (arith, length-append (32 ∷ w) (spaced ws), one.short, others.short);
}

-- a word, and then others
pub both_taken : {A B : Type 0} (first : Reading A) (next : A → Reading B) {x : A} {y : B} {w : List ℕ} {ws : List (List ℕ)} {a b : ℕ}
    → Takes first x (32 ∷ w) a → TakesWords (next x) y ws b → TakesWords (first >>= next) y (w ∷ ws) (a + b)
both_taken first next {x} {y} {w} {ws} {a} {b} one others =
    record { taken = taken_in_turn first next x y w ws a b one others.taken }

-- what is taken, seen as another value
pub made_of : {A B : Type 0} (f : A → B) {reading : Reading A} {x : A} {ws : List (List ℕ)} {most : ℕ}
    → TakesWords reading x ws most → TakesWords (reading >>= (λ y. give (f y))) (f x) ws most
made_of f {reading} {x} {ws} {most} words = record {
  taken = record {
    reads = λ at rest end.
        let p = words.taken.reads at rest end in
        (p.0, ap (follow (λ y. give (f y))) p.1);
    short = words.taken.short;
  };
}

-- words, and then others
pub words_in_turn : {A B : Type 0} (first : Reading A) (next : A → Reading B) {x : A} {y : B} {ws vs : List (List ℕ)} {a b : ℕ}
    → TakesWords first x ws a → TakesWords (next x) y vs b → TakesWords (first >>= next) y (ws ++ vs) (a + b)
words_in_turn first next {x} {y} {ws} {vs} {a} {b} one others =
    let apart : spaced (ws ++ vs) ≡ spaced ws ++ spaced vs = flat_map-append (λ w. 32 ∷ w) ws vs in
    record {
      taken = record {
        reads = λ at rest end.
            let p = one.taken.reads at (spaced vs ++ rest) (still_ends vs rest end) in
            let q = others.taken.reads p.0 rest end in (
              q.0,
              ap (λ text. follow next (first (place at (text ++ rest)))) apart
                  ∙ (ap (λ left. follow next (first (place at left))) (append_assoc (spaced ws) (spaced vs) rest)
                  ∙ (ap (follow next) p.1 ∙ q.1)),
            );
        short = omega (arith, ap length apart, length-append (spaced ws) (spaced vs), one.taken.short, others.taken.short);
      };
    }
