-- The words of edits have no space, no LF and no `;`.
use Rattle.std.proofs.Common.{◌≡◌, ℕ, zero, suc, ◌+◌, ◌/◌, ◌%◌, ◌<◌, ◌==◌, true, false, not, ◌&&◌, List, [], ◌∷◌, ◌++◌, get_or, ℤ, pos, negsuc, decimal, refl, ap, ◌∙◌, arith}
use Rattle.std.specs.Fmt.{digits, digits_onto, digit_glyph, signed_decimal}
use Rattle.std.proofs.lemmas.Bool.{and_from, and_parts, ne_eqb, cond_both, cond-true, lt-ltb}
use Rattle.hex.specs.Hex.{encode_lower, encode_with, lower_digits}
use Rattle.ft_types.specs.declared.edit.Edit.{Edit}
use Rattle.ft_types.specs.declared.edit.Edit.TheVariants as edits
use Rattle.ft_lines.specs.Words.{words_of, numbers, frame_bytes}
use Rattle.ft_lines.specs.Plain.{is_plain, plain, all_plain}

-- ---- numbers

plain_glyph : (d : ℕ) → d < 10 → is_plain (digit_glyph false d) ≡ true
plain_glyph d low =
    ap is_plain (cond-true _ (48 + d) _ (lt-ltb d 10 low))
    ∙ and_from (not ((48 + d) == 32) && not ((48 + d) == 10)) (not ((48 + d) == 59))
    (and_from (not ((48 + d) == 32)) (not ((48 + d) == 10)) (ap not (ne_eqb (48 + d) 32 (λ e. omega arith)))
    (ap not (ne_eqb (48 + d) 10 (λ e. omega arith))))
    (ap not (ne_eqb (48 + d) 59 (λ e. omega arith)))

plain_onto : (k n : ℕ) (acc : List ℕ) → plain acc ≡ true → plain (digits_onto k 10 false n acc) ≡ true
plain_onto zero n acc all = all
plain_onto (suc k) n acc all =
    let first : plain (digit_glyph false (n % 10) ∷ acc) ≡ true = and_from (is_plain (digit_glyph false (n % 10))) (plain acc)
    (plain_glyph (n % 10) (omega arith)) all in
    cond_both (n / 10 == 0) _ _ (λ w. plain w ≡ true) (λ is. first)
    (λ other. plain_onto k (n / 10) (digit_glyph false (n % 10) ∷ acc) first)

pub plain_decimal : (n : ℕ) → plain (decimal n) ≡ true
unfolding digits
plain_decimal n = plain_onto 64 n [] refl

pub plain_signed : (z : ℤ) → plain (signed_decimal z) ≡ true
plain_signed (pos n) = plain_decimal n
plain_signed (negsuc n) = plain_decimal (suc n)

-- ---- hexadecimal

plain_at : (t : List ℕ) (d : ℕ) → plain t ≡ true → is_plain (get_or t d 0) ≡ true
plain_at [] d all = refl
plain_at (b ∷ t) zero all = (and_parts (is_plain b) (plain t) all).0
plain_at (b ∷ t) (suc d) all = plain_at t d (and_parts (is_plain b) (plain t) all).1

pub plain_hex : (bytes : List ℕ) → plain (encode_lower bytes) ≡ true
unfolding encode_with
plain_hex [] = refl
plain_hex (b ∷ bytes) =
    and_from (is_plain (get_or lower_digits (b / 16) 0)) _ (plain_at lower_digits (b / 16) refl)
    (and_from (is_plain (get_or lower_digits (b % 16) 0)) _ (plain_at lower_digits (b % 16) refl) (plain_hex bytes))

-- ---- words

pub words_append : (v w : List (List ℕ)) → all_plain v ≡ true → all_plain w ≡ true → all_plain (v ++ w) ≡ true
words_append [] w a b = b
words_append (x ∷ v) w a b = let parts = and_parts (plain x) (all_plain v) a in and_from (plain x) (all_plain (v ++ w)) parts.0
    (words_append v w parts.1 b)

pub plain_numbers : (ns : List ℕ) → all_plain (numbers ns) ≡ true
plain_numbers [] = refl
plain_numbers (n ∷ ns) = and_from (plain (decimal n)) (all_plain (numbers ns)) (plain_decimal n) (plain_numbers ns)

pub one_word : (w : List ℕ) → plain w ≡ true → all_plain (w ∷ []) ≡ true
one_word w is = and_from (plain w) true is refl

numbers_and : (ns : List ℕ) (w : List ℕ) → plain w ≡ true → all_plain (numbers ns ++ w ∷ []) ≡ true
numbers_and ns w is = words_append (numbers ns) (w ∷ []) (plain_numbers ns) (one_word w is)

pub plain_words : (edit : Edit) → all_plain (words_of edit) ≡ true
plain_words (edits.Cell p r c note ins vol eff par) = plain_numbers (p ∷ r ∷ c ∷ note ∷ ins ∷ vol ∷ eff ∷ par ∷ [])
plain_words (edits.Rows p n) = plain_numbers (p ∷ n ∷ [])
plain_words (edits.Insrow p r) = plain_numbers (p ∷ r ∷ [])
plain_words (edits.Delrow p r) = plain_numbers (p ∷ r ∷ [])
plain_words (edits.Clear p r c h w) = plain_numbers (p ∷ r ∷ c ∷ h ∷ w ∷ [])
plain_words (edits.Transpose p r c h w d) = numbers_and (p ∷ r ∷ c ∷ h ∷ w ∷ []) (signed_decimal d) (plain_signed d)
plain_words (edits.Copy p r c h w q r2 c2) = plain_numbers (p ∷ r ∷ c ∷ h ∷ w ∷ q ∷ r2 ∷ c2 ∷ [])
plain_words (edits.Order position p) = plain_numbers (position ∷ p ∷ [])
plain_words (edits.Insorder position p) = plain_numbers (position ∷ p ∷ [])
plain_words (edits.Delorder position) = plain_numbers (position ∷ [])
plain_words (edits.Restart position) = plain_numbers (position ∷ [])
plain_words (edits.Tempo n) = plain_numbers (n ∷ [])
plain_words (edits.Bpm n) = plain_numbers (n ∷ [])
plain_words (edits.Title name) = one_word (encode_lower name) (plain_hex name)
plain_words (edits.Newpat n) = plain_numbers (n ∷ [])
plain_words edits.Delpat = refl
plain_words edits.Newins = refl
plain_words (edits.Clearins i) = plain_numbers (i ∷ [])
plain_words (edits.Insname i name) = numbers_and (i ∷ []) (encode_lower name) (plain_hex name)
plain_words (edits.Map i n k) = plain_numbers (i ∷ n ∷ k ∷ [])
plain_words (edits.Env i w count sus ls le flags) = plain_numbers (i ∷ w ∷ count ∷ sus ∷ ls ∷ le ∷ flags ∷ [])
plain_words (edits.Point i w k x y) = plain_numbers (i ∷ w ∷ k ∷ x ∷ y ∷ [])
plain_words (edits.Vib i kind sweep depth rate) = plain_numbers (i ∷ kind ∷ sweep ∷ depth ∷ rate ∷ [])
plain_words (edits.Fade i n) = plain_numbers (i ∷ n ∷ [])
plain_words (edits.Newsmp i) = plain_numbers (i ∷ [])
plain_words (edits.Delsmp i) = plain_numbers (i ∷ [])
plain_words (edits.Smpname i s name) = numbers_and (i ∷ s ∷ []) (encode_lower name) (plain_hex name)
plain_words (edits.Smp i s vol fine rel pan) =
    words_append (numbers (i ∷ s ∷ vol ∷ [])) (signed_decimal fine ∷ signed_decimal rel ∷ decimal pan ∷ [])
    (plain_numbers (i ∷ s ∷ vol ∷ []))
    (and_from (plain (signed_decimal fine)) _ (plain_signed fine)
    (and_from (plain (signed_decimal rel)) _ (plain_signed rel) (one_word (decimal pan) (plain_decimal pan))))
plain_words (edits.Loop i s kind start len) = plain_numbers (i ∷ s ∷ kind ∷ start ∷ len ∷ [])
plain_words (edits.Cut i s from to) = plain_numbers (i ∷ s ∷ from ∷ to ∷ [])
plain_words (edits.Paste i s at frames) = numbers_and (i ∷ s ∷ at ∷ []) (encode_lower (frame_bytes frames)) (plain_hex (frame_bytes frames))
plain_words (edits.Reverse i s from to) = plain_numbers (i ∷ s ∷ from ∷ to ∷ [])
plain_words (edits.Scale i s from to n d) =
    words_append (numbers (i ∷ s ∷ from ∷ to ∷ [])) (signed_decimal n ∷ decimal d ∷ []) (plain_numbers (i ∷ s ∷ from ∷ to ∷ []))
    (and_from (plain (signed_decimal n)) _ (plain_signed n) (one_word (decimal d) (plain_decimal d)))
plain_words (edits.Bits i s b) = plain_numbers (i ∷ s ∷ b ∷ [])
