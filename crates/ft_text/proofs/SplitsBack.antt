-- Texts cut at a byte that is between their parts.
use Rattle.std.proofs.Common.{◌≡◌, ℕ, ◌==◌, Bool, true, cond, not, ◌&&◌, List, [], ◌∷◌, ◌++◌, refl, ap, ◌∙◌, append_assoc}
use Rattle.std.specs.List.{list_all, slice_split, onto_first}
use Rattle.std.proofs.lemmas.List.{append-nil}
use Rattle.std.proofs.lemmas.Bool.{and_from, and_parts, not-true, eq-eqb}
use Rattle.ft_lines.specs.Texts.{spaced, text_of_words}
use Rattle.ft_text.specs.Ledger.{joined_lines}
use Rattle.ft_lines.specs.Plain.{is_plain, plain, all_plain}

abbrev pub split : ℕ → List ℕ → List (List ℕ)
split by bytes = slice_split (λ b. b == by) bytes

-- none of these is the byte
abbrev pub avoids : ℕ → List ℕ → Bool
avoids by w = list_all (λ b. not (b == by)) w

pub split_at : (by : ℕ) (w rest : List ℕ) → avoids by w ≡ true → split by (w ++ (by ∷ rest)) ≡ w ∷ split by rest
split_at by [] rest none = ap (λ t. cond t ([] ∷ split by rest) (onto_first by (split by rest))) (eq-eqb by by refl)
split_at by (b ∷ w) rest none =
    let parts = and_parts (not (b == by)) (avoids by w) none in
    ap (λ t. cond t ([] ∷ split by (w ++ (by ∷ rest))) (onto_first b (split by (w ++ (by ∷ rest))))) (not-true (b == by) parts.0)
    ∙ ap (onto_first b) (split_at by w rest parts.1)

pub split_end : (by : ℕ) (w : List ℕ) → avoids by w ≡ true → split by w ≡ w ∷ []
split_end by [] none = refl
split_end by (b ∷ w) none =
    let parts = and_parts (not (b == by)) (avoids by w) none in
    ap (λ t. cond t ([] ∷ split by w) (onto_first b (split by w))) (not-true (b == by) parts.0)
    ∙ ap (onto_first b) (split_end by w parts.1)

-- ---- what plain bytes avoid

avoids_where : (by : ℕ) → ((b : ℕ) → is_plain b ≡ true → not (b == by) ≡ true) → (w : List ℕ) → plain w ≡ true → avoids by w ≡ true
avoids_where by each [] all = refl
avoids_where by each (b ∷ w) all =
    let parts = and_parts (is_plain b) (plain w) all in
    and_from (not (b == by)) (avoids by w) (each b parts.0) (avoids_where by each w parts.1)

pub no_space : (w : List ℕ) → plain w ≡ true → avoids 32 w ≡ true
no_space = avoids_where 32
    (λ b is. (and_parts (not (b == 32)) (not (b == 10)) (and_parts (not (b == 32) && not (b == 10)) (not (b == 59)) is).0).0)

pub no_lf : (w : List ℕ) → plain w ≡ true → avoids 10 w ≡ true
no_lf = avoids_where 10
    (λ b is. (and_parts (not (b == 32)) (not (b == 10)) (and_parts (not (b == 32) && not (b == 10)) (not (b == 59)) is).0).1)

pub no_separator : (w : List ℕ) → plain w ≡ true → avoids 59 w ≡ true
no_separator = avoids_where 59 (λ b is. (and_parts (not (b == 32) && not (b == 10)) (not (b == 59)) is).1)

pub avoids_append : (by : ℕ) (v w : List ℕ) → avoids by v ≡ true → avoids by w ≡ true → avoids by (v ++ w) ≡ true
avoids_append by [] w a b = b
avoids_append by (x ∷ v) w a b =
    let parts = and_parts (not (x == by)) (avoids by v) a in
    and_from (not (x == by)) (avoids by (v ++ w)) parts.0 (avoids_append by v w parts.1 b)

-- ---- words

pub split_words : (w : List ℕ) (ws : List (List ℕ)) → plain w ≡ true → all_plain ws ≡ true → split 32 (w ++ spaced ws) ≡ w ∷ ws
split_words w [] is all = ap (split 32) (append-nil w) ∙ split_end 32 w (no_space w is)
split_words w (v ∷ ws) is all =
    let parts = and_parts (plain v) (all_plain ws) all in
    split_at 32 w (v ++ spaced ws) (no_space w is) ∙ ap (λ rest. w ∷ rest) (split_words v ws parts.0 parts.1)

pub split_before : (w : List ℕ) (ws : List (List ℕ)) (text : List ℕ) → plain w ≡ true → all_plain ws ≡ true
    → split 32 ((w ++ spaced ws) ++ (32 ∷ text)) ≡ w ∷ (ws ++ split 32 text)
split_before w [] text is all = ap (λ v. split 32 (v ++ (32 ∷ text))) (append-nil w) ∙ split_at 32 w text (no_space w is)
split_before w (v ∷ ws) text is all =
    let parts = and_parts (plain v) (all_plain ws) all in
    ap (split 32) (append_assoc w (32 ∷ (v ++ spaced ws)) (32 ∷ text))
    ∙ split_at 32 w ((v ++ spaced ws) ++ (32 ∷ text)) (no_space w is)
    ∙ ap (λ rest. w ∷ rest) (split_before v ws text parts.0 parts.1)

-- ---- lines

pub split_lines : (lines : List (List ℕ)) → list_all (avoids 10) lines ≡ true → split 10 (joined_lines lines) ≡ lines ++ [] ∷ []
split_lines [] none = refl
split_lines (line ∷ lines) none =
    let parts = and_parts (avoids 10 line) (list_all (avoids 10) lines) none in
    ap (split 10) (append_assoc line (10 ∷ []) (joined_lines lines))
    ∙ split_at 10 line (joined_lines lines) parts.0
    ∙ ap (λ rest. line ∷ rest) (split_lines lines parts.1)

-- words of a line have no LF
pub spaced_avoids : (by : ℕ) → (not (32 == by) ≡ true) → ((w : List ℕ) → plain w ≡ true → avoids by w ≡ true)
    → (ws : List (List ℕ)) → all_plain ws ≡ true → avoids by (spaced ws) ≡ true
spaced_avoids by space each [] all = refl
spaced_avoids by space each (w ∷ ws) all =
    let parts = and_parts (plain w) (all_plain ws) all in
    and_from (not (32 == by)) (avoids by (w ++ spaced ws)) space
    (avoids_append by w (spaced ws) (each w parts.0) (spaced_avoids by space each ws parts.1))

pub text_avoids : (by : ℕ) → (not (32 == by) ≡ true) → ((w : List ℕ) → plain w ≡ true → avoids by w ≡ true)
    → (ws : List (List ℕ)) → all_plain ws ≡ true → avoids by (text_of_words ws) ≡ true
text_avoids by space each [] all = refl
text_avoids by space each (w ∷ ws) all =
    let parts = and_parts (plain w) (all_plain ws) all in
    avoids_append by w (spaced ws) (each w parts.0) (spaced_avoids by space each ws parts.1)
