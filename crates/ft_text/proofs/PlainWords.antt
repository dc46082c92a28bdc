-- Words that have no space, no LF and no `;`.
use Rattle.std.proofs.Common.{◌≡◌, ℕ, true, List, [], ◌∷◌, ◌++◌, decimal, refl}
use Rattle.std.proofs.lemmas.Bool.{and_from, and_parts}
use Rattle.ft_lines.specs.Words.{numbers}
use Rattle.ft_lines.specs.Plain.{plain, all_plain}
use Rattle.ft_text.specs.Known.{Known}

pub words_append : (v w : List (List ℕ)) → all_plain v ≡ true → all_plain w ≡ true → all_plain (v ++ w) ≡ true
words_append [] w a b = b
words_append (x ∷ v) w a b = let parts = and_parts (plain x) (all_plain v) a in and_from (plain x) (all_plain (v ++ w)) parts.0
    (words_append v w parts.1 b)

pub plain_numbers : (known : Known) (ns : List ℕ) → all_plain (numbers ns) ≡ true
plain_numbers known [] = refl
plain_numbers known (n ∷ ns) = and_from (plain (decimal n)) (all_plain (numbers ns)) (known.plain_decimal n) (plain_numbers known ns)

pub one_word : (w : List ℕ) → plain w ≡ true → all_plain (w ∷ []) ≡ true
one_word w is = and_from (plain w) true is refl
