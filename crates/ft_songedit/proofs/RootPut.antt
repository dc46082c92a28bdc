-- The words of a pattern's root, in which a body is another segment.
use Rattle.std.proofs.Common.{◌≡◌, ◌≢◌, ℕ, zero, suc, ◌+◌, ◌-◌, ◌*◌, ◌/◌, ◌%◌, ◌<◌, ◌≤◌, List, length, set, get_or, refl, ap, sym, subst, ◌∙◌, arith, inl, inr, ne_eqb, lt-ltb, le-ltb, ◌⊎◌}
use Rattle.std.specs.Prelude.{All}
use Rattle.std.specs.List.{range_with_len}
use Rattle.std.proofs.lemmas.Bool.{cases_eq, cases_lt}
use Rattle.std.proofs.lemmas.Grind.{get_or-set_at}
use Rattle.std.proofs.lemmas.List.{get_or-set_other}
use Rattle.std.proofs.lemmas.List.Elements.{All-map}
use Rattle.ft_types.specs.declared.pattern.Pattern.{Pattern}
use Rattle.ft_types.specs.Blocks.{pieces_of}
use Rattle.ft_segments.specs.Packing.{digit, id_at, ids_word, word_at}
use Rattle.ft_segments.specs.Walk.{PatternIds, pattern_walk, rows_in}
use Rattle.ft_image.specs.Changed.{IsOneChanged}
use Rattle.ft_image.specs.Laid.{pattern_root_word}
use Rattle.ft_image.specs.Shown.{ShowsPattern}
use Rattle.ft_songedit.proofs.Placing.{set_is_one}

-- ---- ids

digit_low : (word place : ℕ) → digit 65536 word place < 65536
digit_low word zero = omega arith
digit_low word (suc place) = digit_low (word / 65536) place

id_low : (pool : List ℕ) (segment first i : ℕ) → id_at pool segment first i < 65536
unfolding id_at
id_low pool segment first i = digit_low (word_at pool segment (first + i / 4)) (i % 4)

pub bodies_low : (pool : List ℕ) (channels root : ℕ) → All (λ s. s < 65536) (pattern_walk pool channels root).bodies
bodies_low pool channels root =
    All-map (λ s. s < 65536) (λ b. id_at pool root 1 b) (range_with_len 0 (pieces_of (rows_in pool root * channels) 256))
    (λ k d lt. id_low pool root 1 _)

-- ---- the words of a root

pub in_ids : (x : Pattern) (ids : List ℕ) (k : ℕ) → k < 8 → pattern_root_word x ids (1 + k) ≡ ids_word ids k
in_ids x ids k lt =
    let less : 1 + k - 1 ≡ k = omega arith in
    rw (ne_eqb (1 + k) 0 (omega arith), lt-ltb (1 + k) 9 (omega arith), less) refl

pub behind : (x : Pattern) (ids : List ℕ) (k : ℕ) → 9 ≤ k → pattern_root_word x ids k ≡ 0
behind x ids k ge = rw (ne_eqb k 0 (omega arith), le-ltb k 9 ge) refl

-- a place is that of the rows, of ids, or behind them
places : (j : ℕ) → (j ≡ 0) ⊎ (((k : ℕ) × (k < 8) × (j ≡ 1 + k)) ⊎ (9 ≤ j))
places j = elim (cases_eq j 0) [
  | inl none ↦ inl none
  | inr ne ↦ elim (cases_lt j 9) [
    | inl lt ↦ inr (inl (j - 1, omega (arith, lt, ne), omega (arith, lt, ne)))
    | inr ge ↦ inr (inr ge)
  ]
]

-- what a shown pattern's root has
pub root_shown : (pool : List ℕ) (channels : ℕ) (x : Pattern) (ids : PatternIds) (j : ℕ) → ShowsPattern pool channels x ids
    → j < 256 → word_at pool ids.root j ≡ pattern_root_word x ids.bodies j
root_shown pool channels x ids j shows lt = elim (places j) [
  | inl none ↦ subst (λ n. word_at pool ids.root n ≡ pattern_root_word x ids.bodies n) (sym none) shows.rows
  | inr (inl at) ↦ subst (λ n. word_at pool ids.root n ≡ pattern_root_word x ids.bodies n) (sym at.2)
      (shows.bodies at.0 at.1 ∙ sym (in_ids x ids.bodies at.0 at.1))
  | inr (inr ge) ↦ shows.others j ge lt ∙ sym (behind x ids.bodies j ge)
]

abbrev pub IdsStay : Type 0
IdsStay = (at number k : ℕ) (row new : List ℕ) → IsOneChanged at number row new → k ≢ at / 4 → ids_word new k ≡ ids_word row k

-- at other places the words are as they were
others_stay : IdsStay → (x : Pattern) (bodies : List ℕ) (b id j : ℕ) → b < length bodies → j ≢ 1 + b / 4
    → pattern_root_word x bodies j ≡ pattern_root_word x (set bodies b id) j
others_stay stay x bodies b id j within ne = elim (places j) [
  | inl none ↦ subst (λ n. pattern_root_word x bodies n ≡ pattern_root_word x (set bodies b id) n) (sym none) refl
  | inr (inl at) ↦ subst (λ n. pattern_root_word x bodies n ≡ pattern_root_word x (set bodies b id) n) (sym at.2)
      (in_ids x bodies at.0 at.1
      ∙ sym (stay b id at.0 bodies (set bodies b id) (set_is_one b id bodies within) (λ e. ne (at.2 ∙ ap (λ n. 1 + n) e)))
      ∙ sym (in_ids x (set bodies b id) at.0 at.1))
  | inr (inr ge) ↦ behind x bodies j ge ∙ sym (behind x (set bodies b id) j ge)
]

pub root_put : IdsStay → (words : List ℕ) (x : Pattern) (bodies : List ℕ) (b id w j : ℕ) → length words ≡ 256 → b < 32
    → b < length bodies → (j < 256 → get_or words j 0 ≡ pattern_root_word x bodies j) → w ≡ ids_word (set bodies b id) (b / 4) → j < 256
    → get_or (set words (1 + b / 4) w) j 0 ≡ pattern_root_word x (set bodies b id) j
root_put stay words x bodies b id w j long low within has is lt = elim (cases_eq j (1 + b / 4)) [
  | inl same ↦ get_or-set_at words (1 + b / 4) j w 0 same (omega (arith, long, low)) ∙ is
      ∙ sym (in_ids x (set bodies b id) (b / 4) (omega (arith, low)))
      ∙ ap (λ n. pattern_root_word x (set bodies b id) n) (sym same)
  | inr ne ↦ get_or-set_other words (1 + b / 4) j w 0 ne ∙ has lt ∙ others_stay stay x bodies b id j within ne
]

-- the word with the id is of the changed row
pub row_of : (b : ℕ) → b / 4 * 4 + b % 4 ≡ b
row_of b = omega arith
