-- Which lines are skipped.
use Rattle.std.proofs.Common.{◌≡◌, ℕ, ◌≤◌, ◌==◌, inl, inr, Bool, true, false, List, length, get_or, drop, length-drop, arith}
use Rattle.std.specs.List.{All, prefix_len}
use Rattle.std.proofs.lemmas.Bool.{eqb-true, eq-eqb, both_ways}
use Rattle.std.proofs.lemmas.List.Sums.{prefix_len_passes, prefix_len_is}
use Rattle.ft_lines.specs.Reading.{spaces, is_over}
use Rattle.ft_lines.specs.Lines.{begins_with_hash, line_start, IsSkipped}

abbrev is_space : ℕ → Bool
is_space b = b == 32

-- nothing is left exactly where there are only spaces
only_spaces : (line : List ℕ) → is_over (line_start line) ≡ true → All (λ b. b ≡ 32) line
unfolding spaces
only_spaces line over = λ k d here.
    let rest : length (drop (prefix_len is_space line) line) ≡ 0 = eqb-true _ 0 over in
    eqb-true (get_or line k d) 32 (prefix_len_passes is_space line k d
    (omega (arith, here, rest, length-drop (prefix_len is_space line) line)))

spaces_only : (line : List ℕ) → All (λ b. b ≡ 32) line → is_over (line_start line) ≡ true
unfolding spaces
spaces_only line all =
    let n : prefix_len is_space line ≡ length line = prefix_len_is is_space line (length line) 0 (omega arith)
    (λ k here. eq-eqb (get_or line k 0) 32 (all k 0 here)) (λ h. absurd (omega arith)) in
    eq-eqb (length (drop (prefix_len is_space line) line)) 0 (omega (arith, n, length-drop (prefix_len is_space line) line))

pub blank_line : (line : List ℕ) → length line ≤ 4096 → is_over (line_start line) ≡ true → IsSkipped line
blank_line line short over = record { short = short; quiet = inr (only_spaces line over) }

pub says_something : (line : List ℕ) → begins_with_hash line ≡ false → is_over (line_start line) ≡ false → IsSkipped line → ⊥
says_something line no_hash not_over is = elim is.quiet [
  | inl hash ↦ both_ways (begins_with_hash line) no_hash hash
  | inr all ↦ both_ways (is_over (line_start line)) not_over (spaces_only line all)
]
