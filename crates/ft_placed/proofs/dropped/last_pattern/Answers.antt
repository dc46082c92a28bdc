use Rattle.std.proofs.Common.{◌≡◌, ℕ, ap, sym, ◌∙◌, arith}
use Rattle.ft_segments.specs.Packing.{digit, word_at}
use Rattle.ft_segments.specs.Walk.{patterns_in}
use Rattle.ft_placed.proofs.Walked.{root_is, pattern_count}
use Rattle.ft_placed.proofs.dropped.last_pattern.Goals as goal

pub returns-clause-answer : goal.returns-clause-answer
returns-clause-answer g c = λ p may is.
    let word = c.word.ensures.answer p (may c.args.root (root_is p c.args.root is)) in
    let count : c.quarter.result ≡ patterns_in p.pool p.root
    = c.quarter.ensures ∙ ap (λ (w : ℕ). digit 65536 w 0) (word ∙ ap (λ (r : ℕ). word_at p.pool r 1) (sym is)) in
    omega (arith, c.saturating_sub.ensures, count, pattern_count p)
