use Rattle.std.proofs.Common.{◌≡◌, ◌+◌, ◌-◌, ℕ, Some, sym, ap, ◌∙◌, arith}
use Rattle.std.specs.List.{slice_get}
use Rattle.ft_segments.specs.Walk.{ids_of}
use Rattle.ft_changes.specs.Dropped.{dropped}
use Rattle.ft_placed.proofs.Walked.{root_walk}
use Rattle.ft_placed.proofs.InDropped.{dropped_first}
use Rattle.ft_placed.proofs.dropped.dropped_at.Goals as goal

pub returns-then-k-eq0-clause-answer : goal.returns-then-k-eq0-clause-answer
returns-then-k-eq0-clause-answer g c = λ p m may shows is there.
    ap (λ (r : ℕ). Some r) (sym is ∙ sym (root_walk p))
    ∙ dropped_first c.args.reach (ids_of p)
    ∙ ap (slice_get (dropped c.args.reach (ids_of p))) (sym c.if-k-eq0.true)

pub returns-clause-answer : goal.returns-clause-answer
returns-clause-answer g c = λ p m may shows is there.
    let test = c.if-k-eq0.false in
    let place : 1 + (c.args.k - 1) ≡ c.args.k = omega arith in
    c.dropped_behind.ensures.answer p m may shows is there ∙ ap (slice_get (dropped c.args.reach (ids_of p))) place
