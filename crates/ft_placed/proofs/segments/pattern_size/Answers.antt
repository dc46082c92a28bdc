use Rattle.std.proofs.Common.{ℕ, ◌∙◌}
use Rattle.ft_segments.specs.Walk.{IsOf, ids_of}
use Rattle.ft_placed.proofs.OfPatterns.{pattern_of}
use Rattle.ft_placed.proofs.InOrder.{no_pattern, pattern_length}
use Rattle.ft_placed.proofs.segments.pattern_size.Goals as goal

pub returns-in_default-clause-answer : goal.returns-in_default-clause-answer
returns-in_default-clause-answer g c = λ p m may shows is.
    no_pattern (ids_of p) c.args.pattern (c.in_default.ensures.answer p m may shows is)

pub returns-clause-answer : goal.returns-clause-answer
returns-clause-answer g c = λ p m may shows is.
    let found = c.in-Some.found in
    let before = λ (s : ℕ) (of : IsOf p s). c.body_count.ensures.narrows p s (may s of) in
    let has = pattern_of p m c.args.pattern found shows (c.in-Some.ensures.answer p m before shows is) in
    pattern_length p m c.args.pattern found c.from.result has
    (c.from.ensures ∙ c.body_count.ensures.answer p m c.args.pattern may shows is has)
