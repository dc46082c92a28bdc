use Rattle.std.proofs.Common.{ℕ, sym, arith}
use Rattle.ft_segments.specs.Walk.{IsOf}
use Rattle.ft_placed.proofs.Walked.{pattern_is}
use Rattle.ft_placed.proofs.OfPatterns.{pattern_of, body_read, body_absent, no_bodies}
use Rattle.ft_placed.proofs.patterns.body_id.Goals as goal

pub returns-in_default-clause-answer : goal.returns-in_default-clause-answer
returns-in_default-clause-answer g c = λ p m may shows is.
    sym (no_bodies p c.args.pattern c.args.body (c.in_default.ensures.answer p m may shows is))

pub returns-then-body-from-clause-answer : goal.returns-then-body-from-clause-answer
returns-then-body-from-clause-answer g c = λ p m may shows is.
    let found = c.in-Some.found in
    let before = λ (s : ℕ) (of : IsOf p s). c.body_count.ensures.narrows p s (may s of) in
    let has = pattern_of p m c.args.pattern found shows (c.in-Some.ensures.answer p m before shows is) in
    let count = c.body_count.ensures.answer p m c.args.pattern may shows is has in
    let test = c.if-body-from.true in
    sym (body_absent p m c.args.pattern found c.args.body has (omega (arith, count, c.from.ensures)))

pub returns-clause-answer : goal.returns-clause-answer
returns-clause-answer g c = λ p m may shows is.
    let found = c.in-Some.found in
    let at_count = λ (s : ℕ) (of : IsOf p s). c.id.ensures.narrows p s (may s of) in
    let before = λ (s : ℕ) (of : IsOf p s). c.body_count.ensures.narrows p s (at_count s of) in
    let has = pattern_of p m c.args.pattern found shows (c.in-Some.ensures.answer p m before shows is) in
    let count = c.body_count.ensures.answer p m c.args.pattern at_count shows is has in
    let test = c.if-body-from.false in
    let id = c.id.ensures.answer p (may found (pattern_is p m c.args.pattern found has)) in
    body_read p m c.args.pattern found c.args.body c.id.result has (omega (arith, count, c.from.ensures)) id
