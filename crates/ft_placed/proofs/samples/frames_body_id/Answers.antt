use Rattle.std.proofs.Common.{ℕ, sym, arith}
use Rattle.ft_segments.specs.Walk.{IsOf}
use Rattle.ft_placed.proofs.OfSamples.{sample_walked, sample_is, sample_used, index_used, body_read, body_absent, body_indexed}
use Rattle.ft_placed.proofs.samples.frames_body_id.Goals as goal

pub returns-then-body-frame_bodies-clause-answer : goal.returns-then-body-frame_bodies-clause-answer
returns-then-body-frame_bodies-clause-answer g c = λ p m ids may shows of is.
    let here = may c.args.sample (sample_is p ids c.args.sample of is) in
    let count = c.frame_bodies.ensures.answer p here in
    let test = c.if-body-frame_bodies.true in
    sym (body_absent p.pool ids c.args.sample c.args.body (sample_walked p ids c.args.sample of is) (omega (arith, count)))

pub returns-in_default-clause-answer : goal.returns-in_default-clause-answer
returns-in_default-clause-answer g c = λ p m ids may shows of is.
    let none = c.in_default.ensures.answer p m ids may shows of is in
    let sample = may c.args.sample (sample_is p ids c.args.sample of is) in
    let count = c.frame_bodies.ensures.answer p (c.index_id.ensures.narrows p c.args.sample sample) in
    let test = c.if-body-frame_bodies.false in
    body_indexed p.pool ids c.args.sample c.args.body (sample_walked p ids c.args.sample of is) (omega (arith, count)) none

pub returns-clause-answer : goal.returns-clause-answer
returns-clause-answer g c = λ p m ids may shows of is.
    let index = c.in-Some.index in
    let before = λ (s : ℕ) (at : IsOf p s). c.id.ensures.narrows p s (may s at) in
    let named = c.in-Some.ensures.answer p m ids before shows of is in
    let sample = may c.args.sample (sample_is p ids c.args.sample of is) in
    let first = c.index_id.ensures.narrows p c.args.sample (c.id.ensures.narrows p c.args.sample sample) in
    let count = c.frame_bodies.ensures.answer p first in
    let test = c.if-body-frame_bodies.false in
    let here = may index (sample_used p ids index of (index_used ids _ index named)) in
    body_read p.pool ids c.args.sample c.args.body index c.id.result (sample_walked p ids c.args.sample of is)
    (omega (arith, count)) named (c.id.ensures.answer p here)
