use Rattle.std.proofs.Common.{ℕ, ◌+◌, arith}
use Rattle.ft_segments.specs.Walk.{IsOf, ids_of}
use Rattle.ft_changes.specs.Ids.{samples_of}
use Rattle.ft_changes.specs.Parts.{sample_segments}
use Rattle.ft_placed.proofs.OfSamples.{few_samples}
use Rattle.ft_placed.proofs.InInstruments.{length_from, length_left}
use Rattle.ft_placed.proofs.instrument_segments.size_of_samples.Goals as goal

pub loop-s-preserved : goal.loop-s-preserved
loop-s-preserved g c = record {
  narrows = λ p s may. c.loop-s.invariant.narrows p s (c.size_of_sample-size.ensures.narrows p s may);
  answer = λ p m may shows is.
      let xs = samples_of (ids_of p) c.args.at in
      let before = λ (s : ℕ) (of : IsOf p s). c.size_of_sample-size.ensures.narrows p s (may s of) in
      let size = c.size_of_sample-size.ensures.answer p m may shows is in
      let so_far = c.loop-s.invariant.answer p m before shows is in
      let next = length_from sample_segments xs c.loop-s.s (c.loop-s.s + 1) (omega arith) in
      omega (arith, size, so_far, next);
  few = let few = c.loop-s.invariant.few in let one = c.size_of_sample-size.ensures.few in omega (arith, few, one);
  same = g.met.V.WordView.same_through c.args.view.now c.loop-s.view c.size_of_sample-size.new.view c.loop-s.invariant.same
      c.size_of_sample-size.ensures.same;
}

pub returns-clause-answer : goal.returns-clause-answer
returns-clause-answer g c = λ p m may shows is.
    let xs = samples_of (ids_of p) c.args.at in
    let few = few_samples p m c.args.at shows in
    let test = c.loop-s-test.false in
    let all = c.loop-s.invariant.answer p m may shows is in
    let none = length_left sample_segments xs c.loop-s.s (omega (arith, few)) in
    omega (arith, all, none)
