use Rattle.std.proofs.Common.{ℕ, ◌+◌, ◌-◌, sym, ◌∙◌, arith}
use Rattle.ft_segments.specs.Walk.{IsOf, ids_of}
use Rattle.ft_changes.specs.Ids.{samples_of}
use Rattle.ft_changes.specs.Parts.{sample_segments}
use Rattle.ft_placed.proofs.OfSamples.{few_samples}
use Rattle.ft_placed.proofs.InInstruments.{at_sample, past_sample, none_left}
use Rattle.ft_placed.proofs.instrument_segments.segment_of_samples.Goals as goal

pub returns-then-rest-size-clause-answer : goal.returns-then-rest-size-clause-answer
returns-then-rest-size-clause-answer g c = λ p m may shows is.
    let xs = samples_of (ids_of p) c.args.at in
    let at_size = λ (s : ℕ) (of : IsOf p s). c.segment_of_sample.ensures.narrows p s (may s of) in
    let before = λ (s : ℕ) (of : IsOf p s). c.size_of_sample-size.ensures.narrows p s (at_size s of) in
    let size = c.size_of_sample-size.ensures.answer p m at_size shows is in
    let test = c.if-rest-size.true in
    c.segment_of_sample.ensures.answer p m may shows is
    ∙ sym (c.loop-s.invariant.answer p m before shows is
    ∙ at_sample sample_segments xs c.loop-s.s c.loop-s.rest (omega (arith, size)))

pub loop-s-preserved : goal.loop-s-preserved
loop-s-preserved g c = record {
  narrows = λ p s may. c.loop-s.invariant.narrows p s (c.size_of_sample-size.ensures.narrows p s may);
  answer = λ p m may shows is.
      let xs = samples_of (ids_of p) c.args.at in
      let before = λ (s : ℕ) (of : IsOf p s). c.size_of_sample-size.ensures.narrows p s (may s of) in
      let size = c.size_of_sample-size.ensures.answer p m may shows is in
      let test = c.if-rest-size.false in
      c.loop-s.invariant.answer p m before shows is
      ∙ past_sample sample_segments xs c.loop-s.s (c.loop-s.s + 1) c.loop-s.rest (c.loop-s.rest - c.size_of_sample-size.result)
      (omega arith) (omega (arith, size));
  same = g.met.V.WordView.same_through c.args.view.now c.loop-s.view c.size_of_sample-size.new.view c.loop-s.invariant.same
      c.size_of_sample-size.ensures.same;
}

pub returns-clause-answer : goal.returns-clause-answer
returns-clause-answer g c = λ p m may shows is.
    let xs = samples_of (ids_of p) c.args.at in
    let few = few_samples p m c.args.at shows in
    let test = c.loop-s-test.false in
    sym (c.loop-s.invariant.answer p m may shows is
    ∙ none_left sample_segments xs c.loop-s.s c.loop-s.rest (omega (arith, few)))
