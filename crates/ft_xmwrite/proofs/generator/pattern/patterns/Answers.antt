use Rattle.std.proofs.Common.{rules, ◌∙◌}
use Rattle.ft_xmwrite.specs.Generate.{drawn_pattern, drawn}
use Rattle.ft_xmwrite.proofs.Drawn.{goes_on, is_done}
use Rattle.ft_xmwrite.proofs.generator.pattern.patterns.Goals as goal

pub loop-preserved : goal.loop-preserved
loop-preserved c = record {
  front = rw c.push_reserved.ensures.items
      (goes_on drawn_pattern (drawn 40 drawn_pattern c.args.draws.now) c.loop.patterns.items 40 c.loop.counter c.loop.draws c.in_ok-pattern.pattern c.pattern.new.draws c.loop-test.true c.in_ok-pattern.ensures.value c.in_ok-pattern.ensures.state c.loop.invariant.front);
  len = search rules;
  room = search rules;
}

pub returns-clause-value : goal.returns-clause-value
returns-clause-value c =
    c.from_vec.ensures
    ∙ (is_done drawn_pattern (drawn 40 drawn_pattern c.args.draws.now) c.loop.patterns.items 40 c.loop.counter c.loop.draws c.loop-test.false c.loop.invariant.front).0

pub returns-clause-state : goal.returns-clause-state
returns-clause-state c =
    (is_done drawn_pattern (drawn 40 drawn_pattern c.args.draws.now) c.loop.patterns.items 40 c.loop.counter c.loop.draws c.loop-test.false c.loop.invariant.front).1
