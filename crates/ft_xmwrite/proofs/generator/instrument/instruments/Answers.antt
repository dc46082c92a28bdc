use Rattle.std.proofs.Common.{rules, ◌∙◌}
use Rattle.ft_xmwrite.specs.Generate.{drawn_instrument, drawn}
use Rattle.ft_xmwrite.proofs.Drawn.{goes_on, is_done}
use Rattle.ft_xmwrite.proofs.generator.instrument.instruments.Goals as goal

pub loop-preserved : goal.loop-preserved
loop-preserved c = record {
  front = rw c.push_reserved.ensures.items
      (goes_on drawn_instrument (drawn 16 drawn_instrument c.args.draws.now) c.loop.instruments.items 16 c.loop.counter c.loop.draws c.in_ok-instrument.instrument c.instrument.new.draws c.loop-test.true c.in_ok-instrument.ensures.value c.in_ok-instrument.ensures.state c.loop.invariant.front);
  len = search rules;
  room = search rules;
}

pub returns : goal.returns
returns c =
    c.from_vec.ensures
    ∙ (is_done drawn_instrument (drawn 16 drawn_instrument c.args.draws.now) c.loop.instruments.items 16 c.loop.counter c.loop.draws c.loop-test.false c.loop.invariant.front).0
