use Rattle.std.proofs.Common.{rules}
use Rattle.ft_xmwrite.specs.Generate.{drawn_cell, drawn}
use Rattle.ft_xmwrite.proofs.Drawn.{goes_on, is_done}
use Rattle.ft_xmwrite.proofs.generator.pattern.cells.Goals as goal

pub loop-preserved : goal.loop-preserved
loop-preserved c = record {
  front = rw c.push_reserved.ensures.items
      (goes_on drawn_cell (drawn 512 drawn_cell c.args.draws.now) c.loop.cells.items 512 c.loop.counter c.loop.draws c.cell.result c.cell.new.draws c.loop-test.true c.cell.ensures.value c.cell.ensures.state c.loop.invariant.front);
  len = search rules;
  room = search rules;
}

pub returns-clause-value : goal.returns-clause-value
returns-clause-value c =
    (is_done drawn_cell (drawn 512 drawn_cell c.args.draws.now) c.loop.cells.items 512 c.loop.counter c.loop.draws c.loop-test.false c.loop.invariant.front).0

pub returns-clause-state : goal.returns-clause-state
returns-clause-state c =
    (is_done drawn_cell (drawn 512 drawn_cell c.args.draws.now) c.loop.cells.items 512 c.loop.counter c.loop.draws c.loop-test.false c.loop.invariant.front).1
