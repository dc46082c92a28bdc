use Rattle.std.proofs.Common.{rules}
use Rattle.ft_xmread.specs.Reader.{times}
use Rattle.ft_xmread.specs.Pattern.{cell_spelled_at}
use Rattle.std.proofs.lemmas.Result.{err_from_is_err_and}
use Rattle.ft_xmread.proofs.Loop.{goes_on, fails_on, is_done}
use Rattle.ft_xmread.proofs.pattern.read_cells_in.Goals as goal

pub returns-in_err-cell : goal.returns-in_err-cell
returns-in_err-cell c =
    let p = err_from_is_err_and c.from_residual-in_err-cell.result c.from_residual-in_err-cell.ensures.1 in
    rw (p.1, p.2)
    (fails_on (λ _. cell_spelled_at c.args.number) c.in_err-cell.field-0.0 c.loop.cells.items c.args.count
    c.loop.counter c.loop.reader (times (λ _. cell_spelled_at c.args.number) 0 c.args.count c.args.reader.now)
    c.loop-test.true c.in_err-cell.ensures c.loop.invariant.0)

pub loop-preserved : goal.loop-preserved
loop-preserved c =
    let read = times (λ _. cell_spelled_at c.args.number) 0 c.args.count c.args.reader.now in (
      rw c.push_reserved.ensures.items
          (goes_on (λ _. cell_spelled_at c.args.number) c.loop.cells.items c.args.count c.loop.counter c.loop.reader c.in_ok-cell.cell c.read_cell.new.reader read c.loop-test.true c.in_ok-cell.ensures c.loop.invariant.0),
      search rules,
      search rules,
    )

pub returns : goal.returns
returns c =
    is_done (λ _. cell_spelled_at c.args.number) c.loop.cells.items c.args.count c.loop.counter c.loop.reader
    (times (λ _. cell_spelled_at c.args.number) 0 c.args.count c.args.reader.now) c.loop-test.false c.loop.invariant.0
