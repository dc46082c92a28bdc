use Rattle.std.proofs.Common.{arith}
use Rattle.ft_channel.proofs.Lines.{line_up, line_down}
use Rattle.ft_channel.proofs.envelope.on_line.Goals as goal

pub returns-then-from-to-clause-value : goal.returns-then-from-to-clause-value
returns-then-from-to-clause-value c =
    rw (c.risen.ensures.value, c.from-start.ensures, c.from.ensures, c.from-gone.ensures, c.from-width.ensures)
    (line_up c.args.from c.args.to c.args.position (omega arith))

pub returns-clause-value : goal.returns-clause-value
returns-clause-value c =
    rw (c.fallen.ensures.value, c.from-start.ensures, c.from-2.ensures, c.from-gone.ensures, c.from-width.ensures)
    (line_down c.args.from c.args.to c.args.position (omega arith) c.requires.before c.requires.begun)
