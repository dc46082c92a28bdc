use Rattle.std.proofs.Common.{pos, arith}
use Rattle.ft_smpedit.specs.Sources.{frame_changed}
use Rattle.ft_smpedit.proofs.Places.{mapped_inside}
use Rattle.ft_smpedit.proofs.source.source_of_stretch.Goals as goal

pub returns-then-i-to-clause-frame : goal.returns-then-i-to-clause-frame
returns-then-i-to-clause-frame c = λ e wide frames up le.
    mapped_inside frames (frame_changed e wide) c.args.from c.args.to c.args.i (pos 0) up le (omega arith) (omega arith)
