use Rattle.std.proofs.Common.{sym, ◌∙◌, arith}
use Rattle.ft_lines.proofs.Skipped.{blank_line, says_something}
use Rattle.ft_lines.proofs.read.begin.Goals as goal

pub returns-then-is_over-clause-none : goal.returns-then-is_over-clause-none
returns-then-is_over-clause-none c =
    let over = rw c.new-cursor.ensures at (sym c.is_over.ensures ∙ c.if-is_over.true) in
    blank_line c.args.line.now (omega arith) over

pub returns-clause-none : goal.returns-clause-none
returns-clause-none c =
    let over = rw c.new-cursor.ensures at (sym c.is_over.ensures ∙ c.if-is_over.false) in
    says_something c.args.line.now (sym c.is_comment.ensures ∙ c.if-is_comment.false) over
