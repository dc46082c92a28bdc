use Rattle.std.proofs.Common.{rules, ◌≡◌, false, replicate, arith}
use Rattle.ft_retire.specs.Lives.{never, born_at}
use Rattle.ft_retire.proofs.Counting.{counted_anew}
use Rattle.ft_retire.proofs.Opening.{opened_many}
use Rattle.ft_retire.proofs.births.Births.open.Goals as goal

pub invariant_of-result : goal.invariant_of-result
invariant_of-result c =
    let unmarked : c.in_ok-marks.marks.items ≡ replicate c.args.segments false = search rules in
    counted_anew c.in_ok-lives.lives.items c.in_ok-marks.marks.items c.args.segments _
    (opened_many c.args.live c.args.segments (born_at c.args.version) never c.in_ok-lives.lives.items c.requires.live
    c.in_ok-lives.ensures) (omega arith) c.from-2.ensures unmarked
