use Rattle.std.proofs.Common.{◌∙◌, true, sym, arith}
use Rattle.std.proofs.lemmas.List.{ext_get_or}
use Rattle.ft_retire.specs.Lives.{never}
use Rattle.ft_retire.specs.Marks.{keep_living}
use Rattle.ft_retire.proofs.Living.{living_many, living_at}
use Rattle.ft_retire.proofs.marks.mark_living.Goals as goal

pub returns-clause-marks : goal.returns-clause-marks
returns-clause-marks c =
    let many = c.loop-k.invariant.many in
    let version = c.args.version in
    let lives = c.args.segments.now in
    let old = c.args.marks.now in
    ext_get_or true c.loop-k.marks (keep_living version lives old)
    (many ∙ sym (living_many version lives old))
    (λ k lt. c.loop-k.invariant.before k (omega (arith, lt, many))
    ∙ sym (living_at version lives old k never true c.requires.many (omega (arith, lt, many))))
