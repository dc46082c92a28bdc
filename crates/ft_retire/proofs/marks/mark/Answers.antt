use Rattle.std.proofs.Common.{◌+◌, ℕ, true, set, ap, ◌∙◌}
use Rattle.ft_retire.specs.Marks.{unmarked_in}
use Rattle.ft_retire.proofs.Marking.{one_marked}
use Rattle.ft_retire.proofs.marks.mark.Goals as goal

pub returns-clause-count : goal.returns-clause-count
returns-clause-count c =
    ap (λ (n : ℕ). unmarked_in (set c.args.marks.now c.args.segment true) + n) c.from.ensures
    ∙ one_marked c.args.marks.now c.args.segment _ c.requires.within
