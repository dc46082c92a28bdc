use Rattle.std.proofs.Common.{◌+◌, ◌∙◌, Bool, true, false, not, length, get_or, set, ap, sym, arith}
use Rattle.std.proofs.lemmas.List.{get_or-replicate}
use Rattle.std.specs.Int.{from_bool}
use Rattle.ft_retire.specs.Lives.{never, lives_at}
use Rattle.ft_retire.specs.Marks.{unmarked_in}
use Rattle.ft_retire.proofs.Marking.{one_marked, all_marked, none_unmarked, no_marks}
use Rattle.ft_retire.proofs.Living.{living_at, or_true}
use Rattle.ft_retire.proofs.laws.marks_law.Goals as goal

pub returns-clause-forgotten : goal.returns-clause-forgotten
returns-clause-forgotten c = λ n. ((λ s lt. get_or-replicate n s false true lt), no_marks n)

pub returns-clause-count : goal.returns-clause-count
returns-clause-count c = λ marks. (
  (λ none s lt. none_unmarked marks s none),
  λ all. all_marked marks (length marks) (omega arith) all,
)

pub returns-clause-kept : goal.returns-clause-kept
returns-clause-kept c = λ version lives marks s many lt.
    let here = living_at version lives marks s never true many lt in
    let told = or_true (get_or marks s true) (lives_at (get_or lives s never) version) in (
      (λ e. told.0 (sym here ∙ e)),
      λ either. here ∙ told.1 either,
    )

pub returns-clause-less : goal.returns-clause-less
returns-clause-less c = λ marks s lt e.
    ap (λ (b : Bool). unmarked_in (set marks s true) + from_bool (not b)) (sym e) ∙ one_marked marks s true lt
