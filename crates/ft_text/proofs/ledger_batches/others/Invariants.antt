-- the edits that were put, with those of the parts that are left
use Rattle.std.proofs.Common.{◌≡◌, ◌≤◌, length, All}
use Rattle.std.specs.Option.{option_copied}
use Rattle.ft_types.specs.Edits.{IsGivable}
use Rattle.ft_text.specs.LedgerWords.{each_edit}
use Rattle.ft_text.specs.LedgerAnswers.{parts_left, behind}
use Rattle.ft_text.proofs.ledger_batches.others.Given as goal

abbrev pub decreases-loop-part : goal.decreases-loop-part
decreases-loop-part l = length (parts_left 59 (option_copied l.left))

abbrev pub invariant-loop-part : goal.invariant-loop-part
invariant-loop-part l = record {
  put : behind l.batch (each_edit (parts_left 59 (option_copied l.left)))
      ≡ behind l.initial.batch (each_edit (parts_left 59 (option_copied l.initial.left)));
  few : length l.batch ≤ 16;
  givable : All IsGivable l.batch;
}
