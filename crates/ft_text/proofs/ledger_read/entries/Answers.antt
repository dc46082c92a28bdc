use Rattle.std.proofs.Common.{rules, refl, sym, ap, ◌++◌, ◌∷◌, [], ◌∙◌}
use Rattle.ft_text.specs.Record.{CanBeEntered}
use Rattle.ft_text.proofs.Pushed.{all_pushed}
use Rattle.ft_text.proofs.ManyLines.{one_more, none_more, no_line}
use Rattle.ft_text.proofs.ledger_read.entries.Goals as goal

pub returns-in_default-2-clause-read : goal.returns-in_default-2-clause-read
returns-in_default-2-clause-read c =
    none_more c.in-Some.next c.in-Some.line.now c.loop-line.invariant.so_far c.in-Some.ensures
    (sym c.in_ok-entry.ensures.value ∙ c.in_default-2.is)

pub loop-line-preserved : goal.loop-line-preserved
loop-line-preserved c = record {
  so_far = one_more 0 c.in-Some.next c.in-Some.line.now c.in-Some-2.entry c.enter.new.self.entries
      c.loop-line.invariant.so_far c.in-Some.ensures
      (sym c.in_ok-entry.ensures.value ∙ c.in-Some-2.is) refl
      (c.enter.ensures.entries ∙ ap (λ xs. xs ++ c.in-Some-2.entry ∷ []) c.in_ok-reserve.ensures.entries);
  others = c.enter.ensures.refusals ∙ c.in_ok-reserve.ensures.refusals ∙ c.loop-line.invariant.others;
  given = all_pushed CanBeEntered c.loop-line.journal.entries c.in-Some-2.entry c.enter.new.self.entries
      (c.enter.ensures.entries ∙ ap (λ xs. xs ++ c.in-Some-2.entry ∷ []) c.in_ok-reserve.ensures.entries)
      c.loop-line.invariant.given
      (search rules);
}

pub returns-clause-read : goal.returns-clause-read
returns-clause-read c = no_line c.loop-line.invariant.so_far c.in_default.ensures
