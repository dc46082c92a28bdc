use Rattle.std.proofs.Common.{rules, refl, sym, ap, ◌++◌, ◌∷◌, [], ◌∙◌}
use Rattle.ft_text.specs.Record.{CanBeRefused}
use Rattle.ft_text.proofs.Pushed.{all_pushed}
use Rattle.ft_text.proofs.ManyLines.{one_more, none_more, no_line}
use Rattle.ft_text.proofs.ledger_read.refusals.Goals as goal

pub returns-in_default-2-clause-read : goal.returns-in_default-2-clause-read
returns-in_default-2-clause-read c =
    none_more c.in-Some.next c.in-Some.line.now c.loop-line.invariant.so_far c.in-Some.ensures
    (sym c.in_ok-refusal.ensures.value ∙ c.in_default-2.is)

pub loop-line-preserved : goal.loop-line-preserved
loop-line-preserved c = record {
  so_far = one_more 0 c.in-Some.next c.in-Some.line.now c.in-Some-2.refusal c.refuse.new.self.refusals
      c.loop-line.invariant.so_far c.in-Some.ensures
      (sym c.in_ok-refusal.ensures.value ∙ c.in-Some-2.is) refl
      (c.refuse.ensures.refusals ∙ ap (λ xs. xs ++ c.in-Some-2.refusal ∷ []) c.in_ok-reserve.ensures.refusals);
  others = c.refuse.ensures.entries ∙ c.in_ok-reserve.ensures.entries ∙ c.loop-line.invariant.others;
  given = all_pushed CanBeRefused c.loop-line.journal.refusals c.in-Some-2.refusal c.refuse.new.self.refusals
      (c.refuse.ensures.refusals ∙ ap (λ xs. xs ++ c.in-Some-2.refusal ∷ []) c.in_ok-reserve.ensures.refusals)
      c.loop-line.invariant.given
      (search rules);
}

pub returns-clause-read : goal.returns-clause-read
returns-clause-read c = no_line c.loop-line.invariant.so_far c.in_default.ensures
