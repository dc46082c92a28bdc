use Rattle.std.proofs.Common.{◌∙◌, sym, ap}
use Rattle.ft_text.specs.LedgerReading.{is_end}
use Rattle.ft_text.proofs.Cuts.{not_at_end}
use Rattle.ft_text.proofs.ledger_places.Lines.over.Goals as goal

pub returns-else-is_empty : goal.returns-else-is_empty
returns-else-is_empty c = (
  ap (λ p. is_end p.left) (sym c.self.view_is) ∙ not_at_end c.self.inside.left.now (sym c.is_empty.ensures ∙ c.if-is_empty.false),
  c.wrong.ensures,
)
