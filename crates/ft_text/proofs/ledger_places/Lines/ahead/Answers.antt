use Rattle.std.proofs.Common.{◌∙◌, ◌+◌, sym, ap}
use Rattle.ft_text.proofs.Cuts.{some_part}
use Rattle.ft_text.proofs.ledger_places.Lines.ahead.Goals as goal

pub returns-in-None : goal.returns-in-None
returns-in-None c = (c.self.inside.left.now, ap (λ p. p.left) (sym c.self.view_is) ∙ c.in-None.ensures.parts)

pub returns-in-Some : goal.returns-in-Some
returns-in-Some c = record {
  parts = ap (λ p. p.left) (sym c.self.view_is) ∙ c.in-Some.ensures.parts;
  count = ap (λ p. p.at + 1) c.self.view_is;
  more = some_part 10 c.in-Some.left.now;
}
