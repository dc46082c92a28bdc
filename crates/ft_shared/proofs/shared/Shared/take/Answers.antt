use Rattle.std.proofs.Common.{rules, ap, ◌∙◌}
use Rattle.ft_shared.proofs.Readers.{takes}
use Rattle.ft_shared.proofs.shared.Shared.take.Goals as goal

pub fetch_add-word-requires : goal.fetch_add-word-requires
fetch_add-word-requires g c = (
  search rules,
  search rules,
  takes c.self.inside.words.table.shared.key _ _ _
      (ap (λ m. m.0) c.pass.invariant.seat) (ap (λ p. p.notes.held) c.pass.view_is ∙ c.requires.free),
)
