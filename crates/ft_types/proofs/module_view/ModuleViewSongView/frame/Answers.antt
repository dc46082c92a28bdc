use Rattle.std.proofs.Common.{List, Option, ap, ◌∙◌}
use Rattle.std.proofs.Common.{rules, w16}
use Rattle.std.specs.Prelude.{FitsSigned}
use Rattle.std.proofs.lemmas.Int.{to_z-of_z}
use Rattle.ft_types.specs.Views.{Owned}
use Rattle.ft_types.specs.ModuleViewLaws as laws
use Rattle.ft_types.proofs.module_view.ModuleViewSongView.frame.Goals as goal

pub returns-clause-shows : goal.returns-clause-shows
returns-clause-shows c = λ w is. (
  tt,
  ap (λ (kept : List (Option Owned)). record { version = w; song = c.args.self.now.song.now; kept = kept })
      (c.ask.ensures.owned w),
)

pub returns-clause-value : goal.returns-clause-value
returns-clause-value c = λ w is.
    let fits : FitsSigned w16 c.ask.result = search rules in to_z-of_z w16 c.ask.result fits ∙ c.ask.ensures.value w

pub returns-clause-keeps : goal.returns-clause-keeps
returns-clause-keeps c =
    λ d h is. laws.same_heads c.args.self.now.kept.items c.ask.new.slots.items d (c.ask.ensures.owned 0) ∙ is
