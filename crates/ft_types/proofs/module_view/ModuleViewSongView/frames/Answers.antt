use Rattle.std.proofs.Common.{List, Option, ap, ◌∙◌}
use Rattle.ft_types.specs.Views.{Owned}
use Rattle.ft_types.specs.ModuleViewLaws as laws
use Rattle.ft_types.proofs.module_view.ModuleViewSongView.frames.Goals as goal

pub returns-clause-shows : goal.returns-clause-shows
returns-clause-shows c = λ w is. (
  tt,
  ap (λ (kept : List (Option Owned)). record { version = w; song = c.args.self.now.song.now; kept = kept })
      (c.ask_all.ensures.owned w),
)

pub returns-clause-keeps : goal.returns-clause-keeps
returns-clause-keeps c =
    λ d h is. laws.same_heads c.args.self.now.kept.items c.ask_all.new.slots.items d (c.ask_all.ensures.owned 0) ∙ is
