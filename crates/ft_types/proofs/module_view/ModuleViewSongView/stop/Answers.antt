use Rattle.std.proofs.Common.{None, map, is_some, ap, ◌∙◌}
use Rattle.std.proofs.lemmas.List.{map-set}
use Rattle.ft_types.specs.declared.kept.Kept.{Kept}
use Rattle.ft_types.specs.ModuleViews.{shown_of, words_kept}
use Rattle.ft_types.specs.ModuleViewLaws as laws
use Rattle.ft_types.proofs.module_view.ModuleViewSongView.stop.Goals as goal

pub returns-clause-shows : goal.returns-clause-shows
returns-clause-shows c = λ w is. (
  tt,
  ap (shown_of w c.args.self.now.song.now) c.put.ensures
      ∙ laws.sets w c.args.self.now.song.now c.args.self.now.kept.items c.args.channel None,
)

pub returns-clause-holds : goal.returns-clause-holds
returns-clause-holds c =
    ap (map (is_some {T = Kept})) c.put.ensures
    ∙ map-set (is_some {T = Kept}) c.args.self.now.kept.items c.args.channel None

pub returns-clause-words : goal.returns-clause-words
returns-clause-words c =
    ap (map words_kept) c.put.ensures ∙ map-set words_kept c.args.self.now.kept.items c.args.channel None
