use Rattle.std.proofs.Common.{◌≡◌, ℕ, Option, map, is_some, set, ap, sym, ◌∙◌}
use Rattle.std.proofs.lemmas.List.{map-set}
use Rattle.ft_types.specs.declared.kept.Kept.{Kept}
use Rattle.ft_types.specs.Views.{Owned, begun, head_of_owned, keeping}
use Rattle.ft_types.specs.ModuleViews.{owned_in, shown_of, words_kept}
use Rattle.ft_types.specs.ModuleViewLaws as laws
use Rattle.ft_types.proofs.module_view.ModuleViewSongView.start.Goals.{After-head}
use Rattle.ft_types.proofs.module_view.ModuleViewSongView.start.Goals as goal

-- what the channel keeps is what the note begins
begins : (c : After-head) (w : ℕ)
    → owned_in w c.keep-kept.result ≡ begun w c.args.self.now.song.now c.args.instrument c.args.note
begins c w =
    c.keep-kept.ensures.owned w
    ∙ laws.begins w c.args.self.now.song.now c.args.instrument c.args.note c.number-number.result
    c.number-number.ensures

pub returns-clause-shows : goal.returns-clause-shows
returns-clause-shows c = λ w is.
    let song = c.args.self.now.song.now in
    let kept = c.args.self.now.kept.items in (
      tt,
      ap (shown_of w song) c.put.ensures ∙ laws.sets w song kept c.args.channel c.keep-kept.result
          ∙ ap (λ (owned : Option Owned). keeping c.args.channel owned (shown_of w song kept)) (begins c w),
    )

pub returns-clause-value : goal.returns-clause-value
returns-clause-value c =
    λ w is. c.head.ensures.value ∙ laws.any_head 0 w c.keep-kept.result ∙ ap head_of_owned (begins c w)

pub returns-clause-holds : goal.returns-clause-holds
returns-clause-holds c =
    let kept = c.args.self.now.kept.items in
    ap (map (is_some {T = Kept})) c.put.ensures ∙ map-set (is_some {T = Kept}) kept c.args.channel c.keep-kept.result
    ∙ ap (set (map (is_some {T = Kept}) kept) c.args.channel)
    (sym (ap is_some c.head.ensures.value ∙ laws.has_head c.keep-kept.result))

pub returns-clause-words : goal.returns-clause-words
returns-clause-words c =
    let kept = c.args.self.now.kept.items in
    ap (map words_kept) c.put.ensures ∙ map-set words_kept kept c.args.channel c.keep-kept.result
    ∙ ap (set (map words_kept kept) c.args.channel) c.keep-kept.ensures.fresh
