use Rattle.std.proofs.Common.{[], ◌∷◌, ◌++◌, refl, ap, sym, subst, ◌∙◌}
use Rattle.std.specs.Prelude.{set}
use Rattle.std.proofs.lemmas.List.{length_push}
use Rattle.ft_types.specs.declared.edit.Edit.{Edit}
use Rattle.ft_edits.specs.Groups.{group_of}
use Rattle.ft_edits.specs.Instruments.{zero_instrument}
use Rattle.ft_edits.specs.Edited.{edited}
use Rattle.ft_image.specs.Values as values
use Rattle.ft_roots.specs.RootWords.{HasSongWords}
use Rattle.ft_roots.proofs.SongSame.{counts_put}
use Rattle.ft_roots.proofs.PartsAlone.{parts_alone}
use Rattle.ft_roots.proofs.song_change.change_song_words.Goals as goal

pub returns-in-Newins : goal.returns-in-Newins
unfolding values.head_word
returns-in-Newins c = λ m ps is valid none has.
    let new = m.instruments ++ zero_instrument ∷ [] in
    subst (λ (e : Edit). HasSongWords (set c.args.words.now 1 c.with_instrument_more.result) (edited m e) ps is) (sym c.in-Newins.is)
    (counts_put c.args.words.now m (record m { instruments = new }) ps is c.with_instrument_more.result c.told-words
    (c.with_instrument_more.ensures m new valid has.counts (length_push m.instruments zero_instrument))
    refl refl refl refl has)

pub returns-in_default-e : goal.returns-in_default-e
returns-in_default-e c = λ m ps is valid none has.
    parts_alone c.args.words.now m ps is c.args.e.now
    (λ song. let both = c.in-Instruments.ensures ∙ song in absurd cc) c.in_default-e.not-Newins has

pub returns-in_default : goal.returns-in_default
returns-in_default c = λ m ps is valid none has.
    parts_alone c.args.words.now m ps is c.args.e.now
    (λ song. c.in_default.not-Song (c.group_of.ensures ∙ song))
    (λ new. c.in_default.not-Instruments (c.group_of.ensures ∙ ap group_of new)) has
