use Rattle.std.proofs.Common.{ℕ, List, ap, sym, subst, ◌∙◌}
use Rattle.ft_segments.specs.Packing.{word_at}
use Rattle.ft_segments.specs.Walk.{IsOf, ids_of}
use Rattle.ft_changes.specs.declared.reach.Reach.{Reach}
use Rattle.ft_changes.specs.Reached.{IsReached}
use Rattle.ft_changes.specs.Ids.{ids_after}
use Rattle.ft_edits.specs.Edited.{edited}
use Rattle.ft_sharing.specs.Written.{pattern_roots, instrument_roots}
use Rattle.ft_songedit.proofs.SmallReaches.{small_reach, first_is_root, root_is_of_it}
use Rattle.ft_songedit.proofs.root.write_song_root.Goals as goal

pub returns-clause-written : goal.returns-clause-written
returns-clause-written g c = λ p m all shows here none is count.
    let fresh : List ℕ = c.args.fresh.now in
    let ids = ids_of p in
    let next = edited m c.args.e.now in
    let after = ids_after c.args.reach fresh ids in
    let root_shown =
    c.fill_with.ensures.narrows p c.args.root (all c.args.root (subst (λ s. IsOf p s) here (root_is_of_it p))) in
    let read = c.a_shown_song_has_its_words.ensures.words c.segment_words-made.result p m shows
    (λ k lt. c.segment_words-made.ensures.answer p root_shown k lt ∙ ap (λ s. word_at p.pool s k) (sym here)) in
    let reached = subst (λ (r : Reach). IsReached r m next) (sym is)
    (c.an_edit_changes_what_it_reaches.ensures m c.args.e.now shows.valid none) in
    let valid = c.valid_stays_valid.ensures.edited m c.args.e.now shows.valid c.holds_fields.ensures none in
    let takes = c.what_was_reached_fits.ensures p m next c.args.reach fresh shows reached count in
    let small = small_reach c.args.reach m next shows.valid valid reached in
    let few = c.a_shown_song_has_its_words.ensures.small p in
    let put = c.put_roots.ensures m ids shows.valid takes shows.stands.patterns.count small few.0 few.1 read in
    let made = c.change_song_words.ensures m (pattern_roots after) (instrument_roots after) shows.valid none put in
    λ place lt.
    ap (λ s. word_at (g.F.Fill.written c.fill_with.new.words) s place) (first_is_root c.args.reach fresh ids)
    ∙ c.fill_with.ensures.filled p all place lt
    ∙ c.song_words_are_those_of_the_root.ensures c.change_song_words.new.words next (pattern_roots after) (instrument_roots after) made
    place lt
