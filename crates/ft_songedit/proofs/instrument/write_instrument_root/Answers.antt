use Rattle.std.proofs.Common.{◌≡◌, ℕ, List, ap, sym, subst, ◌∙◌}
use Rattle.std.proofs.lemmas.Option.{same_Some}
use Rattle.ft_segments.specs.Packing.{word_at}
use Rattle.ft_segments.specs.Walk.{IsOf, ids_of}
use Rattle.ft_edits.specs.Edited.{edited}
use Rattle.ft_changes.specs.declared.reach.Reach.{Reach}
use Rattle.ft_changes.specs.Reached.{IsReached}
use Rattle.ft_sharing.specs.Written.{AtPlace, sample_roots}
use Rattle.ft_songedit.specs.Instruments.{HasStored}
use Rattle.ft_songedit.proofs.Arms.{second_is_root}
use Rattle.ft_songedit.proofs.instrument.write_instrument_root.Goals as goal

pub returns-then-fresh-ge2-clause-written : goal.returns-then-fresh-ge2-clause-written
returns-then-fresh-ge2-clause-written g c = λ p m all shows here none is count at place x y nx ny.
    let fresh : List ℕ = c.args.fresh.now in
    let ids = ids_of p in
    let next = edited m c.args.e.now in
    let known : c.in-Some.at ≡ at = same_Some c.in-Some.at at (c.in-Some.ensures ∙ place) in
    let before = λ (s : ℕ) (of : IsOf p s). c.fill_with.ensures.narrows p s (all s of) in
    let stored = c.stored_words-made.ensures.answer p m before shows here in
    let reached = subst (λ (r : Reach). IsReached r m next) (sym is) (c.an_edit_changes_what_it_reaches.ensures m c.args.e.now shows.valid none) in
    let takes = c.what_was_reached_fits.ensures p m next c.args.reach fresh shows reached count in
    let made = c.change_reached.ensures m ids at place shows.valid none is takes
    (subst (λ n. AtPlace n (HasStored c.stored_words-made.result) m.instruments ids.instruments) known stored) x y nx ny in
    λ k lt.
    ap (λ s. word_at (g.F.Fill.written c.fill_with.new.words) s k) (second_is_root c.args.reach fresh ids at y takes.there place ny)
    ∙ c.fill_with.ensures.filled p all k lt
    ∙ c.an_instrument_has_the_words_of_its_root.ensures.words c.change_reached.new.words x (sample_roots y) k made lt
