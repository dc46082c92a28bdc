use Rattle.std.proofs.Common.{ℕ, List, ap, sym, subst, ◌∙◌}
use Rattle.std.proofs.lemmas.Option.{slice_get-map}
use Rattle.std.specs.Prelude.{option_map}
use Rattle.ft_segments.specs.Packing.{word_at}
use Rattle.ft_segments.specs.Walk.{SampleIds, IsOf, ids_of}
use Rattle.ft_edits.specs.Edited.{edited}
use Rattle.ft_changes.specs.declared.reach.Reach.{Reach}
use Rattle.ft_changes.specs.Reached.{IsReached}
use Rattle.ft_changes.specs.Parts.{index_roots}
use Rattle.ft_changes.specs.Ids.{samples_of, ids_after}
use Rattle.ft_changes.specs.Fits.{TakesFresh}
use Rattle.ft_songedit.specs.Samples.{KeptSampleRootOf}
use Rattle.ft_songedit.proofs.Reached.{WhatOfSample, what_of_sample}
use Rattle.ft_songedit.proofs.KeptSamples.{after_is, kept_sample}
use Rattle.ft_songedit.proofs.sample.write_kept_sample_root.Goals as goal

pub returns-then-fresh-ge3-clause-written : goal.returns-then-fresh-ge3-clause-written
returns-then-fresh-ge3-clause-written g c = λ p m all shows here none is count.
    let fresh : List ℕ = c.args.fresh.now in
    let ids = ids_of p in
    let next = edited m c.args.e.now in
    let at = c.in-Sample.at in
    let s = c.in-Sample.sample in
    let known = sym is ∙ c.in-Sample.is in
    let before = λ (s : ℕ) (of : IsOf p s). c.fill_with.ensures.narrows p s (all s of) in
    let becomes = subst (λ (r : Reach). WhatOfSample r m c.args.e.now next) known (what_of_sample m c.args.e.now) in
    let reached = subst (λ (r : Reach). IsReached r m next) (sym is) (c.an_edit_changes_what_it_reaches.ensures m c.args.e.now shows.valid none) in
    let takes = c.what_was_reached_fits.ensures p m next c.args.reach fresh shows reached count in
    let reached2 = subst (λ (r : Reach). IsReached r m next) c.in-Sample.is reached in
    let takes2 = subst (λ (r : Reach). TakesFresh r fresh ids) c.in-Sample.is takes in
    let made = kept_sample c.stored_sample-made.result c.change_sample_words.new.words m next c.args.e.now fresh ids at s
    shows.valid becomes reached2 takes2
    (λ x i nx ni. (shows.stands.instruments.each at x i nx ni).each.count)
    (c.stored_sample-made.ensures.answer p m before shows here)
    (λ absent. c.stored_sample-made.ensures.new p m before shows here
    (slice_get-map (λ (z : SampleIds). z.root) (samples_of ids at) s ∙ ap (option_map (λ (z : SampleIds). z.root)) absent))
    (λ v is of fits has. c.change_sample_words.ensures.changed m v is of fits none has)
    c.change_sample_words.ensures.others in
    subst (λ (r : Reach). KeptSampleRootOf r (g.F.Fill.written c.fill_with.new.words) next (ids_after r fresh ids)) (sym c.in-Sample.is)
    (λ y q ny nq w r nw nr k lt.
    ap (λ (z : SampleIds). word_at (g.F.Fill.written c.fill_with.new.words) z.root k) (after_is fresh ids at s q r takes2 nq nr)
    ∙ c.fill_with.ensures.filled p all k lt
    ∙ c.a_sample_has_the_words_of_its_root.ensures.words c.change_sample_words.new.words w (index_roots r) k
    (made y q ny nq w r nw nr) lt)
