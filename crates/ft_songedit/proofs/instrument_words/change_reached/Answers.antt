use Rattle.std.proofs.Common.{ℕ, List, refl, sym, subst, ◌∙◌, arith}
use Rattle.std.specs.Prelude.{slice_index}
use Rattle.std.proofs.lemmas.Option.{slice_get_within}
use Rattle.ft_segments.specs.Walk.{SampleIds}
use Rattle.ft_edits.specs.Edited.{edited}
use Rattle.ft_changes.specs.declared.reach.Reach.{Reach}
use Rattle.ft_changes.specs.declared.reach.Reach.TheVariants as reaches
use Rattle.ft_changes.specs.Reached.{IsReached}
use Rattle.ft_changes.specs.Ids.{indexes_at, indexes_after}
use Rattle.ft_changes.specs.Fits.{TakesFresh}
use Rattle.ft_songedit.proofs.Reached.{WhatBecomes, what_becomes}
use Rattle.ft_songedit.proofs.Arms.{at_reach, instrument_arm, bare_arm, last_arm, sample_arm}
use Rattle.ft_songedit.proofs.instrument_words.change_reached.Goals as goal

pub returns-in-Instrument : goal.returns-in-Instrument
returns-in-Instrument c = λ m ids at place valid none is takes stored.
    let fresh : List ℕ = c.args.fresh.now in
    let next = edited m c.args.e.now in
    let known : Reach = reaches.Instrument c.in-Instrument.at in
    let becomes = subst (λ (r : Reach). WhatBecomes r m c.args.e.now next) (sym is ∙ c.in-Instrument.is) (what_becomes m c.args.e.now) in
    let reached = subst (λ (r : Reach). IsReached r m next) (sym is ∙ c.in-Instrument.is)
    (c.an_edit_changes_what_it_reaches.ensures m c.args.e.now valid none) in
    let takes2 = subst (λ (r : Reach). TakesFresh r fresh ids) c.in-Instrument.is takes in
    at_reach c.args.reach known c.in-Instrument.at at c.args.words.now c.change_instrument_words.new.words m next fresh ids
    c.in-Instrument.is place refl stored
    (instrument_arm c.args.words.now c.change_instrument_words.new.words m next c.args.e.now fresh ids c.in-Instrument.at valid becomes reached takes2
    (λ x is alone fits has. c.change_instrument_words.ensures.changed m x is alone fits none has))

pub returns-in-Bare : goal.returns-in-Bare
returns-in-Bare c = λ m ids at place valid none is takes stored.
    let fresh : List ℕ = c.args.fresh.now in
    let next = edited m c.args.e.now in
    let known : Reach = reaches.Bare c.in-Bare.at in
    let becomes = subst (λ (r : Reach). WhatBecomes r m c.args.e.now next) (sym is ∙ c.in-Bare.is) (what_becomes m c.args.e.now) in
    let reached = subst (λ (r : Reach). IsReached r m next) (sym is ∙ c.in-Bare.is)
    (c.an_edit_changes_what_it_reaches.ensures m c.args.e.now valid none) in
    let takes2 = subst (λ (r : Reach). TakesFresh r fresh ids) c.in-Bare.is takes in
    at_reach c.args.reach known c.in-Bare.at at c.args.words.now c.bare_words.result m next fresh ids
    c.in-Bare.is place refl stored
    (bare_arm c.args.words.now c.bare_words.result m next c.args.e.now fresh ids c.in-Bare.at becomes takes2 c.bare_words.ensures)

pub returns-in-LastSample : goal.returns-in-LastSample
returns-in-LastSample c = λ m ids at place valid none is takes stored.
    let fresh : List ℕ = c.args.fresh.now in
    let next = edited m c.args.e.now in
    let known : Reach = reaches.LastSample c.in-LastSample.at in
    let becomes = subst (λ (r : Reach). WhatBecomes r m c.args.e.now next) (sym is ∙ c.in-LastSample.is) (what_becomes m c.args.e.now) in
    let reached = subst (λ (r : Reach). IsReached r m next) (sym is ∙ c.in-LastSample.is)
    (c.an_edit_changes_what_it_reaches.ensures m c.args.e.now valid none) in
    let takes2 = subst (λ (r : Reach). TakesFresh r fresh ids) c.in-LastSample.is takes in
    at_reach c.args.reach known c.in-LastSample.at at c.args.words.now c.drop_last_sample.new.words m next fresh ids
    c.in-LastSample.is place refl stored
    (last_arm c.args.words.now c.drop_last_sample.new.words m next c.args.e.now fresh ids c.in-LastSample.at valid becomes reached takes2
    c.drop_last_sample.ensures)

pub returns-in-Sample : goal.returns-in-Sample
returns-in-Sample c = λ m ids at place valid none is takes stored.
    let fresh : List ℕ = c.args.fresh.now in
    let next = edited m c.args.e.now in
    let known : Reach = reaches.Sample c.in-Sample.at c.in-Sample.sample in
    let becomes = subst (λ (r : Reach). WhatBecomes r m c.args.e.now next) (sym is ∙ c.in-Sample.is) (what_becomes m c.args.e.now) in
    let reached = subst (λ (r : Reach). IsReached r m next) (sym is ∙ c.in-Sample.is)
    (c.an_edit_changes_what_it_reaches.ensures m c.args.e.now valid none) in
    let takes2 = subst (λ (r : Reach). TakesFresh r fresh ids) c.in-Sample.is takes in
    let next_valid = c.valid_stays_valid.ensures.edited m c.args.e.now valid c.holds_fields.ensures none in
    let z : SampleIds = record { root = slice_index fresh 2; indexes = indexes_at ids c.in-Sample.at c.in-Sample.sample } in
    at_reach c.args.reach known c.in-Sample.at at c.args.words.now c.put_fresh_sample.new.words m next fresh ids
    c.in-Sample.is place refl stored
    (sample_arm c.args.words.now c.put_fresh_sample.new.words m next fresh ids c.in-Sample.at c.in-Sample.sample
    reached.before reached.after takes2.there.instrument reached.made.after z valid next_valid reached.there takes2.there.there
    reached.all.instruments reached.made.all reached.made.there becomes refl (omega (arith, takes2.count)) c.put_fresh_sample.ensures)

pub returns-in-Frames : goal.returns-in-Frames
returns-in-Frames c = λ m ids at place valid none is takes stored.
    let fresh : List ℕ = c.args.fresh.now in
    let next = edited m c.args.e.now in
    let known : Reach = reaches.Frames c.in-Frames.at c.in-Frames.sample c.in-Frames.first c.in-Frames.last c.in-Frames.gone in
    let becomes = subst (λ (r : Reach). WhatBecomes r m c.args.e.now next) (sym is ∙ c.in-Frames.is) (what_becomes m c.args.e.now) in
    let reached = subst (λ (r : Reach). IsReached r m next) (sym is ∙ c.in-Frames.is)
    (c.an_edit_changes_what_it_reaches.ensures m c.args.e.now valid none) in
    let takes2 = subst (λ (r : Reach). TakesFresh r fresh ids) c.in-Frames.is takes in
    let next_valid = c.valid_stays_valid.ensures.edited m c.args.e.now valid c.holds_fields.ensures none in
    let z : SampleIds = record {
      root = slice_index fresh 2;
      indexes = indexes_after c.in-Frames.first c.in-Frames.last c.in-Frames.gone fresh (indexes_at ids c.in-Frames.at c.in-Frames.sample);
    } in
    let within = slice_get_within reached.before.samples c.in-Frames.sample reached.made.before reached.made.there in
    at_reach c.args.reach known c.in-Frames.at at c.args.words.now c.put_fresh_sample-in-Frames.new.words m next fresh ids
    c.in-Frames.is place refl stored
    (sample_arm c.args.words.now c.put_fresh_sample-in-Frames.new.words m next fresh ids c.in-Frames.at c.in-Frames.sample
    reached.before reached.after takes2.there.instrument reached.made.after z valid next_valid reached.there takes2.there.there
    reached.all.instruments reached.made.all (omega (arith, within)) becomes refl (omega (arith, takes2.count))
    c.put_fresh_sample-in-Frames.ensures)
