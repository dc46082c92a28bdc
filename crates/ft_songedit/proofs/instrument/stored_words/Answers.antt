use Rattle.std.proofs.Common.{◌≡◌, ℕ, ap, sym, subst, ◌∙◌}
use Rattle.std.proofs.lemmas.Option.{none-some, same_Some}
use Rattle.std.proofs.lemmas.List.{length-map}
use Rattle.ft_segments.specs.Packing.{word_at}
use Rattle.ft_segments.specs.Walk.{SampleIds, InstrumentIds, IsOf, ids_of}
use Rattle.ft_songedit.proofs.StoredSamples.{root_there, instrument_of_it, samples_small}
use Rattle.ft_songedit.proofs.instrument.stored_words.Goals as goal

pub returns-in-Some-clause-answer : goal.returns-in-Some-clause-answer
returns-in-Some-clause-answer g c = λ p m all shows here x y nx ny.
    let found = c.in-Some.found in
    let before = λ (s : ℕ) (of : IsOf p s). c.segment_words.ensures.narrows p s (all s of) in
    let root : found ≡ y.root =
    same_Some found y.root (c.in-Some.ensures.answer p m before shows here
    ∙ root_there (λ (z : InstrumentIds). z.root) (ids_of p).instruments c.args.at y ny) in
    let of : IsOf p found = subst (λ s. IsOf p s) (sym root) (instrument_of_it p c.args.at y ny) in
    let shown = shows.stands.instruments.each c.args.at x y nx ny in
    record {
      roots_count = length-map y.samples (λ (z : SampleIds). z.root) ∙ shown.each.count;
      small = samples_small p c.args.at y ny;
      words_of = c.an_instrument_has_the_words_of_its_root.ensures.shown p.pool c.segment_words.result x y shown
          (λ k lt. c.segment_words.ensures.answer p (all found of) k lt ∙ ap (λ s. word_at p.pool s k) root);
    }

pub returns-in-None-clause-answer : goal.returns-in-None-clause-answer
returns-in-None-clause-answer g c = λ p m all shows here x y nx ny.
    absurd (none-some y.root (c.in-None.ensures.answer p m all shows here
    ∙ root_there (λ (z : InstrumentIds). z.root) (ids_of p).instruments c.args.at y ny))
