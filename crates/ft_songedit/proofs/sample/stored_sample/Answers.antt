use Rattle.std.proofs.Common.{◌≡◌, ℕ, map, ap, sym, subst, ◌∙◌}
use Rattle.std.specs.List.{slice_get}
use Rattle.std.proofs.lemmas.Option.{none-some, same_Some}
use Rattle.ft_segments.specs.Packing.{word_at}
use Rattle.ft_segments.specs.Walk.{SampleIds, IsOf}
use Rattle.ft_changes.specs.Ids.{samples_if}
use Rattle.ft_songedit.proofs.StoredSamples.{root_there, sample_of_it}
use Rattle.ft_songedit.proofs.sample.stored_sample.Goals as goal

pub returns-in-Some-clause-answer : goal.returns-in-Some-clause-answer
returns-in-Some-clause-answer g c = λ p m all shows here x y nx ny v j nv nj.
    let found = c.in-Some.found in
    let before = λ (s : ℕ) (of : IsOf p s). c.segment_words.ensures.narrows p s (all s of) in
    let root : found ≡ j.root =
    same_Some found j.root (c.in-Some.ensures.answer p m before shows here
    ∙ ap (λ o. slice_get (map (λ (z : SampleIds). z.root) (samples_if o)) c.args.s) ny
    ∙ root_there (λ (z : SampleIds). z.root) y.samples c.args.s j nj) in
    let of : IsOf p found = subst (λ s. IsOf p s) (sym root) (sample_of_it p c.args.at c.args.s y j ny nj) in
    let shown = (shows.stands.instruments.each c.args.at x y nx ny).each.each c.args.s v j nv nj in
    c.a_sample_has_the_words_of_its_root.ensures.shown p.pool c.segment_words.result v j shown
    (λ k lt. c.segment_words.ensures.answer p (all found of) k lt ∙ ap (λ s. word_at p.pool s k) root)

pub returns-in-None-clause-answer : goal.returns-in-None-clause-answer
returns-in-None-clause-answer g c = λ p m all shows here x y nx ny v j nv nj.
    absurd (none-some j.root (c.in-None.ensures.answer p m all shows here
    ∙ ap (λ o. slice_get (map (λ (z : SampleIds). z.root) (samples_if o)) c.args.s) ny
    ∙ root_there (λ (z : SampleIds). z.root) y.samples c.args.s j nj))
