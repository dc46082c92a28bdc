use Rattle.std.proofs.Common.{◌∙◌, ◌/◌, ◌%◌, ℕ, ap}
use Rattle.ft_segments.specs.Packing.{id_at}
use Rattle.ft_image.proofs.Samples.{root_used, sample_found, index_used}
use Rattle.ft_image.proofs.sample_reading.body_of_frame.Goals as goal

pub returns-clause-answer : goal.returns-clause-answer
returns-clause-answer g c = λ p m x may shows of lt.
    let root = c.args.sample in
    let place = c.args.place in
    let sample = sample_found p m root x shows of in
    let used = root_used p root in
    let here = may root (sample.within root used) used in
    let index = c.id-index.ensures.answer p (c.id.ensures.narrows p root here) in
    let one = index_used p x root place c.id-index.result sample lt index in
    c.id.ensures.answer p (may c.id-index.result (sample.within c.id-index.result one) one)
    ∙ ap (λ (i : ℕ). id_at p.pool i 0 (place / 1024 % 1024)) index
