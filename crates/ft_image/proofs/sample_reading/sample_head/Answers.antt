use Rattle.std.proofs.Common.{◌≡◌, ◌∙◌, ℕ, ap, sym}
use Rattle.ft_segments.specs.Packing.{word_at}
use Rattle.ft_image.proofs.Walked.{sample_walk_root}
use Rattle.ft_image.proofs.Samples.{root_used, sample_found}
use Rattle.ft_image.proofs.sample_reading.sample_head.Goals as goal

pub returns-clause-answer : goal.returns-clause-answer
returns-clause-answer g c = λ p m x may shows of.
    let root = c.args.sample in
    let sample = sample_found p m root x shows of in
    let used = root_used p root in
    let here = may root (sample.within root used) used in
    let before = c.word-tuning.ensures.narrows p root here in
    let first = c.word-loops.ensures.narrows p root before in
    let at : (k : ℕ) → word_at p.pool root k ≡ _ = λ k. ap (λ (r : ℕ). word_at p.pool r k) (sym (sample_walk_root p.pool root)) in
    c.sample_head_from.ensures x sample.valid
    (c.word-lengths.ensures.answer p first ∙ at 0 ∙ sample.shown.lengths)
    (c.word-loops.ensures.answer p before ∙ at 1 ∙ sample.shown.loops)
    (c.word-tuning.ensures.answer p here ∙ at 2 ∙ sample.shown.tuning)
