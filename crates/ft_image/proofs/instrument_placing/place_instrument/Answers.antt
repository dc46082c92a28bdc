use Rattle.std.proofs.Common.{◌+◌, ℕ, List, map, ap, subst, ◌∙◌, arith}
use Rattle.ft_types.specs.declared.sample.Sample.{Sample}
use Rattle.ft_types.specs.Blocks.{sample_blocks}
use Rattle.ft_segments.specs.Walk.{SampleIds}
use Rattle.ft_image.specs.Laid.{laid, sample_laid, instrument_root_word}
use Rattle.ft_image.specs.Shown.{Pairwise, ShowsSample}
use Rattle.ft_image.proofs.Laying.{laid_stays}
use Rattle.ft_image.proofs.Roots.{instrument_filled}
use Rattle.ft_image.proofs.Stays.{sample_stays}
use Rattle.ft_image.proofs.instrument_placing.place_instrument.Goals as goal

pub returns-clause-shown : goal.returns-clause-shown
returns-clause-shown c =
    let x = c.args.instrument.now in
    let n = c.args.from in
    let samples = c.as_slice.ensures in
    let shown = subst (λ (all : List Sample). Pairwise (ShowsSample c.place_samples-next.new.words) all (laid sample_blocks sample_laid
    (n + 1) all))
    samples c.place_samples-next.ensures.shown in
    instrument_filled c.fill.new.words n x
    (λ j lt.
    c.fill.ensures.filled j lt
    ∙ ap (λ (ids : List ℕ). instrument_root_word x ids j) (c.as_slice-2.ensures.value ∙ c.place_samples-next.ensures.roots
    ∙ ap (λ (all : List Sample). map (λ (ids : SampleIds). ids.root) (laid sample_blocks sample_laid (n + 1) all)) samples))
    (laid_stays sample_blocks sample_laid ShowsSample sample_stays c.place_samples-next.new.words c.fill.new.words (n + 1) x.samples
    (λ s j low high lt. c.fill.ensures.others s j (omega arith) lt) shown)
