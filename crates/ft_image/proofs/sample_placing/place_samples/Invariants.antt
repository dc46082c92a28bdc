use Rattle.std.proofs.Common.{◌≡◌, ◌+◌, map, take, length, sum_by}
use Rattle.ft_types.specs.Blocks.{sample_blocks}
use Rattle.ft_segments.specs.Walk.{SampleIds}
use Rattle.ft_image.specs.Shown.{Pairwise, ShowsSample}
use Rattle.ft_image.specs.Laid.{Keeps, laid, sample_laid}
use Rattle.ft_image.proofs.sample_placing.place_samples.Given as goal

abbrev pub invariant-loop-sample : goal.invariant-loop-sample
invariant-loop-sample l = record {
  long : length l.words ≡ length l.fn.words;
  next : l.next ≡ l.from + sum_by sample_blocks (take l.sample-index l.samples);
  kept : Keeps 0 l.from l.fn.words l.words;
  roots : l.roots.items ≡ map (λ (ids : SampleIds). ids.root) (laid sample_blocks sample_laid l.from (take l.sample-index l.samples));
  shown : Pairwise (ShowsSample l.words) (take l.sample-index l.samples) (laid sample_blocks sample_laid l.from
      (take l.sample-index l.samples));
}
