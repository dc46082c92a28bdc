use Rattle.std.proofs.Common.{◌≡◌, ◌+◌, map, take, length, sum_by}
use Rattle.ft_types.specs.Blocks.{pattern_blocks}
use Rattle.ft_segments.specs.Walk.{PatternIds}
use Rattle.ft_image.specs.Shown.{Pairwise, ShowsPattern}
use Rattle.ft_image.specs.Laid.{Keeps, laid, pattern_laid}
use Rattle.ft_image.proofs.pattern_placing.place_patterns.Given as goal

abbrev pub invariant-loop-pattern : goal.invariant-loop-pattern
invariant-loop-pattern l = record {
  long : length l.words ≡ length l.fn.words;
  next : l.next ≡ l.from + sum_by (pattern_blocks l.channels) (take l.pattern-index l.patterns);
  kept : Keeps 0 l.from l.fn.words l.words;
  roots : l.roots.items ≡ map (λ (ids : PatternIds). ids.root)
      (laid (pattern_blocks l.channels) (pattern_laid l.channels) l.from (take l.pattern-index l.patterns));
  shown : Pairwise (ShowsPattern l.words l.channels) (take l.pattern-index l.patterns)
      (laid (pattern_blocks l.channels) (pattern_laid l.channels) l.from (take l.pattern-index l.patterns));
}
