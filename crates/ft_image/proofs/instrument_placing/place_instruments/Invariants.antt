use Rattle.std.proofs.Common.{◌≡◌, ◌+◌, map, take, length, sum_by}
use Rattle.ft_types.specs.Blocks.{instrument_blocks}
use Rattle.ft_segments.specs.Walk.{InstrumentIds}
use Rattle.ft_image.specs.Shown.{Pairwise, ShowsInstrument}
use Rattle.ft_image.specs.Laid.{Keeps, laid, instrument_laid}
use Rattle.ft_image.proofs.instrument_placing.place_instruments.Given as goal

abbrev pub invariant-loop-instrument : goal.invariant-loop-instrument
invariant-loop-instrument l = record {
  long : length l.words ≡ length l.fn.words;
  next : l.next ≡ l.from + sum_by instrument_blocks (take l.instrument-index l.instruments);
  kept : Keeps 0 l.from l.fn.words l.words;
  roots : l.roots.items ≡ map (λ (ids : InstrumentIds). ids.root)
      (laid instrument_blocks instrument_laid l.from (take l.instrument-index l.instruments));
  shown : Pairwise (ShowsInstrument l.words) (take l.instrument-index l.instruments)
      (laid instrument_blocks instrument_laid l.from (take l.instrument-index l.instruments));
}
