use Rattle.std.proofs.Common.{◌≡◌, ◌+◌, ℕ, List, map, ap, refl, subst, ◌∙◌, arith}
use Rattle.std.specs.Prelude.{sum_by}
use Rattle.ft_types.specs.declared.pattern.Pattern.{Pattern}
use Rattle.ft_types.specs.declared.instrument.Instrument.{Instrument}
use Rattle.ft_types.specs.Blocks.{pattern_blocks, instrument_blocks}
use Rattle.ft_segments.specs.Walk.{PatternIds, InstrumentIds}
use Rattle.ft_image.specs.Laid.{laid, behind_patterns, pattern_laid, instrument_laid, song_laid}
use Rattle.ft_image.specs.Shown.{Pairwise, ShowsPattern, ShowsInstrument}
use Rattle.ft_image.proofs.Laying.{laid_stays}
use Rattle.ft_image.proofs.Roots.{song_filled}
use Rattle.ft_image.proofs.Stays.{pattern_stays, instrument_stays}
use Rattle.ft_image.proofs.song_placing.place_song.Goals as goal

pub returns : goal.returns
returns c =
    let m = c.args.song.now in
    let size = pattern_blocks m.channels in
    let ids = pattern_laid m.channels in
    let new = c.fill.new.words in
    let patterns = c.as_slice.ensures in
    let instruments = c.as_slice-2.ensures in
    let next : c.place_patterns-next.result ≡ behind_patterns m
    = c.place_patterns-next.ensures.next ∙ ap (λ (all : List Pattern). 1 + sum_by size all) patterns in
    let ps : c.place_patterns-next.new.roots.items ≡ map (λ (i : PatternIds). i.root) (song_laid m).patterns
    = c.place_patterns-next.ensures.roots
    ∙ ap (λ (all : List Pattern). map (λ (i : PatternIds). i.root) (laid size ids 1 all)) patterns in
    let is : c.place_instruments.new.roots.items ≡ map (λ (i : InstrumentIds). i.root) (song_laid m).instruments
    = c.place_instruments.ensures.roots
    ∙ ap (λ (all : List Instrument). map (λ (i : InstrumentIds). i.root)
    (laid instrument_blocks instrument_laid c.place_patterns-next.result all)) instruments
    ∙ ap (λ (n : ℕ). map (λ (i : InstrumentIds). i.root) (laid instrument_blocks instrument_laid n m.instruments)) next in
    let first = subst (λ (all : List Pattern). Pairwise (ShowsPattern c.place_patterns-next.new.words m.channels) all (laid size ids 1 all))
    patterns c.place_patterns-next.ensures.shown in
    let second = subst (λ (n : ℕ). Pairwise (ShowsInstrument c.place_instruments.new.words) m.instruments
    (laid instrument_blocks instrument_laid n m.instruments))
    next
    (subst (λ (all : List Instrument). Pairwise (ShowsInstrument c.place_instruments.new.words) all
    (laid instrument_blocks instrument_laid c.place_patterns-next.result all)) instruments c.place_instruments.ensures.shown) in
    record {
      root = song_filled new m
          (λ j lt. c.fill.ensures.filled j lt
          ∙ rw (c.as_slice-3.ensures.value, c.as_slice-4.ensures.value, ps, is) refl);
      patterns = laid_stays size ids (λ (pool : List ℕ). ShowsPattern pool m.channels) (pattern_stays m.channels)
          c.place_patterns-next.new.words new 1 m.patterns
          (λ s j low high lt. c.fill.ensures.others s j (omega arith) lt
          ∙ c.place_instruments.ensures.kept s j (omega arith) (omega (arith, next)) lt) first;
      instruments = laid_stays instrument_blocks instrument_laid ShowsInstrument instrument_stays
          c.place_instruments.new.words new (behind_patterns m) m.instruments
          (λ s j low high lt. c.fill.ensures.others s j (omega arith) lt) second;
    }
