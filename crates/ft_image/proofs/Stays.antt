-- What is shown stays where the words of its segments stay.
use Rattle.std.proofs.Common.{◌≡◌, ℕ, ◌+◌, ◌*◌, ◌<◌, ◌≤◌, List, Some, sym, ap, subst, ◌∙◌, arith}
use Rattle.std.specs.Prelude.{slice_index}
use Rattle.std.specs.List.{slice_get, range_with_len}
use Rattle.std.proofs.lemmas.List.FromFn.{get_or-range_with_len, length-range_with_len, length-map-range_with_len}
use Rattle.std.proofs.lemmas.Option.{slice_get_within, same_Some}
use Rattle.ft_types.specs.declared.pattern.Pattern.{Pattern}
use Rattle.ft_types.specs.declared.instrument.Instrument.{Instrument}
use Rattle.ft_types.specs.declared.sample.Sample.{Sample}
use Rattle.ft_types.specs.Blocks.{pieces_of, pattern_blocks, bodies_of, indexes_of, sample_blocks, instrument_blocks}
use Rattle.ft_segments.specs.Packing.{word_at}
use Rattle.ft_segments.specs.Walk.{IndexIds, bodies_of_index}
use Rattle.ft_image.specs.Shown.{ShowsPattern, ShowsIndex, ShowsSample, ShowsInstrument}
use Rattle.ft_image.specs.Laid.{Keeps, pattern_laid, index_laid, sample_laid, instrument_laid}
use Rattle.ft_image.proofs.Lists.{below_at}
use Rattle.ft_image.proofs.Laying.{laid_stays}

-- a body of a run stays in it
pub body_at : (pool : List ℕ) (a n b j : ℕ) → b < n → word_at pool (slice_index (range_with_len a n) b) j ≡ word_at pool (a + b) j
body_at pool a n b j lt = ap (λ (s : ℕ). word_at pool s j) (get_or-range_with_len a n b 0 lt)

body_stays : (old new : List ℕ) (low high a n b j : ℕ) → Keeps low high old new → low ≤ a → a + n ≤ high → b < n → j < 256
    → word_at new (slice_index (range_with_len a n) b) j ≡ word_at old (slice_index (range_with_len a n) b) j
body_stays old new low high a n b j keeps le fits lt l =
    body_at new a n b j lt ∙ keeps (a + b) j (omega arith) (omega arith) l ∙ sym (body_at old a n b j lt)

pub pattern_stays : (channels : ℕ) (old new : List ℕ) (n : ℕ) (x : Pattern) → Keeps n (n + pattern_blocks channels x) old new
    → ShowsPattern old channels x (pattern_laid channels n x) → ShowsPattern new channels x (pattern_laid channels n x)
pattern_stays channels old new n x keeps shown =
    let count = pieces_of (x.rows * channels) 256 in
    let len = length-range_with_len (n + 1) count in
    record {
      count = shown.count;
      rows = keeps n 0 (omega arith) (omega arith) (omega arith) ∙ shown.rows;
      bodies = λ k lt. keeps n (1 + k) (omega arith) (omega arith) (omega arith) ∙ shown.bodies k lt;
      others = λ k ge lt. keeps n k (omega arith) (omega arith) lt ∙ shown.others k ge lt;
      cells = λ b j lt l.
          body_stays old new n (n + pattern_blocks channels x) (n + 1) count b j keeps (omega arith) (omega arith) (omega arith) l
          ∙ shown.cells b j lt l;
    }

index_stays : (old new : List ℕ) (low high : ℕ) (x : Sample) (from indexes k : ℕ) → Keeps low high old new → low ≤ from
    → from + indexes + bodies_of x ≤ high → k < indexes → k < pieces_of (bodies_of x) 1024
    → ShowsIndex old x k (index_laid from indexes (bodies_of x) k) → ShowsIndex new x k (index_laid from indexes (bodies_of x) k)
index_stays old new low high x from indexes k keeps le fits lt within shown =
    let n = bodies_of_index (bodies_of x) k in
    let a = from + indexes + 1024 * k in
    let len = length-range_with_len a n in
    record {
      count = shown.count;
      bodies = λ j l. keeps (from + k) j (omega arith) (omega arith) l ∙ shown.bodies j l;
      frames = λ b j b_lt l.
          body_stays old new low high a n b j keeps (omega arith) (omega arith) (omega arith) l
          ∙ shown.frames b j b_lt l;
    }

pub index_is : (from indexes bodies k : ℕ) (index : IndexIds) → k < indexes
    → slice_get (Rattle.ft_segments.specs.Walk.each_below indexes (index_laid from indexes bodies)) k ≡ Some index
    → index_laid from indexes bodies k ≡ index
index_is from indexes bodies k index lt is =
    same_Some (index_laid from indexes bodies k) index (sym (below_at indexes (index_laid from indexes bodies) k lt) ∙ is)

pub sample_stays : (old new : List ℕ) (n : ℕ) (x : Sample) → Keeps n (n + sample_blocks x) old new
    → ShowsSample old x (sample_laid n x) → ShowsSample new x (sample_laid n x)
sample_stays old new n x keeps shown =
    let i = indexes_of x in
    let len = length-map-range_with_len (index_laid (n + 1) i (bodies_of x)) 0 i in
    record {
      count = shown.count;
      lengths = keeps n 0 (omega arith) (omega arith) (omega arith) ∙ shown.lengths;
      loops = keeps n 1 (omega arith) (omega arith) (omega arith) ∙ shown.loops;
      tuning = keeps n 2 (omega arith) (omega arith) (omega arith) ∙ shown.tuning;
      name = λ k lt. keeps n (3 + k) (omega arith) (omega arith) (omega arith) ∙ shown.name k lt;
      indexes = keeps n 16 (omega arith) (omega arith) (omega arith) ∙ shown.indexes;
      others = λ k ge ne lt. keeps n k (omega arith) (omega arith) lt ∙ shown.others k ge ne lt;
      each = λ k index is.
          let lt = slice_get_within (sample_laid n x).indexes k index is in
          let here : k < i = omega arith in
          let e = index_is (n + 1) i (bodies_of x) k index here is in
          subst (λ (z : IndexIds). ShowsIndex new x k z) e
          (index_stays old new n (n + sample_blocks x) x (n + 1) i k keeps (omega arith) (omega arith) here here
          (subst (λ (z : IndexIds). ShowsIndex old x k z) (sym e) (shown.each k index is)));
    }

pub instrument_stays : (old new : List ℕ) (n : ℕ) (x : Instrument) → Keeps n (n + instrument_blocks x) old new
    → ShowsInstrument old x (instrument_laid n x) → ShowsInstrument new x (instrument_laid n x)
instrument_stays old new n x keeps shown = record {
  counts = keeps n 0 (omega arith) (omega arith) (omega arith) ∙ shown.counts;
  envelopes = keeps n 1 (omega arith) (omega arith) (omega arith) ∙ shown.envelopes;
  fadeout = keeps n 2 (omega arith) (omega arith) (omega arith) ∙ shown.fadeout;
  name = λ k lt. keeps n (3 + k) (omega arith) (omega arith) (omega arith) ∙ shown.name k lt;
  notes = λ k lt. keeps n (6 + k) (omega arith) (omega arith) (omega arith) ∙ shown.notes k lt;
  volume = λ k lt. keeps n (18 + k) (omega arith) (omega arith) (omega arith) ∙ shown.volume k lt;
  panning = λ k lt. keeps n (24 + k) (omega arith) (omega arith) (omega arith) ∙ shown.panning k lt;
  samples = λ k lt. keeps n (30 + k) (omega arith) (omega arith) (omega arith) ∙ shown.samples k lt;
  others = λ k ge lt. keeps n k (omega arith) (omega arith) lt ∙ shown.others k ge lt;
  each = laid_stays sample_blocks sample_laid ShowsSample sample_stays old new (n + 1) x.samples
      (λ s j low high lt. keeps s j (omega arith) (omega arith) lt) shown.each;
}
