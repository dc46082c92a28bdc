use Rattle.std.proofs.Common.{◌≡◌, ◌≤◌, ◌<◌, ℕ, length, get_or}
use Rattle.ft_types.specs.declared.sample.Sample.{Sample}
use Rattle.ft_edits.specs.Changes.{sample_changed}
use Rattle.ft_segments.specs.Packing.{word_at}
use Rattle.ft_segments.specs.Walk.{SampleIds, Placed}
use Rattle.ft_changes.specs.Parts.{body_ids}
use Rattle.ft_changes.specs.Laws.{named_in}
use Rattle.ft_sharing.specs.Written.{HasWords}
use Rattle.ft_smpedit.specs.Filled.{Refills, IsNoSlot, slot_word}
use Rattle.ft_smpedit.proofs.writing.write_slots.Given as goal

abbrev pub invariant-loop-slot : goal.invariant-loop-slot
invariant-loop-slot g l = record {
  behind : 3 ≤ l.slot;
  narrows : (p : Placed) (s : ℕ) → g.F.WordView.may_show l.words p s → g.F.WordView.may_show l.fn.words p s;
  may : (s : ℕ) → g.F.Fill.may_fill l.fn.words s → g.F.Fill.may_fill l.words s;
  filled : (p : Placed) (x : Sample) (old new : SampleIds)
      → Refills g.F.WordView.may_show l.words p l.fn.sample l.fn.e l.fn.range l.fn.fresh x old new
      → ((s : ℕ) → named_in s l.fn.fresh ≤ 1)
      → (i : ℕ) → 3 ≤ i → i < l.slot → i < length l.fn.fresh
      → HasWords (g.F.Fill.written l.words) (get_or l.fn.fresh i 0)
      (slot_word l.fn.range (sample_changed l.fn.e x).frames (body_ids new) i);
  others : (s j : ℕ) → IsNoSlot l.fn.fresh s → j < 256
      → word_at (g.F.Fill.written l.words) s j ≡ word_at (g.F.Fill.written l.fn.words) s j;
  long : length (g.F.Fill.written l.words) ≡ length (g.F.Fill.written l.fn.words);
  rest : g.F.Fill.rest l.fn.words l.words;
}
