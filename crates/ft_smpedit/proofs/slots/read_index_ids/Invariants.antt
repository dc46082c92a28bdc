use Rattle.std.proofs.Common.{◌≡◌, ℕ, ◌+◌, ◌*◌, ◌<◌, length, get_or}
use Rattle.ft_types.specs.declared.edit.Edit.{Edit as AnEdit}
use Rattle.ft_types.specs.declared.sample.Sample.{Sample}
use Rattle.ft_segments.specs.Walk.{SampleIds, Placed}
use Rattle.ft_changes.specs.Parts.{body_ids}
use Rattle.ft_smpedit.specs.Filled.{Refills}
use Rattle.ft_smpedit.proofs.slots.read_index_ids.Given as goal

abbrev pub invariant-loop-i : goal.invariant-loop-i
invariant-loop-i g l = record {
  long : length l.ids ≡ 1024;
  narrows : (p : Placed) (s : ℕ) → g.V.WordView.may_show l.view p s → g.V.WordView.may_show l.fn.view p s;
  answer : (p : Placed) (e : AnEdit) (x : Sample) (old new : SampleIds)
      → Refills g.V.WordView.may_show l.view p l.fn.sample e l.fn.range l.fn.fresh x old new → l.fn.k < 4096
      → (i : ℕ) → i < l.i → get_or l.ids i 0 ≡ get_or (body_ids new) (1024 * l.fn.k + i) 0;
  same : g.V.WordView.same l.fn.view l.view;
}
