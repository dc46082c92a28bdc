use Rattle.std.proofs.Common.{◌≡◌, ◌+◌, ◌*◌, ◌≤◌, length, None}
use Rattle.ft_modread.specs.Layout.{each}
use Rattle.ft_modread.specs.ModFields.{unchecked, fault_among}
use Rattle.ft_modread.proofs.fields.fields.Given as goal

abbrev pub invariant-loop-k : goal.invariant-loop-k
invariant-loop-k l = record {
  none : fault_among l.file (each l.k (λ k. unchecked (l.at + l.need * k) l.need)) ≡ None;
  whole : 1 ≤ l.k → l.at + l.need * l.k ≤ length l.file;
}
