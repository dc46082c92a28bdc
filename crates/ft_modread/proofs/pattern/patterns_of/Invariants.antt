use Rattle.std.proofs.Common.{◌≡◌, ◌≤◌, vec_len, vec_capacity}
use Rattle.ft_modread.specs.Layout.{each}
use Rattle.ft_modread.specs.Songs.{mod_pattern}
use Rattle.ft_modread.proofs.pattern.patterns_of.Given as goal

abbrev pub invariant-loop-p : goal.invariant-loop-p
invariant-loop-p l = record {
  items : l.patterns.items ≡ each l.p (mod_pattern l.file);
  len : vec_len l.patterns ≡ l.p;
  room : l.count ≤ vec_capacity l.patterns;
}
