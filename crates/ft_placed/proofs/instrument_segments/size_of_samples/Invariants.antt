use Rattle.std.proofs.Common.{◌≡◌, ◌≤◌, ◌+◌, ◌*◌, ℕ, drop, length}
use Rattle.std.specs.List.{flat_map}
use Rattle.ft_types.specs.declared.module.Module.{Module}
use Rattle.ft_segments.specs.Walk.{Placed, ids_of}
use Rattle.ft_changes.specs.Ids.{samples_of}
use Rattle.ft_changes.specs.Parts.{sample_segments}
use Rattle.ft_image.specs.Shown.{Shows}
use Rattle.ft_image.specs.Read.{MayShowAll}
use Rattle.ft_placed.proofs.instrument_segments.size_of_samples.Given as goal

abbrev pub invariant-loop-s : goal.invariant-loop-s
invariant-loop-s g l = record {
  narrows : (p : Placed) (s : ℕ) → g.V.WordView.may_show l.view p s → g.V.WordView.may_show l.fn.view p s;
  answer : (p : Placed) (m : Module) → MayShowAll g.V.WordView.may_show l.view p → Shows p m → p.root ≡ l.root
      → length (flat_map sample_segments (samples_of (ids_of p) l.at))
      ≡ l.size + length (flat_map sample_segments (drop l.s (samples_of (ids_of p) l.at)));
  few : l.size ≤ 4198401 * l.s;
  same : g.V.WordView.same l.fn.view l.view;
}
