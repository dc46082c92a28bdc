use Rattle.std.proofs.Common.{◌≡◌, ◌<◌, ◌*◌, ℕ, Some, get_or, length}
use Rattle.std.specs.List.{slice_get}
use Rattle.ft_types.specs.declared.module.Module.{Module}
use Rattle.ft_types.specs.declared.pattern.Pattern.{Pattern}
use Rattle.ft_types.specs.Views.{empty_cell}
use Rattle.ft_segments.specs.Walk.{Placed}
use Rattle.ft_image.specs.Shown.{Shows}
use Rattle.ft_image.specs.Read.{MayShowAll}
use Rattle.ft_songedit.proofs.pattern_cells.read_cells.Given as goal

abbrev pub invariant-loop-body : goal.invariant-loop-body
invariant-loop-body g l = record {
  long : length l.cells ≡ 8192;
  narrows : (p : Placed) (s : ℕ) → g.V.WordView.may_show l.view p s → g.V.WordView.may_show l.initial.view p s;
  read : (p : Placed) (m : Module) (x : Pattern) → MayShowAll g.V.WordView.may_show l.view p
      → Shows p m → p.root ≡ l.root → l.channels ≡ m.channels → slice_get m.patterns l.pattern ≡ Some x
      → l.rows ≡ x.rows
      → (n : ℕ) → n < l.body * 256 → get_or l.cells n empty_cell ≡ get_or x.cells n empty_cell;
  same : g.V.WordView.same l.fn.view l.view;
}
