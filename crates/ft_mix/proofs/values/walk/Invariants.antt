use Rattle.std.proofs.Common.{◌≡◌, ◌+◌, ◌*◌, ◌^◌, ℕ, Option, length}
use Rattle.ft_types.specs.declared.voice.SampleHead.{SampleHead}
use Rattle.ft_types.specs.Views.{Owned}
use Rattle.ft_mix.specs.Mixing as mixing
use Rattle.ft_mix.proofs.values.walk.Given as goal

abbrev pub invariant-loop-k : goal.invariant-loop-k
invariant-loop-k l = record {
  values : (head : SampleHead) (owned : Option Owned) (at : ℕ) → mixing.AreReached head owned at (length l.reached) l.reached
      → mixing.AreValues head owned (at * 2 ^ 32 + l.start) l.step l.k l.values;
  range : mixing.Fit16 l.k l.values;
  many : length l.values ≡ length l.fn.values;
}
