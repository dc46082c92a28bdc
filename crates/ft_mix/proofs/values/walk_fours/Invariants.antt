use Rattle.std.proofs.Common.{◌≡◌, ◌+◌, ◌*◌, ◌^◌, ℕ, Option, length}
use Rattle.ft_types.specs.declared.voice.SampleHead.{SampleHead}
use Rattle.ft_types.specs.Views.{Owned}
use Rattle.ft_mix.specs.Mixing as mixing
use Rattle.ft_mix.proofs.values.walk_fours.Given as goal

abbrev pub invariant-loop-four : goal.invariant-loop-four
invariant-loop-four l = record {
  place : l.place ≡ l.start + 4 * l.four * l.step;
  values : (head : SampleHead) (owned : Option Owned) (at : ℕ) → mixing.AreReached head owned at (length l.reached) l.reached
      → mixing.AreValues head owned (at * 2 ^ 32 + l.start) l.step (4 * l.four) l.values;
  range : mixing.Fit16 (4 * l.four) l.values;
  many : length l.values ≡ length l.fn.values;
}
