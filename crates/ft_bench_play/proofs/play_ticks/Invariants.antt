use Rattle.std.proofs.Common.{◌≡◌, length, map, is_some, get_or, None, Some, ℕ}
use Rattle.ft_types.specs.declared.voice.SampleHead.{SampleHead}
use Rattle.ft_types.specs.Views.{head_of_owned}
use Rattle.ft_types.specs.ModuleViews.{owned_in}
use Rattle.ft_replay.specs.Calls as calls
use Rattle.ft_replay.specs.Range.{IsSongInRange}
use Rattle.ft_bench_play.proofs.play_ticks.Given as goal

abbrev pub invariant-loop : goal.invariant-loop
invariant-loop l = record {
  wide : l.state.used ≡ length (map is_some l.view.kept.items);
  range : IsSongInRange l.state;
  kept : calls.AreVoicesKept (λ (c : ℕ) (h : SampleHead). head_of_owned (owned_in 0 (get_or l.view.kept.items c None)) ≡ Some h) l.state.voices.items;
  room : length l.out ≡ length l.fn.out;
}
