use Rattle.std.proofs.Common.{◌≡◌, ◌<◌, ◌+◌, ℕ, pos, get_or}
use Rattle.ft_player.specs.Runs.{IsFrameIn}
use Rattle.ft_player.proofs.run.unpack_part.Given as goal

abbrev pub invariant-loop-frame : goal.invariant-loop-frame
invariant-loop-frame l = record {
  next : l.next ≡ l.place + l.frame-index;
  frames : (k : ℕ) → k < l.frame-index → IsFrameIn l.wide l.word (l.place + k) (get_or l.out k (pos 0));
}
