use Rattle.std.proofs.Common.{◌≡◌, ◌≤◌, ◌+◌, ℕ, List, length}
use Rattle.ft_run.specs.Ticks.{AreMissing, HasPlayedTicks, cut_sound}
use Rattle.ft_run.proofs.hearing.play_ticks.Given as goal

-- the ticks so far were heard, and that many frames are missing
abbrev pub invariant-loop-left : goal.invariant-loop-left
invariant-loop-left g l = record {
  same : l.player.pass.register ≡ l.shared;
  few : l.ticks + l.left ≤ l.frames;
  played : (versions : List ℕ) × (length versions ≡ l.ticks)
      × HasPlayedTicks l.fn.player l.player versions
      (λ ticks. AreMissing l.frames ticks l.left × g.E.Listener.heard l.fn.ear l.ear (cut_sound l.frames ticks));
}

abbrev pub decreases-loop-left : goal.decreases-loop-left
decreases-loop-left g l = l.left
