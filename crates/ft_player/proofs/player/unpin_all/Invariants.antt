use Rattle.std.proofs.Common.{◌≡◌, ◌+◌}
use Rattle.ft_image.specs.Passes.{AreCounted}
use Rattle.ft_player.proofs.Closing.{IsCleared}
use Rattle.ft_player.proofs.player.unpin_all.Given as goal

-- The pins of that many channels were taken away,
-- and each store is counted.
abbrev pub invariant-loop-channel : goal.invariant-loop-channel
invariant-loop-channel g l = IsCleared l.channel l.initial.pass l.pass
    × AreCounted l.initial.pass l.pass l.initial.steps l.steps × (l.steps ≡ l.initial.steps + l.channel)
