-- What a whole tick costs at most, in the steps that a view counts.
use Rattle.std.specs.Prelude.{ℕ, ◌+◌, ◌*◌}
use Rattle.ft_types.specs.Work.{frame_bound}
use Rattle.ft_tick.specs.Bounds.{tick_bound}

-- its state, and for each voice two frames of the sample a frame of output
abbrev pub play_bound : ℕ → ℕ → ℕ
play_bound channels frames = tick_bound channels + channels * (1 + 2 * frame_bound * frames)
