-- What a tick of a player costs at most, in atomic steps.
use Rattle.std.specs.Prelude.{ℕ, ◌+◌, ◌*◌, ◌/◌}

-- a tick of that many frames on that many channels
abbrev pub step_bound : ℕ → ℕ → ℕ
step_bound channels frames = 64 + 96 * channels + 6 * channels * frames

-- where no voice has a loop, and none passes more than one frame of its sample for each frame of
-- output
abbrev pub slow_bound : ℕ → ℕ → ℕ
slow_bound channels frames = 64 + 96 * channels + channels * (frames / 2 + 8)
