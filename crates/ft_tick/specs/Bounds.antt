-- What a tick costs at most, in the steps that a view counts.
use Rattle.std.specs.Prelude.{ℕ, ◌+◌, ◌*◌}
use Rattle.ft_types.specs.Work.{order_bound, cell_bound, envelope_bound, shape_bound}
use Rattle.ft_channel.specs.Bounds.{row_bound}

-- one channel's turn: its cell, and the rules of its row
abbrev pub turn_bound : ℕ
turn_bound = order_bound + cell_bound + row_bound

-- what is heard of a channel: two envelopes, and the automatic vibrato with the fadeout
abbrev pub hear_bound : ℕ
hear_bound = 2 * envelope_bound + shape_bound

-- a tick of that many channels, up to its sound
abbrev pub tick_bound : ℕ → ℕ
tick_bound channels = 56 + 94 * channels
