-- What the rules of a row cost at most, in the steps that a view counts.
use Rattle.std.specs.Prelude.{ℕ, ◌+◌}
use Rattle.ft_types.specs.Work.{head_bound, start_bound, stop_bound}

-- a note that begins asks for its sample, for the kind of periods, and may stop what it began
abbrev pub begin_bound : ℕ
begin_bound = start_bound + head_bound + stop_bound

-- a key off, for an envelope, and a target, for the kind of periods, ask for less
abbrev pub note_bound : ℕ
note_bound = begin_bound

-- a row's start or a later tick, on one channel
abbrev pub row_bound : ℕ
row_bound = 40
