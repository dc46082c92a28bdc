-- Envelopes: straight lines between points, and how their positions go on.
use Rattle.std.specs.Prelude.{ℕ, zero, suc, ◌+◌, ◌-◌, ◌/◌, ◌%◌, ◌==◌, ◌&&◌, not, Bool, false, List, Option, None, Some, pos, ◌+ℤ◌, ◌-ℤ◌, ◌*ℤ◌, get_or, nat_abs, nat_le, if◌then◌else◌}
use Rattle.ft_types.specs.declared.instrument.Envelope.{Envelope}
use Rattle.ft_types.specs.declared.instrument.Point.{Point}
use Rattle.ft_tables.specs.Pitch.{floor_div}

-- bit 0 is set, and there is a point
abbrev pub is_on : Option Envelope → Bool
is_on None = false
is_on (Some envelope) = not (envelope.flags % 2 == 0) && not (envelope.count == 0)

abbrev pub origin : Point
origin = record { x = 0; y = 0 }

abbrev pub point_at : Envelope → ℕ → Point
point_at envelope k = get_or envelope.points k origin

-- ---- the value at a position

-- the last of the first points that isn't past a position
abbrev pub last_by : ℕ → List Point → ℕ → Option ℕ
last_by position points zero = None
last_by position points (suc n) =
    if nat_le (get_or points n origin).x position then Some n else last_by position points n

-- on the straight line from one point to a later one, rounded down
unfoldable pub on_line : Point → Point → ℕ → ℕ
on_line from to position =
    nat_abs
    (pos from.y
    +ℤ floor_div ((pos to.y -ℤ pos from.y) *ℤ pos (position - from.x)) (to.x - from.x))

-- before all points the value is that of the first, and after them that of the last
abbrev pub value_by : Envelope → ℕ → Option ℕ → ℕ
value_by envelope position None = (point_at envelope 0).y
value_by envelope position (Some k) =
    if k + 1 == envelope.count then (point_at envelope k).y
    else on_line (point_at envelope k) (point_at envelope (k + 1)) position

unfoldable pub envelope_value : Envelope → ℕ → ℕ
envelope_value envelope position =
    value_by envelope position (last_by position envelope.points envelope.count)

-- what is heard of an envelope: where it is off, or there is none, as much as it says
abbrev pub heard_envelope : ℕ → Option Envelope → ℕ → ℕ
heard_envelope without None position = without
heard_envelope without (Some envelope) position =
    if is_on (Some envelope) then envelope_value envelope position else without

-- ---- the next position

-- a sustain point holds it until the key off; at the end of its loop it goes to the loop's start;
-- past the last point it stays
unfoldable pub envelope_next : Envelope → Bool → ℕ → ℕ
envelope_next envelope released position =
    if not (envelope.flags / 2 % 2 == 0) && not released
    && position == (point_at envelope envelope.sustain).x then position
    else (if not (envelope.flags / 4 % 2 == 0)
    && position == (point_at envelope envelope.loop_end).x
    then (point_at envelope envelope.loop_start).x
    else (if nat_le (point_at envelope (envelope.count - 1)).x position then position
    else position + 1))

abbrev pub next_position : Option Envelope → Bool → ℕ → ℕ
next_position None released position = position
next_position (Some envelope) released position =
    if is_on (Some envelope) then envelope_next envelope released position else position
