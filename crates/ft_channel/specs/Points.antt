-- The point of an envelope that a position has reached.
use Rattle.std.specs.Prelude.{ℕ, ◌≤◌, ◌<◌, ◌+◌, List, get_or}
use Rattle.ft_types.specs.declared.instrument.Point.{Point}
use Rattle.ft_replay.specs.Envelopes.{origin}

-- it is the last of the first points that isn't past the position: the one after it is
pub record IsLastBy (position : ℕ) (points : List Point) (count k : ℕ) : Type 0 where
  pub within : k < count
  pub reached : (get_or points k origin).x ≤ position
  pub next : k + 1 < count → position < (get_or points (k + 1) origin).x
