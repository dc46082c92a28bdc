-- Notes by their periods.
use Rattle.std.specs.Prelude.{ℕ, zero, suc, ◌+◌, ◌-◌, ◌<◌, ◌≤◌, nat_lt, ◌==◌, slice_index, if◌then◌else◌}
use Rattle.ft_modread.specs.declared.layout.TheConstants.{PERIODS, FIRST_NOTE}

-- how far a period is from that of note k of the table
abbrev pub off_by : ℕ → ℕ → ℕ
off_by period k = (period - slice_index PERIODS k) + (slice_index PERIODS k - period)

-- the one of two notes whose period is nearer; the first where both are as near
abbrev pub nearer : ℕ → ℕ → ℕ → ℕ
nearer period first second = if nat_lt (off_by period second) (off_by period first) then second else first

-- of the first n + 1 notes of the table the one whose period is nearest; the first of several
unfoldable pub nearest_of : ℕ → ℕ → ℕ
nearest_of period zero = 0
nearest_of period (suc n) = nearer period (nearest_of period n) (suc n)

-- the note of a period; period 0 is no note
abbrev pub period_note : ℕ → ℕ
period_note period = if period == 0 then 0 else FIRST_NOTE + nearest_of period 35

-- k is the first of the 36 notes of the table whose period is nearest
pub record IsNearest (period k : ℕ) : Type 0 where
  pub within : k < 36
  pub least : (j : ℕ) → j < 36 → off_by period k ≤ off_by period j
  pub first : (j : ℕ) → j < k → off_by period k < off_by period j
