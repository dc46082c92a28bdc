-- Counts of the outside: what it gave, and how often it failed.
use Rattle.std.specs.Prelude.{◌≡◌, ℕ, ◌+◌, ◌-◌, ◌^◌, ◌≤◌, min, OnOk, OnErr}
use Rattle.std.specs.declared.result.Result.{Result}

-- a count after that many more; it stays at the greatest u64
abbrev pub count_after : ℕ → ℕ → ℕ
count_after before more = min (before + more) (2 ^ 64 - 1)

-- the count rose, where one that is at the greatest u64 counts as risen
abbrev pub Rose : ℕ → ℕ → Type 0
Rose before now = count_after before 1 ≤ now

-- a failure is answered only where the count of faults rose, and any other answer leaves the count
pub record HasCause {T E : Type 0} (before now : ℕ) (result : Result T E) : Type 0 where
  pub later : before ≤ now
  pub failed : OnErr result (Rose before now)
  pub kept : OnOk result (now ≡ before)
