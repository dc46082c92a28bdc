-- What contracts see of a journal.
use Rattle.std.specs.Prelude.{ℕ, List}
use Rattle.ft_types.specs.declared.journal.Entry.{Entry}
use Rattle.ft_types.specs.declared.journal.Refusal.{Refusal}

-- its two lists, and how many more in each there is room for without memory
pub record JournalState : Type 0 where
  pub entries : List Entry
  pub refusals : List Refusal
  pub room : ℕ
