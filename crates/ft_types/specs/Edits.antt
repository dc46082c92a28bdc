-- Edits and batches of them, as plain values.
use Rattle.std.specs.Prelude.{◌≡◌, ℕ, ◌<◌, ◌≤◌, length}
use Rattle.ft_types.specs.declared.edit.Edit.{Edit}
use Rattle.ft_types.specs.declared.edit.Edit.TheVariants.{Paste}
use Rattle.ft_types.specs.declared.batch.BatchFault.{BatchFault}
use Rattle.ft_types.specs.declared.batch.BatchFault.TheVariants.{Over, NoMemory}

-- an edit that can be given: a paste has 1 to 256 frames
abbrev pub IsGivable : Edit → Type 0
IsGivable (Paste i s at frames) = (1 ≤ length frames) × (length frames ≤ 256)
IsGivable _ = Unit {0}

-- why an edit isn't appended to that many: it comes back, and is one too many exactly where there
-- are 16
abbrev pub IsPushRefused : BatchFault → Edit → ℕ → Type 0
IsPushRefused (Over back) edit count = (back ≡ edit) × (count ≡ 16)
IsPushRefused (NoMemory back) edit count = (back ≡ edit) × (count < 16)
