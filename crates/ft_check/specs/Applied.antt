-- Why an edit isn't applied.
use Rattle.std.specs.Prelude.{◌≡◌, Result, Ok, Err}
use Rattle.ft_types.specs.declared.module.Module.{Module}
use Rattle.ft_types.specs.declared.edit_fault.EditFault.{EditFault}
use Rattle.ft_check.specs.declared.edit.ApplyFault.{ApplyFault}
use Rattle.ft_check.specs.declared.edit.ApplyFault.TheVariants.{Edit, NoMemory}

-- a fault is that of the edit; out of memory comes only where the edit isn't refused
abbrev pub IsCause : ApplyFault → Result Module EditFault → Type 0
IsCause (Edit fault) answer = answer ≡ Err fault
IsCause NoMemory answer = (next : Module) × (answer ≡ Ok next)
