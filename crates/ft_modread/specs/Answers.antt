-- What a reader answers.
use Rattle.std.specs.Prelude.{◌≡◌, ◌⊎◌, ℕ, List, Option, Some, None, Result, Ok, Err}
use Rattle.ft_types.specs.declared.module.Module.{Module}
use Rattle.ft_format.specs.Fields.{AreBytes}
use Rattle.ft_modread.specs.declared.fault.ModFault.{ModFault}
use Rattle.ft_modread.specs.declared.fault.ModFault.TheVariants as faults
use Rattle.ft_modread.specs.Songs.{SpellsMod}
use Rattle.ft_modread.specs.ModFields.{first_mod_fault}

-- what was tried met this fault, or none
abbrev pub Meets : {A : Type 0} → Result A ModFault → Option ModFault → Type 0
Meets (Ok x) fault = fault ≡ None
Meets (Err e) fault = fault ≡ Some e

-- the first field, in file order, that is missing or fails its check
abbrev pub HasModFault : List ℕ → ModFault → Type 0
HasModFault file fault = first_mod_fault file ≡ Some fault

-- what may be answered: the fault of the bytes, or, where they spell a module, running out of memory
abbrev pub IsModFaultOf : List ℕ → ModFault → Type 0
IsModFaultOf file fault = HasModFault file fault ⊎ ((fault ≡ faults.NoMemory) × (first_mod_fault file ≡ None))

-- this module, unless memory runs out
abbrev pub IsThisMod : Result Module ModFault → Module → Type 0
IsThisMod (Ok read) song = read ≡ song
IsThisMod (Err fault) song = fault ≡ faults.NoMemory

-- bytes spell one module, or have one fault, and never both; running out of memory is no fault of bytes
pub record HasOneModAnswer : Type 0 where
  pub either : (file : List ℕ) → AreBytes file
      → ((song : Module) × SpellsMod file song) ⊎ ((fault : ModFault) × HasModFault file fault)
  pub one_song : (file : List ℕ) (a b : Module) → SpellsMod file a → SpellsMod file b → a ≡ b
  pub one_fault : (file : List ℕ) (a b : ModFault) → HasModFault file a → HasModFault file b → a ≡ b
  pub not_both : (file : List ℕ) (song : Module) (fault : ModFault)
      → SpellsMod file song → HasModFault file fault → ⊥
  pub memory : (file : List ℕ) → HasModFault file faults.NoMemory → ⊥
