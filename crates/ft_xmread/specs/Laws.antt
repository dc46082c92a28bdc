-- What holds of every file.
use Rattle.std.specs.Prelude.{◌≡◌, ◌⊎◌, ℕ, List}
use Rattle.ft_types.specs.declared.module.Module.{Module}
use Rattle.ft_format.specs.Fields.{AreBytes}
use Rattle.ft_format.specs.Spelling.{Spells}
use Rattle.ft_xmread.specs.declared.fault.XmFault.{XmFault}
use Rattle.ft_xmread.specs.declared.fault.XmFault.TheVariants as faults
use Rattle.ft_xmread.specs.Song.{HasFault}

-- bytes spell one song, or have one fault, and never both
pub record HasOneAnswer : Type 0 where
  pub either : (file : List ℕ) → AreBytes file
      → ((song : Module) × Spells file song) ⊎ ((fault : XmFault) × HasFault file fault)
  pub one_song : (file : List ℕ) (a b : Module) → Spells file a → Spells file b → a ≡ b
  pub one_fault : (file : List ℕ) (a b : XmFault) → HasFault file a → HasFault file b → a ≡ b
  pub not_both : (file : List ℕ) (song : Module) (fault : XmFault)
      → Spells file song → HasFault file fault → ⊥

-- running out of memory is never what is wrong with a file
abbrev pub MemoryIsNoFault : Type 0
MemoryIsNoFault = (file : List ℕ) → HasFault file faults.NoMemory → ⊥
