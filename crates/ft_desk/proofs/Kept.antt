-- A desk stays one where its writer's pass settles passes or gives them back, and makes steps.
use Rattle.std.proofs.Common.{ℕ, List}
use Rattle.ft_types.specs.declared.module.Module.{Module}
use Rattle.ft_types.specs.Journals.{JournalState}
use Rattle.ft_shared.specs.declared.law.Hold.{Hold}
use Rattle.ft_shared.specs.declared.law.WordStep.{WordStep}
use Rattle.ft_shared.specs.Pass.{WriterState}
use Rattle.ft_retire.specs.Births.{BirthsState}
use Rattle.ft_desk.specs.Desk.{IsDesk, desk_of}

pub with_steps : (writer : WriterState) (settled : List Hold) (steps : List WordStep) (journal : JournalState) (births : BirthsState)
    (room : ℕ) (song : Module) (version : ℕ) → IsDesk (desk_of writer journal births room song version)
    → IsDesk (desk_of (record writer { account = record writer.account { settled = settled; steps = steps } }) journal births room song
    version)
with_steps writer settled steps journal births room song version desk = record {
  sizes = desk.sizes;
  inside = desk.inside;
  lawful = desk.lawful;
  current = desk.current;
  committed = desk.committed;
  shown = λ number placed is.
      let shown = desk.shown number placed is in
      record { among = shown.among; shows = shown.shows; channels = shown.channels };
  written = desk.written;
  entries = desk.entries;
  born = desk.born;
  reserved = record { lives = desk.reserved.lives; marks = desk.reserved.marks; room = desk.reserved.room };
}
