-- What pins leave of a pass.
use Rattle.std.proofs.Common.{◌≡◌, List, [], ◌++◌, Option, sym, ◌∙◌, append-nil}
use Rattle.ft_shared.specs.declared.law.Pin.{Pin}
use Rattle.ft_shared.specs.declared.law.WordStep.{WordStep}
use Rattle.ft_shared.specs.Pass.{ReaderState}
use Rattle.ft_player.specs.Behind.{HasPlayedOn}

pub played_pin : (old new : ReaderState) (pins : List (Option Pin)) (steps : List WordStep)
    → new ≡ record old { notes = record old.notes { pins = pins; steps = old.notes.steps ++ steps } } → HasPlayedOn old new
played_pin old new pins steps e = record {
  pins = pins;
  reads = [];
  steps = steps;
  is = e ∙ (λ i. record old {
    notes = record old.notes {
      pins = pins;
      reads = sym (append-nil old.notes.reads) i;
      steps = old.notes.steps ++ steps;
    };
  });
}
