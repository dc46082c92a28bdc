use Rattle.std.proofs.Common.{◌∙◌, ℤ, FitsSigned, pos, ◌+ℤ◌, ap, rules}
use Rattle.std.specs.Int.{w32}
use Rattle.std.proofs.lemmas.Int.{to_z-of_z}
use Rattle.ft_replay.specs.Hearing.{brought_into, moved}
use Rattle.ft_tick.proofs.Hearings.{panned}
use Rattle.ft_tick.proofs.hear.heard_panning.Goals as goal

pub returns : goal.returns
returns c =
    let few : FitsSigned w32 c.off_middle.result = search rules in
    let fits : FitsSigned w32 c.moved.result = search rules in record {
      value = panned c.args.panning c.args.envelope c.off_middle.result c.moved.result c.room_of.result c.shifted.result
          c.off_middle.ensures.value c.room_of.ensures.value
          (c.moved.ensures.value
          ∙ ap (λ (parts : ℤ). moved parts c.room_of.result) (to_z-of_z w32 c.off_middle.result few))
          (c.shifted.ensures ∙ ap (λ (shift : ℤ). brought_into (pos 0) (pos 255) (pos c.args.panning +ℤ shift)) (to_z-of_z w32 c.moved.result fits));
    }
