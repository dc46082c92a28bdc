use Rattle.std.proofs.Common.{◌∙◌, arith, w8}
use Rattle.std.proofs.lemmas.Int.{ints, to_z-of_z}
use Rattle.ft_tables.proofs.Amiga.{falls, before, tuned_up, tuned_down}
use Rattle.ft_tables.proofs.periods.amiga_period.Goals as goal

pub part_down-requires-clause-falls : goal.part_down-requires-clause-falls
part_down-requires-clause-falls c =
    let f = falls c.args.note c.requires in
    omega arith

pub part_up-requires-clause-rises : goal.part_up-requires-clause-rises
part_up-requires-clause-rises c =
    let f = before c.args.note c.requires in
    omega arith

pub returns-then-finetune-ge0-clause-value : goal.returns-then-finetune-ge0-clause-value
returns-then-finetune-ge0-clause-value c =
    let same = to_z-of_z w8 c.args.finetune c.ranges.finetune in
    let here = c.amiga_note-here.ensures.value in
    let next = c.amiga_note.ensures.value in
    let parts = c.unsigned_abs.ensures.value in
    let tuned = tuned_up c.args.note c.args.finetune (omega (arith, ints)) in
    c.part_down.ensures.value ∙ (cc)

pub returns-else-finetune-ge0-clause-value : goal.returns-else-finetune-ge0-clause-value
returns-else-finetune-ge0-clause-value c =
    let same = to_z-of_z w8 c.args.finetune c.ranges.finetune in
    let here = c.amiga_note-here.ensures.value in
    let last = c.amiga_before.ensures.value in
    let parts = c.unsigned_abs.ensures.value in
    let tuned = tuned_down c.args.note c.args.finetune (omega (arith, ints)) in
    c.part_up.ensures.value ∙ (cc)
