use Rattle.std.proofs.Common.{◌≡◌, ◌∙◌, ◌+◌, ◌-◌, ◌/◌, ◌<◌, ◌≤◌, arith}
use Rattle.ft_edits.specs.Changes.{sample_changed}
use Rattle.ft_changes.specs.Parts.{body_ids}
use Rattle.ft_smpedit.specs.Filled.{indexes_filled}
use Rattle.ft_smpedit.proofs.SlotWords.{slot_of_index, slot_of_body}
use Rattle.ft_smpedit.proofs.writing.write_slot.Goals as goal

pub returns-then-place-indexes-clause-written : goal.returns-then-place-indexes-clause-written
returns-then-place-indexes-clause-written g c = λ p x old new r place low.
    let range = c.args.range in
    let slot = c.args.slot in
    let k = c.saturating_add-k.result in
    let lt : slot - 3 < indexes_filled range = omega (arith, c.if-place-indexes.true, c.indexes_filled-indexes.ensures) in
    let few = r.few in
    let is : k ≡ range.first / 1024 + (slot - 3) = omega (arith, c.saturating_add-k.ensures, lt, few) in
    c.write_index.ensures.written p c.args.e.now x old new r (omega (arith, is, lt, few)) place low
    ∙ slot_of_index range (sample_changed c.args.e.now x).frames (body_ids new) slot k place lt is

pub returns-else-place-indexes-clause-written : goal.returns-else-place-indexes-clause-written
returns-else-place-indexes-clause-written g c = λ p x old new r place low.
    let range = c.args.range in
    let slot = c.args.slot in
    let n = c.saturating_add-n.result in
    let le : indexes_filled range ≤ slot - 3 = omega (arith, c.if-place-indexes.false, c.indexes_filled-indexes.ensures) in
    let is : n ≡ range.first + (slot - 3 - indexes_filled range)
    = omega (
      arith,
      c.saturating_add-n.ensures,
      c.min.ensures,
      c.indexes_filled-indexes.ensures,
      le,
      r.few,
      r.count,
      r.stretch.upward,
      c.requires.there,
    ) in
    c.write_body.ensures.written p range c.args.fresh.now x old new r place low
    ∙ slot_of_body range (sample_changed c.args.e.now x).frames (body_ids new) slot n place le is
