use Rattle.std.proofs.Common.{◌∙◌, ◌+◌, ◌*◌, ◌<◌, take, drop, sym, arith}
use Rattle.std.proofs.lemmas.List.{get_or-take, get_or-drop}
use Rattle.ft_changes.specs.Parts.{body_ids}
use Rattle.ft_smpedit.proofs.Packs.{same_ids}
use Rattle.ft_smpedit.proofs.Refilled.{refills_before}
use Rattle.ft_smpedit.proofs.writing.write_index.Goals as goal

pub returns-clause-written : goal.returns-clause-written
returns-clause-written g c = λ p e x old new r few place lt.
    let k = c.args.k in
    let bodies = body_ids new in
    let before = refills_before g.F.WordView.may_show c.read_index_ids.new.view c.fill_with.new.words p c.args.sample e c.args.range
    c.args.fresh.now x old new (c.fill_with.ensures.narrows p) r in
    c.fill_with.ensures.filled p r.may place lt
    ∙ same_ids c.read_index_ids.new.ids (take 1024 (drop (1024 * k) bodies)) place (λ i low.
    let at = place * 4 + i in
    let inside : at < 1024 = omega (arith, lt, low) in
    c.read_index_ids.ensures.answer p e x old new before few at inside
    ∙ sym (get_or-take 1024 (drop (1024 * k) bodies) at 0 inside ∙ get_or-drop (1024 * k) bodies at 0))
