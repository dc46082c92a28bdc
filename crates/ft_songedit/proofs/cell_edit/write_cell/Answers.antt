use Rattle.std.proofs.Common.{◌≡◌, ◌+◌, ◌*◌, ℕ, List, None, refl, sym, subst}
use Rattle.ft_types.specs.declared.edit.Edit.{Edit}
use Rattle.ft_types.specs.declared.pattern.Cell.{Cell}
use Rattle.ft_edits.specs.Edited.{edited}
use Rattle.ft_edits.specs.Faults.{fault_of}
use Rattle.ft_segments.specs.Walk.{IsOf, ids_of}
use Rattle.ft_changes.specs.declared.reach.Reach.{Reach}
use Rattle.ft_changes.specs.declared.reach.Reach.TheVariants as reaches
use Rattle.ft_changes.specs.Reaches.{reach_of}
use Rattle.ft_changes.specs.Ids.{ids_after}
use Rattle.ft_sharing.specs.Written.{AtPlace, RootAndBodyAreWritten}
use Rattle.ft_songedit.proofs.CellPut.{cell_there, reached_cell}
use Rattle.ft_songedit.proofs.cell_edit.write_cell.Goals as goal

pub returns-clause-written : goal.returns-clause-written
returns-clause-written g c = λ p m k b may shows here none reach.
    let fresh : List ℕ = c.args.fresh.now in
    let it = c.in-Cell in
    let pool = g.F.Fill.written c.write_numbered_cell.new.words in
    let before = λ (s : ℕ) (of : IsOf p s). c.write_numbered_cell.ensures.narrows p s (may s of) in
    let channels = c.channels_of-channels.ensures.answer p m before shows here in
    let n : ℕ = c.from.result * c.from-2.result + c.from-3.result in
    let number : n ≡ it.r * m.channels + it.c = rw (c.from.ensures, c.from-2.ensures, c.from-3.ensures, channels) refl in
    let none2 = subst (λ (e : Edit). fault_of m e ≡ None) it.is none in
    let reach2 = subst (λ (e : Edit). ◌≡◌ {A = Reach} (reach_of m e) (reaches.Cell k b)) it.is reach in
    let cell : Cell = record { note = it.note; instrument = it.ins; volume = it.vol; effect = it.eff; parameter = it.par } in
    subst (λ (e : Edit). AtPlace k (RootAndBodyAreWritten pool b) (edited m e).patterns
    (ids_after (reaches.Cell k b) fresh (ids_of p)).patterns) (sym it.is)
    (reached_cell pool fresh p m it.p it.r it.c k b n cell shows
    (cell_there m it.p it.r it.c it.note it.ins it.vol it.eff it.par none2) number reach2
    (λ x ids there lt named. c.write_numbered_cell.ensures.written p m x ids may shows here there lt named))
