use Rattle.std.proofs.Common.{◌≡◌, None, Some, ap, sym, subst, ◌∙◌}
use Rattle.std.specs.List.{slice_get}
use Rattle.ft_types.specs.declared.edit.Edit.{Edit}
use Rattle.ft_edits.specs.Edited.{edited}
use Rattle.ft_edits.specs.Faults.{fault_of}
use Rattle.ft_cells.specs.Buffers.{pattern_in}
use Rattle.ft_changes.specs.declared.reach.Reach.{Reach}
use Rattle.ft_changes.specs.declared.reach.Reach.TheVariants as reaches
use Rattle.ft_changes.specs.Reaches.{reach_of}
use Rattle.ft_songedit.proofs.PatternCases.{of_stored}
use Rattle.ft_songedit.proofs.PatternPut.{new_made}
use Rattle.ft_songedit.proofs.pattern_edit.edited_cells.Goals as goal

pub returns-in-Newpat-clause-answer : goal.returns-in-Newpat-clause-answer
returns-in-Newpat-clause-answer g c = λ p m k b may shows is wide none reach.
    let it = c.in-Newpat in
    let cells = c.args.cells.now in
    let none2 = subst (λ (e : Edit). fault_of m e ≡ None) it.is none in
    let reach2 = subst (λ (e : Edit). ◌≡◌ {A = Reach} (reach_of m e) (reaches.Pattern k b)) it.is reach in
    subst (λ (e : Edit). slice_get (edited m e).patterns k ≡ Some (pattern_in c.new_rows.result c.args.channels cells)) (sym it.is)
    (new_made m it.n k b c.new_rows.result c.args.channels cells shows.valid none2 reach2 wide c.told-cells
    c.requires.empty c.new_rows.ensures.answer)

pub returns-in_default-clause-answer : goal.returns-in_default-clause-answer
returns-in_default-clause-answer g c = λ p m k b may shows is wide none reach.
    let of = of_stored m c.args.e.now k b none reach c.in_default.not-Copy c.in_default.not-Newpat in
    ap (λ i. slice_get (edited m c.args.e.now).patterns i) (sym of.number)
    ∙ c.changed_cells.ensures.answer p m may shows is wide of.group of.source none of.there
