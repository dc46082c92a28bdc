use Rattle.std.proofs.Common.{Some, ap, sym, ◌∙◌}
use Rattle.std.specs.List.{slice_get}
use Rattle.ft_types.specs.declared.pattern.Pattern.{Pattern}
use Rattle.ft_edits.specs.Edited.{edited}
use Rattle.ft_edits.specs.Changes as changes
use Rattle.ft_songedit.proofs.Stored.{stored}
use Rattle.ft_songedit.proofs.PatternPut.{changed_made}
use Rattle.ft_songedit.proofs.pattern_edit.changed_cells.Goals as goal

pub returns-clause-answer : goal.returns-clause-answer
returns-clause-answer g c = λ p m may shows is wide group source none there.
    let e = c.args.e.now in
    let n = changes.pattern_number e in
    let one = stored m.patterns n there in
    let read = c.read_cells-rows.ensures.answer p m one.0 may shows is wide
    (ap (λ k. slice_get m.patterns k) c.pattern_number.ensures ∙ one.1) in
    let change = c.change_pattern.ensures.answer m shows.valid (sym wide) (one.1 ∙ ap (λ (x : Pattern). Some x) (sym read)) source none in
    changed_made m (edited m e) n (changes.pattern_changed m e) one.0 (c.one_is_changed.ensures.patterns m e group) one.1
    ∙ ap (λ (x : Pattern). Some (changes.pattern_changed m e x)) (sym read) ∙ ap (λ (x : Pattern). Some x) (sym change)
