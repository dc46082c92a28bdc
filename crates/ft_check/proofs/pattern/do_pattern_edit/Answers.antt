use Rattle.std.proofs.Common.{◌≡◌, Some, List, refl, sym, ap, ◌∙◌, subst}
use Rattle.std.specs.Prelude.{slice_get}
use Rattle.ft_types.specs.declared.pattern.Cell.{Cell}
use Rattle.ft_edits.specs.Changes.{pattern_changed, pattern_number}
use Rattle.ft_cells.specs.Buffers.{IsSource}
use Rattle.ft_check.proofs.Changes.{ok_so, err_so, pattern_now, pattern_back, pattern_none}
use Rattle.ft_check.proofs.pattern.do_pattern_edit.Goals as goal

pub returns-in-Some-clause-ok : goal.returns-in-Some-clause-ok
returns-in-Some-clause-ok c =
    let song = c.args.m.now in
    let e = c.args.e.now in
    let index : c.from.result ≡ pattern_number e = c.from.ensures ∙ c.pattern_number.ensures in
    let named : slice_get song.patterns (pattern_number e) ≡ Some c.in-Some.pattern.now =
    ap (slice_get song.patterns) (sym index) ∙ sym c.in-Some.ensures.value in
    let source : IsSource song e c.as_slice.result.now =
    subst (λ (cells : List Cell). IsSource song e cells) (sym c.as_slice.ensures.value) c.in_ok-source.ensures in
    ok_so c.change.result (c.change.ensures.ok song c.requires.valid refl named source c.requires.there) (λ new.
    pattern_now song (pattern_number e) c.from.result (pattern_changed song e) c.in-Some.pattern.now
    c.change.new.pattern index (sym c.in-Some.ensures.value) new
    ∙ sym (c.one_is_changed.ensures.patterns song e c.requires.group))

pub returns-in-Some-clause-err : goal.returns-in-Some-clause-err
returns-in-Some-clause-err c = err_so c.change.result c.change.ensures.err (λ same.
    pattern_back c.args.m.now c.from.result c.in-Some.pattern.now c.change.new.pattern (sym c.in-Some.ensures.value)
    same)

pub returns-clause-ok : goal.returns-clause-ok
returns-clause-ok c =
    let e = c.args.e.now in
    pattern_none c.args.m.now (pattern_number e) c.from.result (pattern_changed c.args.m.now e)
    (c.from.ensures ∙ c.pattern_number.ensures) (sym c.in-None.ensures.value)
    ∙ sym (c.one_is_changed.ensures.patterns c.args.m.now e c.requires.group)
