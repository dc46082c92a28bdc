use Rattle.std.proofs.Common.{ℕ, ◌*◌, ◌+◌, ap, ◌∙◌, get_or}
use Rattle.ft_types.specs.Views.{empty_cell}
use Rattle.std.specs.List.{slice_get}
use Rattle.ft_segments.specs.Walk.{IsOf, ids_of}
use Rattle.ft_changes.specs.Ids.{bodies_at}
use Rattle.ft_songedit.proofs.Stored.{is_stored, body_read, body_there}
use Rattle.ft_songedit.proofs.pattern_cells.read_numbered_body.Goals as goal

pub returns-in_default-clause-read : goal.returns-in_default-clause-read
returns-in_default-clause-read g c = λ p m x may shows is there within.
    absurd (body_there p m c.args.pattern c.args.body x (is_stored p m c.args.pattern x shows there) within
    (c.in_default.ensures.answer p m may shows is ∙ ap (λ k. slice_get (bodies_at (ids_of p) k) c.args.body) c.from.ensures))

pub returns-clause-read : goal.returns-clause-read
returns-clause-read g c = λ p m x may shows is there within j lt.
    let before = λ (s : ℕ) (of : IsOf p s). c.read_body.ensures.narrows p s (may s of) in
    let read = body_read p m c.args.pattern c.args.body c.in-Some.segment x (is_stored p m c.args.pattern x shows there)
    (c.in-Some.ensures.answer p m before shows is ∙ ap (λ k. slice_get (bodies_at (ids_of p) k) c.args.body) c.from.ensures) in
    c.read_body.ensures.read p (may c.in-Some.segment read.segment) j (get_or x.cells (c.args.body * 256 + j) empty_cell) lt
    (read.valid j) (read.words j lt)
