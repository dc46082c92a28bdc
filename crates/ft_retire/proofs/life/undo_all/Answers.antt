use Rattle.std.proofs.Common.{◌∙◌, map, sym, arith}
use Rattle.std.proofs.lemmas.List.{length-map, ext_get_or}
use Rattle.ft_retire.specs.Lives.{never, undone}
use Rattle.ft_retire.proofs.Undoing.{undone_at}
use Rattle.ft_retire.proofs.life.undo_all.Goals as goal

pub returns : goal.returns
returns c =
    let many = c.loop-life.invariant.many in
    ext_get_or never c.loop-life.segments (map (undone c.args.version) c.args.segments.now)
    (many ∙ sym (length-map c.args.segments.now (undone c.args.version)))
    (λ k lt. c.loop-life.invariant.before k (omega (arith, lt, many))
    ∙ sym (undone_at c.args.version c.args.segments.now k))
