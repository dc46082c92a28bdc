use Rattle.std.proofs.Common.{rules, ◌≡◌, ℤ, pos, FitsSigned, to_z, of_z, get_or, ap, ◌∙◌, arith}
use Rattle.std.specs.Int.{w16}
use Rattle.std.proofs.lemmas.Int.{to_z-of_z}
use Rattle.std.proofs.lemmas.List.{get_or_default}
use Rattle.std.proofs.lemmas.List.Edits.{map_over_more}
use Rattle.ft_edits.specs.Samples.{scaled_frame}
use Rattle.ft_check.proofs.frames.scale_all.Goals as goal

pub loop-frame-preserved : goal.loop-frame-preserved
loop-frame-preserved c =
    let l = c.loop-frame in
    let frame : ℤ = get_or l.frames l.frame-index (pos 0) in
    let change : ℤ → ℤ = scaled_frame c.args.wide (to_z w16 (of_z w16 c.args.n)) c.args.d in
    let fits : FitsSigned w16 c.scaled.result = search rules in
    let read : FitsSigned w16 frame = search rules in
    let new : to_z w16 (of_z w16 c.scaled.result) ≡ change frame =
    to_z-of_z w16 c.scaled.result fits ∙ c.scaled.ensures ∙ ap change (to_z-of_z w16 frame read) in
    rw new (map_over_more change c.args.frames.now l.frames l.frame-index frame (omega arith) l.invariant
    (get_or_default l.frames l.frame-index (pos 0) frame (omega arith)))
