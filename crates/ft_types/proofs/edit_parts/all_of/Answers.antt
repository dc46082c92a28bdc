use Rattle.std.proofs.Common.{rules, pos, get_or}
use Rattle.std.specs.Prelude.{FitsSigned}
use Rattle.std.specs.Int.{w16}
use Rattle.std.proofs.lemmas.List.Elements.{All-more}
use Rattle.ft_types.proofs.edit_parts.all_of.Goals as goal

pub loop-frame-preserved : goal.loop-frame-preserved
loop-frame-preserved c =
    let l = c.loop-frame in
    let read : FitsSigned w16 (get_or c.args.frames.now l.frame-index (pos 0)) = search rules in
    search (rules, All-more)
