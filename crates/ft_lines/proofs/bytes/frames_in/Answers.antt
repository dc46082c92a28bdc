use Rattle.std.proofs.Common.{◌∙◌, rules}
use Rattle.std.specs.Prelude.{FitsSigned}
use Rattle.std.specs.Int.{w16}
use Rattle.std.proofs.lemmas.Int.{to_z-of_z}
use Rattle.ft_lines.specs.Values.{doubles}
use Rattle.ft_lines.proofs.FrameWords.{next_frame}
use Rattle.ft_lines.proofs.bytes.frames_in.Goals as goal

pub loop-rest-preserved : goal.loop-rest-preserved
loop-rest-preserved c =
    let fits : FitsSigned w16 c.from_be_bytes.result = search rules in
    rw c.in_ok-push.ensures.items (next_frame c.loop-rest.frames.items c.loop-rest.rest.now _ (doubles c.args.bytes.now)
    c.in-len2-up.len_at_least (to_z-of_z w16 c.from_be_bytes.result fits ∙ c.from_be_bytes.ensures) c.loop-rest.invariant)
