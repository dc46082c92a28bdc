use Rattle.std.proofs.Common.{◌≡◌, ◌+◌, ◌%◌, get_or, ◌∙◌, refl}
use Rattle.std.specs.Int.{w8, w16, cast_signed}
use Rattle.std.specs.Prelude.{FitsSigned}
use Rattle.std.proofs.Common.{rules, of_z}
use Rattle.std.proofs.lemmas.Int.{to_z-of_z}
use Rattle.ft_format.specs.Sample.{narrow_frames}
use Rattle.ft_xmread.proofs.Frames.{next_frame}
use Rattle.ft_xmread.proofs.deltas.narrow_frames.Goals as goal

pub loop-step-init : goal.loop-step-init
unfolding narrow_frames
loop-step-init c = (rw c.in_ok-frames.ensures.items refl, search rules, search rules)

pub loop-step-preserved : goal.loop-step-preserved
loop-step-preserved c =
    let steps = c.args.steps.now in
    let i = c.loop-step.step-index in
    let value = (c.loop-step.value + get_or steps i 0) % 256 in
    let fits : FitsSigned w16 c.frame_of.result = search rules in
    let pushed : cast_signed w16 (of_z w16 c.frame_of.result) ≡ cast_signed w8 value =
    to_z-of_z w16 c.frame_of.result fits ∙ c.frame_of.ensures in (
      rw (c.push_reserved.ensures.items, pushed)
          (next_frame steps i c.loop-step.value value c.loop-step.frames.items (narrow_frames steps) c.loop-step-test.true refl c.loop-step.invariant.0),
      search rules,
      search rules,
    )
