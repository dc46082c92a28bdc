use Rattle.std.proofs.Common.{◌≡◌, ◌+◌, ◌++◌, rules, arith, ℤ, pos, get_or, map, ap, ◌∙◌, to_z, of_z}
use Rattle.std.specs.Prelude.{FitsSigned}
use Rattle.std.specs.Int.{w8, w16, cast_unsigned}
use Rattle.std.proofs.lemmas.Int.{to_z-of_z}
use Rattle.std.proofs.lemmas.List.{length-drop}
use Rattle.ft_format.specs.Canon.{steps_from}
use Rattle.ft_xmwrite.proofs.Steps.{next_narrow}
use Rattle.ft_xmwrite.proofs.deltas.put_narrow.Goals as goal

pub loop-frame-preserved : goal.loop-frame-preserved
loop-frame-preserved c =
    let frames = c.args.frames.now in
    let i = c.loop-frame.frame-index in
    let frame = get_or frames i (pos 0) in
    let narrow : FitsSigned w8 frame = c.requires i (pos 0) c.loop-frame-test.true in
    let fits : FitsSigned w16 frame = search rules in
    let value : c.cast_unsigned-value.result ≡ cast_unsigned w8 frame =
    c.cast_unsigned-value.ensures ∙ ap (λ (z : ℤ). of_z w8 (to_z w8 (of_z w8 z))) (to_z-of_z w16 frame fits)
    ∙ ap (of_z w8) (to_z-of_z w8 frame narrow)
    in
    record {
      steps = rw c.push_reserved.ensures.items
          (next_narrow frames i c.loop-frame.before c.cast_unsigned-value.result c.loop-frame.bytes.items
          (c.args.bytes.now.items ++ steps_from 256 0 (map (cast_unsigned w8) frames))
          c.loop-frame-test.true value c.loop-frame.invariant.steps);
      room = omega (arith, length-drop i frames, length-drop (i + 1) frames);
    }
