use Rattle.std.proofs.Common.{◌≡◌, ◌++◌, ◌+◌, ℕ, List, rules, arith, pos, get_or, map, ap}
use Rattle.std.specs.List.{flat_map}
use Rattle.std.specs.Int.{w16, cast_unsigned}
use Rattle.std.proofs.lemmas.List.{length-drop}
use Rattle.ft_format.specs.Canon.{steps_from}
use Rattle.ft_format.specs.Fields.{two_bytes}
use Rattle.ft_xmwrite.proofs.Steps.{next_wide}
use Rattle.ft_xmwrite.proofs.deltas.put_wide.Goals as goal

pub loop-frame-preserved : goal.loop-frame-preserved
loop-frame-preserved c =
    let frames = c.args.frames.now in
    let i = c.loop-frame.frame-index in
    let value : c.cast_unsigned-value.result ≡ cast_unsigned w16 (get_or frames i (pos 0)) = search rules in
    record {
      steps = rw (c.push_reserved-in-loop-frame.ensures.items, c.push_reserved.ensures.items)
          (next_wide frames i c.loop-frame.before c.cast_unsigned-value.result (get_or c.to_le_bytes.result 0 0)
          (get_or c.to_le_bytes.result 1 0) c.loop-frame.bytes.items
          (c.args.bytes.now.items ++ flat_map two_bytes (steps_from 65536 0 (map (cast_unsigned w16) frames)))
          c.loop-frame-test.true value
          (ap (λ (l : List ℕ). get_or l 0 0) c.to_le_bytes.ensures)
          (ap (λ (l : List ℕ). get_or l 1 0) c.to_le_bytes.ensures) c.loop-frame.invariant.steps);
      room = omega (arith, length-drop i frames, length-drop (i + 1) frames);
    }
