use Rattle.std.proofs.Common.{◌≡◌, ◌≤◌, ℕ, ◌+◌, ◌-◌, ◌*◌, ◌%◌, length, drop, ◌∙◌, refl, ap, arith}
use Rattle.std.specs.Int.{w16, cast_signed}
use Rattle.std.specs.Prelude.{FitsSigned}
use Rattle.std.proofs.Common.{rules, of_z}
use Rattle.std.proofs.lemmas.Int.{to_z-of_z}
use Rattle.std.proofs.lemmas.List.{length-drop, take_all}
use Rattle.byteorder.specs.Endian.{little_number}
use Rattle.ft_format.specs.Sample.{wide_frames}
use Rattle.ft_xmread.proofs.Frames.{next_wide, last_wide}
use Rattle.ft_xmread.proofs.deltas.wide_frames.Goals as goal

pub loop-i-init : goal.loop-i-init
unfolding wide_frames
loop-i-init c = (rw c.in_ok-frames.ensures.items refl, search rules, search rules)

pub loop-i-preserved : goal.loop-i-preserved
loop-i-preserved c =
    let steps = c.args.steps.now in
    let i = c.loop-i.i in
    let left : length (drop (2 * i) steps) ≤ length steps - 2 * i = omega (arith, length-drop (2 * i) steps) in
    let step : c.read_u16-value.result ≡ little_number 2 (drop (2 * i) steps) =
    c.read_u16-value.ensures ∙ ap (little_number 2) (take_all (length steps - 2 * i) (drop (2 * i) steps) left) in
    let value = (c.loop-i.value + c.read_u16-value.result) % 65536 in
    let fits : FitsSigned w16 c.cast_signed.result = search rules in
    let pushed : cast_signed w16 (of_z w16 c.cast_signed.result) ≡ cast_signed w16 value =
    to_z-of_z w16 c.cast_signed.result fits ∙ c.cast_signed.ensures in (
      rw (c.push_reserved.ensures.items, pushed)
          (next_wide steps i c.loop-i.value value c.loop-i.frames.items (wide_frames steps) (omega (arith, c.loop-i-test.true)) (ap (λ (n : ℕ). (c.loop-i.value + n) % 65536) step) c.loop-i.invariant.0),
      search rules,
      search rules,
    )

pub returns-clause-value : goal.returns-clause-value
returns-clause-value c =
    let steps = c.args.steps.now in
    last_wide (drop (2 * c.loop-i.i) steps) c.loop-i.value c.loop-i.frames.items (wide_frames steps)
    (omega (arith, c.loop-i-test.false, length-drop (2 * c.loop-i.i) steps)) c.loop-i.invariant.0
