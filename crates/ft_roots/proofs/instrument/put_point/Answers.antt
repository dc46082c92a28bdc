use Rattle.std.proofs.Common.{◌≡◌, ◌+◌, ◌*◌, ◌%◌, ℕ, set, ◌∙◌, ap, arith}
use Rattle.ft_types.specs.declared.instrument.Point.{Point}
use Rattle.ft_image.specs.Values.{points_word}
use Rattle.ft_roots.proofs.Instruments.{volume_point, panning_point}
use Rattle.ft_roots.proofs.instrument.put_point.Goals as goal
use Rattle.ft_roots.proofs.instrument.put_point.Goals.{then-w-eq0, else-w-eq0}

pub returns : goal.returns
returns c = λ old ids valid low has.
    let n = c.args.k in
    let at = c.from.result in
    let here = c.from.ensures in
    let p : Point = record { x = c.args.x; y = c.args.y } in
    let same : 2 * at + n % 2 ≡ n = omega (arith, here) in
    elim c.if-w-eq0.branch [
      | then-w-eq0 w ↦
          let is = c.with_one_point.ensures old.volume.points at valid.volume.twelve valid.volume.points (omega (arith, here, low))
          (rw w.first-is (has.volume at (omega (arith, here, low)))) in
          rw w.first-is
          (volume_point c.args.words.now old ids c.args.w n at c.with_one_point.result p c.told-words w.if-w-eq0.true low here
          (is ∙ ap (λ (i : ℕ). points_word (set old.volume.points i p) at) same) has)
      | else-w-eq0 w ↦
          let is = c.with_one_point.ensures old.panning.points at valid.panning.twelve valid.panning.points (omega (arith, here, low))
          (rw w.first-is (has.panning at (omega (arith, here, low)))) in
          rw w.first-is
          (panning_point c.args.words.now old ids c.args.w n at c.with_one_point.result p c.told-words w.if-w-eq0.false low here
          (is ∙ ap (λ (i : ℕ). points_word (set old.panning.points i p) at) same) has)
    ]
