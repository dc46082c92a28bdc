use Rattle.std.proofs.Common.{◌≡◌, ◌+◌, ◌*◌, ◌^◌, ◌∙◌, arith}
use Rattle.ft_mix.proofs.values.walk_fours.Goals as goal

pub loop-four-preserved : goal.loop-four-preserved
loop-four-preserved c =
    let four = c.loop-four.four in
    let on = c.loop-four.invariant.place in
    let next : 4 * (four + 1) ≡ 4 * four + 4 = omega arith in
    record {
      place = grind (arith, on);
      values = λ head owned at are k lt.
          c.walk_four.ensures.values head owned at (at * 2 ^ 32 + c.args.start) are (omega (arith, on))
          (c.loop-four.invariant.values head owned at are) k (omega (arith, lt));
      range = λ k lt. c.walk_four.ensures.range c.loop-four.invariant.range k (omega (arith, lt));
      many = c.walk_four.ensures.many ∙ c.loop-four.invariant.many;
    }
