use Rattle.std.proofs.Common.{rules, ◌≡◌, ◌<◌, ◌+◌, ◌*◌, ◌^◌, ◌∙◌, ℕ, ℤ, pos, length, length-set, ap, subst, sym, arith}
use Rattle.std.specs.Int.{w16, w32}
use Rattle.std.specs.Prelude.{FitsSigned}
use Rattle.std.proofs.lemmas.Int.{to_z-of_z}
use Rattle.ft_replay.specs.Sound.{value_at}
use Rattle.ft_mix.proofs.Stored.{more}
use Rattle.ft_mix.proofs.values.walk.Goals as goal

pub loop-k-preserved : goal.loop-k-preserved
loop-k-preserved c =
    let k = c.loop-k.k in
    let within : k < length c.loop-k.values = omega (arith, c.loop-k.invariant.many, c.loop-k-test.true) in
    let back = to_z-of_z w32 c.value_between.result (search rules) in
    record {
      values = λ head owned at are. more
          (λ (j : ℕ) (x : ℤ). x ≡ value_at head owned (at * 2 ^ 32 + c.args.start + j * c.args.step))
          c.loop-k.values k _ (pos 0) within
          (c.loop-k.invariant.values head owned at are)
          (back ∙ c.value_between.ensures.value head owned at are ∙ ap (value_at head owned) (omega arith));
      range = more (λ (j : ℕ) (x : ℤ). FitsSigned w16 x) c.loop-k.values k _ (pos 0) within c.loop-k.invariant.range
          (subst (FitsSigned w16) (sym back) c.value_between.ensures.range);
      many = length-set c.loop-k.values k _ ∙ c.loop-k.invariant.many;
    }
