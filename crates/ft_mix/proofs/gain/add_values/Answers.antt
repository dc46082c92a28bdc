use Rattle.std.proofs.Common.{rules, ◌≡◌, ◌≢◌, ◌<◌, ◌+◌, ◌∙◌, ℕ, ℤ, pos, ◌+ℤ◌, to_z, of_z, List, length, get_or, set, length-set, get_or-set_other, ap, subst, sym, arith}
use Rattle.std.specs.Int.{w16, w32}
use Rattle.std.specs.Prelude.{FitsSigned}
use Rattle.std.proofs.lemmas.Int.{ints, to_z-of_z}
use Rattle.ft_replay.specs.Sound.{gained}
use Rattle.ft_mix.specs.Mixing.{IsLoud, HaveAdded}
use Rattle.ft_mix.proofs.Stored.{more}
use Rattle.ft_mix.proofs.gain.add_values.Goals as goal

-- one more value is added to a side
adds : (gain : ℕ) (values old sums : List ℤ) (k : ℕ) (sum value x y : ℤ) → k < length sums
    → get_or sums k (pos 0) ≡ get_or old k (pos 0) → value ≡ get_or values k (pos 0)
    → sum ≡ get_or sums k (pos 0) → x ≡ (sum +ℤ gained value gain) → y ≡ x
    → ((n : ℕ) → IsLoud n sum → IsLoud (n + 1) x)
    → HaveAdded gain values old sums k → HaveAdded gain values old (set sums k y) (k + 1)
adds gain values old sums k sum value x y within here v s e back louder so_far =
    let was : sum ≡ get_or old k (pos 0) = s ∙ here in
    record {
      sums = more
          (λ (j : ℕ) (z : ℤ). z ≡ (get_or old j (pos 0) +ℤ gained (get_or values j (pos 0)) gain))
          sums k y (pos 0) within so_far.sums
          (back ∙ e ∙ ap (λ (z : ℤ). z +ℤ gained value gain) was
          ∙ ap (λ (z : ℤ). get_or old k (pos 0) +ℤ gained z gain) v);
      loud = λ n loud. more (λ (j : ℕ) (z : ℤ). IsLoud (n + 1) z) sums k y (pos 0) within
          (so_far.loud n (λ j lt. loud j (omega (arith, lt))))
          (subst (IsLoud (n + 1)) (sym back) (louder n (subst (IsLoud n) (sym was) (loud k (omega arith)))));
    }

-- a sum that is loud by 31 voices fits 32 bits
sum_back : (sum old : ℤ) → sum ≡ old → IsLoud 31 old → to_z w32 (of_z w32 sum) ≡ sum
sum_back sum old e loud =
    let fits : FitsSigned w32 old = omega (arith, ints, loud) in
    to_z-of_z w32 sum (subst (FitsSigned w32) (sym e) fits)

value_back : (value : ℤ) → FitsSigned w16 value → to_z w32 (of_z w32 value) ≡ value
value_back value fits = to_z-of_z w32 value (omega (arith, ints, fits))

pub loop-k-preserved : goal.loop-k-preserved
loop-k-preserved c =
    let k = c.loop-k.k in
    let inv = c.loop-k.invariant in
    let in_left : k < length c.loop-k.left = omega (arith, c.loop-k-test.true, inv.many) in
    let in_right : k < length c.loop-k.right =
    omega (arith, c.loop-k-test.true, inv.both, c.requires.both) in
    let left_is = inv.left_after k (omega arith) in
    let right_is = inv.right_after k (omega arith) in
    let value = value_back _ (c.requires.range k (omega (arith, c.loop-k-test.true, c.requires.many))) in
    let left_sum = sum_back _ _ left_is (c.requires.left_room k c.loop-k-test.true) in
    let right_sum = sum_back _ _ right_is (c.requires.right_room k c.loop-k-test.true) in
    record {
      left = adds c.args.left_gain c.args.values.now c.args.left.now c.loop-k.left k _ _ _ _ in_left left_is value
          left_sum c.added.ensures.value (to_z-of_z w32 c.added.result (search rules)) c.added.ensures.loud inv.left;
      right = adds c.args.right_gain c.args.values.now c.args.right.now c.loop-k.right k _ _ _ _ in_right right_is value
          right_sum c.added-in-loop-k.ensures.value (to_z-of_z w32 c.added-in-loop-k.result (search rules))
          c.added-in-loop-k.ensures.loud inv.right;
      left_after = λ j le. let ne : j ≢ k = omega arith in rw get_or-set_other (inv.left_after j (omega arith));
      right_after = λ j le. let ne : j ≢ k = omega arith in rw get_or-set_other (inv.right_after j (omega arith));
      many = length-set c.loop-k.left k _ ∙ inv.many;
      both = length-set c.loop-k.right k _ ∙ inv.both;
    }
