-- What is kept beside the lists, after changes of the marks.
use Rattle.std.proofs.Common.{◌≡◌, ◌≤◌, ◌+◌, ◌-◌, ℕ, Bool, true, false, List, length, get_or, set, below_more, replicate, ap, sym, subst, ◌∙◌, arith}
use Rattle.std.proofs.lemmas.List.{length-set, length-replicate}
use Rattle.ft_retire.specs.declared.life.Life.{Life}
use Rattle.ft_retire.specs.Births.{HasCounts}
use Rattle.ft_retire.specs.Marks.{unmarked_in, IsLeastUnmarked}
use Rattle.ft_retire.proofs.Marking.{no_marks, none_unmarked, stays_marked}

-- no mark is left
pub counted_anew : (lives : List Life) (marks : List Bool) (n free : ℕ)
    → length lives ≡ n → n ≤ 65535 → free ≡ n → marks ≡ replicate n false
    → HasCounts lives marks free 0
counted_anew lives marks n free many few e none = subst
    (λ (ms : List Bool). HasCounts lives ms free 0) (sym none)
    (record {
      many = many ∙ sym (length-replicate n false);
      few = omega (arith, length-replicate n false);
      counted = e ∙ sym (no_marks n);
      passed = λ s lt. absurd (omega arith);
      inside = omega arith;
    })

-- all are marked
pub counted_full : (lives : List Life) (marks : List Bool) (free next end : ℕ)
    → HasCounts lives marks free next → unmarked_in marks ≡ 0 → end ≤ length marks → HasCounts lives marks free end
counted_full lives marks free next end old none le = record {
  many = old.many;
  few = old.few;
  counted = old.counted;
  passed = λ s lt. none_unmarked marks s none;
  inside = le;
}

-- a segment is given
pub counted_given : (lives : List Life) (marks new : List Bool) (free next segment count : ℕ) (life : Life)
    → HasCounts lives marks free next → IsLeastUnmarked marks segment
    → new ≡ set marks segment true
    → unmarked_in new + count ≡ unmarked_in marks
    → get_or new segment true ≡ true
    → HasCounts (set lives segment life) new (free - count) (segment + 1)
counted_given lives marks new free next segment count life old least e less here = record {
  many = length-set lives segment life ∙ old.many ∙ sym (length-set marks segment true) ∙ sym (ap length e);
  few = omega (arith, old.few, ap length e, length-set marks segment true);
  counted = omega (arith, old.counted, less);
  passed = below_more (λ (k : ℕ). get_or new k true ≡ true) segment
      (λ k lt. subst (λ (ms : List Bool). get_or ms k true ≡ true) (sym e)
      (stays_marked marks segment k (least.below k lt))) here;
  inside = omega (arith, least.within, ap length e, length-set marks segment true);
}
