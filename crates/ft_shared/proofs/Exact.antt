-- While all passes are settled they count for all, and so a scan of the slots is exact.
use Rattle.std.proofs.Common.{◌≡◌, ◌≢◌, ◌⊎◌, ◌↔◌, inl, inr, ℕ, zero, suc, ◌+◌, ◌<◌, ◌≤◌, ◌==◌, Bool, true, false, cond, List, [], ◌∷◌, length, get_or, sym, refl, ap, ◌∙◌, ⊎_elim, arith, Option, Some, None, IsSome, eq-eqb, ne_eqb, false-eqb, true-eqb}
use Rattle.std.specs.List.{Contains}
use mathlib.Core.Option.{some, some-injective, some-ne-none}
use mathlib.Core.Logic.{dite}
use native.Mathlib.Decide.{dec_le, ℕ_discrete}
use lib.ListN.{get_elem?}
use Rattle.ft_shared.specs.declared.law.Opening.{Opening}
use Rattle.ft_shared.specs.declared.law.Sizes.{Sizes}
use Rattle.ft_shared.specs.declared.law.TakenVersion.{TakenVersion}
use Rattle.ft_shared.specs.declared.law.Hold.{Hold}
use Rattle.ft_shared.specs.declared.law.Account.{Account}
use Rattle.ft_shared.specs.declared.law.View.{View}
use Rattle.ft_shared.specs.declared.law.View.TheVariants.{Spent, Reader, Writer, Told}
use Rattle.ft_shared.specs.Counts.{bit, total, pass_sum, one, grip, grip_of, holders, IsBehind}
use Rattle.ft_shared.specs.Account.{slot_at, is_free, answer_of, AreAllSettled, IsHeldSlot}
use Rattle.ft_shared.specs.Register.{TableState, RegisterRule}
use Rattle.ft_shared.proofs.Sums.{at-le, index-le, zero_total, zero_pass}

module _ {A : Type 0} (f w : A → ℕ) where
  -- the one that weighs all counts for all
  all_at : ((a : A) → w a ≡ 0 → f a ≡ 0) → (l : List A) (i : ℕ) (v : A) → get_elem? l i ≡ some v → total w l ≤ w v → total f l ≡ f v
  all_at still [] i v e most = absurd (some-ne-none v (sym e))
  all_at still (x ∷ xs) zero v e most =
      let is : x ≡ v = some-injective x v e in
      let wx : w x ≡ w v = ap w is in let fx : f x ≡ f v = ap f is in
      let rest = zero_total f w still xs (omega arith) in omega arith
  all_at still (x ∷ xs) (suc i) v e most =
      let l = at-le w xs i v e in
      let z = still x (omega arith) in let r = all_at still xs i v e (omega arith) in omega arith

-- what counts at all has one that counts
pub one_counts : {A : Type 0} (f : A → ℕ) (l : List A) → 1 ≤ total f l → (x : A) × Contains l x × (1 ≤ f x)
one_counts f [] more = absurd (omega arith)
one_counts f (x ∷ xs) more = dite (dec_le 1 (f x))
    (λ (here : 1 ≤ f x). (x, (0, omega arith, refl), here))
    (λ (none : 1 ≤ f x → ⊥).
    let z : f x ≡ 0 = low (f x) none in
    let r = one_counts f xs (omega arith) in let less = r.1.1 in (r.0, (suc r.1.0, omega arith, r.1.2), r.2))
  where
    low : (n : ℕ) → (1 ≤ n → ⊥) → n ≡ 0
    low zero h = refl
    low (suc n) h = absurd (h (omega arith))

-- what is in a list counts as part of it
pub counts_in : {A : Type 0} (f : A → ℕ) (l : List A) (x : A) → Contains l x → f x ≤ total f l
counts_in f l x c = let e : f (get_or l c.0 x) ≡ f x = ap f c.2 in let i = index-le f l c.0 x c.1 in omega arith

pub bit-true : (b : Bool) → 1 ≤ bit b → b ≡ true
bit-true true l = refl
bit-true false l = absurd (omega arith)

pub total-one : (l : List Hold) → total one l ≡ length l
total-one [] = refl
total-one (h ∷ l) = let r = total-one l in omega arith

-- a pass that counts for a slot holds a version in it
pub grips : (k slot : ℕ) (o : Option TakenVersion) → 1 ≤ grip k o slot → (taken : TakenVersion) × (o ≡ Some taken) × (slot ≡ k)
grips k slot None l = absurd (omega arith)
grips k slot (Some t) l = (t, refl, true-eqb slot k (sym (bit-true (slot == k) l)))

-- where the passes behind the seats count at all, one of them does
pub counting_pass : (f : Hold → ℕ) (l : List View) → 1 ≤ total (pass_sum f) l
    → (seat : ℕ) × (view : View) × (hold : Hold) × (get_elem? l seat ≡ some view) × IsBehind view hold × (1 ≤ f hold)
counting_pass f [] more = absurd (omega arith)
counting_pass f (v ∷ l) more = dite (dec_le 1 (pass_sum f v))
    (λ (here : 1 ≤ pass_sum f v). let r = behind v here in (0, v, r.0, refl, r.1, r.2))
    (λ (none : 1 ≤ pass_sum f v → ⊥).
    let z : pass_sum f v ≡ 0 = low (pass_sum f v) none in
    let r = counting_pass f l (omega arith) in (suc r.0, r.1, r.2, r.3, r.4, r.5))
  where
    low : (n : ℕ) → (1 ≤ n → ⊥) → n ≡ 0
    low zero h = refl
    low (suc n) h = absurd (h (omega arith))

    behind : (v : View) → 1 ≤ pass_sum f v → (hold : Hold) × IsBehind v hold × (1 ≤ f hold)
    behind Spent l = absurd (omega arith)
    behind (Reader h) l = (h, refl, l)
    behind (Writer a) l = let r = one_counts f a.settled l in (r.0, r.1, r.2)
    behind (Told t) l = absurd (omega arith)

some-of : {A : Type 0} (b : Bool) (x : A) → IsSome (cond b None (Some x)) ↔ (b ≡ false)
some-of true x = ((λ e. sym e), (λ e. sym e))
some-of false x = ((λ e. refl), (λ e. refl))

module _ (key : Opening) where
  -- while all are settled, the settled passes count for all
  pub settled-all : (state : TableState) (rule : RegisterRule key state) (id : ℕ) → get_elem? state.views id ≡ some (Writer rule.account)
      → AreAllSettled rule.account → (f : Hold → ℕ) → total (pass_sum f) state.views ≡ total f rule.account.settled
  settled-all state rule id at all f =
      let n : rule.account.sizes.readers ≡ key.sizes.readers = ap (λ (z : Sizes). z.readers) rule.told in
      let c = rule.count in let o = total-one rule.account.settled in
      all_at (pass_sum f) (pass_sum one) (zero_pass f one (λ h z. absurd (omega arith))) state.views id (Writer rule.account) at
      (omega arith)

  -- a slot is answered that is current or that a settled pass holds
  pub slot_exact : (state : TableState) (rule : RegisterRule key state) (id : ℕ) → get_elem? state.views id ≡ some (Writer rule.account)
      → length rule.account.scan < key.sizes.readers + 2 → AreAllSettled rule.account
      → IsSome (answer_of rule.account (length rule.account.scan) (get_or state.words (length rule.account.scan + 1) 0))
      ↔ ((length rule.account.scan ≡ rule.account.slot) ⊎ IsHeldSlot rule.account (length rule.account.scan))
  slot_exact state rule id at less all =
      let a : Account = rule.account in
      let k : ℕ = length a.scan in
      let w : ℕ = get_or state.words (k + 1) 0 in
      let start : ℕ = (slot_at a k).start in
      let same : holders k state.views ≡ total (grip_of k) a.settled = settled-all state rule id at all (grip_of k) in
      let says : IsSome (answer_of a k w) ↔ (is_free a k w ≡ false) = some-of (is_free a k w) (slot_at a k).version in
      dite (ℕ_discrete k a.slot)
      (λ (h : k ≡ a.slot). (
        (λ _. inl h),
        (λ _. says.1 (ap (λ (b : Bool). cond b false (start == w)) (eq-eqb k a.slot h))),
      ))
      (λ (h : k ≢ a.slot).
      let leavers = rule.leavers k less h in
      let free : is_free a k w ≡ (start == w) = ap (λ (b : Bool). cond b false (start == w)) (ne_eqb k a.slot h) in (
        (λ e.
            let ne : start ≢ w = false-eqb start w (sym (sym free ∙ says.0 e)) in
            let one = one_counts (grip_of k) a.settled (more (total (grip_of k) a.settled) (λ z. ne (omega arith))) in
            let g = grips k (one.0).slot (one.0).notes.held one.2 in
            inr (one.0, g.0, one.1, g.1, g.2)),
        (λ e. ⊎_elim (λ (here : k ≡ a.slot). absurd (h here))
            (λ (held : IsHeldSlot a k).
            let hold : Hold = held.0 in
            let one : grip_of k hold ≡ 1 = ap (λ (o : Option TakenVersion). grip k o hold.slot) held.3
            ∙ ap bit (eq-eqb hold.slot k held.4) in
            let c = counts_in (grip_of k) a.settled hold held.2 in
            says.1 (free ∙ ne_eqb start w (λ t. absurd (omega arith)))) e),
      ))
    where
      more : (n : ℕ) → (n ≡ 0 → ⊥) → 1 ≤ n
      more zero h = absurd (h refl)
      more (suc n) h = omega arith
