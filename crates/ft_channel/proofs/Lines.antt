-- Straight lines between the points of an envelope.
use Rattle.std.proofs.Common.{◌≡◌, ◌∙◌, ℕ, zero, suc, ◌≤◌, ◌<◌, ◌+◌, ◌-◌, ◌*◌, ◌/◌, Bool, true, false, List, Some, ℤ, pos, negsuc, ◌+ℤ◌, ◌-ℤ◌, ◌*ℤ◌, leb, if◌then◌else◌, get_or, inl, inr, refl, ap, sym, subst, arith}
use Rattle.std.specs.Prelude.{nat_abs}
use Rattle.std.proofs.lemmas.Bool.{cases_lt, leb-true, leb-false}
use Rattle.std.proofs.lemmas.Int.{ints}
use Rattle.std.proofs.lemmas.Nat.{mul-le}
use Rattle.std.proofs.Math.Nat.{div-le_of_le-mul, div-lt_iff_lt-mul, add-div_right, div-eq_of_lt, mul_comm}
use Rattle.ft_types.specs.declared.instrument.Point.{Point}
use Rattle.ft_tables.specs.Pitch.{floor_div}
use Rattle.ft_replay.specs.Envelopes.{last_by, on_line, origin}
use Rattle.ft_channel.specs.Points.{IsLastBy}

-- ---- the quotients

pub rise_few : (rise gone width : ℕ) → gone < width → rise * gone / width ≤ rise
rise_few rise gone width lt =
    let most : rise * gone ≤ rise * width = mul-le rise gone rise width (omega arith) (omega arith) in
    div-le_of_le-mul width (omega (arith, most, mul_comm rise width))

pub fall_few : (fall gone width : ℕ) → gone < width → (fall * gone + width - 1) / width ≤ fall
fall_few fall gone width lt =
    let most : fall * gone ≤ fall * width = mul-le fall gone fall width (omega arith) (omega arith) in
    let below : fall * gone + width - 1 < suc fall * width = omega (arith, most) in
    let q : (fall * gone + width - 1) / width < suc fall = (div-lt_iff_lt-mul (omega arith)).1 below in
    omega (arith, q)

-- ---- the line

pub line_up : (from to : Point) (position : ℕ) → from.y ≤ to.y
    → from.y + (to.y - from.y) * (position - from.x) / (to.x - from.x) ≡ on_line from to position
unfolding on_line
line_up from to position le =
    let up : (pos to.y -ℤ pos from.y) ≡ pos (to.y - from.y) = omega (arith, ints) in
    ap (λ (z : ℤ). nat_abs (pos from.y +ℤ floor_div (z *ℤ pos (position - from.x)) (to.x - from.x))) (sym up)

down_to : (start n : ℕ) → n + 1 ≤ start → start - (n + 1) ≡ nat_abs (pos start +ℤ negsuc n)
down_to start n le =
    let it : (pos start +ℤ negsuc n) ≡ pos (start - (n + 1)) = omega (arith, ints) in
    sym (ap nat_abs it)

-- below 0
under : (n : ℕ) → (pos 0 -ℤ pos (suc n)) ≡ negsuc n
under n = omega (arith, ints)

neg_times : (fall gone : ℕ) → ((pos 0 -ℤ pos fall) *ℤ pos gone) ≡ (pos 0 -ℤ pos (fall * gone))
neg_times zero gone = omega (arith, ints)
neg_times (suc fall) gone =
    let below : (negsuc fall *ℤ pos gone) ≡ (pos 0 -ℤ pos (suc fall * gone)) = omega (arith, ints) in
    ap (λ (z : ℤ). z *ℤ pos gone) (under fall) ∙ below

flat_at : (start : ℕ) → nat_abs (pos start +ℤ pos 0) ≡ start - 0
flat_at start =
    let it : (pos start +ℤ pos 0) ≡ pos (start - 0) = omega (arith, ints) in
    ap nat_abs it

fallen_by : (start n width : ℕ) → 0 < width → (n + width - 1) / width ≤ start
    → start - (n + width - 1) / width ≡ nat_abs (pos start +ℤ floor_div (pos 0 -ℤ pos n) width)
fallen_by start zero width lt few =
    let none : (0 + width - 1) / width ≡ 0 = div-eq_of_lt (omega arith) in
    let flat : 0 / width ≡ 0 = div-eq_of_lt lt in
    ap (λ (m : ℕ). start - m) none ∙ sym (ap (λ (m : ℕ). nat_abs (pos start +ℤ pos m)) flat ∙ flat_at start)
fallen_by start (suc n) width lt few =
    let whole : suc n + width - 1 ≡ n + width = omega arith in
    let more : (suc n + width - 1) / width ≡ n / width + 1 = ap (λ (m : ℕ). m / width) whole ∙ add-div_right n lt in
    let enough : n / width + 1 ≤ start = omega (arith, more, few) in
    ap (λ (m : ℕ). start - m) more ∙ down_to start (n / width) enough
    ∙ ap (λ (z : ℤ). nat_abs (pos start +ℤ floor_div z width)) (sym (under n))

pub line_down : (from to : Point) (position : ℕ) → to.y < from.y → position < to.x → from.x ≤ position
    → from.y - ((from.y - to.y) * (position - from.x) + (to.x - from.x) - 1) / (to.x - from.x)
    ≡ on_line from to position
unfolding on_line
line_down from to position lt before begun =
    let gone = position - from.x in
    let width = to.x - from.x in
    let fall = from.y - to.y in
    let few = fall_few fall gone width (omega arith) in
    let down : (pos to.y -ℤ pos from.y) ≡ (pos 0 -ℤ pos fall) = omega (arith, ints) in
    let product : ((pos 0 -ℤ pos fall) *ℤ pos gone) ≡ (pos 0 -ℤ pos (fall * gone)) = neg_times fall gone in
    fallen_by from.y (fall * gone) width (omega arith) (omega (arith, few))
    ∙ ap (λ (z : ℤ). nat_abs (pos from.y +ℤ floor_div z width)) (sym product)
    ∙ ap (λ (z : ℤ). nat_abs (pos from.y +ℤ floor_div (z *ℤ pos gone) width)) (sym down)

-- ---- the last point that is reached

found_by : (position : ℕ) (points : List Point) (n k : ℕ) (here : Bool) → leb (get_or points n origin).x position ≡ here
    → (last_by position points n ≡ Some k → IsLastBy position points n k)
    → (if here then Some n else last_by position points n) ≡ Some k → IsLastBy position points (suc n) k
found_by position points n k true e before is =
    let same : n ≡ k = cc in
    subst (IsLastBy position points (suc n)) same (record {
      within = omega arith;
      reached = leb-true (get_or points n origin).x position e;
      next = λ lt. absurd (omega arith);
    })
found_by position points n k false e before is =
    let f = before is in
    let past = leb-false (get_or points n origin).x position e in
    record {
      within = omega (arith, f.within);
      reached = f.reached;
      next = λ lt. elim (cases_lt (k + 1) n) [
        | inl lower ↦ f.next lower
        | inr le ↦ subst (λ (m : ℕ). position < (get_or points m origin).x) {x = n} {y = k + 1} (omega arith) past
      ];
    }

pub last_found : (position : ℕ) (points : List Point) (n k : ℕ) → last_by position points n ≡ Some k
    → IsLastBy position points n k
last_found position points zero k is = absurd cc
last_found position points (suc n) k is =
    found_by position points n k (leb (get_or points n origin).x position) refl (last_found position points n k) is
