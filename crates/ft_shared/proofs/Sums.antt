-- Sums over the views and over the slots, and the numbers in the word CURRENT.
use Rattle.std.proofs.Common.{nat_lt, ◌≡◌, ◌≢◌, ℕ, zero, suc, ◌+◌, ◌<◌, ◌≤◌, ◌==◌, Bool, true, false, List, [], ◌∷◌, ◌++◌, length, get_or, set, ◌∙◌, ◌*◌, mul-le-mul_right, suc-mul, lt_of_not-le, sym, refl, ap, arith, Option, Some, None, All, eq-eqb, ne_eqb, lt-ltb, le-ltb}
use Rattle.std.proofs.lemmas.Bool.Decides.{nat_tests}
use mathlib.Core.Option.{some, some-injective, some-ne-none}
use mathlib.Core.Logic.{dite}
use native.Mathlib.Decide.{dec_le, ℕ_discrete}
use lib.ListN.{get_elem?}
use Rattle.ft_shared.specs.declared.law.TakenVersion.{TakenVersion}
use Rattle.ft_shared.specs.declared.law.Hold.{Hold}
use Rattle.ft_shared.specs.declared.law.View.{View}
use Rattle.ft_shared.specs.declared.law.View.TheVariants.{Spent, Reader, Writer, Told}
use Rattle.ft_shared.specs.Layout.{current_word, version_in, slot_in, root_in, count_in}
use Rattle.ft_shared.specs.Counts.{bit, total, sum_below, pass_sum, one, grip, grip_of, holders, IsBehind}
use Rattle.ft_shared.specs.Register.{amount}

module _ {A : Type 0} where
  pub total-set : (f : A → ℕ) (l : List A) (i : ℕ) (v w : A) → get_elem? l i ≡ some v → total f (set l i w) + f v ≡ total f l + f w
  total-set f [] i v w e = absurd (some-ne-none v (sym e))
  total-set f (x ∷ xs) zero v w e = let is : f x ≡ f v = ap f (some-injective x v e) in omega arith
  total-set f (x ∷ xs) (suc i) v w e = let r = total-set f xs i v w e in omega arith

  pub total-append : (f : A → ℕ) (l m : List A) → total f (l ++ m) ≡ total f l + total f m
  total-append f [] m = omega arith
  total-append f (x ∷ xs) m = let r = total-append f xs m in omega arith

  pub total-le : (f g : A → ℕ) → ((v : A) → f v ≤ g v) → (l : List A) → total f l ≤ total g l
  total-le f g le [] = omega arith
  total-le f g le (x ∷ xs) = let a = le x in let b = total-le f g le xs in omega arith

  -- one element's share of a sum
  pub at-le : (f : A → ℕ) (l : List A) (i : ℕ) (v : A) → get_elem? l i ≡ some v → f v ≤ total f l
  at-le f [] i v e = absurd (some-ne-none v (sym e))
  at-le f (x ∷ xs) zero v e = let is : f x ≡ f v = ap f (some-injective x v e) in omega arith
  at-le f (x ∷ xs) (suc i) v e = let r = at-le f xs i v e in omega arith

  pub index-le : (f : A → ℕ) (l : List A) (i : ℕ) (d : A) → i < length l → f (get_or l i d) ≤ total f l
  index-le f [] i d h = absurd (omega arith)
  index-le f (x ∷ xs) zero d h = omega arith
  index-le f (x ∷ xs) (suc i) d h = let r = index-le f xs i d (omega arith) in omega arith

  pub all_one : (P : A → Type 0) (x : A) → P x → All P (x ∷ [])
  all_one P x p zero d h = p
  all_one P x p (suc k) d h = absurd (omega arith)

  -- what the new element has of g, the old one had
  pub set-keeps : {B : Type 0} (g : A → B) (l : List A) (k : ℕ) (d y : A) → g y ≡ g (get_or l k d) → (j : ℕ)
      → g (get_or (set l k y) j d) ≡ g (get_or l j d)
  set-keeps g [] k d y e j = refl
  set-keeps g (x ∷ xs) zero d y e zero = e
  set-keeps g (x ∷ xs) zero d y e (suc j) = refl
  set-keeps g (x ∷ xs) (suc k) d y e zero = refl
  set-keeps g (x ∷ xs) (suc k) d y e (suc j) = set-keeps g xs k d y e j

pub bit-le : (b : Bool) → bit b ≤ 1
bit-le true = omega arith
bit-le false = omega arith

-- a pass holds one slot at most
grip-le : (k slot : ℕ) (o : Option TakenVersion) → grip k o slot ≤ 1
grip-le k slot None = omega arith
grip-le k slot (Some t) = bit-le (slot == k)

pub passes-le : (k : ℕ) (v : View) → pass_sum (grip_of k) v ≤ pass_sum one v
passes-le k Spent = omega arith
passes-le k (Reader h) = grip-le k h.slot h.notes.held
passes-le k (Writer a) = total-le (grip_of k) one (λ h. grip-le k h.slot h.notes.held) a.settled
passes-le k (Told t) = omega arith

-- what a pass behind a seat counts is part of what the seat counts
pub behind-le : (f : Hold → ℕ) (v : View) (h : Hold) → IsBehind v h → f h ≤ pass_sum f v
behind-le f Spent h b = absurd b
behind-le f (Reader other) h b = let e : f other ≡ f h = ap f b in omega arith
behind-le f (Writer a) h b = let e : f (get_or a.settled b.0 h) ≡ f h = ap f b.2 in let l = index-le f a.settled b.0 h b.1 in omega arith
behind-le f (Told t) h b = absurd b

module _ {A : Type 0} (f w : A → ℕ) where
  -- where nothing weighs, nothing counts that counts by its weight
  pub zero_total : ((a : A) → w a ≡ 0 → f a ≡ 0) → (l : List A) → total w l ≡ 0 → total f l ≡ 0
  zero_total still [] z = refl
  zero_total still (x ∷ xs) z = let a = still x (omega arith) in let b = zero_total still xs (omega arith) in omega arith

  -- where all weigh at most 1, the one that weighs counts for all
  pub only_at : ((a : A) → w a ≡ 0 → f a ≡ 0) → (l : List A) (i : ℕ) (v : A) → get_elem? l i ≡ some v → total w l ≤ 1 → 1 ≤ w v
      → total f l ≡ f v
  only_at still [] i v e most more = absurd (some-ne-none v (sym e))
  only_at still (x ∷ xs) zero v e most more =
      let is : x ≡ v = some-injective x v e in
      let wx : w x ≡ w v = ap w is in let fx : f x ≡ f v = ap f is in
      let rest = zero_total still xs (omega arith) in omega arith
  only_at still (x ∷ xs) (suc i) v e most more =
      let l = at-le w xs i v e in
      let zero = still x (omega arith) in let r = only_at still xs i v e (omega arith) more in omega arith

  pub only_index : ((a : A) → w a ≡ 0 → f a ≡ 0) → (l : List A) (i : ℕ) (d : A) → i < length l → total w l ≤ 1 → 1 ≤ w (get_or l i d)
      → total f l ≡ f (get_or l i d)
  only_index still [] i d l most more = absurd (omega arith)
  only_index still (x ∷ xs) zero d l most more = let rest = zero_total still xs (omega arith) in omega arith
  only_index still (x ∷ xs) (suc i) d l most more =
      let m = index-le w xs i d (omega arith) in
      let zero = still x (omega arith) in let r = only_index still xs i d (omega arith) (omega arith) more in omega arith

  -- what counts at most 65,536 times its weight
  pub at_most : (l : List A) → ((i : ℕ) (v : A) → get_elem? l i ≡ some v → f v ≤ 65536 * w v) → total f l ≤ 65536 * total w l
  at_most [] le = omega arith
  at_most (x ∷ xs) le = let a = le 0 x refl in let b = at_most xs (λ i v e. le (suc i) v e) in omega arith

  pub at_most_index : (l : List A) → ((i : ℕ) (d : A) → i < length l → f (get_or l i d) ≤ 65536 * w (get_or l i d))
      → total f l ≤ 65536 * total w l
  at_most_index [] le = omega arith
  at_most_index (x ∷ xs) le = let a = le 0 x (omega arith) in let b = at_most_index xs (λ i d l. le (suc i) d (omega arith)) in omega arith

module _ (f w : Hold → ℕ) (still : (h : Hold) → w h ≡ 0 → f h ≡ 0) where
  pub zero_pass : (v : View) → pass_sum w v ≡ 0 → pass_sum f v ≡ 0
  zero_pass Spent z = refl
  zero_pass (Reader h) z = still h z
  zero_pass (Writer a) z = zero_total f w still a.settled z
  zero_pass (Told t) z = refl

  only_pass : (v : View) (h : Hold) → IsBehind v h → pass_sum w v ≤ 1 → 1 ≤ w h → pass_sum f v ≡ f h
  only_pass Spent h b most more = absurd b
  only_pass (Told t) h b most more = absurd b
  only_pass (Reader other) h b most more = ap f b
  only_pass (Writer a) h b most more =
      let e : w (get_or a.settled b.0 h) ≡ w h = ap w b.2 in
      only_index f w still a.settled b.0 h b.1 most (omega arith) ∙ ap f b.2

  -- the one pass that weighs counts for all
  pub only_behind : (views : List View) (seat : ℕ) (v : View) (h : Hold) → get_elem? views seat ≡ some v → IsBehind v h
      → total (pass_sum w) views ≤ 1 → 1 ≤ w h → total (pass_sum f) views ≡ f h
  only_behind views seat v h at behind most more =
      let l = at-le (pass_sum w) views seat v at in
      let m = behind-le w v h behind in
      only_at (pass_sum f) (pass_sum w) zero_pass views seat v at most (omega arith) ∙ only_pass v h behind (omega arith) more

pub version-of : (v k r n : ℕ) → k < 256 → r < 65536 → n < 256 → version_in (current_word v k r n) ≡ v
version-of v k r n a b c = omega arith

pub slot-of : (v k r n : ℕ) → k < 256 → r < 65536 → n < 256 → slot_in (current_word v k r n) ≡ k
slot-of v k r n a b c = omega arith

pub root-of : (v k r n : ℕ) → k < 256 → r < 65536 → n < 256 → root_in (current_word v k r n) ≡ r
root-of v k r n a b c = omega arith

pub count-of : (v k r n : ℕ) → n < 256 → count_in (current_word v k r n) ≡ n
count-of v k r n c = omega arith

-- one more pass is made, with the next number
pub numbers-more : (n g : ℕ) → bit (g == n) + bit (nat_lt n g) ≡ bit (nat_lt n (g + 1))
numbers-more n g = dite (ℕ_discrete g n)
    (λ (h : g ≡ n).
    let e : bit (g == n) ≡ 1 = ap bit (eq-eqb g n h) in
    let l : bit (nat_lt n g) ≡ 0 = ap bit (le-ltb n g (omega arith)) in
    let m : bit (nat_lt n (g + 1)) ≡ 1 = ap bit (lt-ltb n (g + 1) (omega arith)) in omega arith)
    (λ (h : g ≢ n).
    let e : bit (g == n) ≡ 0 = ap bit (ne_eqb g n h) in
    let l : bit (nat_lt n g) ≡ bit (nat_lt n (g + 1)) = ap bit (next-other g n h) in omega arith)
  where
    next-other : (g n : ℕ) → g ≢ n → nat_lt n g ≡ nat_lt n (g + 1)
    next-other g n h = grind (arith, nat_tests)

pub bit-zero : (n : ℕ) → bit (nat_lt n 0) ≡ 0
bit-zero n = ap bit (le-ltb n 0 (omega arith))

pub amount-le : (here free met : Bool) (m n : ℕ) → (here ≡ false → m ≤ n) → amount here free met m ≤ amount here free met n
amount-le true free met m n h = omega arith
amount-le false true met m n h = omega arith
amount-le false false true m n h = omega arith
amount-le false false false m n h = h refl

pub amount-new : (here free : Bool) (n : ℕ) → amount here free false n ≤ n
amount-new true free n = omega arith
amount-new false true n = omega arith
amount-new false false n = omega arith

pub amount-here : (here free met : Bool) (m n : ℕ) → here ≡ true → amount here free met m ≤ n
amount-here true free met m n e = omega arith
amount-here false free met m n e = absurd (no e)
  where
    no : false ≡ true → ⊥
    no e = cc

pub amount-scan : (b f : Bool) (h : ℕ) → (b ≡ false → 0 < h) → (f ≡ true → h ≡ 0) → amount false b true h ≤ amount false f false h
amount-scan true f h p q = omega arith
amount-scan false true h p q = let a = p refl in let b = q refl in absurd (omega arith)
amount-scan false false h p q = let a = p refl in omega arith

pub amount-met : (here free : Bool) (m n : ℕ) → amount here free true m ≤ amount here free true n
amount-met true free m n = omega arith
amount-met false true m n = omega arith
amount-met false false m n = omega arith

pub ltb-next : (k n : ℕ) → k ≢ n → nat_lt k (n + 1) ≡ nat_lt k n
ltb-next k n ne = grind (arith, nat_tests)

pub sum_below-le : (f g : ℕ → ℕ) (n : ℕ) → ((k : ℕ) → k < n → f k ≤ g k) → sum_below f n ≤ sum_below g n
unfolding sum_below
sum_below-le f g zero h = omega arith
sum_below-le f g (suc n) h = let a = h n (omega arith) in let b = sum_below-le f g n (λ k l. h k (omega arith)) in omega arith

sum_below-add : (f g : ℕ → ℕ) (n : ℕ) → sum_below (λ k. f k + g k) n ≡ sum_below f n + sum_below g n
unfolding sum_below
sum_below-add f g zero = refl
sum_below-add f g (suc n) = let a = sum_below-add f g n in omega arith

sum_below-zero : (f : ℕ → ℕ) (n : ℕ) → ((k : ℕ) → k < n → f k ≡ 0) → sum_below f n ≡ 0
unfolding sum_below
sum_below-zero f zero h = refl
sum_below-zero f (suc n) h = let a = h n (omega arith) in let b = sum_below-zero f n (λ k l. h k (omega arith)) in omega arith

sum_below-total : {A : Type 0} (f : ℕ → A → ℕ) (g : A → ℕ) (n : ℕ) → ((a : A) → sum_below (λ k. f k a) n ≤ g a) → (xs : List A)
    → sum_below (λ k. total (f k) xs) n ≤ total g xs
sum_below-total f g n h [] = let z = sum_below-zero (λ k. total (f k) []) n (λ k l. refl) in omega arith
sum_below-total f g n h (x ∷ xs) = let a = sum_below-add (λ k. f k x) (λ k. total (f k) xs) n in let b = h x in
    let c = sum_below-total f g n h xs in omega arith

one-slot : (slot n : ℕ) → sum_below (λ k. bit (slot == k)) n ≤ bit (nat_lt slot n)
unfolding sum_below
one-slot slot zero = omega arith
one-slot slot (suc n) = let a = one-slot slot n in dite (ℕ_discrete slot n)
    (λ (h : slot ≡ n).
    let lt : slot < suc n = omega arith in
    let le : n ≤ slot = omega arith in
    let e : bit (slot == n) ≡ 1 = ap bit (eq-eqb slot n h) in
    let l : bit (nat_lt slot (suc n)) ≡ 1 = ap bit (lt-ltb slot (suc n) lt) in
    let m : bit (nat_lt slot n) ≡ 0 = ap bit (le-ltb slot n le) in omega arith)
    (λ (h : slot ≢ n).
    let e : bit (slot == n) ≡ 0 = ap bit (ne_eqb slot n h) in
    let l : bit (nat_lt slot n) ≤ bit (nat_lt slot (suc n)) = grind (arith, nat_tests) in omega arith)

grip-sum_below : (n slot : ℕ) (o : Option TakenVersion) → sum_below (λ k. grip k o slot) n ≤ 1
grip-sum_below n slot None = let z = sum_below-zero (λ k. 0) n (λ k l. refl) in omega arith
grip-sum_below n slot (Some t) = let a = one-slot slot n in let b = bit-le (nat_lt slot n) in omega arith

passes-sum_below : (n : ℕ) (v : View) → sum_below (λ k. pass_sum (grip_of k) v) n ≤ pass_sum one v
passes-sum_below n Spent = let z = sum_below-zero (λ k. 0) n (λ k l. refl) in omega arith
passes-sum_below n (Reader h) = grip-sum_below n h.slot h.notes.held
passes-sum_below n (Writer a) = sum_below-total grip_of one n (λ h. grip-sum_below n h.slot h.notes.held) a.settled
passes-sum_below n (Told t) = let z = sum_below-zero (λ k. 0) n (λ k l. refl) in omega arith

-- the passes that hold a slot are at most the passes
pub holding-sum_below : (n : ℕ) (vs : List View) → sum_below (λ k. holders k vs) n ≤ total (pass_sum one) vs
holding-sum_below n vs = sum_below-total (λ k v. pass_sum (grip_of k) v) (pass_sum one) n (passes-sum_below n) vs

all-but-none : (f : ℕ → ℕ) (s n : ℕ) → n ≤ s → ((k : ℕ) → k < n → k ≢ s → f k ≡ 1) → sum_below f n ≡ n
unfolding sum_below
all-but-none f s zero l h = refl
all-but-none f s (suc n) l h = let a = h n (omega arith) (λ e. omega arith) in
    let b = all-but-none f s n (omega arith) (λ k m ne. h k (omega arith) ne) in omega arith

-- where all but one of n count 1, they count n - 1 at least
pub all-but-one : (f : ℕ → ℕ) (s n : ℕ) → ((k : ℕ) → k < n → k ≢ s → f k ≡ 1) → n ≤ sum_below f n + 1
unfolding sum_below
all-but-one f s zero h = omega arith
all-but-one f s (suc n) h = dite (ℕ_discrete n s)
    (λ (e : n ≡ s). let b = all-but-none f s n (omega arith) (λ k l ne. h k (omega arith) ne) in omega arith)
    (λ (e : n ≢ s). let a = h n (omega arith) e in let b = all-but-one f s n (λ k l ne. h k (omega arith) ne) in omega arith)

-- ---- the numbers of pin words

further : (x y n : ℕ) → x < y → x * n + n ≤ y * n
further x y n h = let a : suc x * n ≤ y * n = mul-le-mul_right n h in omega (arith, suc-mul x n)

-- the pins of a reader lie before those of the next
pub pin_inside : (r readers c n : ℕ) → r < readers → c < n → r * n + c < readers * n
pin_inside r readers c n h l = let f = further r readers n h in let x : ℕ = r * n in let y : ℕ = readers * n in let f' : x + n ≤ y = f in
    omega arith

row-apart : (r s c d n : ℕ) → c < n → r < s → r * n + c ≡ s * n + d → ⊥
row-apart r s c d n l h e =
    let f = further r s n h in let x : ℕ = r * n in let y : ℕ = s * n in
    let f' : x + n ≤ y = f in let e' : x + c ≡ y + d = e in omega arith

-- a pin word has one reader and one channel
pub same_pin : (r s c d n : ℕ) → c < n → d < n → r * n + c ≡ s * n + d → (r ≡ s) × (c ≡ d)
same_pin r s c d n lc ld e = dite (ℕ_discrete r s)
    (λ (h : r ≡ s). (
      h,
      (let m : r * n ≡ s * n = ap (λ (k : ℕ). k * n) h in let x : ℕ = r * n in let y : ℕ = s * n in
          let m' : x ≡ y = m in let e' : x + c ≡ y + d = e in omega arith),
    ))
    (λ (ne : r ≢ s). dite (dec_le r s)
    (λ (le : r ≤ s). absurd (row-apart r s c d n lc (omega arith) e))
    (λ (gt : r ≤ s → ⊥). absurd (row-apart s r d c n ld (lt_of_not-le gt) (sym e))))
