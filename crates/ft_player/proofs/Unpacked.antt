-- Frames that are unpacked from a word.
use Rattle.std.proofs.Common.{◌≡◌, ◌≢◌, ℕ, ◌<◌, ◌≤◌, ◌+◌, ◌-◌, ℤ, pos, to_z, of_z, Bool, List, ◌++◌, length, length-append, get_or, set, below_more, get_or-set_other, get_or-set_same, refl, subst, sym, ◌∙◌, arith, inl, inr}
use Rattle.std.specs.Int.{w16}
use Rattle.std.specs.Prelude.{FitsSigned}
use Rattle.std.proofs.lemmas.Bool.{cases_lt}
use Rattle.std.proofs.lemmas.Int.{to_z-of_z}
use Rattle.std.proofs.lemmas.List.{length-set, get_or-append-add}
use Rattle.std.proofs.Math.ListN.{get_or-append}
use Rattle.ft_player.specs.Runs.{IsFrameIn, HasUnpacked}

-- one more item of a list is written
pub more : {A : Type 0} (P : ℕ → A → Type 0) (xs : List A) (i : ℕ) (x d : A) → i < length xs
    → ((j : ℕ) → j < i → P j (get_or xs j d)) → P i x → (j : ℕ) → j < i + 1 → P j (get_or (set xs i x) j d)
more P xs i x d lt before here =
    below_more (λ (j : ℕ). P j (get_or (set xs i x) j d)) i
    (λ j less. let ne : j ≢ i = omega arith in rw get_or-set_other (before j less))
    (subst (P i) (sym (get_or-set_same xs i x d lt)) here)

-- a frame as it is written
pub as_written : (wide : Bool) (word place : ℕ) (z : ℤ) → FitsSigned w16 z → IsFrameIn wide word place z
    → IsFrameIn wide word place (to_z w16 (of_z w16 z))
as_written wide word place z fits is = subst (IsFrameIn wide word place) (sym (to_z-of_z w16 z fits)) is

-- what is at a place once some of four frames are written behind others
Stands : Bool → ℕ → ℕ → ℕ → List ℤ → ℕ → ℤ → Type 0
Stands wide word place at frames j z =
    (j < at → z ≡ get_or frames j (pos 0)) × ((k : ℕ) → j ≡ at + k → IsFrameIn wide word (place + k) z)

nth : (wide : Bool) (word place at n : ℕ) (frames : List ℤ) (j place_n : ℕ) (z : ℤ) → j ≡ at + n → place_n ≡ place + n
    → IsFrameIn wide word place_n z → Stands wide word place at frames j z
unfolding Stands
nth wide word place at n frames j place_n z e f is = (
  λ lt. absurd (omega (arith, e, lt)),
  λ k g. let same : place_n ≡ place + k = omega (arith, e, f, g) in subst (λ (p : ℕ). IsFrameIn wide word p z) same is,
)

pub four_put : (wide : Bool) (word place at : ℕ) (frames : List ℤ) (a b c d : ℤ) → at + 4 ≤ length frames
    → IsFrameIn wide word place a → IsFrameIn wide word (place + 1) b → IsFrameIn wide word (place + 2) c
    → IsFrameIn wide word (place + 3) d
    → HasUnpacked wide word place at frames (set (set (set (set frames at a) (at + 1) b) (at + 2) c) (at + 3) d)
unfolding Stands
four_put wide word place at frames a b c d room ha hb hc hd =
    let P = Stands wide word place at frames in
    let one = set frames at a in
    let two = set one (at + 1) b in
    let three = set two (at + 2) c in
    let l1 : length one ≡ length frames = length-set frames at a in
    let l2 : length two ≡ length frames = length-set one (at + 1) b ∙ l1 in
    let l3 : length three ≡ length frames = length-set two (at + 2) c ∙ l2 in
    let none : (j : ℕ) → j < at → P j (get_or frames j (pos 0)) = λ j lt. (λ _. refl, λ k e. absurd (omega (arith, e, lt))) in
    let r1 = more P frames at a (pos 0) (omega (arith, room)) none
    (nth wide word place at 0 frames at place a (omega arith) (omega arith) ha) in
    let r2 = more P one (at + 1) b (pos 0) (omega (arith, room, l1)) r1
    (nth wide word place at 1 frames (at + 1) (place + 1) b refl refl hb) in
    let r3 = more P two (at + 2) c (pos 0) (omega (arith, room, l2)) (λ j lt. r2 j (omega (arith, lt)))
    (nth wide word place at 2 frames (at + 2) (place + 2) c refl refl hc) in
    let r4 = more P three (at + 3) d (pos 0) (omega (arith, room, l3)) (λ j lt. r3 j (omega (arith, lt)))
    (nth wide word place at 3 frames (at + 3) (place + 3) d refl refl hd) in record {
      many = length-set three (at + 3) d ∙ l3;
      before = λ k lt. (r4 k (omega (arith, lt))).0 lt;
      four = λ k lt. (r4 (at + k) (omega (arith, lt))).1 k refl;
    }

-- what is true of the frames before them and of the four is true of all so far
pub four_more : (P : ℕ → ℤ → Type 0) (wide : Bool) (word place at : ℕ) (old new : List ℤ)
    → HasUnpacked wide word place at old new → ((j : ℕ) → j < at → P j (get_or old j (pos 0)))
    → ((k : ℕ) (z : ℤ) → k < 4 → IsFrameIn wide word (place + k) z → P (at + k) z)
    → (j : ℕ) → j < at + 4 → P j (get_or new j (pos 0))
four_more P wide word place at old new has before each j lt =
    elim (cases_lt j at) [
      | inl less ↦ subst (P j) (sym (has.before j less)) (before j less)
      | inr le ↦
          let here : at + (j - at) ≡ j = omega arith in
          let few : j - at < 4 = omega arith in
          subst (λ (n : ℕ). P n (get_or new n (pos 0))) here
          (each (j - at) (get_or new (at + (j - at)) (pos 0)) few (has.four (j - at) few))
    ]

-- what is true of each of some frames and of each of those behind them
pub each_behind : (P : ℕ → ℤ → Type 0) (xs ys : List ℤ) → ((k : ℕ) → k < length xs → P k (get_or xs k (pos 0)))
    → ((k : ℕ) → k < length ys → P (length xs + k) (get_or ys k (pos 0)))
    → (k : ℕ) → k < length (xs ++ ys) → P k (get_or (xs ++ ys) k (pos 0))
each_behind P xs ys front back k lt =
    elim (cases_lt k (length xs)) [
      | inl less ↦ subst (P k) (sym (get_or-append xs ys (pos 0) k less)) (front k less)
      | inr le ↦
          let here : length xs + (k - length xs) ≡ k = omega arith in
          let within : k - length xs < length ys = omega (arith, length-append xs ys) in
          subst (λ (n : ℕ). P n (get_or (xs ++ ys) n (pos 0))) here
          (subst (P (length xs + (k - length xs))) (sym (get_or-append-add xs ys (k - length xs) (pos 0)))
          (back (k - length xs) within))
    ]
