-- What the words of a sample's root and of its indexes name, id by id.
use Rattle.std.proofs.Common.{◌≡◌, ◌≢◌, ◌↔◌, ◌⊎◌, inl, inr, ◌<◌, ◌≤◌, ◌+◌, ◌-◌, ◌*◌, ◌/◌, ◌%◌, ℕ, zero, suc, Bool, if◌then◌else◌, List, refl, sym, ap, subst, ◌∙◌, ⊎_elim, sum_by, eq-eqb, ne_eqb, arith}
use Rattle.std.specs.Prelude.{min}
use mathlib.Core.Logic.{dite}
use native.Mathlib.Decide.{ℕ_discrete}
use Rattle.std.proofs.lemmas.Bool.{cases_lt}
use Rattle.std.proofs.lemmas.List.FromFn.{sum_by-map-range_with_len_more}
use Rattle.ft_segments.specs.Packing.{digit, word_at, id_at}
use Rattle.ft_segments.specs.Walk.{IndexIds, each_below, is_it, index_walk, index_uses, sample_walk, sample_uses, bodies_in, bodies_of_index}
use Rattle.ft_types.specs.Blocks.{pieces_of}
use Rattle.ft_desk.proofs.Marked.{IsFirst}

-- ---- sums

one_or : (a b : ℕ) → 1 ≤ a + b → (1 ≤ a) ⊎ (1 ≤ b)
one_or zero b h = inr (omega arith)
one_or (suc a) b h = inl (omega arith)

either_of : (a b : ℕ) → (1 ≤ a) ⊎ (1 ≤ b) → 1 ≤ a + b
either_of a b either = ⊎_elim (λ (x : 1 ≤ a). omega arith) (λ (y : 1 ≤ b). omega arith) either

pub it_is : (s id : ℕ) → 1 ≤ is_it s id ↔ (id ≡ s)
it_is s id = (
  (λ one. dite (ℕ_discrete id s) (λ (e : id ≡ s). e)
      (λ (ne : id ≢ s). absurd (let none : is_it s id ≡ 0 = ap (λ (b : Bool). if b then 1 else 0) (ne_eqb id s ne) in omega arith))),
  (λ e. let one : is_it s id ≡ 1 = ap (λ (b : Bool). if b then 1 else 0) (eq-eqb id s e) in omega arith),
)

pub some_below : {A : Type 0} (f : A → ℕ) (g : ℕ → A) (n : ℕ)
    → 1 ≤ sum_by f (each_below n g) ↔ ((i : ℕ) × (i < n) × (1 ≤ f (g i)))
some_below f g zero = ((λ h. absurd (omega arith)), (λ x. absurd (let lt = x.1 in omega arith)))
some_below f g (suc n) =
    let one_on : suc n ≡ n + 1 = omega arith in
    let more : sum_by f (each_below (suc n) g) ≡ sum_by f (each_below n g) + f (g n)
    = ap (λ (k : ℕ). sum_by f (each_below k g)) one_on ∙ sum_by-map-range_with_len_more f g 0 n n (omega arith) in
    let rest = some_below f g n in (
      (λ h. ⊎_elim (λ r. let x = rest.0 r in let lt = x.1 in (x.0, omega arith, x.2)) (λ l. (n, omega arith, l))
          (one_or (sum_by f (each_below n g)) (f (g n)) (let e = more in omega arith))),
      (λ x. let both = either_of (sum_by f (each_below n g)) (f (g n)) (dite (ℕ_discrete x.0 n)
          (λ (e : x.0 ≡ n). inr (subst (λ (k : ℕ). 1 ≤ f (g k)) e x.2))
          (λ (ne : x.0 ≢ n). let lt = x.1 in inl (rest.1 (x.0, omega arith, x.2)))) in omega arith),
    )

-- ---- an index

-- its first ids up to a place, as far as they count
abbrev pub IsIndexTo : List ℕ → ℕ → ℕ → ℕ → ℕ → Type 0
IsIndexTo pool index count place named = (index ≡ named)
    ⊎ ((i : ℕ) × (i < 4 * place) × (i < count) × (id_at pool index 0 i ≡ named))

id_here : (pool : List ℕ) (index k i j word : ℕ) → word ≡ word_at pool index k → i < 4 → j ≡ 4 * k + i
    → id_at pool index 0 j ≡ digit 65536 word i
unfolding id_at
id_here pool index k i j word is lt e =
    let place : 0 + j / 4 ≡ k = omega arith in
    let part : j % 4 ≡ i = omega arith in
    ap (λ (q : ℕ). digit 65536 (word_at pool index q) (j % 4)) place
    ∙ ap (λ (r : ℕ). digit 65536 (word_at pool index k) r) part
    ∙ ap (λ (w : ℕ). digit 65536 w i) (sym is)

pub four_more : (pool : List ℕ) (index k count now word : ℕ) → word ≡ word_at pool index k → 4 * k < count
    → now ≡ min (count - 4 * k) 4 → (s : ℕ)
    → IsIndexTo pool index count (k + 1) s ↔ (IsIndexTo pool index count k s ⊎ IsFirst now (λ i. digit 65536 word i) s)
four_more pool index k count now word is lt many s = (
  (λ n. ⊎_elim (λ e. inl (inl e))
      (λ x. let high = x.1 in let inside = x.2 in ⊎_elim
      (λ (low : x.0 < 4 * k). inl (inr (x.0, low, x.2, x.3)))
      (λ (past : 4 * k ≤ x.0). inr (
        x.0 - 4 * k,
        omega arith,
        sym (id_here pool index k (x.0 - 4 * k) x.0 word is (omega arith) (omega arith)) ∙ x.3,
      ))
      (cases_lt x.0 (4 * k))) n),
  (λ either. ⊎_elim
      (λ n. ⊎_elim (λ e. inl e) (λ x. let low = x.1 in inr (x.0, omega arith, x.2, x.3)) n)
      (λ x. let low = x.1 in inr (
        4 * k + x.0,
        omega arith,
        omega arith,
        id_here pool index k x.0 (4 * k + x.0) word is (omega arith) refl ∙ x.2,
      )) either),
)

pub index_named : (pool : List ℕ) (index count place : ℕ) → count ≤ 4 * place → (s : ℕ)
    → 1 ≤ index_uses s (index_walk pool count index) ↔ IsIndexTo pool index count place s
index_named pool index count place le s =
    let below = some_below (is_it s) (λ j. id_at pool index 0 j) count in (
      (λ one. ⊎_elim (λ r. inl ((it_is s index).0 r))
          (λ b. let x = below.0 b in let lt = x.1 in inr (x.0, omega arith, x.1, (it_is s (id_at pool index 0 x.0)).0 x.2))
          (one_or (is_it s index) (sum_by (is_it s) (each_below count (λ j. id_at pool index 0 j))) one)),
      (λ n. either_of (is_it s index) (sum_by (is_it s) (each_below count (λ j. id_at pool index 0 j)))
          (⊎_elim (λ e. inl ((it_is s index).1 e))
          (λ x. inr (below.1 (x.0, x.2, (it_is s (id_at pool index 0 x.0)).1 x.3))) n)),
    )

-- ---- a root of a sample

abbrev pub index_of : List ℕ → ℕ → ℕ → IndexIds
index_of pool root k = index_walk pool (bodies_of_index (bodies_in pool root) k) (id_at pool root 16 k)

-- its first indexes up to one, as far as they count
abbrev pub IsRootTo : List ℕ → ℕ → ℕ → ℕ → Type 0
IsRootTo pool root k named = (root ≡ named)
    ⊎ ((i : ℕ) × (i < k) × (i < pieces_of (bodies_in pool root) 1024) × (1 ≤ index_uses named (index_of pool root i)))

pub index_more : (pool : List ℕ) (root k index count : ℕ) → index ≡ id_at pool root 16 k
    → count ≡ bodies_of_index (bodies_in pool root) k → k < pieces_of (bodies_in pool root) 1024 → (s : ℕ)
    → IsRootTo pool root (k + 1) s ↔ (IsRootTo pool root k s ⊎ (1 ≤ index_uses s (index_walk pool count index)))
index_more pool root k index count is many lt s =
    let same : index_walk pool count index ≡ index_of pool root k
    = ap (λ (n : ℕ). index_walk pool n index) many
    ∙ ap (λ (i : ℕ). index_walk pool (bodies_of_index (bodies_in pool root) k) i) is in (
      (λ n. ⊎_elim (λ e. inl (inl e))
          (λ x. dite (ℕ_discrete x.0 k)
          (λ (e : x.0 ≡ k). inr (subst (λ (ids : IndexIds). 1 ≤ index_uses s ids) (sym same)
          (subst (λ (i : ℕ). 1 ≤ index_uses s (index_of pool root i)) e x.3)))
          (λ (ne : x.0 ≢ k). let low = x.1 in inl (inr (x.0, omega arith, x.2, x.3)))) n),
      (λ either. ⊎_elim
          (λ n. ⊎_elim (λ e. inl e) (λ x. let low = x.1 in inr (x.0, omega arith, x.2, x.3)) n)
          (λ h. inr (k, omega arith, lt, subst (λ (ids : IndexIds). 1 ≤ index_uses s ids) same h)) either),
    )

pub root_named : (pool : List ℕ) (root k : ℕ) → pieces_of (bodies_in pool root) 1024 ≤ k → (s : ℕ)
    → 1 ≤ sample_uses s (sample_walk pool root) ↔ IsRootTo pool root k s
unfolding sample_walk
root_named pool root k le s =
    let below = some_below (index_uses s) (λ i. index_of pool root i) (pieces_of (bodies_in pool root) 1024) in
    let rest = sum_by (index_uses s) (each_below (pieces_of (bodies_in pool root) 1024) (λ i. index_of pool root i)) in (
      (λ one. ⊎_elim (λ r. inl ((it_is s root).0 r))
          (λ b. let x = below.0 b in let lt = x.1 in inr (x.0, omega arith, x.1, x.2))
          (one_or (is_it s root) rest one)),
      (λ n. either_of (is_it s root) rest
          (⊎_elim (λ e. inl ((it_is s root).1 e)) (λ x. inr (below.1 (x.0, x.2, x.3))) n)),
    )

pub id_from : (pool : List ℕ) (root k word found : ℕ) → word ≡ word_at pool root (16 + k / 4)
    → found ≡ digit 65536 word (k % 4) → found ≡ id_at pool root 16 k
unfolding id_at
id_from pool root k word found is here = here ∙ ap (λ (w : ℕ). digit 65536 w (k % 4)) is
