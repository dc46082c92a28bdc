-- Bodies of a sample given to its indexes, 1,024 to each.
use Rattle.std.proofs.Common.{◌≡◌, ℕ, zero, suc, ◌+◌, ◌-◌, ◌*◌, ◌≤◌, List, [], ◌∷◌, ◌++◌, Some, length, take, drop, map, min, refl, ap, sym, ◌∙◌, arith, inl, inr}
use Rattle.std.specs.Prelude.{slice_get, slice_index}
use Rattle.std.specs.List.{flat_map}
use Rattle.std.proofs.lemmas.Bool.{cases_lt}
use Rattle.std.proofs.lemmas.List.{append-nil, length-append, length-drop, drop-drop, take-append-drop, take_at, drop_at, take_all, drop_all, nil_from_length}
use Rattle.std.proofs.lemmas.Option.{same_Some, none-some}
use Rattle.ft_types.specs.Blocks.{pieces_of}
use Rattle.ft_segments.specs.Walk.{IndexIds, bodies_of_index}
use Rattle.ft_changes.specs.Parts.{grouped}

abbrev pub roots_in : List IndexIds → List ℕ
roots_in indexes = map (λ (x : IndexIds). x.root) indexes

abbrev pub bodies_in : List IndexIds → List ℕ
bodies_in indexes = flat_map (λ (x : IndexIds). x.bodies) indexes

-- the bodies of index k
abbrev pub piece : ℕ → List ℕ → List ℕ
piece k bodies = take 1024 (drop (1024 * k) bodies)

pub grouped_at : (roots bodies : List ℕ) (k : ℕ) (index : IndexIds) → slice_get (grouped roots bodies) k ≡ Some index
    → (index.root ≡ slice_index roots k) × (index.bodies ≡ piece k bodies)
grouped_at [] bodies k index is = absurd (none-some index is)
grouped_at (root ∷ roots) bodies zero index is =
    let e = sym (same_Some (record { root = root; bodies = take 1024 bodies }) index is) in
    (ap (λ (x : IndexIds). x.root) e, ap (λ (x : IndexIds). x.bodies) e)
grouped_at (root ∷ roots) bodies (suc k) index is =
    let more = grouped_at roots (drop 1024 bodies) k index is in
    let n : 1024 + 1024 * k ≡ 1024 * suc k = omega arith in
    (more.0, more.1 ∙ ap (take 1024) (drop-drop (1024 * k) 1024 bodies ∙ ap (λ n. drop n bodies) n))

pub length-grouped : (roots bodies : List ℕ) → length (grouped roots bodies) ≡ length roots
length-grouped [] bodies = refl
length-grouped (root ∷ roots) bodies = let more = length-grouped roots (drop 1024 bodies) in omega (arith, more)

pub grouped_bodies : (roots bodies : List ℕ) → length bodies ≤ 1024 * length roots → bodies_in (grouped roots bodies) ≡ bodies
grouped_bodies [] bodies le = sym (nil_from_length bodies (omega (arith, le)))
grouped_bodies (root ∷ roots) bodies le =
    let more = grouped_bodies roots (drop 1024 bodies) (omega (arith, le, length-drop 1024 bodies)) in
    ap (λ rest. take 1024 bodies ++ rest) more ∙ take-append-drop 1024 bodies

-- ---- indexes each of which but the last is full

abbrev pub AreFull : ℕ → List IndexIds → Type 0
AreFull bodies xs =
    (length xs ≡ pieces_of bodies 1024)
    × ((k : ℕ) (x : IndexIds) → slice_get xs k ≡ Some x → length x.bodies ≡ bodies_of_index bodies k)

rest_full : (n : ℕ) (x : IndexIds) (xs : List IndexIds) → AreFull n (x ∷ xs) → AreFull (n - 1024) xs
rest_full n x xs full = (
  omega (arith, full.0),
  λ k y is. let c = full.1 (suc k) y is in omega (arith, c),
)

pub full_count : (n : ℕ) (xs : List IndexIds) → AreFull n xs → length (bodies_in xs) ≡ n
full_count n [] full = omega (arith, full.0)
full_count n (x ∷ xs) full =
    let more = full_count (n - 1024) xs (rest_full n x xs full) in
    let head = full.1 0 x refl in
    let a = length-append x.bodies (bodies_in xs) in
    omega (arith, more, head, a)

-- a first piece of 1,024, or of all
cut_first : (n : ℕ) (xs ys : List ℕ) → length xs ≡ min 1024 n → length ys ≡ n - 1024
    → (take 1024 (xs ++ ys) ≡ xs) × (drop 1024 (xs ++ ys) ≡ ys)
cut_first n xs ys many rest =
    elim (cases_lt (length xs) 1024) [
      | inl lt ↦
          let none : ys ≡ [] = nil_from_length ys (omega (arith, many, rest, lt)) in
          let all : xs ++ ys ≡ xs = ap (λ zs. xs ++ zs) none ∙ append-nil xs in (
            ap (take 1024) all ∙ take_all 1024 xs (omega (arith, lt)),
            ap (drop 1024) all ∙ drop_all 1024 xs (omega (arith, lt)) ∙ sym none,
          )
      | inr le ↦
          let is : length xs ≡ 1024 = omega (arith, many, le) in
          (take_at xs ys 1024 is, drop_at xs ys 1024 is)
    ]

pub full_grouped : (n : ℕ) (xs : List IndexIds) → AreFull n xs → xs ≡ grouped (roots_in xs) (bodies_in xs)
full_grouped n [] full = refl
full_grouped n (x ∷ xs) full =
    let rest = rest_full n x xs full in
    let more = full_grouped (n - 1024) xs rest in
    let head = full.1 0 x refl in
    let cut = cut_first n x.bodies (bodies_in xs) (omega (arith, head)) (full_count (n - 1024) xs rest) in
    ap (λ ys. x ∷ ys) more
    ∙ (λ i. record { root = x.root; bodies = sym cut.0 i } ∷ grouped (roots_in xs) (sym cut.1 i))
