-- What a sample's root names is held by a pin of it.
use Rattle.std.proofs.Common.{◌≡◌, ◌<◌, ◌≤◌, inl, inr, ℕ, suc, List, [], ◌∷◌, length, get_or, sym, refl, ap, ◌∙◌, ⊎_elim, arith, Some, sum_by, if◌then◌else◌, eq-eqb, ne_eqb}
use mathlib.Core.Logic.{dite}
use native.Mathlib.Decide.{ℕ_discrete}
use Rattle.std.specs.List.{slice_get, Contains}
use Rattle.std.proofs.lemmas.Bool.{cases_lt}
use Rattle.std.proofs.lemmas.Option.{slice_get_within, get_or_from_slice_get}
use Rattle.std.proofs.lemmas.List.Sums.{sum_by-cons, get_or-le-sum_by}
use Rattle.ft_segments.specs.Walk.{IndexIds, SampleIds, sample_walk, is_it, index_uses, sample_uses, Placed, IsOf}
use Rattle.ft_segments.specs.Pins.{index_room, IndexNames, RootNames, PinHolds}

-- one of the parts of a sum that isn't 0
pub record Part {A : Type 0} (f : A → ℕ) (xs : List A) : Type 0 where
  pub place : ℕ
  pub item : A
  pub there : slice_get xs place ≡ Some item
  pub some : 1 ≤ f item

part-of : {A : Type 0} (f : A → ℕ) (xs : List A) → 1 ≤ sum_by f xs → Part f xs
part-of f [] some = absurd (omega arith)
part-of f (x ∷ xs) some =
    ⊎_elim (λ (none : f x < 1).
    let rest = part-of f xs (let e = sum_by-cons f x xs in omega arith) in
    record { place = suc rest.place; item = rest.item; there = rest.there; some = rest.some })
    (λ (here : 1 ≤ f x). record { place = 0; item = x; there = refl; some = here })
    (cases_lt (f x) 1)

it-is : (s id : ℕ) → 1 ≤ is_it s id → s ≡ id
it-is s id one = dite (ℕ_discrete s id) (λ (e : s ≡ id). e)
    (λ ne. absurd (let none : is_it s id ≡ 0 = ap (λ b. if b then 1 else 0) (ne_eqb id s (λ e. ne (sym e))) in omega arith))

is-itself : (s id : ℕ) → s ≡ id → is_it s id ≡ 1
is-itself s id e = ap (λ b. if b then 1 else 0) (eq-eqb id s (sym e))

walk-root : (placed : Placed) (root : ℕ) → (sample_walk placed.pool root).root ≡ root
unfolding sample_walk
walk-root placed root = refl

root-used : (s : ℕ) (ids : SampleIds) → ids.root ≡ s → 1 ≤ sample_uses s ids
root-used s ids e = let one = is-itself s ids.root (sym e) in omega arith

index-root-used : (s k : ℕ) (ids : SampleIds) (index : IndexIds) → slice_get ids.indexes k ≡ Some index → index.root ≡ s
    → 1 ≤ sample_uses s ids
index-root-used s k ids index at e =
    let one = is-itself s index.root (sym e) in
    let same : index_uses s (get_or ids.indexes k index) ≡ index_uses s index
    = ap (index_uses s) (get_or_from_slice_get ids.indexes k index index at) in
    let part = get_or-le-sum_by (index_uses s) ids.indexes k index (slice_get_within ids.indexes k index at) in
    omega arith

-- what is at a place is contained
contained : (xs : List ℕ) (k s x : ℕ) → slice_get xs k ≡ Some x → s ≡ x → Contains xs s
contained xs k s x at e =
    (k, slice_get_within xs k x at, get_or_from_slice_get xs k x s at ∙ sym e)

index-names : (placed : Placed) (s : ℕ) (index : IndexIds) → IsOf placed index.root → 1 ≤ index_uses s index → IndexNames placed index s
index-names placed s index of used =
    ⊎_elim (λ (none : is_it s index.root < 1).
    let body = part-of (is_it s) index.bodies (omega arith) in
    inr (of, contained index.bodies body.place s body.item body.there (it-is s body.item body.some)))
    (λ (one : 1 ≤ is_it s index.root). inl (it-is s index.root one))
    (cases_lt (is_it s index.root) 1)

root-names : (placed : Placed) (root s : ℕ) → length (sample_walk placed.pool root).indexes ≤ index_room
    → ((named : ℕ) → 1 ≤ sample_uses named (sample_walk placed.pool root) → IsOf placed named)
    → 1 ≤ sample_uses s (sample_walk placed.pool root) → RootNames placed root s
root-names placed root s few within used =
    let ids : SampleIds = sample_walk placed.pool root in
    ⊎_elim (λ (none : is_it s ids.root < 1).
    let index = part-of (index_uses s) ids.indexes (omega arith) in
    let of = within index.item.root (index-root-used index.item.root index.place ids index.item index.there refl) in
    let l = slice_get_within ids.indexes index.place index.item index.there in
    inr (index.place, index.item, omega arith, index.there, index-names placed s index.item of index.some))
    (λ (one : 1 ≤ is_it s ids.root). inl (it-is s ids.root one ∙ walk-root placed root))
    (cases_lt (is_it s ids.root) 1)

-- each segment that the root names is held
pub sample-held : (placed : Placed) (root segment : ℕ) → length (sample_walk placed.pool root).indexes ≤ index_room
    → ((named : ℕ) → 1 ≤ sample_uses named (sample_walk placed.pool root) → IsOf placed named)
    → 1 ≤ sample_uses segment (sample_walk placed.pool root) → PinHolds placed root segment
sample-held placed root segment few within used = (
  within root (root-used root (sample_walk placed.pool root) (walk-root placed root)),
  within segment used,
  root-names placed root segment few within used,
)
