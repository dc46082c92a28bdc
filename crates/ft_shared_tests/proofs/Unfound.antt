-- What may be filled, and what a publish adds to the roots.
use Rattle.std.proofs.Common.{zero, suc, Bool, true, false, cond, ◌==◌, true-eqb, ◌≡◌, ◌≢◌, ◌⊎◌, inl, inr, ⊎_elim, ℕ, ◌+◌, ◌*◌, ◌<◌, ◌≤◌, List, [], ◌∷◌, ◌++◌, slice_index, replicate, ◌-◌, length, set, sym, refl, ap, ◌∙◌, subst, arith, Option, Some, None, IfSome, IsSomeAnd, All, get_or-set_other, if◌then◌else◌}
use Rattle.std.specs.List.{slice_get, Contains}
use Rattle.std.proofs.lemmas.List.Elements.{All-contains}
use Rattle.ft_segments.specs.Packing.{word_at}
use Rattle.ft_segments.specs.Walk.{is_it, walk, uses, sample_walk, sample_uses, IsOf}
use Rattle.ft_shared.specs.declared.law.Sizes.{Sizes}
use Rattle.ft_shared.specs.declared.law.PlacedVersion.{PlacedVersion}
use Rattle.ft_shared.specs.declared.law.Account.{Account}
use Rattle.ft_shared.specs.History.{placed_at, root_and_pool, IsOfVersion}
use Rattle.ft_shared.specs.Account.{IsWhole, IsPinAnswer, Found, MayFill, pool_of}
use Rattle.ft_shared_tests.specs.Author.{IsBarePool, AreRoots, IsUnfound}

is-named : (root s : ℕ) (b : Bool) → (root == s) ≡ b → 1 ≤ (if b then 1 else 0) → root ≡ s
is-named root s true e l = true-eqb root s (sym e)
is-named root s false e l = absurd (omega arith)

pub unfound : (sizes : Sizes) (a : Account) (roots pins : List ℕ) (answers : List (Option ℕ)) (s : ℕ) → IsWhole sizes a
    → AreRoots a.history roots
    → (slice_get roots a.version ≡ Some s → ⊥) → a.scan ≡ answers → All (λ o. IfSome o (λ v. slice_get roots v ≢ Some s)) answers
    → ((r c root : ℕ) → IsPinAnswer a r c (Some root) → Contains pins root) → All (λ root. root ≢ s) pins → IsUnfound sizes a s
unfound sizes a roots pins answers s whole known apart scan held had unpinned = record {
  whole = whole;
  current = λ of. apart (known a.version s of);
  answered = λ v has of. All-contains (λ (o : Option ℕ). IfSome o (λ v. slice_get roots v ≢ Some s)) answers (Some v) held
      (subst (λ (l : List (Option ℕ)). Contains l (Some v)) scan has) (known v s of);
  pins = λ r c root has. All-contains (λ root. root ≢ s) pins root unpinned (had r c root has);
}

abbrev pub SampleBare : Type 0
SampleBare = (pool : List ℕ) (root segment : ℕ) → word_at pool root 0 ≡ 0 → sample_uses segment (sample_walk pool root) ≡ is_it segment root

pub may_fill : SampleBare → (sizes : Sizes) (a : Account) (s : ℕ) → IsBarePool a.pool → IsUnfound sizes a s → MayFill sizes a s
may_fill bare sizes a s pool u = (u.whole, go)
  where
    go : Found a s → ⊥
    go (inl of) = u.current of
    go (inr (inl (v, has, of))) = u.answered v has of
    go (inr (inr (r, c, root, has, named))) =
        let e : sample_uses s (sample_walk a.pool root) ≡ is_it s root = bare a.pool root s (pool root).0 in
        u.pins r c root has (is-named root s (root == s) refl (omega arith))

pub bare_filled : (pool : List ℕ) (s at w : ℕ) → 2 ≤ at → at < 256 → IsBarePool pool → IsBarePool (set pool (s * 256 + at) w)
bare_filled pool s at w more few bare k = (
  get_or-set_other pool (s * 256 + at) (k * 256 + 0) w 0 (λ e. omega arith) ∙ (bare k).0,
  get_or-set_other pool (s * 256 + at) (k * 256 + 1) w 0 (λ e. omega arith) ∙ (bare k).1,
)

placed_split : (h : List PlacedVersion) (p : PlacedVersion) (v : ℕ)
    → (placed_at (h ++ p ∷ []) v ≡ placed_at h v) ⊎ ((p.version ≡ v) × (placed_at (h ++ p ∷ []) v ≡ Some p))
placed_split [] p v = pick (p.version == v) refl
  where
    pick : (b : Bool) → (p.version == v) ≡ b → (cond b (Some p) None ≡ None) ⊎ ((p.version ≡ v) × (cond b (Some p) None ≡ Some p))
    pick true e = inr (true-eqb p.version v (sym e), refl)
    pick false e = inl refl
placed_split (x ∷ xs) p v = pick (x.version == v) (placed_split xs p v)
  where
    pick : (b : Bool) → (placed_at (xs ++ p ∷ []) v ≡ placed_at xs v) ⊎ ((p.version ≡ v) × (placed_at (xs ++ p ∷ []) v ≡ Some p))
        → (cond b (Some x) (placed_at (xs ++ p ∷ []) v) ≡ cond b (Some x) (placed_at xs v)) ⊎
        ((p.version ≡ v) × (cond b (Some x) (placed_at (xs ++ p ∷ []) v) ≡ Some p))
    pick true r = inl refl
    pick false r = r

get_longer : (l : List ℕ) (m : List ℕ) (k x : ℕ) → slice_get l k ≡ Some x → slice_get (l ++ m) k ≡ Some x
get_longer [] m k x e = absurd (no e)
  where
    no : None ≡ Some x → ⊥
    no e = cc
get_longer (y ∷ l) m zero x e = e
get_longer (y ∷ l) m (suc k) x e = get_longer l m k x e

get_last : (l : List ℕ) (k x : ℕ) → length l ≡ k → slice_get (l ++ x ∷ []) k ≡ Some x
get_last [] zero x e = refl
get_last [] (suc k) x e = absurd (omega arith)
get_last (y ∷ l) zero x e = absurd (omega arith)
get_last (y ∷ l) (suc k) x e = get_last l k x (omega arith)

abbrev pub SongBare : Type 0
SongBare = (pool : List ℕ) (root segment : ℕ) → word_at pool root 1 ≡ 0 → uses segment (walk pool root) ≡ is_it segment root

-- a bare version adds its root
pub roots_grow : SongBare → (h new : List PlacedVersion) (p : PlacedVersion) (roots : List ℕ) → new ≡ h ++ p ∷ []
    → length roots ≡ p.version → word_at p.pool p.root 1 ≡ 0 → AreRoots h roots → AreRoots new (roots ++ p.root ∷ [])
roots_grow bare h new p roots is long word known v s of = ⊎_elim
    (λ (e : placed_at (h ++ p ∷ []) v ≡ placed_at h v). get_longer roots (p.root ∷ []) v s
    (known v s (subst (λ (o : Option PlacedVersion). IsSomeAnd o (λ q. IsOf (root_and_pool q) s)) e of')))
    (λ (e : (p.version ≡ v) × (placed_at (h ++ p ∷ []) v ≡ Some p)).
    let here : IsOf (root_and_pool p) s = subst (λ (o : Option PlacedVersion). IsSomeAnd o (λ q. IsOf (root_and_pool q) s)) e.1 of' in
    let u : uses s (walk p.pool p.root) ≡ is_it s p.root = bare p.pool p.root s word in
    let root : p.root ≡ s = is-named p.root s (p.root == s) refl (omega arith) in
    get_last roots v p.root (long ∙ e.0) ∙ ap Some root)
    (placed_split h p v)
  where
    of' : IsOfVersion (h ++ p ∷ []) v s
    of' = subst (λ (l : List PlacedVersion). IsOfVersion l v s) is of

-- ---- at first

zeros : (m n k : ℕ) → let z : ℕ = 0 in slice_index (replicate m z ++ replicate n z) k ≡ z
zeros zero zero k = refl
zeros zero (suc n) zero = refl
zeros zero (suc n) (suc k) = zeros zero n k
zeros (suc m) n zero = refl
zeros (suc m) n (suc k) = zeros m n k

pub bare_first : (segments : ℕ) → let z : ℕ = 0 in IsBarePool (pool_of segments (replicate 256 z))
bare_first segments k = let z : ℕ = 0 in let n : ℕ = 256 * segments - length (replicate 256 z) in
    (zeros 256 n (k * 256 + 0), zeros 256 n (k * 256 + 1))

pub zero_word : let z : ℕ = 0 in word_at (replicate 256 z) 0 1 ≡ 0
zero_word = refl

pub first_known : SongBare → (segments : ℕ) (words : List ℕ) → let z : ℕ = 0 in words ≡ replicate 256 z
    → AreRoots (record { version = 0; root = 0; pool = pool_of segments words } ∷ []) (0 ∷ [])
first_known bare segments words is = roots_grow bare [] (record { version = 0; root = 0; pool = pool_of segments words } ∷ [])
    (record { version = 0; root = 0; pool = pool_of segments words }) [] refl refl
    (ap (λ (w : List ℕ). word_at (pool_of segments w) 0 1) is ∙ (bare_first segments 0).1) (λ v s of. absurd of)
