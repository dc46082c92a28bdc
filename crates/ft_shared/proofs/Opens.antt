-- The words that a register opens with meet the rule.
use Rattle.std.proofs.Common.{inl, zero, suc, true, false, ◌≡◌, ℕ, ◌+◌, ◌-◌, ◌*◌, ◌<◌, ◌≤◌, List, [], ◌∷◌, ◌++◌, length, drop, replicate, get_or, sym, refl, ap, ◌∙◌, subst, arith, length-append, Bool, cond, Option, Some, None, IsSomeAnd, IfSome, slice_index, slice_index_or, eq-eqb}
use Rattle.std.specs.List.{Contains}
use Rattle.std.proofs.lemmas.List.{get_or-drop, length-drop, get_or_append_left}
use mathlib.Core.Option.{some, some-injective, some-ne-none}
use lib.ListN.{get_elem?, length-replicate}
use Rattle.atomic_table.specs.Table.{opening}
use Rattle.ft_shared.specs.declared.law.Opening.{Opening}
use Rattle.ft_shared.specs.declared.law.PlacedVersion.{PlacedVersion}
use Rattle.ft_shared.specs.declared.law.Hold.{Hold}
use Rattle.ft_shared.specs.declared.law.Slot.{Slot}
use Rattle.ft_shared.specs.declared.law.Account.{Account}
use Rattle.ft_shared.specs.declared.law.View.{View}
use Rattle.ft_shared.specs.declared.law.View.TheVariants.{Writer}
use Rattle.ft_segments.specs.Packing.{word_at}
use Rattle.ft_segments.specs.Walk.{IsOf, IsSound, walk}
use Rattle.ft_shared.specs.Counts.{IsBehind}
use Rattle.ft_shared.specs.History.{placed_at, root_and_pool, HasVersion, IsSoundVersion}
use Rattle.ft_shared.specs.Layout.{current_word, pool_at}
use Rattle.ft_shared.specs.Account.{slot_at, no_slot, new_slot, first_account, pool_of}
use Rattle.ft_shared.specs.Segments.{IsAsPlaced}
use Rattle.ft_shared.specs.Register.{Fits, RegisterRule}
use Rattle.ft_shared.proofs.Sums.{bit-zero, all_one, pin_inside}
use Rattle.ft_shared.proofs.Segments.{is_there, none-answered}

true-false : true ≡ false → ⊥
true-false e = cc

zeros : (n k : ℕ) → let z : ℕ = 0 in get_or (replicate n z) k z ≡ z
zeros zero k = refl
zeros (suc n) zero = refl
zeros (suc n) (suc k) = zeros n k

-- what all of n slots have of g, each place has where past the end the default has it
each-slot : {B : Type 0} (g : Slot → B) (b : B) (y : Slot) (n k : ℕ) → g y ≡ b → g no_slot ≡ b → g (get_or (replicate n y) k no_slot) ≡ b
each-slot g b y zero k e d = d
each-slot g b y (suc n) zero e d = e
each-slot g b y (suc n) (suc k) e d = each-slot g b y n k e d

drop-front : {A : Type 0} (xs ys : List A) (n : ℕ) → length xs ≡ n → drop n (xs ++ ys) ≡ ys
drop-front [] ys zero e = refl
drop-front [] ys (suc n) e = absurd (omega arith)
drop-front (x ∷ xs) ys zero e = absurd (omega arith)
drop-front (x ∷ xs) ys (suc n) e = drop-front xs ys n (omega arith)

pub pool-length : (segments : ℕ) (words : List ℕ) → length words ≤ 256 * segments → length (pool_of segments words) ≡ 256 * segments
pool-length segments words fits = let z : ℕ = 0 in let a = length-append words (replicate (256 * segments - length words) z) in
    let b : length (replicate (256 * segments - length words) z) ≡ 256 * segments - length words = length-replicate
    (256 * segments - length words) z in omega arith

-- words that are filled up with 0 are as before
zeros-behind : (xs : List ℕ) (n k : ℕ) → (let z : ℕ = 0 in get_or (xs ++ replicate n z) k z ≡ get_or xs k z)
zeros-behind [] n k = zeros n k
zeros-behind (x ∷ xs) n zero = refl
zeros-behind (x ∷ xs) n (suc k) = zeros-behind xs n k

-- the pool that words fill has these words, and 0 behind them
pub pool-words : (segments : ℕ) (words : List ℕ) (segment at : ℕ) → word_at (pool_of segments words) segment at ≡ word_at words segment at
pool-words segments words segment at = zeros-behind words (256 * segments - length words) (segment * 256 + at)

-- a walk that is sound among the segments that words fill is sound in the pool that they fill
pub pool-sound : (segments n : ℕ) (words : List ℕ) (root : ℕ) → n ≤ segments
    → walk (pool_of segments words) root ≡ walk words root
    → IsSound n (walk words root) → IsSound segments (walk (pool_of segments words) root)
pool-sound segments n words root le same is = subst (IsSound segments) (sym same) (record {
  once = is.once;
  within = λ s l. let w = is.within s l in omega arith;
})

module _ (key : Opening) where
  abbrev front : List ℕ
  front = current_word key.version 0 key.root 0 ∷ replicate (pool_at key.sizes - 1) 0

  front-length : length front ≡ pool_at key.sizes
  front-length = let z : ℕ = 0 in let p : ℕ = key.sizes.readers * key.sizes.channels in
      let e : length (replicate (pool_at key.sizes - 1) z) ≡ key.sizes.readers + 3 + p - 1 = length-replicate (pool_at key.sizes - 1) z in
      omega arith

  -- the pool is what lies behind the first words
  pub opening-pool : (pool : List ℕ) → drop (pool_at key.sizes) (front ++ pool) ≡ pool
  opening-pool pool = drop-front front pool (pool_at key.sizes) front-length

  pub opens : (ws pool : List ℕ) → key.sizes.readers ≤ 8 → key.version < 4294967296 → key.root < 65536
      → length pool ≡ 256 * key.sizes.segments → key.words.value.items ≡ ws
      → ws ≡ (current_word key.version 0 key.root 0 ∷ replicate (pool_at key.sizes - 1) 0) ++ pool
      → IsSound key.sizes.segments (walk pool key.root)
      → RegisterRule key (opening ws [] (Writer (first_account key)))
  opens ws pool few v r long snap is is_sound =
      let p : ℕ = key.sizes.readers * key.sizes.channels in
      let wide : length ws ≡ pool_at key.sizes + 256 * key.sizes.segments = ap length is
      ∙ (length-append front pool ∙ (let f = front-length in omega arith)) in
      let a : Account = first_account key in
      let bare : (i : ℕ) → 0 < i → i < key.sizes.readers + 3 + p
      → get_or ws i 0 ≡ 0 = λ i more less. ap (λ (l : List ℕ). get_or l i 0) is
      ∙ (get_or_append_left front pool 0 i (let f : length front ≡ key.sizes.readers + 3 + p = front-length in omega arith)
      ∙ later i more) in
      let y : Slot = record { version = key.version; start = 0; free = false } in
      let p1 : PlacedVersion = record { version = key.version; root = key.root; pool = a.pool } in
      let here : placed_at a.history key.version ≡ Some p1 = ap (λ (b : Bool). cond b (Some p1) None)
      (eq-eqb key.version key.version refl) in
      let pool-is : a.pool ≡ pool = ap (drop (pool_at key.sizes)) (snap ∙ is) ∙ opening-pool pool in
      let starts : (k : ℕ) → (slot_at a k).start ≡ 0 = λ k. each-slot (λ (z : Slot). z.start) 0 y 10 k refl refl in
      let frees : (k : ℕ) → (slot_at a k).free ≡ false = λ k. each-slot (λ (z : Slot). z.free) false y 10 k refl refl in
      record {
        writer = 0;
        account = a;
        few = few;
        told = refl;
        wide = wide;
        deep = refl;
        ranges = (v, r, omega arith);
        current = ap (λ (l : List ℕ). get_or l 0 0) is;
        bears = refl;
        history = record {
          count = omega arith;
          versions = λ n x e. first n x e;
          latest = subst (λ (o : Option PlacedVersion). IsSomeAnd o (λ placed. placed.root ≡ key.root)) (sym here) refl;
        };
        fresh = bare 1 (omega arith) (omega arith);
        leavers = λ k l ne. let x = starts k in let z = bare (k + 1) (omega arith) (omega arith) in omega arith;
        starts = λ k. let x = starts k in omega arith;
        unused = λ k e. absurd (true-false (sym e ∙ frees k));
        scanned = λ e. absurd (true-false (sym e));
        count = (refl, omega arith);
        numbers = λ n. sym (bit-zero n);
        pins = λ r c lr lc. bare (key.sizes.readers + 3 + (r * key.sizes.channels + c))
            (let q : ℕ = r * key.sizes.channels in omega arith)
            (let i = pin_inside r key.sizes.readers c key.sizes.channels lr lc in let q : ℕ = r * key.sizes.channels in
            let i' : q + c < p = i in omega arith);
        stored = (
          length-drop (pool_at key.sizes) key.words.value.items ∙ (let n = ap length snap in omega arith),
          λ i. ap (λ (l : List ℕ). get_or l (pool_at key.sizes + i) 0) (sym snap)
              ∙ sym (get_or-drop (pool_at key.sizes) key.words.value.items i 0),
        );
        segments = record {
          filled = (let z : ℕ = key.version in length-replicate key.sizes.segments z, λ k. filled-le key.version key.sizes.segments k);
          sound = all_one (IsSoundVersion key.sizes.segments) p1
              (subst (λ (l : List ℕ). IsSound key.sizes.segments (walk l key.root)) (sym pool-is) is_sound);
          current = subst (λ (o : Option PlacedVersion). IfSome o
              (λ placed. (segment : ℕ) → IsOf (root_and_pool placed) segment → IsAsPlaced a placed segment)) (sym here)
              (λ segment of. ((λ place l. refl), filled-at key.version key.sizes.segments segment));
          borne = λ k l. subst (HasVersion a.history) (sym (version-of-slot k (omega arith))) (ap is_there here);
          answers = λ k l. absurd (omega arith);
          answered = λ v f. absurd (none-answered v f);
          order = inl refl;
          scanned = λ seat view hold at behind. absurd (no-behind seat view hold at behind);
          kept = λ seat view hold at behind. absurd (no-behind seat view hold at behind);
        };
        settled = λ k d l. absurd (omega arith);
        each_seat = λ j w e. seat j w e;
      }
    where
      filled-le : (v n k : ℕ) → slice_index (replicate n v) k ≤ v + 1
      filled-le v zero k = omega arith
      filled-le v (suc n) zero = omega arith
      filled-le v (suc n) (suc k) = filled-le v n k

      filled-at : (v n k : ℕ) → slice_index (replicate n v) k ≤ v
      filled-at v zero k = omega arith
      filled-at v (suc n) zero = omega arith
      filled-at v (suc n) (suc k) = filled-at v n k

      slots-version : (n k : ℕ) → k < n → (slice_index_or (replicate n (new_slot key.version)) k no_slot).version ≡ key.version
      slots-version zero k l = absurd (omega arith)
      slots-version (suc n) zero l = refl
      slots-version (suc n) (suc k) l = slots-version n k (omega arith)

      version-of-slot : (k : ℕ) → k < 10 → (slot_at (first_account key) k).version ≡ key.version
      version-of-slot k l = slots-version 10 k l

      no-behind : (seat : ℕ) (view : View) (hold : Hold) → get_elem? (Writer (first_account key) ∷ []) seat ≡ some view
          → IsBehind view hold → ⊥
      no-behind zero view hold at behind = let c : Contains [] hold = subst (λ (v : View). IsBehind v hold)
          (sym (some-injective (Writer (first_account key)) view at)) behind in let l = c.1 in omega arith
      no-behind (suc n) view hold at behind = some-ne-none view (sym at)

      later : (i : ℕ) → 0 < i → get_or (current_word key.version 0 key.root 0 ∷ replicate (pool_at key.sizes - 1) 0) i 0 ≡ 0
      later zero more = absurd (omega arith)
      later (suc i) more = zeros (pool_at key.sizes - 1) i

      first : (n : ℕ) (x : PlacedVersion) → get_elem? ((first_account key).history) n ≡ some x → x.version ≡ key.version + n
      first zero x e = let v : key.version ≡ x.version = ap (λ (z : PlacedVersion). z.version)
          (some-injective (record { version = key.version; root = key.root; pool = (first_account key).pool }) x e) in omega arith
      first (suc n) x e = absurd (some-ne-none x (sym e))

      seat : (j : ℕ) (w : View) → get_elem? (Writer (first_account key) ∷ []) j ≡ some w → Fits key (first_account key) 0 j w
      seat zero w e = subst (Fits key (first_account key) 0 0) (some-injective (Writer (first_account key)) w e) (refl, refl)
      seat (suc j) w e = absurd (some-ne-none w (sym e))
