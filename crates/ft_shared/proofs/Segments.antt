-- The steps keep the rule of the segments.
use Rattle.std.proofs.Common.{zero, suc, Bool, true, false, cond, ◌==◌, ◌≡◌, ◌≢◌, ◌⊎◌, ℕ, ◌+◌, ◌*◌, ◌<◌, ◌≤◌, List, [], ◌∷◌, ◌++◌, length, set, sym, refl, ap, ◌∙◌, subst, inl, ⊎_elim, arith, Option, Some, None, IsSome, IsNone, IsSomeAnd, IfSome, slice_index, slice_index_or, length-set, get_or-set_other, eq-eqb, ne_eqb}
use Rattle.std.proofs.lemmas.List.Elements.{Contains-get_or, All-append, All-nil, All-cons, All-head, All-tail}
use mathlib.Core.Option.{some}
use mathlib.Core.Logic.{dite}
use native.Mathlib.Decide.{ℕ_discrete}
use lib.ListN.{get_elem?}
use Rattle.std.specs.List.{slice_get, Contains}
use Rattle.atomic_table.proofs.Lists.{at_set, at_snoc}
use Rattle.ft_segments.specs.Packing.{word_at}
use Rattle.ft_segments.specs.Walk.{IsOf, IsSound, walk}
use Rattle.ft_segments.specs.Pins.{PinHolds}
use Rattle.ft_shared.specs.declared.law.Sizes.{Sizes}
use Rattle.ft_shared.specs.declared.law.PlacedVersion.{PlacedVersion}
use Rattle.ft_shared.specs.declared.law.TakenVersion.{TakenVersion}
use Rattle.ft_shared.specs.declared.law.Pin.{Pin}
use Rattle.ft_shared.specs.declared.law.PinAnswer.{PinAnswer}
use Rattle.ft_shared.specs.declared.law.Hold.{Hold}
use Rattle.ft_shared.specs.declared.law.Account.{Account}
use Rattle.ft_shared.specs.declared.law.View.{View}
use Rattle.ft_shared.specs.declared.law.View.TheVariants.{Reader, Writer}
use Rattle.ft_shared.specs.Counts.{IsBehind, pin_of}
use Rattle.ft_shared.specs.History.{placed_at, root_and_pool, HasVersion, IsOfVersion, IsSoundVersion, AreSound}
use Rattle.ft_shared.specs.Account.{slot_at, pin_answer, IsPinMet, IsAnswered, after_learning, after_fill, after_publish}
use Rattle.ft_shared.specs.Segments.{IsAsPlaced, IsUnwritten, IsStanding, IsHoldUnwritten, KeepsHeld, ArePinsScanned, slot_answer, SegmentRule}

-- ---- versions of a history by their numbers

abbrev pub is_there : {A : Type 0} → Option A → Bool
is_there None = false
is_there (Some x) = true

pub some_is : {A : Type 0} (o : Option A) (P : A → Type 0) → IsSomeAnd o P → IsSome o
some_is None P s = absurd s
some_is (Some x) P s = refl

-- what is so of a value that is there
pub some_then : {A : Type 0} (o : Option A) (P Q R : A → Type 0) → IsSomeAnd o P → IfSome o Q → ((x : A) → P x → Q x → R x) → IsSomeAnd o R
some_then None P Q R s q f = absurd s
some_then (Some x) P Q R s q f = f x s q

-- a version that is there stays where it is
pub placed_grows : (h more : List PlacedVersion) (v : ℕ) → IsSome (placed_at h v) → placed_at (h ++ more) v ≡ placed_at h v
placed_grows [] more v s = absurd (no s)
  where
    no : false ≡ true → ⊥
    no e = cc
placed_grows (x ∷ xs) more v s = pick (x.version == v) x (placed_at xs v) (placed_at (xs ++ more) v) s (placed_grows xs more v)
  where
    pick : (b : Bool) (x : PlacedVersion) (o o' : Option PlacedVersion) → IsSome (cond b (Some x) o) → (IsSome o → o' ≡ o)
        → cond b (Some x) o' ≡ cond b (Some x) o
    pick true x o o' s f = refl
    pick false x o o' s f = f s

-- what is so of a version that is there, is so when the history has grown
pub still_there : (h more : List PlacedVersion) (v : ℕ) (P : PlacedVersion → Type 0) → IsSomeAnd (placed_at h v) P
    → IsSomeAnd (placed_at (h ++ more) v) P
still_there h more v P s = subst (λ (o : Option PlacedVersion). IsSomeAnd o P) (sym (placed_grows h more v (some_is (placed_at h v) P s))) s

-- a number that no version has finds none
pub placed_none : (h : List PlacedVersion) (v : ℕ) → ((n : ℕ) (x : PlacedVersion) → get_elem? h n ≡ some x → x.version ≢ v)
    → placed_at h v ≡ None
placed_none [] v ne = refl
placed_none (x ∷ xs) v ne =
    ap (λ (b : Bool). cond b (Some x) (placed_at xs v)) (ne_eqb x.version v (ne 0 x refl)) ∙ placed_none xs v (λ n y e. ne (suc n) y e)

-- a version added behind such a history is found
pub placed_last : (h : List PlacedVersion) (p : PlacedVersion) (v : ℕ) → IsNone (placed_at h v) → p.version ≡ v
    → placed_at (h ++ p ∷ []) v ≡ Some p
placed_last [] p v none is = ap (λ (b : Bool). cond b (Some p) None) (eq-eqb p.version v is)
placed_last (x ∷ xs) p v none is = pick (x.version == v) x (placed_at xs v) (placed_at (xs ++ p ∷ []) v) none (λ n. placed_last xs p v n is)
  where
    pick : (b : Bool) (x : PlacedVersion) (o o' : Option PlacedVersion) → IsNone (cond b (Some x) o) → (IsNone o → o' ≡ Some p)
        → cond b (Some x) o' ≡ Some p
    pick true x o o' n f = absurd (no n)
      where
        no : true ≡ false → ⊥
        no e = cc
    pick false x o o' n f = f n

-- a version with a number of its own is found by it
pub placed_new : (h : List PlacedVersion) (p : PlacedVersion)
    → ((n : ℕ) (x : PlacedVersion) → get_elem? h n ≡ some x → x.version ≢ p.version) → placed_at (h ++ p ∷ []) p.version ≡ Some p
placed_new [] p ne = ap (λ (b : Bool). cond b (Some p) None) (eq-eqb p.version p.version refl)
placed_new (x ∷ xs) p ne =
    ap (λ (b : Bool). cond b (Some x) (placed_at (xs ++ p ∷ []) p.version)) (ne_eqb x.version p.version (ne 0 x refl))
    ∙ placed_new xs p (λ n y e. ne (suc n) y e)

-- a version that is found in a sound history is sound
pub placed_sound : (h : List PlacedVersion) (segments v : ℕ) (p : PlacedVersion) → AreSound segments h → placed_at h v ≡ Some p
    → IsSoundVersion segments p
placed_sound [] segments v p all at = absurd (no at)
  where
    no : None ≡ Some p → ⊥
    no e = cc
placed_sound (x ∷ xs) segments v p all at =
    pick (x.version == v) (placed_sound xs segments v p (All-tail (IsSoundVersion segments) x xs all)) at
  where
    pick : (b : Bool) → (placed_at xs v ≡ Some p → IsSoundVersion segments p) → cond b (Some x) (placed_at xs v) ≡ Some p
        → IsSoundVersion segments p
    pick true rest e = let same : x ≡ p = cc in
        subst (IsSoundVersion segments) same (All-head (IsSoundVersion segments) x xs all)
    pick false rest e = rest e

-- where the versions are in order, each is found by its number
pub placed_in_order : (h : List PlacedVersion) (first : ℕ) → ((n : ℕ) (p : PlacedVersion) → get_elem? h n ≡ some p → p.version ≡ first + n)
    → (n : ℕ) (p : PlacedVersion) → slice_get h n ≡ Some p → placed_at h (first + n) ≡ Some p
placed_in_order [] first order n p at = absurd (no at)
  where
    no : None ≡ Some p → ⊥
    no e = cc
placed_in_order (x ∷ xs) first order zero p at =
    let v : x.version ≡ first + 0 = order 0 x refl in
    ap (λ (b : Bool). cond b (Some x) (placed_at xs (first + 0))) (eq-eqb x.version (first + 0) v) ∙ at
placed_in_order (x ∷ xs) first order (suc n) p at =
    let v : x.version ≡ first + 0 = order 0 x refl in
    let apart : x.version ≢ first + suc n = λ e. omega arith in
    let m : first + 1 + n ≡ first + suc n = omega arith in
    let rest : placed_at xs (first + 1 + n) ≡ Some p =
    placed_in_order xs (first + 1) (λ k y e. let o = order (suc k) y e in omega arith) n p at in
    ap (λ (b : Bool). cond b (Some x) (placed_at xs (first + suc n))) (ne_eqb x.version (first + suc n) apart)
    ∙ (ap (placed_at xs) (sym m) ∙ rest)

-- ---- where the writer's account changes

unwritten_still : (a b : Account) (v : ℕ) → b.history ≡ a.history → b.pool ≡ a.pool → b.filled ≡ a.filled → IsUnwritten a v
    → IsUnwritten b v
unwritten_still a b v hs ps fs u =
    let U : List PlacedVersion × List ℕ × List ℕ → Type 0 = λ z. IsUnwritten (record a { history = z.0; pool = z.1; filled = z.2 }) v in
    subst U (λ i. (sym hs i, sym ps i, sym fs i)) u

pin_still : (a b : Account) (pin : Pin) → b.history ≡ a.history → b.pool ≡ a.pool → b.filled ≡ a.filled → IsStanding a pin
    → IsStanding b pin
pin_still a b pin hs ps fs k =
    let U : List PlacedVersion × List ℕ × List ℕ → Type 0 = λ z. IsStanding (record a { history = z.0; pool = z.1; filled = z.2 }) pin in
    let moved : IsStanding (record a { history = b.history; pool = b.pool; filled = b.filled }) pin = subst U
    (λ i. (sym hs i, sym ps i, sym fs i)) k in
    record { small = moved.small; known = moved.known; unwritten = moved.unwritten }

pub kept_still : (a b : Account) (h : Hold) → b.sizes ≡ a.sizes → b.history ≡ a.history → b.pool ≡ a.pool → b.filled ≡ a.filled
    → IsHoldUnwritten a h
    → IsHoldUnwritten b h
kept_still a b h zs hs ps fs k = record {
  held = λ t e. unwritten_still a b t.version hs ps fs (k.held t e);
  wide = k.wide ∙ ap (λ (z : Sizes). z.channels) (sym zs);
  pins = λ channel pin e. pin_still a b pin hs ps fs (k.pins channel pin e);
}

-- no pin was looked at
pub no-answer : (a : Account) → a.pin_scan ≡ [] → (reader channel : ℕ) → IsPinMet a reader channel → ⊥
no-answer a none reader channel met = let c : Contains [] (pin_answer reader channel met.0) = subst
    (λ (l : List PinAnswer). Contains l (pin_answer reader channel met.0)) none met.1 in let l = c.1 in omega arith

-- a scan without answers
pub none-answered : (v : ℕ) → (let none : List (Option ℕ) = [] in Contains none (Some v)) → ⊥
none-answered v f = let l = f.1 in omega arith

module _ (sizes : Sizes) where
  -- what the writer's seat knows to be held was not written since
  pub keeps_held : (views : List View) (a : Account) (id : ℕ) → get_elem? views id ≡ some (Writer a) → SegmentRule sizes views a → KeepsHeld a
  keeps_held views a id at rule = record {
    current = rule.current;
    answered = rule.answered;
    settled = λ i x l. rule.kept id (Writer a) (slice_index_or a.settled i x) at (Contains-get_or a.settled i x l);
  }

  -- nor when the writer has learned of the settled passes
  pub keeps_learned : (a : Account) → KeepsHeld a → KeepsHeld (after_learning a)
  keeps_learned a k = record {
    current = k.current;
    answered = k.answered;
    settled = λ i x l. kept_still a (after_learning a) (slice_index_or a.settled i x) refl refl refl refl (k.settled i x l);
  }

  -- an account that differs in nothing that the segments rest on
  pub segments_still : (views : List View) (a b : Account) → b.sizes ≡ a.sizes → b.history ≡ a.history → b.pool ≡ a.pool
      → b.filled ≡ a.filled → b.version ≡ a.version
      → ((k : ℕ) → (slot_at b k).version ≡ (slot_at a k).version)
      → ((k : ℕ) → k < length b.scan → slice_index_or b.scan k None ≡ slot_answer b k)
      → ((v : ℕ) → IsAnswered b v → IsUnwritten a v)
      → (b.pin_scan ≡ []) ⊎ (length b.scan ≡ sizes.readers + 2)
      → ((seat : ℕ) (view : View) (hold : Hold) → get_elem? views seat ≡ some view → IsBehind view hold → ArePinsScanned b hold)
      → SegmentRule sizes views a → SegmentRule sizes views b
  segments_still views a b zs hs ps fs vs slots answers answered order scanned rule = record {
    filled = (
      ap length fs ∙ rule.filled.0,
      λ k. let e : slice_index b.filled k ≡ slice_index a.filled k = ap
          (λ (l : List ℕ). slice_index l k) fs in let f = rule.filled.1 k in omega arith,
    );
    sound = subst (AreSound sizes.segments) (sym hs) rule.sound;
    current = subst (IsUnwritten b) (sym vs) (unwritten_still a b a.version hs ps fs rule.current);
    borne = λ k l. subst (λ (z : List PlacedVersion × ℕ). HasVersion z.0 z.1) (λ i. (sym hs i, sym (slots k) i)) (rule.borne k l);
    answers = answers;
    answered = λ v f. unwritten_still a b v hs ps fs (answered v f);
    order = order;
    scanned = scanned;
    kept = λ seat view hold at behind. kept_still a b hold zs hs ps fs (rule.kept seat view hold at behind);
  }

  -- the seats have other views, behind which nothing else is held or pinned
  pub segments_passes : (old views : List View) (a : Account)
      → ((seat : ℕ) (view : View) (hold : Hold) → get_elem? views seat ≡ some view → IsBehind view hold → ArePinsScanned a hold)
      → ((seat : ℕ) (view : View) (hold : Hold) → get_elem? views seat ≡ some view → IsBehind view hold → IsHoldUnwritten a hold)
      → SegmentRule sizes old a → SegmentRule sizes views a
  segments_passes old views a scanned kept rule = record {
    filled = rule.filled;
    sound = rule.sound;
    current = rule.current;
    borne = rule.borne;
    answers = rule.answers;
    answered = rule.answered;
    order = rule.order;
    scanned = scanned;
    kept = kept;
  }

  -- the writer's seat has the account
  pub segments_seat : (views : List View) (a b : Account) (id : ℕ) → get_elem? views id ≡ some (Writer a) → b.settled ≡ a.settled
      → SegmentRule sizes views b → SegmentRule sizes (set views id (Writer b)) b
  segments_seat views a b id at same rule = record {
    filled = rule.filled;
    sound = rule.sound;
    current = rule.current;
    borne = rule.borne;
    answers = rule.answers;
    answered = rule.answered;
    order = rule.order;
    scanned = λ seat view hold e behind. ⊎_elim
        (λ (t : (seat ≡ id) × (Writer b ≡ view)). rule.scanned id (Writer a) hold at
        (subst (λ (l : List Hold). Contains l hold) same (subst (λ (v : View). IsBehind v hold) (sym t.1) behind)))
        (λ (t : (seat ≢ id) × (get_elem? views seat ≡ some view)). rule.scanned seat view hold t.1 behind)
        (at_set views id seat (Writer b) view e);
    kept = λ seat view hold e behind. ⊎_elim
        (λ (t : (seat ≡ id) × (Writer b ≡ view)). rule.kept id (Writer a) hold at
        (subst (λ (l : List Hold). Contains l hold) same (subst (λ (v : View). IsBehind v hold) (sym t.1) behind)))
        (λ (t : (seat ≢ id) × (get_elem? views seat ≡ some view)). rule.kept seat view hold t.1 behind)
        (at_set views id seat (Writer b) view e);
  }

  -- a reader's seat has what is kept
  pub segments_reader : (views : List View) (a : Account) (id : ℕ) (h : Hold) → IsHoldUnwritten a h → ArePinsScanned a h
      → SegmentRule sizes views a → SegmentRule sizes (set views id (Reader h)) a
  segments_reader views a id h kept met rule = record {
    filled = rule.filled;
    sound = rule.sound;
    current = rule.current;
    borne = rule.borne;
    answers = rule.answers;
    answered = rule.answered;
    order = rule.order;
    scanned = λ seat view hold e behind. ⊎_elim
        (λ (t : (seat ≡ id) × (Reader h ≡ view)). subst (ArePinsScanned a) (subst (λ (v : View). IsBehind v hold) (sym t.1) behind) met)
        (λ (t : (seat ≢ id) × (get_elem? views seat ≡ some view)). rule.scanned seat view hold t.1 behind)
        (at_set views id seat (Reader h) view e);
    kept = λ seat view hold e behind. ⊎_elim
        (λ (t : (seat ≡ id) × (Reader h ≡ view)). subst (IsHoldUnwritten a) (subst (λ (v : View). IsBehind v hold) (sym t.1) behind) kept)
        (λ (t : (seat ≢ id) × (get_elem? views seat ≡ some view)). rule.kept seat view hold t.1 behind)
        (at_set views id seat (Reader h) view e);
  }

  -- one more reader has a seat
  pub segments_more : (views : List View) (a : Account) (h : Hold) → IsHoldUnwritten a h → ArePinsScanned a h → SegmentRule sizes views a
      → SegmentRule sizes (views ++ Reader h ∷ []) a
  segments_more views a h kept met rule = record {
    filled = rule.filled;
    sound = rule.sound;
    current = rule.current;
    borne = rule.borne;
    answers = rule.answers;
    answered = rule.answered;
    order = rule.order;
    scanned = λ seat view hold e behind. ⊎_elim
        (λ (t : get_elem? views seat ≡ some view). rule.scanned seat view hold t behind)
        (λ (t : Reader h ≡ view). subst (ArePinsScanned a) (subst (λ (v : View). IsBehind v hold) (sym t) behind) met)
        (at_snoc views (Reader h) view seat e);
    kept = λ seat view hold e behind. ⊎_elim
        (λ (t : get_elem? views seat ≡ some view). rule.kept seat view hold t behind)
        (λ (t : Reader h ≡ view). subst (IsHoldUnwritten a) (subst (λ (v : View). IsBehind v hold) (sym t) behind) kept)
        (at_snoc views (Reader h) view seat e);
  }

  -- ---- a publish

  -- a version of the history stays unwritten when the history grows
  unwritten_grows : (a b : Account) (p : PlacedVersion) (v : ℕ) → b.history ≡ a.history ++ p ∷ [] → b.pool ≡ a.pool → b.filled ≡ a.filled
      → HasVersion a.history v → IsUnwritten a v → IsUnwritten b v
  unwritten_grows a b p v hs ps fs there u =
      let c : Account = record a { history = a.history ++ p ∷ [] } in
      unwritten_still c b v hs ps fs (subst (λ (o : Option PlacedVersion). IfSome o
      (λ placed. (segment : ℕ) → IsOf (root_and_pool placed) segment → IsAsPlaced a placed segment))
      (sym (placed_grows a.history (p ∷ []) v there)) u)

  -- a pin holds when the history grows
  standing_grows : (a b : Account) (p : PlacedVersion) (pin : Pin) → b.history ≡ a.history ++ p ∷ [] → b.pool ≡ a.pool
      → b.filled ≡ a.filled → IsStanding a pin → IsStanding b pin
  standing_grows a b p pin hs ps fs k =
      let c : Account = record a { history = a.history ++ p ∷ [] } in
      let grows : placed_at c.history pin.version ≡ placed_at a.history pin.version = placed_grows a.history (p ∷ []) pin.version k.known in
      pin_still c b pin hs ps fs (record {
        small = k.small;
        known = subst (λ (o : Option PlacedVersion). IsSome o) (sym grows) k.known;
        unwritten = subst (λ (o : Option PlacedVersion). IfSome o
            (λ placed. (segment : ℕ) → PinHolds (root_and_pool placed) pin.root segment → IsAsPlaced a placed segment))
            (sym grows) k.unwritten;
      })

  -- the new version is the words as they are
  unwritten_new : (a b : Account) (p : PlacedVersion) → placed_at b.history p.version ≡ Some p → p.pool ≡ b.pool
      → ((k : ℕ) → slice_index b.filled k ≤ p.version) → IsUnwritten b p.version
  unwritten_new a b p new pool fs = subst (λ (o : Option PlacedVersion). IfSome o
      (λ placed. (segment : ℕ) → IsOf (root_and_pool placed) segment → IsAsPlaced b placed segment)) (sym new)
      (λ segment of. ((λ place l. ap (λ (ws : List ℕ). word_at ws segment place) (sym pool)), fs segment))

  pub segments_published : (views : List View) (a : Account) (k root n : ℕ)
      → ((m : ℕ) (x : PlacedVersion) → get_elem? a.history m ≡ some x → x.version ≢ a.version + 1)
      → ((j : ℕ) → j ≢ k → (slot_at (after_publish a k root n) j).version ≡ (slot_at a j).version)
      → (slot_at (after_publish a k root n) k).version ≡ a.version + 1
      → ((seat : ℕ) (view : View) (hold : Hold) → get_elem? views seat ≡ some view → IsBehind view hold → (t : TakenVersion)
      → hold.notes.held ≡ Some t → HasVersion a.history t.version)
      → IsSound sizes.segments (walk a.pool root)
      → SegmentRule sizes views a → SegmentRule sizes views (after_publish a k root n)
  segments_published views a k root n apart else here known is_sound rule =
      let b : Account = after_publish a k root n in
      let p : PlacedVersion = record { version = a.version + 1; root = root; pool = a.pool } in
      let new : placed_at b.history p.version ≡ Some p = placed_new a.history p apart in
      record {
        filled = (rule.filled.0, λ j. let f = rule.filled.1 j in omega arith);
        sound = All-append (IsSoundVersion sizes.segments) a.history (p ∷ []) rule.sound
            (All-cons (IsSoundVersion sizes.segments) p [] is_sound (All-nil (IsSoundVersion sizes.segments)));
        current = unwritten_new a b p new refl rule.filled.1;
        borne = λ j l. dite (ℕ_discrete j k)
            (λ (e : j ≡ k). subst (λ (i : ℕ). HasVersion b.history (slot_at b i).version) (sym e)
            (subst (HasVersion b.history) (sym here) (ap is_there new)))
            (λ (e : j ≢ k). subst (HasVersion b.history) (sym (else j e))
            (ap is_there (placed_grows a.history (p ∷ []) (slot_at a j).version (rule.borne j l)) ∙ rule.borne j l));
        answers = λ j l. absurd (omega arith);
        answered = λ v f. absurd (none-answered v f);
        order = inl refl;
        scanned = λ seat view hold at behind channel pin e met. absurd (no-answer b refl hold.notes.number channel met);
        kept = λ seat view hold at behind. record {
          held = λ t e. unwritten_grows a b p t.version refl refl refl (known seat view hold at behind t e)
              ((rule.kept seat view hold at behind).held t e);
          wide = (rule.kept seat view hold at behind).wide;
          pins = λ channel pin e. standing_grows a b p pin refl refl refl ((rule.kept seat view hold at behind).pins channel pin e);
        };
      }

  -- ---- a fill

  -- the words of other segments stay
  filled_else : (a : Account) (s at w segment : ℕ) (placed : PlacedVersion) → at < 256 → segment ≢ s → IsAsPlaced a placed segment
      → IsAsPlaced (after_fill a s at w) placed segment
  filled_else a s at w segment placed few ne is = (
    λ place l. get_or-set_other a.pool (s * 256 + at) (segment * 256 + place) w 0 (λ e. ne (omega arith)) ∙ is.0 place l,
    (let e : slice_index (set a.filled s (a.version + 1)) segment ≡ slice_index a.filled segment = get_or-set_other a.filled s segment
        (a.version + 1) 0 ne in let f = is.1 in omega arith),
  )

  -- a version that the segment isn't of stays unwritten
  unwritten_else : (a : Account) (s at w v : ℕ) → at < 256 → (IsOfVersion a.history v s → ⊥) → IsUnwritten a v
      → IsUnwritten (after_fill a s at w) v
  unwritten_else a s at w v few apart u = go (placed_at a.history v) apart u
    where
      go : (o : Option PlacedVersion) → (IsSomeAnd o (λ placed. IsOf (root_and_pool placed) s) → ⊥)
          → IfSome o (λ placed. (segment : ℕ) → IsOf (root_and_pool placed) segment → IsAsPlaced a placed segment)
          → IfSome o (λ placed. (segment : ℕ) → IsOf (root_and_pool placed) segment → IsAsPlaced (after_fill a s at w) placed segment)
      go None apart u = tt
      go (Some p) apart u = λ segment of. filled_else a s at w segment p few (λ e. apart (subst (IsOf (root_and_pool p)) e of))
          (u segment of)

  -- a pin that doesn't hold the segment stays as it was
  standing_else : (a : Account) (s at w : ℕ) (pin : Pin) → at < 256
      → ((placed : PlacedVersion) → placed_at a.history pin.version ≡ Some placed → PinHolds (root_and_pool placed) pin.root s → ⊥)
      → IsStanding a pin → IsStanding (after_fill a s at w) pin
  standing_else a s at w pin few apart k = record {
    small = k.small;
    known = k.known;
    unwritten = go (placed_at a.history pin.version) refl k.unwritten;
  }
    where
      go : (o : Option PlacedVersion) → placed_at a.history pin.version ≡ o
          → IfSome o (λ placed. (segment : ℕ) → PinHolds (root_and_pool placed) pin.root segment → IsAsPlaced a placed segment)
          → IfSome o (λ placed. (segment : ℕ) → PinHolds (root_and_pool placed) pin.root segment
          → IsAsPlaced (after_fill a s at w) placed segment)
      go None e u = tt
      go (Some p) e u = λ segment holds. filled_else a s at w segment p few
          (λ same. apart p e (subst (PinHolds (root_and_pool p) pin.root) same holds)) (u segment holds)

  pub segments_filled : (views : List View) (a : Account) (s at w : ℕ) → at < 256 → (IsOfVersion a.history a.version s → ⊥)
      → ((v : ℕ) → IsAnswered a v → IsOfVersion a.history v s → ⊥)
      → ((seat : ℕ) (view : View) (hold : Hold) → get_elem? views seat ≡ some view → IsBehind view hold → (t : TakenVersion)
      → hold.notes.held ≡ Some t → IsOfVersion a.history t.version s → ⊥)
      → ((seat : ℕ) (view : View) (hold : Hold) → get_elem? views seat ≡ some view → IsBehind view hold → (channel : ℕ) (pin : Pin)
      → pin_of hold.notes channel ≡ Some pin
      → (placed : PlacedVersion) → placed_at a.history pin.version ≡ Some placed → PinHolds (root_and_pool placed) pin.root s → ⊥)
      → SegmentRule sizes views a → SegmentRule sizes views (after_fill a s at w)
  segments_filled views a s at w few apart unanswered free unpinned rule = record {
    filled = (
      length-set a.filled s (a.version + 1) ∙ rule.filled.0,
      λ k. dite (ℕ_discrete k s)
          (λ (e : k ≡ s). subst (λ (j : ℕ). slice_index (set a.filled s (a.version + 1)) j ≤ a.version + 1) (sym e)
          (set-le a.filled s (a.version + 1) (a.version + 1) (omega arith)))
          (λ (e : k ≢ s). let o : slice_index (set a.filled s (a.version + 1)) k ≡ slice_index a.filled k = get_or-set_other a.filled s k
          (a.version + 1) 0 e in let f = rule.filled.1 k in omega arith),
    );
    sound = rule.sound;
    current = unwritten_else a s at w a.version few apart rule.current;
    borne = rule.borne;
    answers = rule.answers;
    answered = λ v f. unwritten_else a s at w v few (unanswered v f) (rule.answered v f);
    order = rule.order;
    scanned = rule.scanned;
    kept = λ seat view hold there behind. record {
      held = λ t e. unwritten_else a s at w t.version few (free seat view hold there behind t e)
          ((rule.kept seat view hold there behind).held t e);
      wide = (rule.kept seat view hold there behind).wide;
      pins = λ channel pin e. standing_else a s at w pin few (unpinned seat view hold there behind channel pin e)
          ((rule.kept seat view hold there behind).pins channel pin e);
    };
  }
    where
      set-le : (l : List ℕ) (k x m : ℕ) → x ≤ m → slice_index (set l k x) k ≤ m
      set-le [] k x m le = omega arith
      set-le (y ∷ l) zero x m le = le
      set-le (y ∷ l) (suc k) x m le = set-le l k x m le
