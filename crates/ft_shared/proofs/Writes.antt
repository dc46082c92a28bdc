-- The writer's steps keep the rule.
use Rattle.std.proofs.Common.{nat_lt, replicate, Option, inl, ◌⊎◌, ◌↔◌, IsSome, zero, suc, Bool, true, false, cond, false-eqb, true-eqb, lt-ltb, le-ltb, eq-eqb, ◌==◌, ◌≡◌, ◌≢◌, ℕ, ◌+◌, ◌*◌, ◌<◌, ◌≤◌, List, [], ◌∷◌, ◌++◌, length, get_or, set, sym, refl, ap, ◌∙◌, subst, ⊎_elim, arith, Some, None, All, slice_index_or, length-set, length-append, get_or-set_other, get_or-set_same}
use Rattle.std.proofs.lemmas.List.{get_or_append_left, get_or_push}
use Rattle.std.proofs.lemmas.List.Elements.{Contains-push_cases}
use Rattle.std.specs.List.{Contains}
use mathlib.Core.Option.{none, some}
use mathlib.Core.Logic.{dite}
use native.Mathlib.Decide.{ℕ_discrete}
use lib.ListN.{get_elem?, length-replicate}
use lib.Seq.{set-get_or}
use Rattle.atomic_table.specs.Table.{step, keeps, Allows, Splits}
use Rattle.atomic_table.proofs.Lists.{at_set, at_snoc}
use Rattle.ft_shared.specs.declared.law.Sizes.{Sizes}
use Rattle.ft_shared.specs.declared.law.Opening.{Opening}
use Rattle.ft_shared.specs.declared.law.PlacedVersion.{PlacedVersion}
use Rattle.ft_shared.specs.declared.law.TakenVersion.{TakenVersion}
use Rattle.ft_shared.specs.declared.law.Pin.{Pin}
use Rattle.ft_shared.specs.declared.law.Hold.{Hold}
use Rattle.ft_shared.specs.declared.law.Slot.{Slot}
use Rattle.ft_shared.specs.declared.law.Account.{Account}
use Rattle.ft_shared.specs.declared.law.View.{View}
use Rattle.ft_shared.specs.declared.law.View.TheVariants.{Spent, Reader, Writer, Told}
use Rattle.ft_shared.specs.Layout.{current_word}
use Rattle.ft_shared.specs.Counts.{total, sum_below, pass_sum, one, has_number, grip_of, holders, IsBehind, pin_word, pin_amount}
use Rattle.ft_shared.specs.History.{HasVersion, HasTakenVersion, HasRead, Agrees}
use Rattle.ft_shared.specs.Account.{slot_at, no_slot, account_of, new_notes, is_free, answer_of, AreAllSettled, IsHeldSlot, IsBorne, IsAnswered, after_begin, after_scan}
use Rattle.ft_shared.specs.Segments.{IsUnwritten, KeepsHeld, ArePinsScanned, slot_answer}
use Rattle.ft_shared.specs.Register.{TableState, SeatView, PassRule, Fits, amount, scan_count, marks, RegisterRule}
use Rattle.ft_shared.specs.Plays.{after_pass_given, given_pass, IsScanBegin, IsSlotScan}
use Rattle.ft_shared.proofs.Sums.{total-set, total-append, set-keeps, numbers-more, amount-le, amount-new, amount-here, amount-scan, amount-met, ltb-next, sum_below-le, holding-sum_below}
use Rattle.ft_shared.proofs.Segments.{no-answer, none-answered, keeps_held, kept_still, segments_still, segments_seat, segments_more}
use Rattle.ft_shared.proofs.Exact.{slot_exact, grips, counting_pass}
use Rattle.ft_shared.proofs.Readers.{fewer, stands_behind}

none_some : {A : Type 0} (x : A) → None ≡ Some x → ⊥
none_some x e = cc

pub true-false : true ≡ false → ⊥
true-false e = cc

positive : (n : ℕ) → (n ≡ 0 → ⊥) → 0 < n
positive zero h = absurd (h refl)
positive (suc n) h = omega arith

same-le : (n : ℕ) → n ≤ n
same-le n = omega arith

all_none : {A : Type 0} (P : A → Type 0) → All P []
all_none P k d l = absurd (omega arith)

-- a pass that was never used has no pin
pub no-pin : (n c : ℕ) (pin : Pin) → (let z : Option Pin = None in slice_index_or (replicate n z) c z ≡ Some pin) → ⊥
no-pin zero c pin e = none_some pin e
no-pin (suc n) zero pin e = none_some pin e
no-pin (suc n) (suc c) pin e = no-pin n c pin e

no-pins : (b : Bool) (n c : ℕ) → (let z : Option Pin = None in cond b (pin_word (slice_index_or (replicate n z) c z)) 0 ≡ 0)
no-pins false n c = refl
no-pins true zero c = refl
no-pins true (suc n) zero = refl
no-pins true (suc n) (suc c) = no-pins true n c

module _ (key : Opening) where
  -- a pass keeps its rule by an account that differs in nothing that it rests on
  pub stands_still : (a b : Account) (h : Hold) → b.version ≡ a.version → ((k : ℕ) → (slot_at b k).version ≡ (slot_at a k).version)
      → b.history ≡ a.history → PassRule key a h → PassRule key b h
  stands_still a b h v ks hs f = record {
    told = f.told;
    past = let l = f.past in omega arith;
    recent = λ n e. let l = f.recent n e in omega arith;
    borne = λ t e. let x = f.borne t e in (x.0, ks h.slot ∙ x.1);
    agrees = subst (λ (l : List PlacedVersion). Agrees l h.notes) (sym hs) f.agrees;
  }

  -- a seat that is not the writer's, where the account changes in nothing that readers rest on
  others : (state : TableState) (rule : RegisterRule key state) (id : ℕ) → id ≡ rule.writer → (b : Account) (j : ℕ) (v : View) → j ≢ id
      → b.version ≡ rule.account.version
      → ((k : ℕ) → (slot_at b k).version ≡ (slot_at rule.account k).version) → b.history ≡ rule.account.history
      → Fits key rule.account rule.writer j v → Fits key b rule.writer j v
  others state rule id writes b j Spent ne v ks hs f = tt
  others state rule id writes b j (Reader h) ne v ks hs f = stands_still rule.account b h v ks hs f
  others state rule id writes b j (Writer e) ne v ks hs f = absurd (ne (f.1 ∙ sym writes))
  others state rule id writes b j (Told t) ne v ks hs f = record { sizes = f.sizes; past = let l = f.past in omega arith }

  -- the seats, where only the writer's account changes, in nothing that readers rest on
  pub seats_still : (state : TableState) (rule : RegisterRule key state) (id : ℕ) → id ≡ rule.writer → (b : Account)
      → b.version ≡ rule.account.version
      → ((k : ℕ) → (slot_at b k).version ≡ (slot_at rule.account k).version) → b.history ≡ rule.account.history
      → (j : ℕ) (v : View) → get_elem? (set state.views id (Writer b)) j ≡ some v → Fits key b rule.writer j v
  seats_still state rule id writes b v ks hs j w e = ⊎_elim (λ (u : (j ≡ id) × (Writer b ≡ w)). subst (Fits key b rule.writer j) u.1
      (refl, u.0 ∙ writes))
      (λ (u : (j ≢ id) × (get_elem? state.views j ≡ some w)). others state rule id writes b j w u.0 v ks hs (rule.each_seat j w u.1))
      (at_set state.views id j (Writer b) w e)

  -- a sum over the passes, where the writer's account changes in all but the settled ones
  pub sum_still : (state : TableState) (id : ℕ) (a b : Account) → get_elem? state.views id ≡ some (Writer a) → b.settled ≡ a.settled
      → (f : Hold → ℕ) → total (pass_sum f) (set state.views id (Writer b)) ≡ total (pass_sum f) state.views
  sum_still state id a b at e f = let x = total-set (pass_sum f) state.views id (Writer a) (Writer b) at in
      let y : total f b.settled ≡ total f a.settled = ap (total f) e in omega arith

  given_at : (state : TableState) (rule : RegisterRule key state) (id : ℕ) → get_elem? state.views id ≡ some (Writer rule.account)
      → id ≡ rule.writer → rule.account.given < key.sizes.readers
      → RegisterRule key record {
        words = state.words;
        homes = state.homes;
        views = set state.views id (Writer (record rule.account { given = rule.account.given + 1 })) ++ Reader
            (record { notes = new_notes rule.account.sizes rule.account.given; slot = 0 }) ∷ [];
      }
  given_at state rule id at writes less =
      let a : Account = rule.account in
      let b : Account = record a { given = a.given + 1 } in
      let h : Hold = record { notes = new_notes a.sizes a.given; slot = 0 } in
      let views : List View = set state.views id (Writer b) in
      let more : (f : Hold → ℕ) → total (pass_sum f) (views ++ Reader h ∷ []) ≡ total (pass_sum f) state.views + f h = λ f.
      let x = total-append (pass_sum f) views (Reader h ∷ []) in let y = sum_still state id a b at refl f in omega arith in
      let holds : (k : ℕ) → holders k (views ++ Reader h ∷ []) ≡ holders k state.views = λ k. let x = more (grip_of k) in omega arith in
      record {
        writer = rule.writer;
        account = b;
        few = rule.few;
        told = rule.told;
        wide = rule.wide;
        deep = rule.deep;
        ranges = rule.ranges;
        current = rule.current ∙ ap (current_word a.version a.slot a.root) (sym (holds a.slot));
        bears = rule.bears;
        history = rule.history;
        fresh = rule.fresh;
        leavers = λ k l ne. rule.leavers k l ne ∙ ap (λ (n : ℕ). get_or state.words (k + 1) 0 + n) (sym (holds k));
        starts = rule.starts;
        unused = λ k e. let u = rule.unused k e in (u.0, holds k ∙ u.1);
        scanned = λ c. fewer key state rule (views ++ Reader h ∷ []) (λ k ne. let e = holds k in omega arith) c;
        count = (let x = more one in let c = rule.count in omega arith, omega arith);
        numbers = λ n. let x = more (has_number n) in let y = rule.numbers n in let z = numbers-more n a.given in omega arith;
        pins = λ r c lr lc. let x = more (pin_amount r c) in let y = rule.pins r c lr lc in
            let z : pin_amount r c h ≡ 0 = no-pins (a.given == r) a.sizes.channels c in omega arith;
        stored = rule.stored;
        segments = segments_more key.sizes views b h (record {
          held = λ (g : TakenVersion) e. absurd (none_some g e);
          wide = (let z : Option Pin = None in length-replicate a.sizes.channels z);
          pins = λ c pin e. absurd (no-pin a.sizes.channels c pin e);
        })
            (λ c pin e. absurd (no-pin a.sizes.channels c pin e))
            (segments_seat key.sizes state.views a b id at refl
            (segments_still key.sizes state.views a b refl refl refl refl refl
            (λ k. refl) rule.segments.answers rule.segments.answered rule.segments.order rule.segments.scanned rule.segments));
        settled = λ i x e. stands_still a b (slice_index_or a.settled i x) refl (λ k. refl) refl (rule.settled i x e);
        each_seat = λ j v e. ⊎_elim (λ (t : get_elem? views j ≡ some v). seats_still state rule id writes b refl (λ k. refl) refl j v t)
            (λ (t : Reader h ≡ v). subst (Fits key b rule.writer j) t (record {
              told = rule.told;
              past = omega arith;
              recent = λ (n : ℕ) e. absurd (none_some n e);
              borne = λ (g : TakenVersion) e. absurd (none_some g e);
              agrees = record {
                looks = all_none (HasVersion a.history);
                takes = all_none (HasTakenVersion a.history);
                held = λ (g : TakenVersion) e. absurd (none_some g e);
                reads = all_none (HasRead a.history);
              };
            }))
            (at_snoc views (Reader h) v j e);
      }

  -- the writer's seat gives a reader its seat
  pub gives_one : (id : ℕ) (v : View) → v ≡ Writer (account_of v) → (z : Sizes) → (account_of v).sizes ≡ z
      → (account_of v).given < z.readers → Splits (RegisterRule key) id v (after_pass_given v) (given_pass v)
  gives_one id v is z sizes less = subst (λ (w : View). Splits (RegisterRule key) id w (after_pass_given w) (given_pass w)) (sym is)
      (one_given (account_of v) (let n = ap (λ (y : Sizes). y.readers) sizes in omega arith))
    where
      one_given : (e : Account) → e.given < e.sizes.readers → Splits (RegisterRule key) id (Writer e) (after_pass_given (Writer e))
          (given_pass (Writer e))
      one_given e few state rule at =
          let same : (e ≡ rule.account) × (id ≡ rule.writer) = rule.each_seat id (Writer e) at in
          subst (λ (y : Account). y.given < key.sizes.readers → get_elem? state.views id ≡ some (Writer y)
          → RegisterRule key record {
            words = state.words;
            homes = state.homes;
            views = set state.views id (Writer (record y { given = y.given + 1 })) ++ Reader
                (record { notes = new_notes y.sizes y.given; slot = 0 }) ∷ [];
          })
          (sym same.0) (λ l t. given_at state rule id t same.1 l)
          (let n = ap (λ (y : Account). y.sizes.readers) same.0 in let m = ap (λ (y : Sizes). y.readers) rule.told in omega arith) at

  -- nothing changes but the scan and which slots are known to be free
  pub scan_at : (state : TableState) (rule : RegisterRule key state) (id : ℕ) (b : Account)
      → get_elem? state.views id ≡ some (Writer rule.account) → id ≡ rule.writer
      → b ≡ record rule.account {
        slots = b.slots;
        begun = b.begun;
        scans = b.scans;
        scan = b.scan;
        gone = b.gone;
        pin_scan = b.pin_scan;
        pinned = b.pinned;
        steps = b.steps;
      }
      → length b.slots ≡ 10 → ((k : ℕ) → (slot_at b k).version ≡ (slot_at rule.account k).version)
      → ((k : ℕ) → (slot_at b k).start ≡ (slot_at rule.account k).start)
      → ((k : ℕ) → (slot_at b k).free ≡ true → (k ≢ rule.account.slot) × (holders k state.views ≡ 0))
      → (b.begun ≡ true → sum_below (scan_count b state.views) (key.sizes.readers + 2) ≤ key.sizes.readers)
      → ((k : ℕ) → k < length b.scan → slice_index_or b.scan k None ≡ slot_answer b k)
      → ((v : ℕ) → IsAnswered b v → IsUnwritten rule.account v)
      → (b.pin_scan ≡ []) ⊎ (length b.scan ≡ key.sizes.readers + 2)
      → ((seat : ℕ) (view : View) (hold : Hold) → get_elem? state.views seat ≡ some view → IsBehind view hold → ArePinsScanned b hold)
      → RegisterRule key record { words = state.words; homes = state.homes; views = set state.views id (Writer b) }
  scan_at state rule id b at writes is deep versions starts unused told answers answered order scanned =
      let a : Account = rule.account in
      let c' : Account = record a {
        slots = b.slots;
        begun = b.begun;
        scans = b.scans;
        scan = b.scan;
        gone = b.gone;
        pin_scan = b.pin_scan;
        pinned = b.pinned;
        steps = b.steps;
      } in
      subst (λ (z : Account). RegisterRule key record { words = state.words; homes = state.homes; views = set state.views id (Writer z) })
      (sym is)
      (let views : List View = set state.views id (Writer c') in
      let same : (k : ℕ) → holders k views ≡ holders k state.views = λ k. sum_still state id a c' at refl (grip_of k) in
      let told' : b.begun ≡ true → sum_below (scan_count c' state.views) (key.sizes.readers + 2) ≤ key.sizes.readers = λ t. subst
      (λ (z : Account). sum_below (scan_count z state.views) (key.sizes.readers + 2) ≤ key.sizes.readers) is (told t) in
      record {
        writer = rule.writer;
        account = c';
        few = rule.few;
        told = rule.told;
        wide = rule.wide;
        deep = deep;
        ranges = rule.ranges;
        current = rule.current ∙ ap (current_word a.version a.slot a.root) (sym (same a.slot));
        bears = versions a.slot ∙ rule.bears;
        history = rule.history;
        fresh = rule.fresh;
        leavers = λ k l ne. starts k ∙ (rule.leavers k l ne ∙ ap (λ (n : ℕ). get_or state.words (k + 1) 0 + n) (sym (same k)));
        starts = λ k. let x = starts k in let y = rule.starts k in omega arith;
        unused = λ k e. let u = unused k e in (u.0, same k ∙ u.1);
        scanned = λ t. let x = told' t in
            let y = sum_below-le (scan_count c' views) (scan_count c' state.views) (key.sizes.readers + 2)
            (λ k l. amount-le (k == a.slot) (slot_at c' k).free (nat_lt k (length c'.scan)) (holders k views) (holders k state.views)
            (λ e. let h = same k in omega arith)) in omega arith;
        count = (sum_still state id a c' at refl one ∙ rule.count.0, rule.count.1);
        numbers = λ n. sum_still state id a c' at refl (has_number n) ∙ rule.numbers n;
        pins = λ r h lr lc. rule.pins r h lr lc ∙ sym (sum_still state id a c' at refl (pin_amount r h));
        stored = rule.stored;
        segments = segments_seat key.sizes state.views a c' id at refl
            (segments_still key.sizes state.views a c' refl refl refl refl refl versions answers answered order scanned rule.segments);
        settled = λ i x e. stands_still a c' (slice_index_or a.settled i x) refl versions refl (rule.settled i x e);
        each_seat = seats_still state rule id writes c' refl versions refl;
      })

  -- a scan begins: what it counts are the passes that hold a slot
  begins_at : (state : TableState) (rule : RegisterRule key state)
      → sum_below (scan_count (after_begin rule.account) state.views) (key.sizes.readers + 2) ≤ key.sizes.readers
  begins_at state rule = let a : Account = rule.account in let x = holding-sum_below (key.sizes.readers + 2) state.views in
      let r = rule.count in
      let c = sum_below-le (scan_count (after_begin a) state.views) (λ k. holders k state.views) (key.sizes.readers + 2) (λ k l.
      let z : 0 ≤ k = omega arith in
      subst (λ (m : Bool). amount (k == a.slot) (slot_at a k).free m (holders k state.views) ≤ holders k state.views)
      (sym (le-ltb k 0 z)) (amount-new (k == a.slot) (slot_at a k).free (holders k state.views))) in omega arith

  pub begins : (slots id : ℕ) (me : SeatView) → me.0 ≡ Writer (account_of me.0)
      → Allows (RegisterRule key) slots id me 0 (λ n. n) (IsScanBegin (step slots 0 0 0 none) me)
  begins slots id me is state rule deep at small =
      let e : Account = account_of me.0 in
      let at' : get_elem? state.views id ≡ some (Writer e) = at ∙ ap some is in
      let same : (e ≡ rule.account) × (id ≡ rule.writer) = rule.each_seat id (Writer e) at' in (
        Writer (after_begin e),
        keeps,
        tt,
        subst (λ (words : List ℕ). RegisterRule key record {
          words = words;
          homes = state.homes;
          views = set state.views id (Writer (after_begin e));
        }) (sym (set-get_or state.words 0 0))
            (subst (λ (z : Account). get_elem? state.views id ≡ some (Writer z)
            → RegisterRule key record { words = state.words; homes = state.homes; views = set state.views id (Writer (after_begin z)) })
            (sym same.0)
            (λ t. scan_at state rule id (after_begin rule.account) t same.1 refl rule.deep (λ k. refl) (λ k. refl) rule.unused
            (λ _. begins_at state rule) (λ k l. absurd (omega arith)) (λ v f. absurd (none-answered v f)) (inl refl)
            (λ seat view hold there behind channel pin e met. absurd
            (no-answer (after_begin rule.account) refl hold.notes.number channel met))) at'),
        (
          refl,
          refl,
          subst KeepsHeld (sym same.0)
              (keeps_held key.sizes state.views rule.account id (at' ∙ ap (λ (z : Account). some (Writer z)) same.0) rule.segments),
          subst (λ (z : Account). (slot_at z z.slot).version ≡ z.version) (sym same.0) rule.bears,
          subst (λ (z : Account). length z.pool ≡ 256 * z.sizes.segments) (sym same.0)
              (rule.stored.0 ∙ ap (λ (z : Sizes). 256 * z.segments) (sym rule.told)),
        ),
      )

  -- the next slot was looked at: nobody holds a free slot, and what is counted does not grow
  scans_at : (state : TableState) (rule : RegisterRule key state) → length rule.account.scan < key.sizes.readers + 2
      → rule.account.begun ≡ true
      → ((k : ℕ) → (slot_at (after_scan rule.account (get_or state.words (length rule.account.scan + 1) 0)) k).free ≡ true
      → (k ≢ rule.account.slot) × (holders k state.views ≡ 0))
      × (sum_below (scan_count (after_scan rule.account (get_or state.words (length rule.account.scan + 1) 0)) state.views)
      (key.sizes.readers + 2) ≤ key.sizes.readers)
      × ((slot_at rule.account (length rule.account.scan)).free ≡ true
      → is_free rule.account (length rule.account.scan) (get_or state.words (length rule.account.scan + 1) 0) ≡ true)
  scans_at state rule less begun = go (next == rule.account.slot) refl
    where
      next : ℕ
      next = length rule.account.scan

      w : ℕ
      w = get_or state.words (length rule.account.scan + 1) 0

      with_free : Bool → List Slot
      with_free b = set rule.account.slots (length rule.account.scan)
          (record (slot_at rule.account (length rule.account.scan)) { free = b })

      counted : List Slot → ℕ → ℕ → ℕ
      counted ss n k = amount (k == rule.account.slot) (slice_index_or ss k no_slot).free (nat_lt k n) (holders k state.views)

      here : (b : Bool) → (slice_index_or (with_free b) next no_slot).free ≡ b
      here b = let d = rule.deep in let f = rule.few in ap (λ (z : Slot). z.free)
          (get_or-set_same rule.account.slots next (record (slot_at rule.account next) { free = b }) no_slot (omega arith))

      else : (b : Bool) (j : ℕ) → j ≢ next → (slice_index_or (with_free b) j no_slot).free ≡ (slot_at rule.account j).free
      else b j ne = ap (λ (z : Slot). z.free) (get_or-set_other rule.account.slots next j
          (record (slot_at rule.account next) { free = b }) no_slot ne)

      longer : (b : Bool) → length (rule.account.scan ++ cond b None (Some (slot_at rule.account next).version) ∷ []) ≡ next + 1
      longer b = length-append rule.account.scan (cond b None (Some (slot_at rule.account next).version) ∷ [])

      total-of : (b : Bool) → ((k : ℕ) → k < key.sizes.readers + 2
          → counted (with_free b) (next + 1) k ≤ scan_count rule.account state.views k)
          → sum_below (counted (with_free b) (length (rule.account.scan ++ cond b None (Some (slot_at rule.account next).version) ∷ [])))
          (key.sizes.readers + 2) ≤ key.sizes.readers
      total-of b h = subst (λ (n : ℕ). sum_below (counted (with_free b) n) (key.sizes.readers + 2) ≤ key.sizes.readers) (sym (longer b))
          (let a = rule.scanned begun in let c = sum_below-le (counted (with_free b) (next + 1)) (scan_count rule.account state.views)
          (key.sizes.readers + 2) h in omega arith)

      rest-of : (b : Bool) (k : ℕ) → k ≢ next → counted (with_free b) (next + 1) k ≤ scan_count rule.account state.views k
      rest-of b k h = subst (λ (z : Bool × Bool). amount (k == rule.account.slot) z.0 z.1
          (holders k state.views) ≤ scan_count rule.account state.views k)
          (λ i. (sym (else b k h) i, sym (ltb-next k next h) i)) (same-le (scan_count rule.account state.views k))

      go : (c : Bool) → (next == rule.account.slot) ≡ c
          → ((k : ℕ) → (slice_index_or (with_free (cond c false ((slot_at rule.account next).start == w))) k no_slot).free ≡ true
          → (k ≢ rule.account.slot) × (holders k state.views ≡ 0))
          × (sum_below (counted (with_free (cond c false ((slot_at rule.account next).start == w)))
          (length (rule.account.scan ++ cond (cond c false ((slot_at rule.account next).start == w)) None
          (Some (slot_at rule.account next).version) ∷ []))) (key.sizes.readers + 2) ≤ key.sizes.readers)
          × ((slot_at rule.account next).free ≡ true → cond c false ((slot_at rule.account next).start == w) ≡ true)
      go true e = (
        λ k t. dite (ℕ_discrete k next)
            (λ (h : k ≡ next). absurd (true-false (sym t ∙ (ap (λ (n : ℕ). (slice_index_or (with_free false) n no_slot).free) h
            ∙ here false))))
            (λ (h : k ≢ next). rule.unused k (sym (else false k h) ∙ t)),
        total-of false (λ k l. dite (ℕ_discrete k next)
            (λ (h : k ≡ next). amount-here (k == rule.account.slot) (slice_index_or (with_free false) k no_slot).free (nat_lt k (next + 1))
            (holders k state.views) (scan_count rule.account state.views k) (ap (λ (j : ℕ). j == rule.account.slot) h ∙ e))
            (λ (h : k ≢ next). rest-of false k h)),
        λ t. absurd ((rule.unused next t).0 (true-eqb next rule.account.slot (sym e))),
      )
      go false e =
          let apart : next ≢ rule.account.slot = false-eqb next rule.account.slot (sym e) in
          let leavers = rule.leavers next less apart in
          let b : Bool = (slot_at rule.account next).start == w in
          let none : b ≡ true → holders next state.views ≡ 0 = λ t. let h : (slot_at rule.account next).start ≡ w = true-eqb
          (slot_at rule.account next).start w (sym t) in omega arith in
          let hold : b ≡ false → 0 < holders next state.views = λ t. let h : (slot_at rule.account next).start ≢ w = false-eqb
          (slot_at rule.account next).start w (sym t) in
          positive (holders next state.views) (λ z. h (leavers ∙ (ap (λ (n : ℕ). w + n) z ∙ omega arith))) in (
            λ k t. dite (ℕ_discrete k next)
                (λ (h : k ≡ next). subst (λ (i : ℕ). (i ≢ rule.account.slot) × (holders i state.views ≡ 0)) (sym h)
                (apart, none (sym (here b) ∙ (ap (λ (i : ℕ). (slice_index_or (with_free b) i no_slot).free) (sym h) ∙ t))))
                (λ (h : k ≢ next). rule.unused k (sym (else b k h) ∙ t)),
            total-of b (λ k l. dite (ℕ_discrete k next)
                (λ (h : k ≡ next).
                subst (λ (z : Bool × Bool × Bool × Bool × ℕ). amount z.0 z.1 z.2 z.4 ≤ amount z.0 (slot_at rule.account k).free z.3 z.4)
                (λ i. (
                  sym (ap (λ (n : ℕ). n == rule.account.slot) h ∙ e) i,
                  sym (ap (λ (n : ℕ). (slice_index_or (with_free b) n no_slot).free) h ∙ here b) i,
                  sym (lt-ltb k (next + 1) (omega arith)) i,
                  sym (le-ltb k next (omega arith)) i,
                  holders k state.views,
                ))
                (amount-scan b (slot_at rule.account k).free (holders k state.views)
                (λ t. subst (λ (n : ℕ). 0 < holders n state.views) (sym h) (hold t)) (λ t. (rule.unused k t).1)))
                (λ (h : k ≢ next). rest-of b k h)),
            λ t. let u = (rule.unused next t).1 in eq-eqb (slot_at rule.account next).start w (omega arith),
          )

  -- what the next slot is answered by was not written since: it is current, or a pass holds it
  answer_unwritten : (state : TableState) (rule : RegisterRule key state) (k : ℕ) → k < key.sizes.readers + 2 → (v : ℕ)
      → answer_of rule.account k (get_or state.words (k + 1) 0) ≡ Some v → IsUnwritten rule.account v
  answer_unwritten state rule k less v e = go (k == rule.account.slot) refl
    where
      a : Account
      a = rule.account

      w : ℕ
      w = get_or state.words (k + 1) 0

      is-some : (b : Bool) (x : ℕ) → cond b None (Some x) ≡ Some v → (b ≡ false) × (x ≡ v)
      is-some true x h = absurd (none_some v h)
      is-some false x h = (refl, cc)

      go : (c : Bool) → (k == a.slot) ≡ c → IsUnwritten a v
      go true h =
          let same : k ≡ a.slot = true-eqb k a.slot (sym h) in
          let is = is-some (is_free a k w) (slot_at a k).version e in
          subst (IsUnwritten a) (sym (ap (λ (n : ℕ). (slot_at a n).version) same ∙ rule.bears) ∙ is.1) rule.segments.current
      go false h =
          let apart : k ≢ a.slot = false-eqb k a.slot (sym h) in
          let is = is-some (is_free a k w) (slot_at a k).version e in
          let free : is_free a k w ≡ ((slot_at a k).start == w) = ap (λ (b : Bool). cond b false ((slot_at a k).start == w)) h in
          let ne : (slot_at a k).start ≢ w = false-eqb (slot_at a k).start w (sym (sym free ∙ is.0)) in
          let leavers = rule.leavers k less apart in
          let more : 0 < holders k state.views = positive (holders k state.views)
          (λ z. ne (leavers ∙ (ap (λ (n : ℕ). w + n) z ∙ omega arith))) in
          let at = counting_pass (grip_of k) state.views (omega arith) in
          let g = grips k (at.2).slot (at.2).notes.held at.5 in
          let stands = stands_behind key state rule at.0 at.1 at.2 at.3 at.4 in
          let borne = stands.borne g.0 g.1 in
          subst (IsUnwritten a) (sym borne.1 ∙ (ap (λ (n : ℕ). (slot_at a n).version) g.2 ∙ is.1))
          ((rule.segments.kept at.0 at.1 at.2 at.3 at.4).held g.0 g.1)

  -- so are all answers with that of the next slot
  answers_unwritten : (state : TableState) (rule : RegisterRule key state) → length rule.account.scan < key.sizes.readers + 2 → (v : ℕ)
      → IsAnswered (after_scan rule.account (get_or state.words (length rule.account.scan + 1) 0)) v → IsUnwritten rule.account v
  answers_unwritten state rule less v f =
      let a : Account = rule.account in
      let k : ℕ = length a.scan in
      ⊎_elim (λ (old : Contains a.scan (Some v)). rule.segments.answered v old)
      (λ (new : answer_of a k (get_or state.words (k + 1) 0) ≡ Some v). answer_unwritten state rule k less v new)
      (Contains-push_cases a.scan (answer_of a k (get_or state.words (k + 1) 0)) (Some v) f)

  scan_keeps : (state : TableState) (rule : RegisterRule key state) (id : ℕ) → get_elem? state.views id ≡ some (Writer rule.account)
      → length rule.account.scan < key.sizes.readers + 2
      → KeepsHeld (after_scan rule.account (get_or state.words (length rule.account.scan + 1) 0))
  scan_keeps state rule id at less =
      let b : Account = after_scan rule.account (get_or state.words (length rule.account.scan + 1) 0) in
      let k = keeps_held key.sizes state.views rule.account id at rule.segments in
      record {
        current = k.current;
        answered = answers_unwritten state rule less;
        settled = λ i x l. kept_still rule.account b (slice_index_or rule.account.settled i x) refl refl refl refl (k.settled i x l);
      }

  scanned_at : (state : TableState) (rule : RegisterRule key state) (id : ℕ) → get_elem? state.views id ≡ some (Writer rule.account)
      → id ≡ rule.writer → rule.account.begun ≡ true → length rule.account.scan < rule.account.sizes.readers + 2
      → RegisterRule key record {
        words = state.words;
        homes = state.homes;
        views = set state.views id (Writer (after_scan rule.account (get_or state.words (length rule.account.scan + 1) 0)));
      }
      × ((slot_at rule.account (length rule.account.scan)).free ≡ true
      → is_free rule.account (length rule.account.scan) (get_or state.words (length rule.account.scan + 1) 0) ≡ true)
      × (length rule.account.scan + 1 ≡ rule.account.sizes.readers + 2
      → sum_below (marks (after_scan rule.account (get_or state.words (length rule.account.scan + 1) 0)))
      (rule.account.sizes.readers + 2) ≤ rule.account.sizes.readers)
  scanned_at state rule id at writes begun less =
      let a : Account = rule.account in
      let next : ℕ = length a.scan in
      let w : ℕ = get_or state.words (next + 1) 0 in
      let b : Account = after_scan a w in
      let n : a.sizes.readers ≡ key.sizes.readers = ap (λ (z : Sizes). z.readers) rule.told in
      let did = scans_at state rule (omega arith) begun in
      let flagged : Slot = record (slot_at a next) { free = is_free a next w } in
      let longer : length b.scan ≡ next + 1 = length-append a.scan (answer_of a next w ∷ []) in
      let deep = rule.deep in
      let few = rule.few in
      let none-yet : b.pin_scan ≡ [] = ⊎_elim (λ (none : a.pin_scan ≡ []). none)
      (λ (all : length a.scan ≡ key.sizes.readers + 2). absurd (omega arith)) rule.segments.order in
      let answers : (k : ℕ) → k < length b.scan → slice_index_or b.scan k None ≡ slot_answer b k = λ k l. dite (ℕ_discrete k next)
      (λ (h : k ≡ next). subst (λ (j : ℕ). slice_index_or b.scan j None ≡ slot_answer b j) (sym h)
      (get_or_push a.scan (answer_of a next w) None next refl
      ∙ ap (λ (z : Slot). cond z.free None (Some z.version)) (sym (get_or-set_same a.slots next flagged no_slot (omega arith)))))
      (λ (h : k ≢ next). get_or_append_left a.scan (answer_of a next w ∷ []) None k (omega arith)
      ∙ (rule.segments.answers k (omega arith) ∙ ap (λ (z : Slot). cond z.free None (Some z.version))
      (sym (get_or-set_other a.slots next k flagged no_slot h)))) in (
        scan_at state rule id b at writes refl (length-set a.slots next flagged ∙ rule.deep)
            (set-keeps (λ (z : Slot). z.version) a.slots next no_slot flagged refl)
            (set-keeps (λ (z : Slot). z.start) a.slots next no_slot flagged refl) did.0 (λ _. did.1) answers
            (answers_unwritten state rule (omega arith)) (inl none-yet)
            (λ seat view hold there behind channel pin e met. absurd (no-answer b none-yet hold.notes.number channel met)),
        did.2,
        λ whole. subst (λ (m : ℕ). sum_below (marks b) (m + 2) ≤ m) (sym n)
            (let x = did.1 in
            let c = sum_below-le (marks b) (scan_count b state.views) (key.sizes.readers + 2) (λ k l.
            subst (λ (m : Bool). marks b k ≤ amount (k == a.slot) (slot_at b k).free m (holders k state.views))
            (sym (lt-ltb k (length b.scan) (omega arith)))
            (amount-met (k == a.slot) (slot_at b k).free 0 (holders k state.views))) in omega arith),
      )

  pub scans : (slots id : ℕ) (me : SeatView) → me.0 ≡ Writer (account_of me.0) → (account_of me.0).begun ≡ true
      → length (account_of me.0).scan < (account_of me.0).sizes.readers + 2
      → Allows (RegisterRule key) slots id me (length (account_of me.0).scan + 1) (λ n. n)
      (IsSlotScan (step slots (length (account_of me.0).scan + 1) 0 0 none) me)
  scans slots id me is begun less state rule deep at small =
      let e : Account = account_of me.0 in
      let at' : get_elem? state.views id ≡ some (Writer e) = at ∙ ap some is in
      let same : (e ≡ rule.account) × (id ≡ rule.writer) = rule.each_seat id (Writer e) at' in
      let R : Account → Type 0 = λ z. get_elem? state.views id ≡ some (Writer z) → z.begun ≡ true → length z.scan < z.sizes.readers + 2
      → RegisterRule key record {
        words = state.words;
        homes = state.homes;
        views = set state.views id (Writer (after_scan z (get_or state.words (length z.scan + 1) 0)));
      }
      × ((slot_at z (length z.scan)).free ≡ true → is_free z (length z.scan) (get_or state.words (length z.scan + 1) 0) ≡ true)
      × (length z.scan + 1 ≡ z.sizes.readers + 2 → sum_below (marks (after_scan z (get_or state.words (length z.scan + 1) 0)))
      (z.sizes.readers + 2) ≤ z.sizes.readers) in
      let known = subst (λ (z : Account). length z.scan < z.sizes.readers + 2 → HasVersion z.history (slot_at z (length z.scan)).version)
      (sym same.0)
      (λ l. rule.segments.borne (length rule.account.scan) (let n = ap (λ (z : Sizes). z.readers) rule.told in omega arith)) less in
      let did = subst R (sym same.0) (λ t b l. scanned_at state rule id t same.1 b l) at' begun less in
      let n : rule.account.sizes.readers ≡ key.sizes.readers = ap (λ (z : Sizes). z.readers) rule.told in
      let borne : All (IsBorne e) e.settled = subst (λ (z : Account). All (IsBorne z) z.settled) (sym same.0)
      (λ i x l taken held. let b = (rule.settled i x l).borne taken held in let inside = b.0 in (omega arith, b.1)) in
      let X : Account → Type 0 = λ z. get_elem? state.views id ≡ some (Writer z) → length z.scan < z.sizes.readers + 2 → AreAllSettled z
      → IsSome (answer_of z (length z.scan) (get_or state.words (length z.scan + 1) 0))
      ↔ ((length z.scan ≡ z.slot) ⊎ IsHeldSlot z (length z.scan)) in
      let exact = subst X (sym same.0) (λ t l. slot_exact key state rule id t (omega arith)) at' less in
      let K : Account → Type 0 = λ z. get_elem? state.views id ≡ some (Writer z) → length z.scan < z.sizes.readers + 2
      → KeepsHeld (after_scan z (get_or state.words (length z.scan + 1) 0)) in
      let keeps' = subst K (sym same.0) (λ t l. scan_keeps state rule id t (omega arith)) at' less in (
        Writer (after_scan e (get_or state.words (length e.scan + 1) 0)),
        keeps,
        tt,
        subst (λ (words : List ℕ). RegisterRule key record {
          words = words;
          homes = state.homes;
          views = set state.views id (Writer (after_scan e (get_or state.words (length e.scan + 1) 0)));
        })
            (sym (set-get_or state.words (length e.scan + 1) 0)) did.0,
        (refl, did.1, did.2, known, refl, borne, exact, keeps'),
      )
