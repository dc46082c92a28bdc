-- The two steps of a publish keep the rule, and a whole scan leaves a free slot.
use Rattle.std.proofs.Common.{nat_lt, ◌==◌, zero, suc, Bool, true, false, eq-eqb, ne_eqb, ◌≡◌, ◌≢◌, ◌⊎◌, inl, inr, ℕ, ◌+◌, ◌*◌, ◌<◌, ◌≤◌, List, [], ◌∷◌, ◌++◌, length, get_or, set, sym, refl, ap, ◌∙◌, subst, ⊎_elim, arith, cond, Option, Some, None, IsNone, IsSomeAnd, slice_index_or, length-set, length-append, get_or-set_other, get_or-set_same}
use mathlib.Core.Option.{none, some, some-injective, some-ne-none}
use mathlib.Core.Logic.{dite}
use native.Mathlib.Decide.{ℕ_discrete}
use lib.ListN.{get_elem?}
use Rattle.atomic_table.specs.Table.{step, keeps, Allows}
use Rattle.atomic_table.proofs.Lists.{at_set}
use Rattle.ft_segments.specs.Packing.{word_at}
use Rattle.ft_segments.specs.Walk.{IsSound, walk}
use Rattle.ft_shared.specs.declared.law.Sizes.{Sizes}
use Rattle.ft_shared.specs.declared.law.Opening.{Opening}
use Rattle.ft_shared.specs.declared.law.PlacedVersion.{PlacedVersion}
use Rattle.ft_shared.specs.declared.law.TakenVersion.{TakenVersion}
use Rattle.ft_shared.specs.declared.law.WordRead.{WordRead}
use Rattle.ft_shared.specs.declared.law.Notes.{Notes}
use Rattle.ft_shared.specs.declared.law.Hold.{Hold}
use Rattle.ft_shared.specs.declared.law.Slot.{Slot}
use Rattle.ft_shared.specs.declared.law.Account.{Account}
use Rattle.ft_shared.specs.declared.law.View.{View}
use Rattle.ft_shared.specs.declared.law.View.TheVariants.{Spent, Reader, Writer, Told}
use Rattle.ft_shared.specs.Layout.{current_word, slot_in, root_in, count_in}
use Rattle.ft_shared.specs.Counts.{bit, sum_below, pass_sum, one, has_number, grip, grip_of, holders, pin_amount}
use Rattle.ft_shared.specs.History.{placed_at, IsReadable, Agrees, IsHistory}
use Rattle.ft_shared.specs.Account.{slot_at, no_slot, account_of, after_clear, after_publish}
use Rattle.ft_shared.specs.Register.{TableState, SeatView, PassRule, Fits, amount, scan_count, marks, RegisterRule}
use Rattle.ft_shared.specs.Plays.{IsClear, IsPublish}
use Rattle.ft_shared.proofs.Sums.{at-le, index-le, set-keeps, slot-of, root-of, count-of, amount-le, sum_below-le, all-but-one}
use Rattle.ft_shared.proofs.Segments.{is_there, some_is, placed_grows, placed_none, placed_new, still_there, segments_still, segments_seat, segments_published}
use Rattle.ft_shared.proofs.Readers.{count-le, word-there, stands_behind}
use Rattle.ft_shared.proofs.Writes.{stands_still, seats_still, sum_still, true-false}

-- a history that grows agrees with what it agreed with
pub agrees_longer : (h more : List PlacedVersion) (n : Notes) → Agrees h n → Agrees (h ++ more) n
agrees_longer h more n a = record {
  looks = λ i x l. let v = a.looks i x l in ap is_there (placed_grows h more (get_or n.looks i x) v) ∙ v;
  takes = λ i x l. let t : TakenVersion = get_or n.takes i x in
      still_there h more t.version (λ placed. placed.root ≡ t.root) (a.takes i x l);
  held = λ t e. still_there h more t.version (λ placed. placed.root ≡ t.root) (a.held t e);
  reads = λ i x l. let r : WordRead = get_or n.reads i x in still_there h more r.version
      (λ placed. IsReadable placed r.pin r.segment → word_at placed.pool r.segment r.at ≡ r.word) (a.reads i x l);
}

module _ (key : Opening) where
  -- the leavers of a free slot go to 0
  cleared_at : (state : TableState) (rule : RegisterRule key state) (id k : ℕ) → get_elem? state.views id ≡ some (Writer rule.account)
      → id ≡ rule.writer → k < key.sizes.readers + 2 → (slot_at rule.account k).free ≡ true
      → RegisterRule key record {
        words = set state.words (k + 1) 0;
        homes = state.homes;
        views = set state.views id (Writer (after_clear rule.account k));
      }
  cleared_at state rule id k at writes inside free =
      let a : Account = rule.account in
      let b : Account = after_clear a k in
      let views : List View = set state.views id (Writer b) in
      let u = rule.unused k free in
      let deep = rule.deep in
      let few = rule.few in
      let bare : Slot = record (slot_at a k) { start = 0 } in
      let versions : (j : ℕ) → (slot_at b j).version ≡ (slot_at a j).version = set-keeps
      (λ (z : Slot). z.version) a.slots k no_slot bare refl in
      let frees : (j : ℕ) → (slot_at b j).free ≡ (slot_at a j).free = set-keeps (λ (z : Slot). z.free) a.slots k no_slot bare refl in
      let start-here : (slot_at b k).start ≡ 0 = ap (λ (z : Slot). z.start) (get_or-set_same a.slots k bare no_slot (omega arith)) in
      let start-else : (j : ℕ) → j ≢ k → (slot_at b j).start ≡ (slot_at a j).start = λ j ne. ap (λ (z : Slot). z.start)
      (get_or-set_other a.slots k j bare no_slot ne) in
      let same : (j : ℕ) → holders j views ≡ holders j state.views = λ j. sum_still key state id a b at refl (grip_of j) in
      record {
        writer = rule.writer;
        account = b;
        few = rule.few;
        told = rule.told;
        wide = length-set state.words (k + 1) 0 ∙ rule.wide;
        deep = length-set a.slots k bare ∙ rule.deep;
        ranges = rule.ranges;
        current = get_or-set_other state.words (k + 1) 0 0 0 (omega arith)
            ∙ (rule.current ∙ ap (current_word a.version a.slot a.root) (sym (same a.slot)));
        bears = versions a.slot ∙ rule.bears;
        history = rule.history;
        fresh = get_or-set_other state.words (k + 1) (a.slot + 1) 0 0 (λ e. u.0 (omega arith)) ∙ rule.fresh;
        leavers = λ j l ne. dite (ℕ_discrete j k)
            (λ (h : j ≡ k). subst (λ (i : ℕ). (slot_at b i).start ≡ get_or (set state.words (k + 1) 0) (i + 1) 0 + holders i views) (sym h)
            (let x : get_or (set state.words (k + 1) 0) (k + 1) 0 ≡ 0 = get_or-set_same state.words (k + 1) 0 0
            (word-there key state rule (k + 1) (omega arith)) in
            let y : holders k views ≡ 0 = same k ∙ u.1 in omega arith))
            (λ (h : j ≢ k). let x = start-else j h in let y = get_or-set_other state.words (k + 1) (j + 1) 0 0 (λ e. h (omega arith)) in
            let z = same j in let g = rule.leavers j l ne in omega arith);
        starts = λ j. dite (ℕ_discrete j k)
            (λ (h : j ≡ k). subst (λ (i : ℕ). (slot_at b i).start ≤ key.sizes.readers) (sym h) (omega arith))
            (λ (h : j ≢ k). let x = start-else j h in let y = rule.starts j in omega arith);
        unused = λ j e. let v = rule.unused j (sym (frees j) ∙ e) in (v.0, same j ∙ v.1);
        scanned = λ t. let x = rule.scanned t in
            let y = sum_below-le (scan_count b views) (scan_count a state.views) (key.sizes.readers + 2) (λ j l.
            subst (λ (f : Bool). amount (j == a.slot) f (nat_lt j (length a.scan)) (holders j views) ≤ scan_count a state.views j)
            (sym (frees j))
            (amount-le (j == a.slot) (slot_at a j).free (nat_lt j (length a.scan)) (holders j views) (holders j state.views)
            (λ e. let h = same j in omega arith))) in omega arith;
        count = (sum_still key state id a b at refl one ∙ rule.count.0, rule.count.1);
        numbers = λ n. sum_still key state id a b at refl (has_number n) ∙ rule.numbers n;
        pins = λ r c lr lc. let q : ℕ = r * key.sizes.channels in
            get_or-set_other state.words (k + 1) (key.sizes.readers + 3 + (q + c)) 0 0 (omega arith)
            ∙ (rule.pins r c lr lc ∙ sym (sum_still key state id a b at refl (pin_amount r c)));
        stored = (
          rule.stored.0,
          λ i. let p : ℕ = key.sizes.readers * key.sizes.channels in
              get_or-set_other state.words (k + 1) (key.sizes.readers + 3 + p + i) 0 0 (omega arith) ∙ rule.stored.1 i,
        );
        segments = segments_seat key.sizes state.views a b id at refl
            (segments_still key.sizes state.views a b refl refl refl refl refl versions
            (λ j l. rule.segments.answers j l ∙ (λ i. cond (sym (frees j) i) None
            (Some (sym (versions j) i)))) rule.segments.answered rule.segments.order rule.segments.scanned rule.segments);
        settled = λ i x e. stands_still key a b (slice_index_or a.settled i x) refl versions refl (rule.settled i x e);
        each_seat = seats_still key state rule id writes b refl versions refl;
      }

  pub clears : (slots id k : ℕ) (me : SeatView) → me.0 ≡ Writer (account_of me.0) → k < key.sizes.readers + 2
      → (slot_at (account_of me.0) k).free ≡ true
      → Allows (RegisterRule key) slots id me (k + 1) (λ _. 0) (λ _. IsClear (step slots (k + 1) 0 0 none) me 0)
  clears slots id k me is inside free state rule deep at small =
      let e : Account = account_of me.0 in
      let at' : get_elem? state.views id ≡ some (Writer e) = at ∙ ap some is in
      let same : (e ≡ rule.account) × (id ≡ rule.writer) = rule.each_seat id (Writer e) at' in (
        Writer (after_clear e k),
        keeps,
        tt,
        subst (λ (z : Account). get_elem? state.views id ≡ some (Writer z) → (slot_at z k).free ≡ true
            → RegisterRule key record {
              words = set state.words (k + 1) 0;
              homes = state.homes;
              views = set state.views id (Writer (after_clear z k));
            }) (sym same.0)
            (λ t f. cleared_at state rule id k t same.1 inside f) at' free,
        λ j h. let e2 : k ≡ j = omega arith in
            let apart : k ≢ e.slot = subst (λ (z : Account). (slot_at z k).free ≡ true → k ≢ z.slot) (sym same.0)
            (λ f. (rule.unused k f).0) free in
            (ap (λ (i : ℕ). (Writer (after_clear e i), me.1)) e2, λ t. apart (e2 ∙ t)),
      )

  grip-zero : (k slot : ℕ) (o : Option TakenVersion) (t : TakenVersion) → grip k o slot ≡ 0 → o ≡ Some t → slot ≢ k
  grip-zero k slot o t z e h = let x : grip k o slot ≡ 1 = ap (λ (p : Option TakenVersion). grip k p slot) e ∙ ap bit (eq-eqb slot k h) in
      absurd (omega arith)

  at_end : (l : List PlacedVersion) (a b : PlacedVersion) (j : ℕ) → get_elem? (l ++ a ∷ []) j ≡ some b
      → (get_elem? l j ≡ some b) ⊎ ((j ≡ length l) × (a ≡ b))
  at_end [] a b zero e = inr (refl, some-injective a b e)
  at_end [] a b (suc j) e = absurd (some-ne-none b (sym e))
  at_end (x ∷ xs) a b zero e = inl e
  at_end (x ∷ xs) a b (suc j) e = ⊎_elim (λ (t : get_elem? xs j ≡ some b). inl t)
      (λ (t : (j ≡ length xs) × (a ≡ b)). inr (ap suc t.0, t.1)) (at_end xs a b j e)

  at_below : {A : Type 0} (l : List A) (n : ℕ) (x : A) → get_elem? l n ≡ some x → n < length l
  at_below [] n x e = absurd (some-ne-none x (sym e))
  at_below (y ∷ l) zero x e = omega arith
  at_below (y ∷ l) (suc n) x e = let r = at_below l n x e in omega arith

  -- no version of the history has the next number
  unplaced : (h : List PlacedVersion) (first last root : ℕ) → IsHistory h first last root → (n : ℕ) (x : PlacedVersion)
      → get_elem? h n ≡ some x → x.version ≢ last + 1
  unplaced h first last root is n x at same = let c = is.count in let v = is.versions n x at in let l = at_below h n x at in omega arith

  -- the history grows by the next version
  history_next : (h : List PlacedVersion) (first last root next : ℕ) (pool : List ℕ) → IsHistory h first last root
      → IsHistory (h ++ record { version = last + 1; root = next; pool = pool } ∷ []) first (last + 1) next
  history_next h first last root next pool is =
      let p : PlacedVersion = record { version = last + 1; root = next; pool = pool } in
      let count = is.count in
      record {
        count = let n = length-append h (p ∷ []) in omega arith;
        versions = λ n x e. ⊎_elim (λ (t : get_elem? h n ≡ some x). is.versions n x t)
            (λ (t : (n ≡ length h) × (p ≡ x)). let v : last + 1 ≡ x.version = ap (λ (z : PlacedVersion). z.version) t.1 in let m = t.0 in
            omega arith) (at_end h p x n e);
        latest = subst (λ (o : Option PlacedVersion). IsSomeAnd o (λ placed. placed.root ≡ next))
            (sym (placed_new h p (λ n x e. unplaced h first last root is n x e))) refl;
      }

  -- the slots after a publish: the chosen one, and the others
  version-else : (a : Account) (k root n j : ℕ) → j ≢ k → (slot_at (after_publish a k root n) j).version ≡ (slot_at a j).version
  version-else a k root n j ne =
      let old : Slot = record (slot_at a a.slot) { start = n } in
      let new : Slot = record { version = a.version + 1; start = 0; free = false } in
      ap (λ (z : Slot). z.version) (get_or-set_other (set a.slots a.slot old) k j new no_slot ne)
      ∙ set-keeps (λ (z : Slot). z.version) a.slots a.slot no_slot old refl j

  free-else : (a : Account) (k root n j : ℕ) → j ≢ k → (slot_at (after_publish a k root n) j).free ≡ (slot_at a j).free
  free-else a k root n j ne =
      let old : Slot = record (slot_at a a.slot) { start = n } in
      let new : Slot = record { version = a.version + 1; start = 0; free = false } in
      ap (λ (z : Slot). z.free) (get_or-set_other (set a.slots a.slot old) k j new no_slot ne)
      ∙ set-keeps (λ (z : Slot). z.free) a.slots a.slot no_slot old refl j

  start-else : (a : Account) (k root n j : ℕ) → j ≢ k → j ≢ a.slot → (slot_at (after_publish a k root n) j).start ≡ (slot_at a j).start
  start-else a k root n j ne other =
      let old : Slot = record (slot_at a a.slot) { start = n } in
      let new : Slot = record { version = a.version + 1; start = 0; free = false } in
      ap (λ (z : Slot). z.start) (get_or-set_other (set a.slots a.slot old) k j new no_slot ne
      ∙ get_or-set_other a.slots a.slot j old no_slot other)

  start-old : (a : Account) (k root n : ℕ) → a.slot ≢ k → a.slot < length a.slots → (slot_at (after_publish a k root n) a.slot).start ≡ n
  start-old a k root n ne inside =
      let old : Slot = record (slot_at a a.slot) { start = n } in
      let new : Slot = record { version = a.version + 1; start = 0; free = false } in
      ap (λ (z : Slot). z.start) (get_or-set_other (set a.slots a.slot old) k a.slot new no_slot ne
      ∙ get_or-set_same a.slots a.slot old no_slot inside)

  chosen : (a : Account) (k root n : ℕ) → k < length a.slots
      → slot_at (after_publish a k root n) k ≡ record { version = a.version + 1; start = 0; free = false }
  chosen a k root n inside =
      let old : Slot = record (slot_at a a.slot) { start = n } in
      let new : Slot = record { version = a.version + 1; start = 0; free = false } in
      let l = length-set a.slots a.slot old in
      get_or-set_same (set a.slots a.slot old) k new no_slot (omega arith)

  -- a pass that holds nothing in the chosen slot keeps its rule after the publish
  stands_next : (a : Account) (k root n : ℕ) (h : Hold) → grip_of k h ≡ 0 → PassRule key a h → PassRule key (after_publish a k root n) h
  stands_next a k root n h empty f = record {
    told = f.told;
    past = let l = f.past in omega arith;
    recent = λ v e. let l = f.recent v e in omega arith;
    borne = λ t e. let b = f.borne t e in (b.0, version-else a k root n h.slot (grip-zero k h.slot h.notes.held t empty e) ∙ b.1);
    agrees = agrees_longer a.history (record { version = a.version + 1; root = root; pool = a.pool } ∷ []) h.notes f.agrees;
  }

  -- no pass holds a slot that was found free
  unheld : (state : TableState) (rule : RegisterRule key state) (k : ℕ) → (slot_at rule.account k).free ≡ true → (j : ℕ) (v : View)
      → get_elem? state.views j ≡ some v → pass_sum (grip_of k) v ≡ 0
  unheld state rule k free j v at = let u = (rule.unused k free).1 in let a = at-le (pass_sum (grip_of k)) state.views j v at in omega arith

  published_at : (state : TableState) (rule : RegisterRule key state) (id k root : ℕ)
      → get_elem? state.views id ≡ some (Writer rule.account) → id ≡ rule.writer → k < key.sizes.readers + 2
      → (slot_at rule.account k).free ≡ true
      → (slot_at rule.account k).start ≡ 0 → rule.account.version + 1 < 4294967296 → root < 65536
      → IsSound key.sizes.segments (walk rule.account.pool root)
      → RegisterRule key record {
        words = set state.words 0 (current_word (rule.account.version + 1) k root 0);
        homes = state.homes;
        views = set state.views id (Writer (after_publish rule.account k root (count_in (get_or state.words 0 0))));
      }
  published_at state rule id k root at writes inside free bare room fits is_sound =
      let a : Account = rule.account in
      let n : ℕ = count_in (get_or state.words 0 0) in
      let b : Account = after_publish a k root n in
      let views : List View = set state.views id (Writer b) in
      let new : ℕ = current_word (a.version + 1) k root 0 in
      let u = rule.unused k free in
      let few = rule.few in
      let deep = rule.deep in
      let ranges = rule.ranges in
      let there = word-there key state rule in
      let same : (j : ℕ) → holders j views ≡ holders j state.views = λ j. sum_still key state id a b at refl (grip_of j) in
      let empty : holders k views ≡ 0 = same k ∙ u.1 in
      let old : n ≡ holders a.slot state.views = ap count_in rule.current
      ∙ count-of a.version a.slot a.root (holders a.slot state.views) (let c = count-le key state rule a.slot in omega arith) in
      let most = count-le key state rule a.slot in
      let apart : a.slot ≢ k = λ e. u.0 (sym e) in
      let leavers-k = rule.leavers k inside u.0 in
      let is : slot_at b k ≡ record { version = a.version + 1; start = 0; free = false } = chosen a k root n (omega arith) in
      let start-k : (slot_at b k).start ≡ 0 = ap (λ (z : Slot). z.start) is in
      let start-o : (slot_at b a.slot).start ≡ n = start-old a k root n apart (omega arith) in
      record {
        writer = rule.writer;
        account = b;
        few = rule.few;
        told = rule.told;
        wide = length-set state.words 0 new ∙ rule.wide;
        deep = length-set (set a.slots a.slot (record (slot_at a a.slot) { start = n })) k
            (record { version = a.version + 1; start = 0; free = false })
            ∙ (length-set a.slots a.slot (record (slot_at a a.slot) { start = n }) ∙ rule.deep);
        ranges = (room, fits, inside);
        current = get_or-set_same state.words 0 new 0 (there 0 (omega arith)) ∙ ap (current_word (a.version + 1) k root) (sym empty);
        bears = ap (λ (z : Slot). z.version) is;
        history = history_next a.history key.version a.version a.root root a.pool rule.history;
        fresh = get_or-set_other state.words 0 (k + 1) new 0 (omega arith) ∙ (let z = u.1 in omega arith);
        leavers = λ j l ne. dite (ℕ_discrete j a.slot)
            (λ (h : j ≡ a.slot). subst (λ (i : ℕ). (slot_at b i).start ≡ get_or (set state.words 0 new) (i + 1) 0 + holders i views) (sym h)
            (let y : get_or (set state.words 0 new) (a.slot + 1) 0 ≡ 0 = get_or-set_other state.words 0 (a.slot + 1) new 0 (omega arith)
            ∙ rule.fresh in
            let z = same a.slot in omega arith))
            (λ (h : j ≢ a.slot). let x = start-else a k root n j ne h in
            let y = get_or-set_other state.words 0 (j + 1) new 0 (omega arith) in let z = same j in let g = rule.leavers j l h in
            omega arith);
        starts = λ j. dite (ℕ_discrete j k)
            (λ (h : j ≡ k). subst (λ (i : ℕ). (slot_at b i).start ≤ key.sizes.readers) (sym h) (omega arith))
            (λ (h : j ≢ k). dite (ℕ_discrete j a.slot)
            (λ (g : j ≡ a.slot). subst (λ (i : ℕ). (slot_at b i).start ≤ key.sizes.readers) (sym g) (omega arith))
            (λ (g : j ≢ a.slot). let x = start-else a k root n j h g in let y = rule.starts j in omega arith));
        unused = λ j e. dite (ℕ_discrete j k)
            (λ (h : j ≡ k). absurd (true-false (sym e ∙ (ap (λ (i : ℕ). (slot_at b i).free) h ∙ ap (λ (z : Slot). z.free) is))))
            (λ (h : j ≢ k). let v = rule.unused j (sym (free-else a k root n j h) ∙ e) in (h, same j ∙ v.1));
        scanned = λ t. absurd (true-false (sym t));
        count = (sum_still key state id a b at refl one ∙ rule.count.0, rule.count.1);
        numbers = λ m. sum_still key state id a b at refl (has_number m) ∙ rule.numbers m;
        pins = λ r c lr lc. let q : ℕ = r * key.sizes.channels in
            get_or-set_other state.words 0 (key.sizes.readers + 3 + (q + c)) new 0 (omega arith)
            ∙ (rule.pins r c lr lc ∙ sym (sum_still key state id a b at refl (pin_amount r c)));
        stored = (
          rule.stored.0,
          λ i. let p : ℕ = key.sizes.readers * key.sizes.channels in
              get_or-set_other state.words 0 (key.sizes.readers + 3 + p + i) new 0 (omega arith) ∙ rule.stored.1 i,
        );
        segments = segments_seat key.sizes state.views a b id at refl
            (segments_published key.sizes state.views a k root n (unplaced a.history key.version a.version a.root rule.history)
            (version-else a k root n) (ap (λ (z : Slot). z.version) is)
            (λ seat view hold there behind t e. some_is (placed_at a.history t.version) (λ placed. placed.root ≡ t.root)
            ((stands_behind key state rule seat view hold there behind).agrees.held t e)) is_sound rule.segments);
        settled = λ i x e. stands_next a k root n (slice_index_or a.settled i x)
            (let y = unheld state rule k free id (Writer a) at in let z = index-le (grip_of k) a.settled i x e in omega arith)
            (rule.settled i x e);
        each_seat = λ j v e. ⊎_elim (λ (t : (j ≡ id) × (Writer b ≡ v)). subst (Fits key b rule.writer j) t.1 (refl, t.0 ∙ writes))
            (λ (t : (j ≢ id) × (get_elem? state.views j ≡ some v)). rest-of j v t.0 (unheld state rule k free j v t.1)
            (rule.each_seat j v t.1)) (at_set state.views id j (Writer b) v e);
      }
    where
      rest-of : (j : ℕ) (v : View) → j ≢ id → pass_sum (grip_of k) v ≡ 0 → Fits key rule.account rule.writer j v
          → Fits key (after_publish rule.account k root (count_in (get_or state.words 0 0))) rule.writer j v
      rest-of j Spent ne z f = tt
      rest-of j (Reader h) ne z f = stands_next rule.account k root (count_in (get_or state.words 0 0)) h z f
      rest-of j (Writer e) ne z f = absurd (ne (f.1 ∙ sym writes))
      rest-of j (Told t) ne z f = record { sizes = f.sizes; past = let l = f.past in omega arith }

  pub publishes : (slots id k root : ℕ) (me : SeatView) → me.0 ≡ Writer (account_of me.0) → k < key.sizes.readers + 2
      → key.sizes.readers ≤ 8 → (slot_at (account_of me.0) k).free ≡ true
      → (slot_at (account_of me.0) k).start ≡ 0 → (account_of me.0).version + 1 < 4294967296 → root < 65536
      → IsSound key.sizes.segments (walk (account_of me.0).pool root)
      → Allows (RegisterRule key) slots id me 0 (λ _. current_word ((account_of me.0).version + 1) k root 0)
      (IsPublish (step slots 0 (current_word ((account_of me.0).version + 1) k root 0) 0 none) me)
  publishes slots id k root me is inside few free bare room fits is_sound state rule deep at small =
      let e : Account = account_of me.0 in
      let n : ℕ = count_in (get_or state.words 0 0) in
      let at' : get_elem? state.views id ≡ some (Writer e) = at ∙ ap some is in
      let same : (e ≡ rule.account) × (id ≡ rule.writer) = rule.each_seat id (Writer e) at' in
      let most : n ≤ key.sizes.readers = let c = count-le key state rule rule.account.slot in
      let o = ap count_in rule.current ∙ count-of rule.account.version rule.account.slot rule.account.root
      (holders rule.account.slot state.views) (omega arith) in omega arith in
      let fresh : IsNone (placed_at e.history (e.version + 1)) = subst (λ (z : Account). IsNone (placed_at z.history (z.version + 1)))
      (sym same.0)
      (ap is_there (placed_none rule.account.history (rule.account.version + 1)
      (unplaced rule.account.history key.version rule.account.version rule.account.root rule.history))) in
      let readers : e.sizes.readers ≡ key.sizes.readers = ap (λ (z : Account). z.sizes.readers) same.0
      ∙ ap (λ (z : Sizes). z.readers) rule.told in (
        Writer (after_publish e k root n),
        keeps,
        tt,
        subst (λ (z : Account). get_elem? state.views id ≡ some (Writer z) → (slot_at z k).free ≡ true → (slot_at z k).start ≡ 0
            → z.version + 1 < 4294967296 → IsSound key.sizes.segments (walk z.pool root)
            → RegisterRule key record {
              words = set state.words 0 (current_word (z.version + 1) k root 0);
              homes = state.homes;
              views = set state.views id (Writer (after_publish z k root n));
            }) (sym same.0)
            (λ t f b r s. published_at state rule id k root t same.1 inside f b r fits s) at' free bare room is_sound,
        (
          (λ i. (
            Writer (after_publish e (sym (slot-of (e.version + 1) k root 0 (omega arith) fits (omega arith)) i)
                (sym (root-of (e.version + 1) k root 0 (omega arith) fits (omega arith)) i) n),
            me.1,
          )),
          omega arith,
          fresh,
          refl,
        ),
      )

-- a slot below n that is free, or none is
free-or-none : (ss : List Slot) (n : ℕ) → ((k : ℕ) × (k < n) × ((slice_index_or ss k no_slot).free ≡ true)) ⊎
    ((k : ℕ) → k < n → (slice_index_or ss k no_slot).free ≡ false)
free-or-none ss zero = inr (λ k l. absurd (omega arith))
free-or-none ss (suc n) = go (free-or-none ss n) (slice_index_or ss n no_slot).free refl
  where
    go : ((k : ℕ) × (k < n) × ((slice_index_or ss k no_slot).free ≡ true)) ⊎
        ((k : ℕ) → k < n → (slice_index_or ss k no_slot).free ≡ false) → (b : Bool) → (slice_index_or ss n no_slot).free ≡ b
        → ((k : ℕ) × (k < suc n) × ((slice_index_or ss k no_slot).free ≡ true)) ⊎
        ((k : ℕ) → k < suc n → (slice_index_or ss k no_slot).free ≡ false)
    go r true e = inl (n, omega arith, e)
    go r false e = ⊎_elim (λ (t : (k : ℕ) × (k < n) × ((slice_index_or ss k no_slot).free ≡ true)). let l = t.1 in
        inl (t.0, omega arith, t.2))
        (λ (t : (k : ℕ) → k < n → (slice_index_or ss k no_slot).free ≡ false). inr
        (λ k l. dite (ℕ_discrete k n) (λ (h : k ≡ n). ap (λ (j : ℕ). (slice_index_or ss j no_slot).free) h ∙ e)
        (λ (h : k ≢ n). t k (omega arith)))) r

-- after a whole scan a free slot is there: of readers + 2 slots one is current, and at most the readers' number was found held
pub a_free_slot : (a : Account) (readers : ℕ) → sum_below (marks a) (readers + 2) ≤ readers
    → (k : ℕ) × (k < readers + 2) × ((slot_at a k).free ≡ true)
a_free_slot a readers whole = ⊎_elim (λ t. t)
    (λ (none-free : (k : ℕ) → k < readers + 2 → (slot_at a k).free ≡ false).
    let c = all-but-one (marks a) a.slot (readers + 2) (λ k l ne. λ i. amount (ne_eqb k a.slot ne i) (none-free k l i) true 0) in
    absurd (omega arith))
    (free-or-none a.slots (readers + 2))

-- what was written to k before is forgotten
set-twice : {A : Type 0} (l : List A) (k : ℕ) (x y : A) → set (set l k x) k y ≡ set l k y
set-twice [] k x y = refl
set-twice (a ∷ l) zero x y = refl
set-twice (a ∷ l) (suc k) x y = λ i. a ∷ set-twice l k x y i

set-forget : {A : Type 0} (l : List A) (k j : ℕ) (x y z : A) → set (set (set l k x) j y) k z ≡ set (set l j y) k z
set-forget [] k j x y z = refl
set-forget (a ∷ l) zero zero x y z = refl
set-forget (a ∷ l) zero (suc j) x y z = refl
set-forget (a ∷ l) (suc k) zero x y z = λ i. y ∷ set-twice l k x z i
set-forget (a ∷ l) (suc k) (suc j) x y z = λ i. a ∷ set-forget l k j x y z i

-- the slots after a clear and a publish
pub slots_published : (a : Account) (k root n : ℕ) → a.slot ≢ k
    → (after_publish (after_clear a k) k root n).slots ≡ set (set a.slots a.slot (record (slot_at a a.slot) { start = n })) k
    (record { version = a.version + 1; start = 0; free = false })
slots_published a k root n apart =
    let bare : Slot = record (slot_at a k) { start = 0 } in
    let new : Slot = record { version = a.version + 1; start = 0; free = false } in
    let old : Slot = record (slot_at (after_clear a k) a.slot) { start = n } in
    set-forget a.slots k a.slot bare old new ∙ ap (λ (z : Slot). set (set a.slots a.slot (record z { start = n })) k new)
    (get_or-set_other a.slots k a.slot bare no_slot apart)

-- the seat after both steps of a publish
pub seat_published : (a : Account) (mid fin : SeatView) (k root n word version : ℕ) → mid ≡ (Writer (after_clear a k), [])
    → fin ≡ (Writer (after_publish (account_of mid.0) (slot_in word) (root_in word) n), mid.1) → word ≡ current_word version k root 0
    → k < 256 → root < 65536
    → fin ≡ (Writer (after_publish (after_clear a k) k root n), [])
seat_published a mid fin k root n word version was now is few fits =
    let slot : slot_in word ≡ k = ap slot_in is ∙ slot-of version k root 0 few fits (omega arith) in
    let roots : root_in word ≡ root = ap root_in is ∙ root-of version k root 0 few fits (omega arith) in
    now ∙ (λ i. (Writer (after_publish (account_of (was i).0) (slot i) (roots i) n), (was i).1))

pub seated : (m : SeatView) (a : Account) → m ≡ (Writer a, []) → m ≡ (Writer (account_of m.0), [])
seated m a e = e ∙ ap (λ (z : Account). (Writer z, [])) (sym (ap (λ (n : SeatView). account_of n.0) e))
