-- A reader's steps keep the rule.
use Rattle.std.proofs.Common.{nat_lt, ◌==◌, true, false-eqb, ◌≡◌, ◌≢◌, ℕ, ◌+◌, ◌*◌, ◌%◌, ◌^◌, ◌<◌, ◌≤◌, eqb, List, [], ◌∷◌, length, get_or, set, sym, refl, ap, ◌∙◌, subst, ⊎_elim, arith, Option, Some, None, All, IsSomeAnd, slice_index_or, cond, length-set, get_or-set_other, get_or-set_same, eq-eqb, ne_eqb}
use Rattle.std.proofs.lemmas.List.Elements.{All-append, All-contains}
use Rattle.std.specs.List.{Contains}
use mathlib.Core.Option.{none, some}
use mathlib.Core.Logic.{dite}
use native.Mathlib.Decide.{ℕ_discrete}
use lib.ListN.{get_elem?}
use lib.Seq.{set-get_or}
use Rattle.atomic_table.specs.Table.{step, keeps, Allows}
use Rattle.atomic_table.proofs.Lists.{at_set}
use Rattle.ft_segments.specs.Packing.{word_at}
use Rattle.ft_segments.specs.Walk.{IsOf}
use Rattle.ft_shared.specs.declared.law.Sizes.{Sizes}
use Rattle.ft_shared.specs.declared.law.Opening.{Opening}
use Rattle.ft_shared.specs.declared.law.TakenVersion.{TakenVersion}
use Rattle.ft_shared.specs.declared.law.WordRead.{WordRead}
use Rattle.ft_shared.specs.declared.law.Hold.{Hold}
use Rattle.ft_shared.specs.declared.law.Account.{Account}
use Rattle.ft_shared.specs.declared.law.View.{View}
use Rattle.ft_shared.specs.declared.law.View.TheVariants.{Spent, Reader, Writer, Told}
use Rattle.ft_shared.specs.Layout.{current_word, pin_at, pool_at, segment_at, version_in, slot_in, root_in}
use Rattle.ft_shared.specs.Counts.{bit, total, sum_below, pass_sum, one, has_number, grip, grip_of, holders, IsBehind, pin_word, pin_amount}
use Rattle.ft_shared.specs.History.{placed_at, root_and_pool, HasVersion, HasTakenVersion, HasRead}
use Rattle.ft_shared.specs.Account.{slot_at, hold_of}
use Rattle.ft_shared.specs.Segments.{IsAsPlaced, IsUnwritten, IsHoldUnwritten, ArePinsScanned}
use Rattle.ft_shared.specs.Register.{TableState, SeatView, PassRule, Fits, scan_count, RegisterRule}
use Rattle.ft_shared.specs.Pass.{held_read}
use Rattle.ft_shared.specs.Plays.{after_look, after_take, after_word, after_leave, IsLook, IsTake, IsWordRead, IsLeave}
use Rattle.ft_shared.proofs.Sums.{total-set, total-le, all_one, passes-le, version-of, slot-of, root-of, amount-le, sum_below-le}
use Rattle.ft_shared.proofs.Segments.{some_is, some_then, segments_reader}

pub all_none : {A : Type 0} (P : A → Type 0) → All P []
all_none P k d l = absurd (omega arith)

none_some : {A : Type 0} (x : A) → None ≡ Some x → ⊥
none_some x e = cc

-- a word of the pool has one segment and one place in it
pub same_place : (sizes : Sizes) (s p s2 p2 : ℕ) → p < 256 → p2 < 256 → segment_at sizes s p ≡ segment_at sizes s2 p2 → (s ≡ s2) × (p ≡ p2)
same_place sizes s p s2 p2 few few2 e =
    let pins : ℕ = sizes.readers * sizes.channels in
    let e' : sizes.readers + 3 + pins + (s * 256 + p) ≡ sizes.readers + 3 + pins + (s2 * 256 + p2) = e in
    (omega arith, omega arith)

-- what is read of a held version is the version's word there
held_reads : (a : Account) (h : Hold) (s p w : ℕ) → p < 256
    → ((t : TakenVersion) → h.notes.held ≡ Some t → HasTakenVersion a.history t)
    → ((t : TakenVersion) → h.notes.held ≡ Some t → IsUnwritten a t.version)
    → w ≡ word_at a.pool s p → (o : Option TakenVersion) → h.notes.held ≡ o → All (HasRead a.history) (held_read o s p w)
held_reads a h s p w few had kept found None e = all_none (HasRead a.history)
held_reads a h s p w few had kept found (Some t) e =
    let r : WordRead = record { version = t.version; pin = None; segment = s; at = p; word = w } in
    all_one (HasRead a.history) r
    (some_then (placed_at a.history t.version)
    (λ placed. placed.root ≡ t.root)
    (λ placed. (segment : ℕ) → IsOf (root_and_pool placed) segment → IsAsPlaced a placed segment)
    (λ placed. IsOf (root_and_pool placed) s → word_at placed.pool s p ≡ w)
    (had t e) (kept t e)
    (λ placed _ q of. sym ((q s of).0 p few) ∙ sym found))

module _ (key : Opening) where
  -- the count fits its byte
  pub count-le : (state : TableState) (rule : RegisterRule key state) (k : ℕ) → holders k state.views ≤ key.sizes.readers
  count-le state rule k = let a = total-le (pass_sum (grip_of k)) (pass_sum one) (passes-le k) state.views in let b = rule.count in
      omega arith

  -- CURRENT and the leavers of each slot are words of the table
  pub word-there : (state : TableState) (rule : RegisterRule key state) (i : ℕ) → i < key.sizes.readers + 3 → i < length state.words
  word-there state rule i l = let w = rule.wide in let p : ℕ = key.sizes.readers * key.sizes.channels in
      let w' : length state.words ≡ key.sizes.readers + 3 + p + 256 * key.sizes.segments = w in omega arith

  pub version-now : (state : TableState) (rule : RegisterRule key state) → version_in (get_or state.words 0 0) ≡ rule.account.version
  version-now state rule = let a = count-le state rule rule.account.slot in let f = rule.few in let z = rule.ranges in
      ap version_in rule.current ∙ version-of rule.account.version rule.account.slot rule.account.root
      (holders rule.account.slot state.views) (omega arith) z.1 (omega arith)

  pub slot-now : (state : TableState) (rule : RegisterRule key state) → slot_in (get_or state.words 0 0) ≡ rule.account.slot
  slot-now state rule = let a = count-le state rule rule.account.slot in let f = rule.few in let z = rule.ranges in
      ap slot_in rule.current ∙ slot-of rule.account.version rule.account.slot rule.account.root (holders rule.account.slot state.views)
      (omega arith) z.1 (omega arith)

  pub root-now : (state : TableState) (rule : RegisterRule key state) → root_in (get_or state.words 0 0) ≡ rule.account.root
  root-now state rule = let a = count-le state rule rule.account.slot in let f = rule.few in let z = rule.ranges in
      ap root_in rule.current ∙ root-of rule.account.version rule.account.slot rule.account.root (holders rule.account.slot state.views)
      (omega arith) z.1 (omega arith)

  -- a pass behind a seat keeps its rule
  pub stands_behind : (state : TableState) (rule : RegisterRule key state) (seat : ℕ) (view : View) (hold : Hold)
      → get_elem? state.views seat ≡ some view → IsBehind view hold → PassRule key rule.account hold
  stands_behind state rule seat Spent hold at behind = absurd behind
  stands_behind state rule seat (Told t) hold at behind = absurd behind
  stands_behind state rule seat (Reader other) hold at behind = subst (PassRule key rule.account) behind
      (rule.each_seat seat (Reader other) at)
  stands_behind state rule seat (Writer e) hold at behind =
      All-contains (PassRule key rule.account) rule.account.settled hold rule.settled
      (subst (λ (a : Account). Contains a.settled hold) (rule.each_seat seat (Writer e) at).0 behind)

  -- what a scan counts does not grow where no slot but the current one has more holders
  pub fewer : (state : TableState) (rule : RegisterRule key state) (views : List View)
      → ((k : ℕ) → k ≢ rule.account.slot → holders k views ≤ holders k state.views)
      → rule.account.begun ≡ true → sum_below (scan_count rule.account views) (key.sizes.readers + 2) ≤ key.sizes.readers
  fewer state rule views less b = let a = rule.scanned b in let d : Account = rule.account in
      let c = sum_below-le (scan_count d views) (scan_count d state.views) (key.sizes.readers + 2)
      (λ k l. amount-le (k == d.slot) (slot_at d k).free (nat_lt k (length d.scan)) (holders k views) (holders k state.views)
      (λ e. less k (false-eqb k d.slot (sym e)))) in omega arith

  -- the pin words, where neither they nor the reader's pins change
  pub pins_still : (state : TableState) (rule : RegisterRule key state) (id : ℕ) (h h' : Hold) (words : List ℕ)
      → get_elem? state.views id ≡ some (Reader h)
      → h'.notes.number ≡ h.notes.number → h'.notes.pins ≡ h.notes.pins
      → ((r c : ℕ) → r < key.sizes.readers → c < key.sizes.channels
      → get_or words (pin_at key.sizes r c) 0 ≡ get_or state.words (pin_at key.sizes r c) 0)
      → (r c : ℕ) → r < key.sizes.readers → c < key.sizes.channels
      → get_or words (pin_at key.sizes r c) 0 ≡ total (pass_sum (pin_amount r c)) (set state.views id (Reader h'))
  pins_still state rule id h h' words at number pins same r c lr lc =
      let e = total-set (pass_sum (pin_amount r c)) state.views id (Reader h) (Reader h') at in
      let m : pin_amount r c h' ≡ pin_amount r c h = λ i. cond (eqb (number i) r) (pin_word (slice_index_or (pins i) c None)) 0 in
      same r c lr lc ∙ (rule.pins r c lr lc ∙ omega arith)

  -- the reader at the seat id goes from h to h', and the words become ws
  pub reader_step : (state : TableState) (rule : RegisterRule key state) (id : ℕ) (h h' : Hold) (words : List ℕ)
      → get_elem? state.views id ≡ some (Reader h) → length words ≡ length state.words
      → h'.notes.number ≡ h.notes.number → PassRule key rule.account h' → IsHoldUnwritten rule.account h' → ArePinsScanned rule.account h'
      → ((i : ℕ) → get_or words (pool_at key.sizes + i) 0 ≡ get_or state.words (pool_at key.sizes + i) 0)
      → ((r c : ℕ) → r < key.sizes.readers → c < key.sizes.channels
      → get_or words (pin_at key.sizes r c) 0 ≡ total (pass_sum (pin_amount r c)) (set state.views id (Reader h')))
      → get_or words 0 0 ≡ current_word rule.account.version rule.account.slot rule.account.root
      (holders rule.account.slot (set state.views id (Reader h')))
      → get_or words (rule.account.slot + 1) 0 ≡ 0
      → ((k : ℕ) → k < key.sizes.readers + 2 → k ≢ rule.account.slot
      → (slot_at rule.account k).start ≡ get_or words (k + 1) 0 + holders k (set state.views id (Reader h')))
      → ((k : ℕ) → k ≢ rule.account.slot → holders k (set state.views id (Reader h')) ≤ holders k state.views)
      → RegisterRule key record { words = words; homes = state.homes; views = set state.views id (Reader h') }
  reader_step state rule id h h' words at wide number stands kept met beyond pins current fresh leavers less = record {
    writer = rule.writer;
    account = rule.account;
    few = rule.few;
    told = rule.told;
    wide = wide ∙ rule.wide;
    deep = rule.deep;
    ranges = rule.ranges;
    current = current;
    bears = rule.bears;
    history = rule.history;
    fresh = fresh;
    leavers = leavers;
    starts = rule.starts;
    unused = λ k e. let u = rule.unused k e in let l = less k u.0 in (u.0, omega arith);
    scanned = λ b. fewer state rule (set state.views id (Reader h')) less b;
    count = (let e = total-set (pass_sum one) state.views id (Reader h) (Reader h') at in let b = rule.count in omega arith, rule.count.1);
    numbers = λ n. let e = total-set (pass_sum (has_number n)) state.views id (Reader h) (Reader h') at in
        let m : has_number n h' ≡ has_number n h = ap (λ (k : ℕ). bit (k == n)) number in let b = rule.numbers n in omega arith;
    pins = pins;
    stored = (rule.stored.0, λ i. beyond i ∙ rule.stored.1 i);
    segments = segments_reader key.sizes state.views rule.account id h' kept met rule.segments;
    settled = rule.settled;
    each_seat = λ j v e. ⊎_elim (λ (t : (j ≡ id) × (Reader h' ≡ v)). subst (Fits key rule.account rule.writer j) t.1 stands)
        (λ (t : (j ≢ id) × (get_elem? state.views j ≡ some v)). rule.each_seat j v t.1) (at_set state.views id j (Reader h') v e);
  }

  pub looks : (slots id : ℕ) (me : SeatView) → me.0 ≡ Reader (hold_of me.0)
      → Allows (RegisterRule key) slots id me 0 (λ n. n) (IsLook (step slots 0 0 0 none) me)
  looks slots id me is state rule deep at small =
      let h : Hold = hold_of me.0 in
      let at' : get_elem? state.views id ≡ some (Reader h) = at ∙ ap some is in
      let w : ℕ = get_or state.words 0 0 in
      let h' : Hold = after_look h w in
      let a : Account = rule.account in
      let now : version_in w ≡ a.version = version-now state rule in
      let mine = rule.each_seat id (Reader h) at' in
      let kept = rule.segments.kept id (Reader h) h at' refl in
      let past : h.notes.seen ≤ a.version = mine.past in
      let last = rule.history.latest in
      let same : (k : ℕ) → holders k (set state.views id (Reader h')) ≡ holders k state.views = λ k. let e = total-set
      (pass_sum (grip_of k)) state.views id (Reader h) (Reader h') at' in omega arith in (
        Reader h',
        keeps,
        tt,
        subst (λ (words : List ℕ). RegisterRule key record { words = words; homes = state.homes; views = set state.views id (Reader h') })
            (sym (set-get_or state.words 0 0))
            (reader_step state rule id h h' state.words at' refl refl (record {
              told = mine.told;
              past = omega arith;
              recent = λ (v : ℕ) e. let is_v : version_in w ≡ v = cc in omega arith;
              borne = mine.borne;
              agrees = record {
                looks = All-append (HasVersion a.history) h.notes.looks (version_in w ∷ []) mine.agrees.looks
                    (all_one (HasVersion a.history) (version_in w)
                    (subst (HasVersion a.history) (sym now) (some_is (placed_at a.history a.version)
                    (λ placed. placed.root ≡ a.root) last)));
                takes = mine.agrees.takes;
                held = mine.agrees.held;
                reads = mine.agrees.reads;
              };
            })
            (record { held = kept.held; wide = kept.wide; pins = kept.pins })
            (rule.segments.scanned id (Reader h) h at' refl)
            (λ i. refl) (pins_still state rule id h h' state.words at' refl refl (λ r c lr lc. refl))
            (rule.current ∙ ap (current_word a.version a.slot a.root) (sym (same a.slot))) rule.fresh
            (λ k l ne. rule.leavers k l ne ∙ ap (λ (n : ℕ). get_or state.words (k + 1) 0 + n) (sym (same k)))
            (λ k ne. let e = same k in omega arith)),
        (refl, omega arith, refl),
      )

  pub takes : (slots id : ℕ) (me : SeatView) → me.0 ≡ Reader (hold_of me.0) → (hold_of me.0).notes.held ≡ None
      → Allows (RegisterRule key) slots id me 0 (λ n. (n + 1) % 2 ^ 64) (IsTake (step slots 0 1 0 none) me)
  takes slots id me is out state rule deep at small =
      let h : Hold = hold_of me.0 in
      let at' : get_elem? state.views id ≡ some (Reader h) = at ∙ ap some is in
      let w : ℕ = get_or state.words 0 0 in
      let h' : Hold = after_take h w in
      let a : Account = rule.account in
      let views : List View = set state.views id (Reader h') in
      let now : version_in w ≡ a.version = version-now state rule in
      let there : slot_in w ≡ a.slot = slot-now state rule in
      let root : root_in w ≡ a.root = root-now state rule in
      let mine = rule.each_seat id (Reader h) at' in
      let kept = rule.segments.kept id (Reader h) h at' refl in
      let past : h.notes.seen ≤ a.version = mine.past in
      let ranges = rule.ranges in
      let few = rule.few in
      let none_yet : (k : ℕ) → grip_of k h ≡ 0 = λ k. ap (λ (o : Option TakenVersion). grip k o h.slot) out in
      let here : holders a.slot views ≡ holders a.slot state.views + 1 =
      let e = total-set (pass_sum (grip_of a.slot)) state.views id (Reader h) (Reader h') at' in let n = none_yet a.slot in
      let b : grip_of a.slot h' ≡ 1 = ap bit (eq-eqb (slot_in w) a.slot there) in omega arith in
      let else : (k : ℕ) → k ≢ a.slot → holders k views ≡ holders k state.views = λ k ne.
      let e = total-set (pass_sum (grip_of k)) state.views id (Reader h) (Reader h') at' in let n = none_yet k in
      let b : grip_of k h' ≡ 0 = ap bit (ne_eqb (slot_in w) k (λ t. ne (sym t ∙ there))) in omega arith in
      let count = count-le state rule a.slot in
      let cur : w ≡ current_word a.version a.slot a.root (holders a.slot state.views) = rule.current in
      let next : (w + 1) % 2 ^ 64 ≡ current_word a.version a.slot a.root (holders a.slot views) = omega arith in
      let last = rule.history.latest in
      let t : TakenVersion = record { version = version_in w; root = root_in w } in
      let had : HasTakenVersion a.history t = subst (λ (z : ℕ × ℕ). HasTakenVersion a.history (record { version = z.0; root = z.1 }))
      (λ i. (sym now i, sym root i)) last in
      let bears : (slot_at a (slot_in w)).version ≡ version_in w = ap (λ (k : ℕ). (slot_at a k).version) there ∙ (rule.bears ∙ sym now) in (
        Reader h',
        keeps,
        tt,
        reader_step state rule id h h' (set state.words 0 ((w + 1) % 2 ^ 64)) at' (length-set state.words 0 ((w + 1) % 2 ^ 64)) refl
            (record {
              told = mine.told;
              past = omega arith;
              recent = λ (v : ℕ) e. absurd (none_some v e);
              borne = λ (g : TakenVersion) e. let same : t ≡ g = cc in
                  subst (λ (z : TakenVersion). (slot_in w < key.sizes.readers + 2) × ((slot_at a (slot_in w)).version ≡ z.version)) same
                  (omega arith, bears);
              agrees = record {
                looks = mine.agrees.looks;
                takes = All-append (HasTakenVersion a.history) h.notes.takes (t ∷ []) mine.agrees.takes
                    (all_one (HasTakenVersion a.history) t had);
                held = λ (g : TakenVersion) e. let same : t ≡ g = cc in subst (HasTakenVersion a.history) same had;
                reads = mine.agrees.reads;
              };
            })
            (record {
              held = λ (g : TakenVersion) e. let same : t ≡ g = cc in
                  subst (λ (z : TakenVersion). IsUnwritten a z.version) same (subst (IsUnwritten a) (sym now) rule.segments.current);
              wide = kept.wide;
              pins = kept.pins;
            })
            (rule.segments.scanned id (Reader h) h at' refl)
            (λ i. let q : ℕ = key.sizes.readers * key.sizes.channels in
            get_or-set_other state.words 0 (key.sizes.readers + 3 + q + i) ((w + 1) % 2 ^ 64) 0 (omega arith))
            (pins_still state rule id h h' (set state.words 0 ((w + 1) % 2 ^ 64)) at' refl refl
            (λ r c lr lc. let q : ℕ = r * key.sizes.channels in
            get_or-set_other state.words 0 (key.sizes.readers + 3 + (q + c)) ((w + 1) % 2 ^ 64) 0 (omega arith)))
            (get_or-set_same state.words 0 ((w + 1) % 2 ^ 64) 0 (word-there state rule 0 (omega arith)) ∙ next)
            (get_or-set_other state.words 0 (a.slot + 1) ((w + 1) % 2 ^ 64) 0 (omega arith) ∙ rule.fresh)
            (λ k l ne. rule.leavers k l ne ∙ cc (else k ne, get_or-set_other state.words 0 (k + 1) ((w + 1) % 2 ^ 64) 0 (omega arith)))
            (λ k ne. let e = else k ne in omega arith),
        (refl, omega arith, (let n : h.notes.sizes.readers ≡ key.sizes.readers = ap (λ z. z.readers) mine.told in omega arith), refl),
      )

  -- a word is read of the held version: by the rule it is the version's
  pub reads : (slots id s place : ℕ) (me : SeatView) → me.0 ≡ Reader (hold_of me.0) → place < 256
      → Allows (RegisterRule key) slots id me (segment_at (hold_of me.0).notes.sizes s place) (λ n. n)
      (IsWordRead (step slots (segment_at (hold_of me.0).notes.sizes s place) 0 0 none) me)
  reads slots id s place me is few state rule deep at small =
      let h : Hold = hold_of me.0 in
      let at' : get_elem? state.views id ≡ some (Reader h) = at ∙ ap some is in
      let i : ℕ = segment_at h.notes.sizes s place in
      let w : ℕ = get_or state.words i 0 in
      let h' : Hold = after_word h s place w in
      let a : Account = rule.account in
      let mine = rule.each_seat id (Reader h) at' in
      let kept = rule.segments.kept id (Reader h) h at' refl in
      let found : w ≡ word_at a.pool s place = ap (λ (z : Sizes). get_or state.words (segment_at z s place) 0) mine.told
      ∙ rule.stored.1 (s * 256 + place) in
      let same : (k : ℕ) → holders k (set state.views id (Reader h')) ≡ holders k state.views = λ k.
      let e = total-set (pass_sum (grip_of k)) state.views id (Reader h) (Reader h') at' in omega arith in (
        Reader h',
        keeps,
        tt,
        subst (λ (words : List ℕ). RegisterRule key record { words = words; homes = state.homes; views = set state.views id (Reader h') })
            (sym (set-get_or state.words i 0))
            (reader_step state rule id h h' state.words at' refl refl (record {
              told = mine.told;
              past = mine.past;
              recent = mine.recent;
              borne = mine.borne;
              agrees = record {
                looks = mine.agrees.looks;
                takes = mine.agrees.takes;
                held = mine.agrees.held;
                reads = All-append (HasRead a.history) h.notes.reads (held_read h.notes.held s place w) mine.agrees.reads
                    (held_reads a h s place w few mine.agrees.held kept.held found h.notes.held refl);
              };
            })
            (record { held = kept.held; wide = kept.wide; pins = kept.pins })
            (rule.segments.scanned id (Reader h) h at' refl)
            (λ i. refl) (pins_still state rule id h h' state.words at' refl refl (λ r c lr lc. refl))
            (rule.current ∙ ap (current_word a.version a.slot a.root) (sym (same a.slot))) rule.fresh
            (λ k l ne. rule.leavers k l ne ∙ ap (λ (n : ℕ). get_or state.words (k + 1) 0 + n) (sym (same k)))
            (λ k ne. let e = same k in omega arith)),
        λ s2 place2 few2 e. let one = same_place h.notes.sizes s place s2 place2 few few2 e in
            (λ j. (Reader (after_word h (one.0 j) (one.1 j) w), me.1)),
      )

  leaves_one : (slots id : ℕ) (me : SeatView) (t : TakenVersion) (v : ℕ) → me.0 ≡ Reader (hold_of me.0)
      → (hold_of me.0).notes.held ≡ Some t → (hold_of me.0).notes.latest ≡ Some v → t.version < v
      → Allows (RegisterRule key) slots id me ((hold_of me.0).slot + 1) (λ n. (n + 1) % 2 ^ 64)
      (IsLeave (step slots ((hold_of me.0).slot + 1) 1 0 none) me)
  leaves_one slots id me t v is has saw newer state rule deep at small =
      let h : Hold = hold_of me.0 in
      let at' : get_elem? state.views id ≡ some (Reader h) = at ∙ ap some is in
      let w : ℕ = get_or state.words (h.slot + 1) 0 in
      let h' : Hold = after_leave h in
      let a : Account = rule.account in
      let views : List View = set state.views id (Reader h') in
      let mine = rule.each_seat id (Reader h) at' in
      let kept = rule.segments.kept id (Reader h) h at' refl in
      let past : v ≤ a.version = mine.recent v saw in
      let borne = mine.borne t has in
      let bears = rule.bears in
      let apart : h.slot ≢ a.slot = λ same. let e : t.version ≡ a.version = sym borne.1
      ∙ (ap (λ (k : ℕ). (slot_at a k).version) same ∙ bears) in omega arith in
      let before : (k : ℕ) → grip_of k h ≡ bit (h.slot == k) = λ k. ap (λ (o : Option TakenVersion). grip k o h.slot) has in
      let here : holders h.slot views + 1 ≡ holders h.slot state.views =
      let e = total-set (pass_sum (grip_of h.slot)) state.views id (Reader h) (Reader h') at' in
      let b = before h.slot ∙ ap bit (eq-eqb h.slot h.slot refl) in omega arith in
      let else : (k : ℕ) → k ≢ h.slot → holders k views ≡ holders k state.views = λ k ne.
      let e = total-set (pass_sum (grip_of k)) state.views id (Reader h) (Reader h') at' in
      let b = before k ∙ ap bit (ne_eqb h.slot k (λ t. ne (sym t))) in omega arith in
      let leavers = rule.leavers h.slot borne.0 apart in
      let few = rule.few in
      let low = rule.starts h.slot in
      let next : (w + 1) % 2 ^ 64 ≡ w + 1 = omega arith in
      let inside = borne.0 in (
        Reader h',
        keeps,
        tt,
        reader_step state rule id h h' (set state.words (h.slot + 1) ((w + 1) % 2 ^ 64)) at'
            (length-set state.words (h.slot + 1) ((w + 1) % 2 ^ 64)) refl
            (record {
              told = mine.told;
              past = mine.past;
              recent = mine.recent;
              borne = λ (g : TakenVersion) e. absurd (none_some g e);
              agrees = record {
                looks = mine.agrees.looks;
                takes = mine.agrees.takes;
                held = λ (g : TakenVersion) e. absurd (none_some g e);
                reads = mine.agrees.reads;
              };
            })
            (record { held = λ (g : TakenVersion) e. absurd (none_some g e); wide = kept.wide; pins = kept.pins })
            (rule.segments.scanned id (Reader h) h at' refl)
            (λ i. let q : ℕ = key.sizes.readers * key.sizes.channels in
            get_or-set_other state.words (h.slot + 1) (key.sizes.readers + 3 + q + i) ((w + 1) % 2 ^ 64) 0 (omega arith))
            (pins_still state rule id h h' (set state.words (h.slot + 1) ((w + 1) % 2 ^ 64)) at' refl refl
            (λ r c lr lc. let q : ℕ = r * key.sizes.channels in
            get_or-set_other state.words (h.slot + 1) (key.sizes.readers + 3 + (q + c)) ((w + 1) % 2 ^ 64) 0 (omega arith)))
            (get_or-set_other state.words (h.slot + 1) 0 ((w + 1) % 2 ^ 64) 0 (omega arith)
            ∙ (rule.current ∙ ap (current_word a.version a.slot a.root) (sym (else a.slot (λ e. apart (sym e))))))
            (get_or-set_other state.words (h.slot + 1) (a.slot + 1) ((w + 1) % 2 ^ 64) 0 (λ e. apart (omega arith)) ∙ rule.fresh)
            (λ k l ne. dite (ℕ_discrete k h.slot)
            (λ (e : k ≡ h.slot). subst (λ (j : ℕ). (slot_at a j).start ≡ get_or (set state.words (h.slot + 1) ((w + 1) % 2 ^ 64))
            (j + 1) 0 + holders j views) (sym e)
            (let same = get_or-set_same state.words (h.slot + 1) ((w + 1) % 2 ^ 64) 0
            (word-there state rule (h.slot + 1) (omega arith)) in omega arith))
            (λ (e : k ≢ h.slot). let other = get_or-set_other state.words (h.slot + 1) (k + 1) ((w + 1) % 2 ^ 64) 0
            (λ t. e (omega arith)) in let f = else k e in let g = rule.leavers k l ne in omega arith))
            (λ k ne. dite (ℕ_discrete k h.slot)
            (λ (e : k ≡ h.slot). subst (λ (j : ℕ). holders j views ≤ holders j state.views) (sym e) (omega arith))
            (λ (e : k ≢ h.slot). let f = else k e in omega arith)),
        (refl, refl),
      )

  pub leaves : (slots id : ℕ) (me : SeatView) → me.0 ≡ Reader (hold_of me.0) → (o : Option TakenVersion) (l : Option ℕ)
      → (hold_of me.0).notes.held ≡ o → (hold_of me.0).notes.latest ≡ l
      → IsSomeAnd o (λ t. IsSomeAnd l (λ v. t.version < v))
      → Allows (RegisterRule key) slots id me ((hold_of me.0).slot + 1) (λ n. (n + 1) % 2 ^ 64)
      (IsLeave (step slots ((hold_of me.0).slot + 1) 1 0 none) me)
  leaves slots id me is None l has saw newer = absurd newer
  leaves slots id me is (Some t) None has saw newer = absurd newer
  leaves slots id me is (Some t) (Some v) has saw newer = leaves_one slots id me t v is has saw newer
