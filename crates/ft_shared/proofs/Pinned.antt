-- The steps on pins keep the rule.
use Rattle.std.proofs.Common.{nat_lt, ◌==◌, zero, suc, Bool, true, false, cond, le-ltb, lt-ltb, true-eqb, eqb, eq-eqb, ne_eqb, ◌≡◌, ◌≢◌, ℕ, ◌+◌, ◌-◌, ◌*◌, ◌<◌, ◌≤◌, List, [], ◌∷◌, ◌++◌, length, lt_of_not-le, get_or, set, sym, refl, ap, ◌∙◌, subst, inl, inr, ⊎_elim, arith, Option, Some, None, All, IsSome, IsSomeAnd, IfSome, slice_index_or, length-set, get_or-set_other, get_or-set_same}
use Rattle.std.proofs.lemmas.List.Elements.{All-append, Contains-get_or, Contains-append_left, Contains-push, Contains-push_cases}
use Rattle.std.specs.List.{Contains}
use mathlib.Core.Option.{none, some}
use mathlib.Core.Logic.{dite}
use native.Mathlib.Decide.{dec_le, ℕ_discrete}
use lib.ListN.{get_elem?}
use lib.Seq.{set-get_or}
use Rattle.atomic_table.specs.Table.{step, keeps, Allows}
use Rattle.ft_segments.specs.Packing.{word_at}
use Rattle.ft_segments.specs.Walk.{IsOf}
use Rattle.ft_segments.specs.Pins.{PinHolds}
use Rattle.ft_shared.specs.declared.law.Sizes.{Sizes}
use Rattle.ft_shared.specs.declared.law.Opening.{Opening}
use Rattle.ft_shared.specs.declared.law.PlacedVersion.{PlacedVersion}
use Rattle.ft_shared.specs.declared.law.TakenVersion.{TakenVersion}
use Rattle.ft_shared.specs.declared.law.WordRead.{WordRead}
use Rattle.ft_shared.specs.declared.law.WordStep.{WordStep}
use Rattle.ft_shared.specs.declared.law.Pin.{Pin}
use Rattle.ft_shared.specs.declared.law.PinAnswer.{PinAnswer}
use Rattle.ft_shared.specs.declared.law.Hold.{Hold}
use Rattle.ft_shared.specs.declared.law.Account.{Account}
use Rattle.ft_shared.specs.declared.law.View.{View}
use Rattle.ft_shared.specs.declared.law.View.TheVariants.{Spent, Reader, Writer, Told}
use Rattle.ft_shared.specs.Layout.{current_word, pin_at, segment_at}
use Rattle.ft_shared.specs.Counts.{bit, total, pass_sum, one, has_number, grip, grip_of, holders, IsBehind, pin_of, pin_word, pin_amount}
use Rattle.ft_shared.specs.History.{placed_at, root_and_pool, HasRead}
use Rattle.ft_shared.specs.Account.{slot_at, hold_of, account_of, SlotsAreMet, pinned_root, pin_answer, after_pin_scan, IsPinAnswer, IsPinMet, IsAnswered, AreAllSettled, IsSettledReader}
use Rattle.ft_shared.specs.Segments.{IsAsPlaced, IsUnwritten, IsStanding, IsHoldUnwritten}
use Rattle.ft_shared.specs.Register.{TableState, SeatView, RegisterRule}
use Rattle.ft_shared.specs.Pass.{pin_from, note_pin, note_unpin, pin_read}
use Rattle.ft_shared.specs.Plays.{after_pin, after_unpin, after_pinned_word, IsPin, IsUnpin, IsPinnedRead, IsPinScan}
use Rattle.ft_shared.proofs.Sums.{total-set, all_one, at-le, behind-le, bit-le, only_behind, at_most, at_most_index, pin_inside, same_pin}
use Rattle.ft_shared.proofs.Segments.{is_there, some_is, no-answer}
use Rattle.ft_shared.proofs.Exact.{one_counts, bit-true, total-one, settled-all}
use Rattle.ft_shared.proofs.Readers.{all_none, stands_behind, pins_still, reader_step, same_place}
use Rattle.ft_shared.proofs.Writes.{scan_at}

-- a channel that was set to none has none
pub none-there : (l : List (Option Pin)) (k : ℕ) → is_there (slice_index_or (set l k None) k None) ≡ false
none-there [] k = refl
none-there (x ∷ l) zero = refl
none-there (x ∷ l) (suc k) = none-there l k

module _ (key : Opening) where
  -- ---- versions that are held while a scan goes on

  -- a slot that a pass holds was not found free
  held_slot : (state : TableState) (rule : RegisterRule key state) (seat : ℕ) (view : View) (hold : Hold) (t : TakenVersion)
      → get_elem? state.views seat ≡ some view → IsBehind view hold → hold.notes.held ≡ Some t
      → (b : Bool) → (slot_at rule.account hold.slot).free ≡ b → b ≡ false
  held_slot state rule seat view hold t at behind has false e = refl
  held_slot state rule seat view hold t at behind has true e =
      let empty : holders hold.slot state.views ≡ 0 = (rule.unused hold.slot e).1 in
      let one : grip_of hold.slot hold ≡ 1 = ap (λ (o : Option TakenVersion). grip hold.slot o hold.slot) has
      ∙ ap bit (eq-eqb hold.slot hold.slot refl) in
      let l = behind-le (grip_of hold.slot) view hold behind in
      let m = at-le (pass_sum (grip_of hold.slot)) state.views seat view at in
      absurd (omega arith)

  -- once all slots were looked at, each version that a pass holds was answered
  pub answers_held : (state : TableState) (rule : RegisterRule key state) → length rule.account.scan ≡ key.sizes.readers + 2
      → (seat : ℕ) (view : View) (hold : Hold) → get_elem? state.views seat ≡ some view → IsBehind view hold → (t : TakenVersion)
      → hold.notes.held ≡ Some t → IsAnswered rule.account t.version
  answers_held state rule whole seat view hold at behind t has =
      let a : Account = rule.account in
      let borne = (stands_behind key state rule seat view hold at behind).borne t has in
      let inside = borne.0 in
      let held : (slot_at a hold.slot).free ≡ false = held_slot state rule seat view hold t at behind has (slot_at a hold.slot).free refl in
      let answer : slice_index_or a.scan hold.slot None ≡ Some t.version =
      rule.segments.answers hold.slot (omega arith) ∙ (λ i. cond (held i) None (Some (borne.1 i))) in
      subst (Contains a.scan) answer (Contains-get_or a.scan hold.slot None (omega arith))

  -- ---- pin words

  own-number : (hold : Hold) → has_number hold.notes.number hold ≡ 1
  own-number hold = ap bit (eq-eqb hold.notes.number hold.notes.number refl)

  number-most : (state : TableState) (rule : RegisterRule key state) (r : ℕ) → total (pass_sum (has_number r)) state.views ≤ 1
  number-most state rule r = let e = rule.numbers r in let l = bit-le (nat_lt r rule.account.given) in omega arith

  -- the number of a pass is below the readers
  pub number-small : (state : TableState) (rule : RegisterRule key state) (seat : ℕ) (view : View) (hold : Hold)
      → get_elem? state.views seat ≡ some view → IsBehind view hold → hold.notes.number < key.sizes.readers
  number-small state rule seat view hold at behind =
      let n : ℕ = hold.notes.number in
      let own = own-number hold in
      let l = behind-le (has_number n) view hold behind in
      let m = at-le (pass_sum (has_number n)) state.views seat view at in
      let e = rule.numbers n in
      let few = rule.count.1 in
      dite (dec_le rule.account.given n)
      (λ (le : rule.account.given ≤ n). let z : bit (nat_lt n rule.account.given) ≡ 0 = ap bit (le-ltb n rule.account.given le) in
      absurd (omega arith))
      (λ (gt : rule.account.given ≤ n → ⊥). let lt : n < rule.account.given = lt_of_not-le gt in omega arith)

  off : (b : Bool) (n : ℕ) → bit b ≡ 0 → cond b n 0 ≡ 0
  off false n e = refl
  off true n e = absurd (omega arith)

  -- the pin words of a pass's number are those of its pins
  pub pin-only : (state : TableState) (rule : RegisterRule key state) (seat : ℕ) (view : View) (hold : Hold)
      → get_elem? state.views seat ≡ some view → IsBehind view hold
      → (c : ℕ) → total (pass_sum (pin_amount hold.notes.number c)) state.views ≡ pin_word (pin_of hold.notes c)
  pin-only state rule seat view hold at behind c =
      let n : ℕ = hold.notes.number in
      let own = own-number hold in
      only_behind (pin_amount n c) (has_number n) (λ h z. off (h.notes.number == n)
      (pin_word (pin_of h.notes c)) z) state.views seat view hold at behind (number-most state rule n) (omega arith)
      ∙ ap (λ (b : Bool). cond b (pin_word (pin_of hold.notes c)) 0) (eq-eqb n n refl)

  word-small : (a : Account) (hold : Hold) → IsHoldUnwritten a hold → (c : ℕ) (o : Option Pin) → pin_of hold.notes c ≡ o
      → pin_word o ≤ 65536
  word-small a hold kept c None e = omega arith
  word-small a hold kept c (Some pin) e = let s = (kept.pins c pin e).small in omega arith

  weighed : (b : Bool) (n : ℕ) → n ≤ 65536 → cond b n 0 ≤ 65536 * bit b
  weighed true n l = omega arith
  weighed false n l = omega arith

  view-small : (state : TableState) (rule : RegisterRule key state) (r c seat : ℕ) (view : View) → get_elem? state.views seat ≡ some view
      → pass_sum (pin_amount r c) view ≤ 65536 * pass_sum (has_number r) view
  view-small state rule r c seat Spent at = omega arith
  view-small state rule r c seat (Told t) at = omega arith
  view-small state rule r c seat (Reader h) at = weighed (h.notes.number == r) (pin_word (pin_of h.notes c))
      (word-small rule.account h (rule.segments.kept seat (Reader h) h at refl) c (pin_of h.notes c) refl)
  view-small state rule r c seat (Writer e) at = at_most_index (pin_amount r c) (has_number r) e.settled (λ i d l.
      let h : Hold = get_or e.settled i d in
      weighed (h.notes.number == r) (pin_word (pin_of h.notes c))
      (word-small rule.account h (rule.segments.kept seat (Writer e) h at (Contains-get_or e.settled i d l)) c (pin_of h.notes c) refl))

  -- a pin word is 0, or a root segment + 1
  pin-small : (state : TableState) (rule : RegisterRule key state) (r c : ℕ) → r < key.sizes.readers → c < key.sizes.channels
      → get_or state.words (pin_at key.sizes r c) 0 ≤ 65536
  pin-small state rule r c lr lc =
      let e = rule.pins r c lr lc in
      let m = at_most (pass_sum (pin_amount r c)) (pass_sum (has_number r)) state.views (view-small state rule r c) in
      let n = number-most state rule r in omega arith

  -- ---- a reader's steps

  -- the pin of a channel becomes o, and its word says so
  pinned_at : (state : TableState) (rule : RegisterRule key state) (id : ℕ) (h : Hold) → get_elem? state.views id ≡ some (Reader h)
      → (channel : ℕ) → channel < key.sizes.channels → (o : Option Pin) (steps : List WordStep)
      → ((pin : Pin) → o ≡ Some pin → IsStanding rule.account pin ×
      (IsPinMet rule.account h.notes.number channel → IsAnswered rule.account pin.version))
      → RegisterRule key record {
        words = set state.words (pin_at key.sizes h.notes.number channel) (pin_word o);
        homes = state.homes;
        views = set state.views id (Reader (record h { notes = record h.notes { pins = set h.notes.pins channel o; steps = steps } }));
      }
  pinned_at state rule id h at channel less o steps stands =
      let a : Account = rule.account in
      let h' : Hold = record h { notes = record h.notes { pins = set h.notes.pins channel o; steps = steps } } in
      let n : ℕ = h.notes.number in
      let p : ℕ = n * key.sizes.channels in
      let all : ℕ = key.sizes.readers * key.sizes.channels in
      let i : ℕ = key.sizes.readers + 3 + (p + channel) in
      let x : ℕ = pin_word o in
      let words : List ℕ = set state.words i x in
      let mine = rule.each_seat id (Reader h) at in
      let kept = rule.segments.kept id (Reader h) h at refl in
      let small : n < key.sizes.readers = number-small state rule id (Reader h) h at refl in
      let inside : p + channel < all = pin_inside n key.sizes.readers channel key.sizes.channels small less in
      let wide : length state.words ≡ key.sizes.readers + 3 + all + 256 * key.sizes.segments = rule.wide in
      let channels : length h.notes.pins ≡ key.sizes.channels = kept.wide ∙ ap (λ (z : Sizes). z.channels) rule.told in
      let here : pin_of h'.notes channel ≡ o = get_or-set_same h.notes.pins channel o None (omega arith) in
      let else : (c : ℕ) → c ≢ channel → pin_of h'.notes c ≡ pin_of h.notes c = λ c ne. get_or-set_other h.notes.pins channel c o None ne in
      let same : (k : ℕ) → holders k (set state.views id (Reader h')) ≡ holders k state.views = λ k.
      let e = total-set (pass_sum (grip_of k)) state.views id (Reader h) (Reader h') at in omega arith in
      let moved : (r c : ℕ) → total (pass_sum (pin_amount r c)) (set state.views id (Reader h')) + pin_amount r c h ≡ total
      (pass_sum (pin_amount r c)) state.views + pin_amount r c h' = λ r c.
      total-set (pass_sum (pin_amount r c)) state.views id (Reader h) (Reader h') at in
      let ranges = rule.ranges in
      let before : (j : ℕ) → j < key.sizes.readers + 3
      → get_or words j 0 ≡ get_or state.words j 0 = λ j l. get_or-set_other state.words i j x 0 (omega arith) in
      reader_step key state rule id h h' words at (length-set state.words i x) refl
      (record {
        told = mine.told;
        past = mine.past;
        recent = mine.recent;
        borne = mine.borne;
        agrees = record { looks = mine.agrees.looks; takes = mine.agrees.takes; held = mine.agrees.held; reads = mine.agrees.reads };
      })
      (record {
        held = kept.held;
        wide = length-set h.notes.pins channel o ∙ kept.wide;
        pins = λ c pin e. dite (ℕ_discrete c channel)
            (λ (t : c ≡ channel). (stands pin (sym here ∙ (ap (λ (k : ℕ). pin_of h'.notes k) (sym t) ∙ e))).0)
            (λ (t : c ≢ channel). kept.pins c pin (sym (else c t) ∙ e));
      })
      (λ c pin e met. dite (ℕ_discrete c channel)
      (λ (t : c ≡ channel). inr ((stands pin (sym here ∙ (ap (λ (k : ℕ). pin_of h'.notes k) (sym t) ∙ e))).1 (subst (IsPinMet a n) t met)))
      (λ (t : c ≢ channel). rule.segments.scanned id (Reader h) h at refl c pin (sym (else c t) ∙ e) met))
      (λ j. get_or-set_other state.words i (key.sizes.readers + 3 + all + j) x 0 (omega arith))
      (λ r c lr lc. dite (ℕ_discrete r n)
      (λ (er : r ≡ n). subst (λ (q : ℕ). get_or words (key.sizes.readers + 3 + (q * key.sizes.channels + c)) 0 ≡ total
      (pass_sum (pin_amount q c)) (set state.views id (Reader h'))) (sym er)
      (dite (ℕ_discrete c channel)
      (λ (ec : c ≡ channel). subst (λ (q : ℕ). get_or words (key.sizes.readers + 3 + (p + q)) 0 ≡ total (pass_sum (pin_amount n q))
      (set state.views id (Reader h'))) (sym ec)
      (let w : get_or words i 0 ≡ x = get_or-set_same state.words i x 0 (omega arith) in
      let m = moved n channel in
      let o1 = pin-only state rule id (Reader h) h at refl channel in
      let f1 : pin_amount n channel h ≡ pin_word (pin_of h.notes channel) = ap
      (λ (b : Bool). cond b (pin_word (pin_of h.notes channel)) 0) (eq-eqb n n refl) in
      let f2 : pin_amount n channel h' ≡ x = ap (λ (b : Bool). cond b (pin_word (pin_of h'.notes channel)) 0) (eq-eqb n n refl)
      ∙ ap pin_word here in
      let v : get_or words (key.sizes.readers + 3 + (p + channel)) 0 ≡ x = w in omega arith))
      (λ (nc : c ≢ channel).
      let w : get_or words (key.sizes.readers + 3 + (p + c)) 0 ≡ get_or state.words
      (key.sizes.readers + 3 + (p + c)) 0 = get_or-set_other state.words i (key.sizes.readers + 3 + (p + c)) x 0
      (λ t. nc (omega arith)) in
      let m = moved n c in
      let f : pin_amount n c h' ≡ pin_amount n c h = ap (λ (q : Option Pin). cond (n == n) (pin_word q) 0) (else c nc) in
      let old : get_or state.words (key.sizes.readers + 3 + (p + c)) 0 ≡ total
      (pass_sum (pin_amount n c)) state.views = rule.pins n c small lc in
      w ∙ (old ∙ omega arith))))
      (λ (nr : r ≢ n).
      let m = moved r c in
      let z : eqb n r ≡ false = ne_eqb n r (λ t. nr (sym t)) in
      let f1 : pin_amount r c h ≡ 0 = ap (λ (b : Bool). cond b (pin_word (pin_of h.notes c)) 0) z in
      let f2 : pin_amount r c h' ≡ 0 = ap (λ (b : Bool). cond b (pin_word (pin_of h'.notes c)) 0) z in
      let q : ℕ = r * key.sizes.channels in
      let w : get_or words (key.sizes.readers + 3 + (q + c)) 0 ≡ get_or state.words
      (key.sizes.readers + 3 + (q + c)) 0 = get_or-set_other state.words i (key.sizes.readers + 3 + (q + c)) x 0
      (λ t. nr (same_pin r n c channel key.sizes.channels lc less (let t' : q + c ≡ p + channel = omega arith in t')).0) in
      w ∙ (rule.pins r c lr lc ∙ omega arith)))
      (before 0 (omega arith) ∙ (rule.current ∙ ap (current_word a.version a.slot a.root) (sym (same a.slot))))
      (before (a.slot + 1) (omega arith) ∙ rule.fresh)
      (λ k l ne. let b = before (k + 1) (omega arith) in let s = same k in let g = rule.leavers k l ne in omega arith)
      (λ k ne. let e = same k in omega arith)

  -- the channel of a pin word of this reader
  own-channel : (z : Sizes) (n c d : ℕ) → pin_at z n c ≡ pin_at z n d → c ≡ d
  own-channel z n c d e = let p : ℕ = n * z.channels in let e' : z.readers + 3 + (p + c) ≡ z.readers + 3 + (p + d) = e in omega arith

  -- a pin is set from the held version
  pub pin_sets : (slots id channel root : ℕ) (me : SeatView) → me.0 ≡ Reader (hold_of me.0) → IsSome (hold_of me.0).notes.held
      → channel < (hold_of me.0).notes.sizes.channels → root < 65536
      → Allows (RegisterRule key) slots id me (pin_at (hold_of me.0).notes.sizes (hold_of me.0).notes.number channel) (λ _. root + 1)
      (λ _. IsPin (step slots (pin_at (hold_of me.0).notes.sizes (hold_of me.0).notes.number channel) (root + 1) 0 none) me (root + 1))
  pin_sets slots id channel root me is some-held less fits state rule deep at small =
      let h : Hold = hold_of me.0 in
      let at' : get_elem? state.views id ≡ some (Reader h) = at ∙ ap some is in
      let mine = rule.each_seat id (Reader h) at' in
      let kept = rule.segments.kept id (Reader h) h at' refl in
      let word : pin_word (pin_from h.notes.held root) ≡ root + 1 = set-word h.notes.held root some-held in
      let F : Sizes → Type 0 = λ z. channel < z.channels
      → RegisterRule key record {
        words = set state.words (pin_at z h.notes.number channel) (root + 1);
        homes = state.homes;
        views = set state.views id (Reader (after_pin h channel root));
      } in (
        Reader (after_pin h channel root),
        keeps,
        tt,
        subst F (sym mine.told) (λ l. subst (λ (x : ℕ). RegisterRule key record {
          words = set state.words
              (pin_at key.sizes h.notes.number channel) x;
          homes = state.homes;
          views = set state.views id (Reader (after_pin h channel root));
        }) word
            (pinned_at state rule id h at' channel l (pin_from h.notes.held root) (note_pin h.notes channel root).steps
            (λ pin e. set-stands state rule id h at' root fits channel h.notes.held refl pin e))) less,
        λ c2 root2 l2 e f.
            let one = own-channel h.notes.sizes h.notes.number channel c2 e in
            let two : root ≡ root2 = omega arith in
            let pins : length h.notes.pins ≡ h.notes.sizes.channels = kept.wide
            ∙ ap (λ (z : Sizes). z.channels) (rule.told ∙ sym mine.told) in (
              (λ j. (Reader (after_pin h (one j) (two j)), me.1)),
              get_or-set_same h.notes.pins c2 (pin_from h.notes.held root2) None (omega arith),
            ),
      )
    where
      set-word : (o : Option TakenVersion) (root : ℕ) → IsSome o → pin_word (pin_from o root) ≡ root + 1
      set-word None root s = absurd (no s)
        where
          no : false ≡ true → ⊥
          no e = cc
      set-word (Some t) root s = refl

      holds-less : (a : Account) (v root : ℕ) → IsUnwritten a v
          → IfSome (placed_at a.history v) (λ placed. (segment : ℕ) → PinHolds (root_and_pool placed) root segment
          → IsAsPlaced a placed segment)
      holds-less a v root u = go (placed_at a.history v) u
        where
          go : (o : Option PlacedVersion) → IfSome o (λ placed. (segment : ℕ) → IsOf (root_and_pool placed) segment
              → IsAsPlaced a placed segment) → IfSome o (λ placed. (segment : ℕ) → PinHolds (root_and_pool placed) root segment
              → IsAsPlaced a placed segment)
          go None u = tt
          go (Some p) u = λ segment holds. u segment holds.1

      set-stands : (state : TableState) (rule : RegisterRule key state) (id : ℕ) (h : Hold) → get_elem? state.views id ≡ some (Reader h)
          → (root : ℕ) → root < 65536 → (channel : ℕ)
          → (o : Option TakenVersion) → h.notes.held ≡ o → (pin : Pin) → pin_from o root ≡ Some pin
          → IsStanding rule.account pin × (IsPinMet rule.account h.notes.number channel → IsAnswered rule.account pin.version)
      set-stands state rule id h at root fits channel None held pin e = absurd (none_some pin e)
        where
          none_some : {A : Type 0} (x : A) → None ≡ Some x → ⊥
          none_some x e = cc
      set-stands state rule id h at root fits channel (Some t) held pin e =
          let a : Account = rule.account in
          let p : Pin = record { version = t.version; root = root } in
          let same : p ≡ pin = cc in
          let mine = rule.each_seat id (Reader h) at in
          let kept = rule.segments.kept id (Reader h) h at refl in
          subst (λ (q : Pin). IsStanding a q × (IsPinMet a h.notes.number channel → IsAnswered a q.version)) same (
            record {
              small = fits;
              known = some_is (placed_at a.history t.version) (λ placed. placed.root ≡ t.root) (mine.agrees.held t held);
              unwritten = holds-less a t.version root (kept.held t held);
            },
            λ met. ⊎_elim (λ (none-yet : a.pin_scan ≡ []). absurd (no-answer a none-yet h.notes.number channel met))
                (λ (whole : length a.scan ≡ key.sizes.readers + 2). answers_held state rule whole id
                (Reader h) h at refl t held) rule.segments.order,
          )

  -- a pin is taken away
  pub unpins : (slots id channel : ℕ) (me : SeatView) → me.0 ≡ Reader (hold_of me.0) → channel < (hold_of me.0).notes.sizes.channels
      → Allows (RegisterRule key) slots id me (pin_at (hold_of me.0).notes.sizes (hold_of me.0).notes.number channel) (λ _. 0)
      (λ _. IsUnpin (step slots (pin_at (hold_of me.0).notes.sizes (hold_of me.0).notes.number channel) 0 0 none) me 0)
  unpins slots id channel me is less state rule deep at small =
      let h : Hold = hold_of me.0 in
      let at' : get_elem? state.views id ≡ some (Reader h) = at ∙ ap some is in
      let mine = rule.each_seat id (Reader h) at' in
      let F : Sizes → Type 0 = λ z. channel < z.channels
      → RegisterRule key record {
        words = set state.words (pin_at z h.notes.number channel) 0;
        homes = state.homes;
        views = set state.views id (Reader (after_unpin h channel));
      } in (
        Reader (after_unpin h channel),
        keeps,
        tt,
        subst F (sym mine.told) (λ l. pinned_at state rule id h at' channel l None (note_unpin h.notes channel).steps
            (λ pin e. absurd (none_some pin e))) less,
        λ c2 e. let one = own-channel h.notes.sizes h.notes.number channel c2 e in (λ j. (Reader (after_unpin h (one j)), me.1)),
      )
    where
      none_some : {A : Type 0} (x : A) → None ≡ Some x → ⊥
      none_some x e = cc

  -- a word is read by a pin: by the rule it is that of the pin's version
  pub pin_reads : (slots id channel s place : ℕ) (me : SeatView) → me.0 ≡ Reader (hold_of me.0) → place < 256
      → Allows (RegisterRule key) slots id me (segment_at (hold_of me.0).notes.sizes s place) (λ n. n)
      (IsPinnedRead channel (step slots (segment_at (hold_of me.0).notes.sizes s place) 0 0 none) me)
  pin_reads slots id channel s place me is few state rule deep at small =
      let h : Hold = hold_of me.0 in
      let at' : get_elem? state.views id ≡ some (Reader h) = at ∙ ap some is in
      let i : ℕ = segment_at h.notes.sizes s place in
      let w : ℕ = get_or state.words i 0 in
      let h' : Hold = after_pinned_word h channel s place w in
      let a : Account = rule.account in
      let mine = rule.each_seat id (Reader h) at' in
      let kept = rule.segments.kept id (Reader h) h at' refl in
      let found : w ≡ word_at a.pool s place = ap (λ (z : Sizes). get_or state.words (segment_at z s place) 0) mine.told
      ∙ rule.stored.1 (s * 256 + place) in
      let same : (k : ℕ) → holders k (set state.views id (Reader h')) ≡ holders k state.views = λ k.
      let e = total-set (pass_sum (grip_of k)) state.views id (Reader h) (Reader h') at' in omega arith in (
        Reader h',
        keeps,
        tt,
        subst (λ (words : List ℕ). RegisterRule key record { words = words; homes = state.homes; views = set state.views id (Reader h') })
            (sym (set-get_or state.words i 0))
            (reader_step key state rule id h h' state.words at' refl refl (record {
              told = mine.told;
              past = mine.past;
              recent = mine.recent;
              borne = mine.borne;
              agrees = record {
                looks = mine.agrees.looks;
                takes = mine.agrees.takes;
                held = mine.agrees.held;
                reads = All-append (HasRead a.history) h.notes.reads (pin_read (pin_of h.notes channel) s place w) mine.agrees.reads
                    (pin-had a h kept channel s place w few found (pin_of h.notes channel) refl);
              };
            })
            (record { held = kept.held; wide = kept.wide; pins = kept.pins })
            (rule.segments.scanned id (Reader h) h at' refl)
            (λ i. refl) (pins_still key state rule id h h' state.words at' refl refl (λ r c lr lc. refl))
            (rule.current ∙ ap (current_word a.version a.slot a.root) (sym (same a.slot))) rule.fresh
            (λ k l ne. rule.leavers k l ne ∙ ap (λ (n : ℕ). get_or state.words (k + 1) 0 + n) (sym (same k)))
            (λ k ne. let e = same k in omega arith)),
        λ s2 place2 few2 e. let one = same_place h.notes.sizes s place s2 place2 few few2 e in
            (λ j. (Reader (after_pinned_word h channel (one.0 j) (one.1 j) w), me.1)),
      )
    where
      all-some : {A : Type 0} (o : Option A) (Q R : A → Type 0) → IsSome o → IfSome o Q → ((x : A) → Q x → R x) → IsSomeAnd o R
      all-some None Q R s q f = absurd (no s)
        where
          no : false ≡ true → ⊥
          no e = cc
      all-some (Some x) Q R s q f = f x q

      pin-had : (a : Account) (h : Hold) → IsHoldUnwritten a h → (channel s p w : ℕ) → p < 256 → w ≡ word_at a.pool s p → (o : Option Pin)
          → pin_of h.notes channel ≡ o → All (HasRead a.history) (pin_read o s p w)
      pin-had a h kept channel s p w few found None e = all_none (HasRead a.history)
      pin-had a h kept channel s p w few found (Some pin) e =
          let r : WordRead = record { version = pin.version; pin = Some pin.root; segment = s; at = p; word = w } in
          let stands = kept.pins channel pin e in
          all_one (HasRead a.history) r
          (all-some (placed_at a.history pin.version)
          (λ placed. (segment : ℕ) → PinHolds (root_and_pool placed) pin.root segment → IsAsPlaced a placed segment)
          (λ placed. PinHolds (root_and_pool placed) pin.root s → word_at placed.pool s p ≡ w)
          stands.known stands.unwritten
          (λ placed q holds. sym ((q s holds).0 p few) ∙ sym found))

  -- ---- the writer's look at a pin

  root-of-word : (n : ℕ) → pinned_root (n + 1) ≡ Some n
  root-of-word n =
      let e : n + 1 - 1 ≡ n = omega arith in
      ap (λ (b : Bool). cond b None (Some (n + 1 - 1))) (ne_eqb (n + 1) 0 (omega arith)) ∙ ap Some e

  pin_scanned_at : (state : TableState) (rule : RegisterRule key state) (id r c : ℕ)
      → get_elem? state.views id ≡ some (Writer rule.account) → id ≡ rule.writer → SlotsAreMet key.sizes rule.account
      → r < key.sizes.readers → c < key.sizes.channels
      → RegisterRule key record {
        words = state.words;
        homes = state.homes;
        views = set state.views id (Writer (after_pin_scan rule.account r c (get_or state.words (pin_at key.sizes r c) 0)));
      }
  pin_scanned_at state rule id r c at writes slots lr lc =
      let a : Account = rule.account in
      let w : ℕ = get_or state.words (pin_at key.sizes r c) 0 in
      let b : Account = after_pin_scan a r c w in
      let new : PinAnswer = pin_answer r c (pinned_root w) in
      scan_at key state rule id b at writes refl rule.deep (λ k. refl) (λ k. refl) rule.unused rule.scanned rule.segments.answers
      rule.segments.answered (inr slots.1)
      (λ seat view hold there behind channel pin e met. ⊎_elim
      (λ (old : Contains a.pin_scan (pin_answer hold.notes.number channel met.0)). ⊎_elim
      (λ (f : IsPinAnswer a hold.notes.number channel (Some pin.root)). inl
      (Contains-append_left a.pin_scan (new ∷ []) (pin_answer hold.notes.number channel (Some pin.root)) f))
      (λ (f : IsAnswered a pin.version). inr f)
      (rule.segments.scanned seat view hold there behind channel pin e (met.0, old)))
      (λ (is : new ≡ pin_answer hold.notes.number channel met.0).
      let er : r ≡ hold.notes.number = ap (λ (z : PinAnswer). z.reader) is in
      let ec : c ≡ channel = ap (λ (z : PinAnswer). z.channel) is in
      let word : w ≡ pin.root + 1 = rule.pins r c lr lc ∙ ((λ i. total (pass_sum (pin_amount (er i) (ec i))) state.views)
      ∙ (pin-only state rule seat view hold there behind channel ∙ ap pin_word e)) in
      let root : pinned_root w ≡ Some pin.root = ap pinned_root word ∙ root-of-word pin.root in
      inl (subst (λ (z : PinAnswer). Contains (a.pin_scan ++ new ∷ []) z) (λ i. pin_answer (er i) (ec i) (root i))
      (Contains-push a.pin_scan new)))
      (Contains-push_cases a.pin_scan new (pin_answer hold.notes.number channel met.0) met.1))

  -- the pin word of a settled reader is that of its pin; while all are settled, each reader is
  pin_exact : (state : TableState) (rule : RegisterRule key state) (id r c : ℕ)
      → get_elem? state.views id ≡ some (Writer rule.account) → r < key.sizes.readers → c < key.sizes.channels
      → ((hold : Hold) → IsSettledReader rule.account r hold
      → get_or state.words (pin_at key.sizes r c) 0 ≡ pin_word (pin_of hold.notes c))
      × (AreAllSettled rule.account → (hold : Hold) × IsSettledReader rule.account r hold)
  pin_exact state rule id r c at lr lc = (
    λ hold s. rule.pins r c lr lc ∙ ((λ i. total (pass_sum (pin_amount (sym s.1 i) c)) state.views)
        ∙ pin-only state rule id (Writer rule.account) hold at s.0 c),
    λ all.
        let n : rule.account.sizes.readers ≡ key.sizes.readers = ap (λ (z : Sizes). z.readers) rule.told in
        let o = total-one rule.account.settled in
        let few = rule.count in
        let l = at-le (pass_sum one) state.views id (Writer rule.account) at in
        let there : bit (nat_lt r rule.account.given) ≡ 1 = ap bit (lt-ltb r rule.account.given (omega arith)) in
        let sum = settled-all key state rule id at all (has_number r) in
        let num = rule.numbers r in
        let it = one_counts (has_number r) rule.account.settled (omega arith) in
        (it.0, (it.1, true-eqb (it.0).notes.number r (sym (bit-true ((it.0).notes.number == r) it.2)))),
  )

  pub pin_scans : (slots id r c : ℕ) (me : SeatView) → me.0 ≡ Writer (account_of me.0)
      → SlotsAreMet (account_of me.0).sizes (account_of me.0) → r < (account_of me.0).sizes.readers → c < (account_of me.0).sizes.channels
      → Allows (RegisterRule key) slots id me (pin_at (account_of me.0).sizes r c) (λ n. n)
      (IsPinScan (step slots (pin_at (account_of me.0).sizes r c) 0 0 none) me)
  pin_scans slots id r c me is met lr lc state rule deep at small =
      let e : Account = account_of me.0 in
      let at' : get_elem? state.views id ≡ some (Writer e) = at ∙ ap some is in
      let same : (e ≡ rule.account) × (id ≡ rule.writer) = rule.each_seat id (Writer e) at' in
      let sizes : e.sizes ≡ key.sizes = ap (λ (z : Account). z.sizes) same.0 ∙ rule.told in
      let i : ℕ = pin_at e.sizes r c in
      let w : ℕ = get_or state.words i 0 in
      let R : Account → Type 0 = λ z. get_elem? state.views id ≡ some (Writer z) → SlotsAreMet key.sizes z
      → RegisterRule key record {
        words = state.words;
        homes = state.homes;
        views = set state.views id (Writer (after_pin_scan z r c (get_or state.words (pin_at key.sizes r c) 0)));
      } in
      let F : Sizes → Type 0 = λ z. r < z.readers → c < z.channels → SlotsAreMet z e
      → RegisterRule key record {
        words = state.words;
        homes = state.homes;
        views = set state.views id (Writer (after_pin_scan e r c (get_or state.words (pin_at z r c) 0)));
      } ×
      (get_or state.words (pin_at z r c) 0 ≤ 65536) in
      let did = subst F (sym sizes) (λ l m s. (
        subst R (sym same.0) (λ t q. pin_scanned_at state rule id r c t same.1 q l m) at' s,
        pin-small state rule r c l m,
      )) lr lc met in
      let G : Sizes × Account → Type 0 = λ z. get_elem? state.views id ≡ some (Writer z.1) → r < z.0.readers → c < z.0.channels
      → ((hold : Hold) → IsSettledReader z.1 r hold → get_or state.words (pin_at z.0 r c) 0 ≡ pin_word (pin_of hold.notes c))
      × (AreAllSettled z.1 → (hold : Hold) × IsSettledReader z.1 r hold) in
      let exact = subst G (λ j. (sym sizes j, sym same.0 j)) (λ t l m. pin_exact state rule id r c t l m) at' lr lc in (
        Writer (after_pin_scan e r c w),
        keeps,
        tt,
        subst (λ (words : List ℕ). RegisterRule key record {
          words = words;
          homes = state.homes;
          views = set state.views id (Writer (after_pin_scan e r c w));
        }) (sym (set-get_or state.words i 0)) did.0,
        λ r2 c2 l2 x. let one = same_pin r r2 c c2 e.sizes.channels lc l2 (row e.sizes r c r2 c2 x) in (
          (λ j. (Writer (after_pin_scan e (one.0 j) (one.1 j) w), me.1)),
          did.1,
          subst (λ (z : ℕ × ℕ). (hold : Hold) → IsSettledReader e z.0 hold → w ≡ pin_word (pin_of hold.notes z.1))
              (λ j. (one.0 j, one.1 j)) exact.0,
          subst (λ (k : ℕ). AreAllSettled e → (hold : Hold) × IsSettledReader e k hold) one.0 exact.1,
        ),
      )
    where
      row : (z : Sizes) (r c r2 c2 : ℕ) → pin_at z r c ≡ pin_at z r2 c2 → r * z.channels + c ≡ r2 * z.channels + c2
      row z r c r2 c2 e = let p : ℕ = r * z.channels in let q : ℕ = r2 * z.channels in
          let e' : z.readers + 3 + (p + c) ≡ z.readers + 3 + (q + c2) = e in let f : p + c ≡ q + c2 = omega arith in f
