-- Seats that are cut in two, and seats that are joined, keep the rule.
use Rattle.std.proofs.Common.{◌≡◌, ◌≢◌, ◌⊎◌, inl, inr, ℕ, zero, suc, ◌+◌, ◌≤◌, true, false, List, [], ◌∷◌, ◌++◌, length, drop, get_or, set, slice_get, sym, refl, ap, ◌∙◌, subst, ⊎_elim, arith, All, IsSome}
use Rattle.std.proofs.lemmas.List.Elements.{All-cons, All-head, All-tail}
use Rattle.std.specs.List.{Contains}
use mathlib.Core.Option.{none, some}
use lib.ListN.{get_elem?}
use lib.Seq.{set-get_or}
use Rattle.atomic_table.specs.Table.{step, keeps, Allows, Splits, Joins}
use Rattle.atomic_table.proofs.Lists.{at_set, at_snoc, set_else}
use Rattle.ft_shared.specs.declared.law.Sizes.{Sizes}
use Rattle.ft_shared.specs.declared.law.Opening.{Opening}
use Rattle.ft_shared.specs.declared.law.WordStep.{WordStep}
use Rattle.ft_shared.specs.declared.law.Hold.{Hold}
use Rattle.ft_shared.specs.declared.law.Account.{Account}
use Rattle.ft_shared.specs.declared.law.ToldVersion.{ToldVersion}
use Rattle.ft_shared.specs.declared.law.View.{View}
use Rattle.ft_shared.specs.declared.law.View.TheVariants.{Spent, Reader, Writer, Told}
use Rattle.ft_shared.specs.Layout.{current_word, version_in}
use Rattle.ft_shared.specs.Counts.{total, pass_sum, one, has_number, grip_of, holders, IsBehind, pin_amount}
use Rattle.ft_shared.specs.Account.{hold_of, account_of, told_of, after_note_made, after_join, after_learning, last_settled}
use Rattle.ft_shared.specs.History.{Agrees, AreSound}
use Rattle.ft_shared.specs.Segments.{IsHoldUnwritten, KeepsHeld, ArePinsScanned}
use Rattle.ft_shared.specs.Register.{TableState, SeatView, PassRule, Fits, RegisterRule}
use Rattle.ft_shared.specs.Plays.{after_making, made_note, after_hear, heard, IsLearning, joined, after_giving_back, resumed_hold, first_back, given_back}
use Rattle.ft_shared.proofs.Sums.{total-set, total-append, at-le}
use Rattle.ft_shared.proofs.Segments.{is_there, keeps_held, segments_still, segments_passes}
use Rattle.ft_shared.proofs.Exact.{total-one}
use Rattle.ft_shared.proofs.Readers.{fewer, version-now}
use Rattle.ft_shared.proofs.Writes.{stands_still, seats_still, sum_still, scan_at}

-- The pass is behind a seat
record Seated (views : List View) (hold : Hold) : Type 0 where
  pub seat : ℕ
  pub view : View
  pub at : get_elem? views seat ≡ some view
  pub behind : IsBehind view hold

-- a pass that has seen another version, or made other steps
abbrev seen_else : Hold → ℕ → List WordStep → Hold
seen_else hold seen steps = record hold { notes = record hold.notes { seen = seen; steps = steps } }

-- The pass was behind a seat, but for what it has seen and for its steps
record Was (views : List View) (hold : Hold) : Type 0 where
  pub old : Hold
  pub seen : ℕ
  pub steps : List WordStep
  pub seated : Seated views old
  pub is : seen_else old seen steps ≡ hold

-- An amount doesn't see which version a pass has seen, nor its steps
abbrev SeesElse : (Hold → ℕ) → Type 0
SeesElse amount = (hold : Hold) (seen : ℕ) (steps : List WordStep) → amount (seen_else hold seen steps) ≡ amount hold

-- A pass is what it was
was_seated : (views : List View) (hold : Hold) → Seated views hold → Was views hold
was_seated views hold seated = record { old = hold; seen = hold.notes.seen; steps = hold.notes.steps; seated = seated; is = refl }

contains-cons : {A : Type 0} (x : A) (l : List A) (y : A) → Contains (x ∷ l) y → (x ≡ y) ⊎ Contains l y
contains-cons x l y (zero, less, is) = inl is
contains-cons x l y (suc n, less, is) = inr (n, omega arith, is)

contains-more : {A : Type 0} (x : A) (l : List A) (y : A) → Contains l y → Contains (x ∷ l) y
contains-more x l y c = let less = c.1 in (suc c.0, omega arith, c.2)

none-last : (a : Account) → a.settled ≡ [] → IsSome (last_settled a) → ⊥
none-last a has more = no (sym more ∙ ap (λ (l : List Hold). is_there (slice_get l 0)) has)
  where
    no : true ≡ false → ⊥
    no e = cc

module _ (key : Opening) where
  -- seats are cut or joined: behind them are the passes that were behind them before, settled or not
  regrouped : (state : TableState) (rule : RegisterRule key state) (settled : List Hold) (steps : List WordStep) (views : List View)
      → ((f : Hold → ℕ) → SeesElse f → total (pass_sum f) views ≡ total (pass_sum f) state.views)
      → ((hold : Hold) → Seated views hold → Was state.views hold)
      → All (PassRule key rule.account) settled
      → ((seat : ℕ) (view : View) → get_elem? views seat ≡ some view
      → Fits key (record rule.account { settled = settled; steps = steps }) rule.writer seat view)
      → RegisterRule key record { words = state.words; homes = state.homes; views = views }
  regrouped state rule settled steps views sums was stand seats =
      let a : Account = rule.account in
      let b : Account = record a { settled = settled; steps = steps } in
      let same : (k : ℕ) → holders k views ≡ holders k state.views = λ k. sums (grip_of k) (λ h n s. refl) in
      record {
        writer = rule.writer;
        account = b;
        few = rule.few;
        told = rule.told;
        wide = rule.wide;
        deep = rule.deep;
        ranges = rule.ranges;
        current = rule.current ∙ ap (current_word a.version a.slot a.root) (sym (same a.slot));
        bears = rule.bears;
        history = rule.history;
        fresh = rule.fresh;
        leavers = λ k l ne. rule.leavers k l ne ∙ ap (λ (n : ℕ). get_or state.words (k + 1) 0 + n) (sym (same k));
        starts = rule.starts;
        unused = λ k e. let u = rule.unused k e in (u.0, same k ∙ u.1);
        scanned = λ t. fewer key state rule views (λ k ne. let e = same k in omega arith) t;
        count = (sums one (λ h n s. refl) ∙ rule.count.0, rule.count.1);
        numbers = λ n. sums (has_number n) (λ h m s. refl) ∙ rule.numbers n;
        pins = λ r c lr lc. rule.pins r c lr lc ∙ sym (sums (pin_amount r c) (λ h n s. refl));
        stored = rule.stored;
        segments = segments_passes key.sizes state.views views b
            (λ seat view hold at behind.
            let w = was hold (record { seat = seat; view = view; at = at; behind = behind }) in
            subst (ArePinsScanned b) w.is (rule.segments.scanned w.seated.seat w.seated.view w.old w.seated.at w.seated.behind))
            (λ seat view hold at behind.
            let w = was hold (record { seat = seat; view = view; at = at; behind = behind }) in
            let k = rule.segments.kept w.seated.seat w.seated.view w.old w.seated.at w.seated.behind in
            subst (IsHoldUnwritten b) w.is (record {
              held = k.held;
              wide = k.wide;
              pins = λ c pin e. let p = k.pins c pin e in record { small = p.small; known = p.known; unwritten = p.unwritten };
            }))
            (segments_still key.sizes state.views a b refl refl refl refl refl (λ k. refl) rule.segments.answers rule.segments.answered
            rule.segments.order rule.segments.scanned rule.segments);
        settled = λ i x l. stands_still key a b (get_or settled i x) refl (λ k. refl) refl (stand i x l);
        each_seat = seats;
      }

  -- the passes behind the seats, where the writer's account changes in all but the settled ones
  seated_still : (views : List View) (id : ℕ) (a b : Account) → get_elem? views id ≡ some (Writer a) → b.settled ≡ a.settled
      → (hold : Hold) → Seated (set views id (Writer b)) hold → Seated views hold
  seated_still views id a b at same hold s = ⊎_elim
      (λ (t : (s.seat ≡ id) × (Writer b ≡ s.view)). record {
        seat = id;
        view = Writer a;
        at = at;
        behind = subst (λ (l : List Hold). Contains l hold) same (subst (λ (v : View). IsBehind v hold) (sym t.1) s.behind);
      })
      (λ (t : (s.seat ≢ id) × (get_elem? views s.seat ≡ some s.view)). record {
        seat = s.seat;
        view = s.view;
        at = t.1;
        behind = s.behind;
      })
      (at_set views id s.seat (Writer b) s.view s.at)

  -- ---- notes

  noted_at : (state : TableState) (rule : RegisterRule key state) (id : ℕ) → get_elem? state.views id ≡ some (Writer rule.account)
      → id ≡ rule.writer
      → RegisterRule key record {
        words = state.words;
        homes = state.homes;
        views = set state.views id (Writer (after_note_made rule.account)) ++ Told
            (record { sizes = rule.account.sizes; version = rule.account.version }) ∷ [];
      }
  noted_at state rule id at writes =
      let a : Account = rule.account in
      let b : Account = after_note_made a in
      let t : ToldVersion = record { sizes = a.sizes; version = a.version } in
      let mid : List View = set state.views id (Writer b) in
      regrouped state rule a.settled b.steps (mid ++ Told t ∷ [])
      (λ f still. let x = total-append (pass_sum f) mid (Told t ∷ []) in let y = sum_still key state id a b at refl f in omega arith)
      (λ hold s. ⊎_elim
      (λ (e : get_elem? mid s.seat ≡ some s.view). was_seated state.views hold (seated_still state.views id a b at refl hold
      (record { seat = s.seat; view = s.view; at = e; behind = s.behind })))
      (λ (e : Told t ≡ s.view). absurd (subst (λ (v : View). IsBehind v hold) (sym e) s.behind))
      (at_snoc mid (Told t) s.view s.seat s.at))
      rule.settled
      (λ j v e. ⊎_elim (λ (u : get_elem? mid j ≡ some v). seats_still key state rule id writes b refl (λ k. refl) refl j v u)
      (λ (u : Told t ≡ v). subst (Fits key b rule.writer j) u (record { sizes = rule.told; past = omega arith }))
      (at_snoc mid (Told t) v j e))

  -- the writer's seat gives a note a seat
  pub makes_note : (id : ℕ) (v : View) → v ≡ Writer (account_of v) → Splits (RegisterRule key) id v (after_making v) (made_note v)
  makes_note id v is = subst (λ (w : View). Splits (RegisterRule key) id w (after_making w) (made_note w)) (sym is) (one (account_of v))
    where
      one : (e : Account) → Splits (RegisterRule key) id (Writer e) (after_making (Writer e)) (made_note (Writer e))
      one e state rule at =
          let same : (e ≡ rule.account) × (id ≡ rule.writer) = rule.each_seat id (Writer e) at in
          subst (λ (y : Account). get_elem? state.views id ≡ some (Writer y)
          → RegisterRule key record {
            words = state.words;
            homes = state.homes;
            views = set state.views id (Writer (after_note_made y)) ++ Told (record { sizes = y.sizes; version = y.version }) ∷ [];
          })
          (sym same.0) (λ t. noted_at state rule id t same.1) at

  -- a reader's seat takes in that of a note
  hears_one : (id other : ℕ) (h : Hold) (t : ToldVersion)
      → Joins (RegisterRule key) id (Reader h) other (Told t) (Reader (after_hear h t.version)) Spent
  hears_one id other h t state rule at apart there =
      let a : Account = rule.account in
      let h' : Hold = after_hear h t.version in
      let mid : List View = set state.views id (Reader h') in
      let was : get_elem? state.views other ≡ some (Told t) = sym (set_else state.views id other (Reader h') apart) ∙ there in
      let mine = rule.each_seat id (Reader h) at in
      let note = rule.each_seat other (Told t) was in
      let seen : h.notes.seen ≤ a.version = mine.past in
      let told : t.version ≤ a.version = note.past in
      let stands : PassRule key a h' = record {
        told = mine.told;
        past = omega arith;
        recent = mine.recent;
        borne = mine.borne;
        agrees = record { looks = mine.agrees.looks; takes = mine.agrees.takes; held = mine.agrees.held; reads = mine.agrees.reads };
      } in
      regrouped state rule a.settled a.steps (set mid other Spent)
      (λ f still. let x = total-set (pass_sum f) state.views id (Reader h) (Reader h') at in
      let y = total-set (pass_sum f) mid other (Told t) Spent there in
      let z : f h' ≡ f h = still h h'.notes.seen h'.notes.steps in omega arith)
      (λ hold s. ⊎_elim (λ (e : (s.seat ≡ other) × (Spent ≡ s.view)). absurd (subst (λ (v : View). IsBehind v hold) (sym e.1) s.behind))
      (λ (e : (s.seat ≢ other) × (get_elem? mid s.seat ≡ some s.view)). ⊎_elim
      (λ (u : (s.seat ≡ id) × (Reader h' ≡ s.view)). record {
        old = h;
        seen = h'.notes.seen;
        steps = h'.notes.steps;
        seated = record { seat = id; view = Reader h; at = at; behind = refl };
        is = subst (λ (v : View). IsBehind v hold) (sym u.1) s.behind;
      })
      (λ (u : (s.seat ≢ id) × (get_elem? state.views s.seat ≡ some s.view)). was_seated state.views hold
      (record { seat = s.seat; view = s.view; at = u.1; behind = s.behind }))
      (at_set state.views id s.seat (Reader h') s.view e.1))
      (at_set mid other s.seat Spent s.view s.at))
      rule.settled
      (λ j v e. ⊎_elim (λ (u : (j ≡ other) × (Spent ≡ v)). subst (Fits key a rule.writer j) u.1 tt)
      (λ (u : (j ≢ other) × (get_elem? mid j ≡ some v)). ⊎_elim
      (λ (w : (j ≡ id) × (Reader h' ≡ v)). subst (Fits key a rule.writer j) w.1 stands)
      (λ (w : (j ≢ id) × (get_elem? state.views j ≡ some v)). rule.each_seat j v w.1) (at_set state.views id j (Reader h') v u.1))
      (at_set mid other j Spent v e))

  pub hears : (id other : ℕ) (v w : View) → v ≡ Reader (hold_of v) → w ≡ Told (told_of w)
      → Joins (RegisterRule key) id v other w (heard v w) Spent
  hears id other v w a b = subst (λ (z : View × View). Joins (RegisterRule key) id z.0 other z.1 (heard z.0 z.1) Spent)
      (λ i. (sym a i, sym b i)) (hears_one id other (hold_of v) (told_of w))

  -- ---- settled passes

  -- the writer's seat takes in that of a reader
  settled_at : (state : TableState) (rule : RegisterRule key state) (id other : ℕ) (h : Hold)
      → get_elem? state.views id ≡ some (Writer rule.account) → id ≡ rule.writer → (other ≡ id → ⊥)
      → get_elem? (set state.views id (Writer (after_join rule.account h))) other ≡ some (Reader h)
      → RegisterRule key record {
        words = state.words;
        homes = state.homes;
        views = set (set state.views id (Writer (after_join rule.account h))) other Spent;
      }
  settled_at state rule id other h at writes apart there =
      let a : Account = rule.account in
      let b : Account = after_join a h in
      let mid : List View = set state.views id (Writer b) in
      let was : get_elem? state.views other ≡ some (Reader h) = sym (set_else state.views id other (Writer b) apart) ∙ there in
      let mine : PassRule key a h = rule.each_seat other (Reader h) was in
      regrouped state rule b.settled b.steps (set mid other Spent)
      (λ f still. let x = total-set (pass_sum f) state.views id (Writer a) (Writer b) at in
      let y = total-set (pass_sum f) mid other (Reader h) Spent there in omega arith)
      (λ hold s. ⊎_elim (λ (e : (s.seat ≡ other) × (Spent ≡ s.view)). absurd (subst (λ (v : View). IsBehind v hold) (sym e.1) s.behind))
      (λ (e : (s.seat ≢ other) × (get_elem? mid s.seat ≡ some s.view)). ⊎_elim
      (λ (u : (s.seat ≡ id) × (Writer b ≡ s.view)). ⊎_elim
      (λ (t : h ≡ hold). was_seated state.views hold (record { seat = other; view = Reader h; at = was; behind = t }))
      (λ (t : Contains a.settled hold). was_seated state.views hold (record { seat = id; view = Writer a; at = at; behind = t }))
      (contains-cons h a.settled hold (subst (λ (v : View). IsBehind v hold) (sym u.1) s.behind)))
      (λ (u : (s.seat ≢ id) × (get_elem? state.views s.seat ≡ some s.view)). was_seated state.views hold
      (record { seat = s.seat; view = s.view; at = u.1; behind = s.behind }))
      (at_set state.views id s.seat (Writer b) s.view e.1))
      (at_set mid other s.seat Spent s.view s.at))
      (All-cons (PassRule key a) h a.settled mine rule.settled)
      (λ j v e. ⊎_elim (λ (u : (j ≡ other) × (Spent ≡ v)). subst (Fits key b rule.writer j) u.1 tt)
      (λ (u : (j ≢ other) × (get_elem? mid j ≡ some v)). seats_still key state rule id writes b refl (λ k. refl) refl j v u.1)
      (at_set mid other j Spent v e))

  settles_one : (id other : ℕ) (e : Account) (h : Hold)
      → Joins (RegisterRule key) id (Writer e) other (Reader h) (Writer (after_join e h)) Spent
  settles_one id other e h state rule at apart there =
      let same : (e ≡ rule.account) × (id ≡ rule.writer) = rule.each_seat id (Writer e) at in
      subst (λ (y : Account). get_elem? state.views id ≡ some (Writer y)
      → get_elem? (set state.views id (Writer (after_join y h))) other ≡ some (Reader h)
      → RegisterRule key record {
        words = state.words;
        homes = state.homes;
        views = set (set state.views id (Writer (after_join y h))) other Spent;
      })
      (sym same.0) (λ t u. settled_at state rule id other h t same.1 apart u) at there

  pub settles : (id other : ℕ) (v w : View) (h : Hold) → v ≡ Writer (account_of v) → w ≡ Reader h
      → Joins (RegisterRule key) id v other w (joined v w) Spent
  settles id other v w h a b = subst (λ (z : View × View). Joins (RegisterRule key) id z.0 other z.1 (joined z.0 z.1) Spent)
      (λ i. (sym a i, sym b i)) (settles_one id other (account_of v) h)

  -- the writer learns of the settled passes
  pub learns : (slots id : ℕ) (me : SeatView) → me.0 ≡ Writer (account_of me.0)
      → Allows (RegisterRule key) slots id me 0 (λ n. n) (IsLearning (step slots 0 0 0 none) me)
  learns slots id me is state rule deep at small =
      let e : Account = account_of me.0 in
      let at' : get_elem? state.views id ≡ some (Writer e) = at ∙ ap some is in
      let same : (e ≡ rule.account) × (id ≡ rule.writer) = rule.each_seat id (Writer e) at' in
      let now : version_in (get_or state.words 0 0) ≡ e.version = version-now key state rule
      ∙ ap (λ (z : Account). z.version) (sym same.0) in
      let few : length e.settled ≤ 8 = let x = at-le (pass_sum one) state.views id (Writer e) at' in let y = rule.count in
      let z = rule.few in let n = total-one e.settled in omega arith in (
        Writer (after_learning e),
        keeps,
        tt,
        subst (λ (words : List ℕ). RegisterRule key record {
          words = words;
          homes = state.homes;
          views = set state.views id (Writer (after_learning e));
        }) (sym (set-get_or state.words 0 0))
            (subst (λ (z : Account). get_elem? state.views id ≡ some (Writer z)
            → RegisterRule key record {
              words = state.words;
              homes = state.homes;
              views = set state.views id (Writer (after_learning z));
            })
            (sym same.0)
            (λ t. scan_at key state rule id (after_learning rule.account) t same.1 refl rule.deep (λ k. refl)
            (λ k. refl) rule.unused rule.scanned rule.segments.answers rule.segments.answered rule.segments.order
            rule.segments.scanned) at'),
        (
          refl,
          now,
          subst (λ (z : Account). All (λ (h : Hold). Agrees z.history h.notes) z.settled) (sym same.0)
              (λ i x l. (rule.settled i x l).agrees),
          few,
          refl,
          subst (λ (z : Account). AreSound z.sizes.segments z.history) (sym same.0)
              (subst (λ (z : Sizes). AreSound z.segments rule.account.history) (sym rule.told) rule.segments.sound),
          subst KeepsHeld (sym same.0)
              (keeps_held key.sizes state.views rule.account id (at' ∙ ap (λ (z : Account). some (Writer z)) same.0) rule.segments),
        ),
      )

  -- the writer's seat gives back that which it took in last
  resumed_at : (state : TableState) (rule : RegisterRule key state) (id : ℕ) (h : Hold) (hs : List Hold)
      → get_elem? state.views id ≡ some (Writer rule.account) → id ≡ rule.writer → rule.account.settled ≡ h ∷ hs
      → RegisterRule key record {
        words = state.words;
        homes = state.homes;
        views = set state.views id (Writer (record (after_note_made rule.account) { settled = hs })) ++ Reader
            (resumed_hold h rule.account.version) ∷ [];
      }
  resumed_at state rule id h hs at writes has =
      let a : Account = rule.account in
      let b : Account = record (after_note_made a) { settled = hs } in
      let h' : Hold = resumed_hold h a.version in
      let mid : List View = set state.views id (Writer b) in
      let all : All (PassRule key a) (h ∷ hs) = subst (All (PassRule key a)) has rule.settled in
      let mine : PassRule key a h = All-head (PassRule key a) h hs all in
      let seen : h.notes.seen ≤ a.version = mine.past in
      let stands : PassRule key b h' = record {
        told = mine.told;
        past = omega arith;
        recent = mine.recent;
        borne = mine.borne;
        agrees = record { looks = mine.agrees.looks; takes = mine.agrees.takes; held = mine.agrees.held; reads = mine.agrees.reads };
      } in
      let old : (hold : Hold) → Contains (h ∷ hs) hold → Seated state.views hold = λ hold c. record {
        seat = id;
        view = Writer a;
        at = at;
        behind = subst (λ (l : List Hold). Contains l hold) (sym has) c;
      } in
      regrouped state rule hs b.steps (mid ++ Reader h' ∷ [])
      (λ f still. let x = total-append (pass_sum f) mid (Reader h' ∷ []) in
      let y = total-set (pass_sum f) state.views id (Writer a) (Writer b) at in
      let z : total f a.settled ≡ f h + total f hs = ap (total f) has in
      let w : f h' ≡ f h = still h h'.notes.seen h'.notes.steps in omega arith)
      (λ hold s. ⊎_elim
      (λ (e : get_elem? mid s.seat ≡ some s.view). ⊎_elim
      (λ (u : (s.seat ≡ id) × (Writer b ≡ s.view)). was_seated state.views hold (old hold
      (contains-more h hs hold (subst (λ (v : View). IsBehind v hold) (sym u.1) s.behind))))
      (λ (u : (s.seat ≢ id) × (get_elem? state.views s.seat ≡ some s.view)). was_seated state.views hold
      (record { seat = s.seat; view = s.view; at = u.1; behind = s.behind }))
      (at_set state.views id s.seat (Writer b) s.view e))
      (λ (e : Reader h' ≡ s.view). record {
        old = h;
        seen = h'.notes.seen;
        steps = h'.notes.steps;
        seated = old h (0, omega arith, refl);
        is = subst (λ (v : View). IsBehind v hold) (sym e) s.behind;
      })
      (at_snoc mid (Reader h') s.view s.seat s.at))
      (All-tail (PassRule key a) h hs all)
      (λ j v e. ⊎_elim (λ (u : get_elem? mid j ≡ some v). seats_still key state rule id writes b refl (λ k. refl) refl j v u)
      (λ (u : Reader h' ≡ v). subst (Fits key b rule.writer j) u stands)
      (at_snoc mid (Reader h') v j e))

  pub resumes : (id : ℕ) (v : View) → v ≡ Writer (account_of v) → IsSome (last_settled (account_of v))
      → Splits (RegisterRule key) id v (after_giving_back v) (given_back v)
  resumes id v is more = subst (λ (w : View). Splits (RegisterRule key) id w (after_giving_back w) (given_back w)) (sym is)
      (one (account_of v) (account_of v).settled refl more)
    where
      one : (e : Account) (l : List Hold) → e.settled ≡ l → IsSome (last_settled e)
          → Splits (RegisterRule key) id (Writer e) (after_giving_back (Writer e)) (given_back (Writer e))
      one e [] has more state rule at = absurd (none-last e has more)
      one e (h ∷ hs) has more state rule at =
          let same : (e ≡ rule.account) × (id ≡ rule.writer) = rule.each_seat id (Writer e) at in
          subst (λ (l : List Hold). RegisterRule key record {
            words = state.words;
            homes = state.homes;
            views = set state.views id (Writer (record (after_note_made e) { settled = drop 1 l })) ++ first_back l e.version ∷ [];
          }) (sym has)
          (subst (λ (y : Account). get_elem? state.views id ≡ some (Writer y) → y.settled ≡ h ∷ hs
          → RegisterRule key record {
            words = state.words;
            homes = state.homes;
            views = set state.views id (Writer (record (after_note_made y) { settled = hs })) ++ Reader (resumed_hold h y.version) ∷ [];
          })
          (sym same.0) (λ t l. resumed_at state rule id h hs t same.1 l) at has)
