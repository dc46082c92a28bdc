-- The writer's steps on words of the pool keep the rule.
use Rattle.std.proofs.Common.{IsSomeAnd, ◌≡◌, ◌≢◌, ℕ, ◌+◌, ◌*◌, ◌<◌, List, length, get_or, set, sym, refl, ap, ◌∙◌, subst, inl, inr, arith, Option, slice_index_or, length-set, get_or-set_other, get_or-set_same}
use mathlib.Core.Option.{none, some}
use mathlib.Core.Logic.{dite}
use native.Mathlib.Decide.{ℕ_discrete}
use lib.ListN.{get_elem?}
use lib.Seq.{set-get_or}
use Rattle.atomic_table.specs.Table.{step, keeps, Allows}
use Rattle.ft_segments.specs.Packing.{word_at}
use Rattle.ft_segments.specs.Pins.{PinHolds}
use Rattle.ft_shared.specs.declared.law.Sizes.{Sizes}
use Rattle.ft_shared.specs.declared.law.Opening.{Opening}
use Rattle.ft_shared.specs.declared.law.PlacedVersion.{PlacedVersion}
use Rattle.ft_shared.specs.declared.law.Account.{Account}
use Rattle.ft_shared.specs.declared.law.View.{View}
use Rattle.ft_shared.specs.declared.law.View.TheVariants.{Writer}
use Rattle.ft_shared.specs.Layout.{current_word, segment_at}
use Rattle.ft_shared.specs.Counts.{one, has_number, grip_of, holders, pin_amount}
use Rattle.ft_shared.specs.History.{root_and_pool}
use Rattle.ft_shared.specs.Account.{account_of, MayFill, after_read, after_fill}
use Rattle.ft_shared.specs.Register.{TableState, SeatView, RegisterRule}
use Rattle.ft_shared.specs.Plays.{IsPoolRead, IsFill}
use Rattle.ft_shared.proofs.Sums.{pin_inside}
use Rattle.ft_shared.proofs.Segments.{segments_seat, segments_filled}
use Rattle.ft_shared.proofs.Readers.{fewer, same_place}
use Rattle.ft_shared.proofs.Found.{NamesHeld, finds_held_by}
use Rattle.ft_shared.proofs.Writes.{seats_still, sum_still, stands_still, scan_at}

module _ (key : Opening) where
  -- a segment that a whole scan did not find is filled
  filled_at : (state : TableState) (rule : RegisterRule key state) (id s place w : ℕ)
      → get_elem? state.views id ≡ some (Writer rule.account) → id ≡ rule.writer
      → NamesHeld → place < 256 → s < key.sizes.segments → MayFill key.sizes rule.account s
      → RegisterRule key record {
        words = set state.words (segment_at key.sizes s place) w;
        homes = state.homes;
        views = set state.views id (Writer (after_fill rule.account s place w));
      }
  filled_at state rule id s place w at writes names few inside may =
      let a : Account = rule.account in
      let b : Account = after_fill a s place w in
      let pins : ℕ = key.sizes.readers * key.sizes.channels in
      let n : ℕ = s * 256 + place in
      let i : ℕ = key.sizes.readers + 3 + pins + n in
      let views : List View = set state.views id (Writer b) in
      let wide : length state.words ≡ key.sizes.readers + 3 + pins + 256 * key.sizes.segments = rule.wide in
      let long = rule.stored.0 in
      let ranges = rule.ranges in
      let before : (j : ℕ) → j < key.sizes.readers + 3 + pins
      → get_or (set state.words i w) j 0 ≡ get_or state.words j 0 = λ j l. get_or-set_other state.words i j w 0 (λ e. omega arith) in
      let same : (k : ℕ) → holders k views ≡ holders k state.views = λ k. sum_still key state id a b at refl (grip_of k) in
      record {
        writer = rule.writer;
        account = b;
        few = rule.few;
        told = rule.told;
        wide = length-set state.words i w ∙ rule.wide;
        deep = rule.deep;
        ranges = rule.ranges;
        current = before 0 (omega arith) ∙ (rule.current ∙ ap (current_word a.version a.slot a.root) (sym (same a.slot)));
        bears = rule.bears;
        history = rule.history;
        fresh = before (a.slot + 1) (omega arith) ∙ rule.fresh;
        leavers = λ k l ne. let x = before (k + 1) (omega arith) in let y = same k in let z = rule.leavers k l ne in omega arith;
        starts = rule.starts;
        unused = λ k e. let u = rule.unused k e in (u.0, same k ∙ u.1);
        scanned = λ t. fewer key state rule views (λ k ne. let e = same k in omega arith) t;
        count = (sum_still key state id a b at refl one ∙ rule.count.0, rule.count.1);
        numbers = λ k. sum_still key state id a b at refl (has_number k) ∙ rule.numbers k;
        pins = λ r c lr lc. let q : ℕ = r * key.sizes.channels in
            let l : q + c < pins = pin_inside r key.sizes.readers c key.sizes.channels lr lc in
            before (key.sizes.readers + 3 + (q + c)) (omega arith)
            ∙ (rule.pins r c lr lc ∙ sym (sum_still key state id a b at refl (pin_amount r c)));
        stored = (
          length-set a.pool n w ∙ rule.stored.0,
          λ m. dite (ℕ_discrete m n)
              (λ (e : m ≡ n). subst (λ (j : ℕ). get_or (set state.words i w) (key.sizes.readers + 3 + pins + j) 0 ≡ get_or
              (set a.pool n w) j 0) (sym e)
              (get_or-set_same state.words i w 0 (omega arith) ∙ sym (get_or-set_same a.pool n w 0 (omega arith))))
              (λ (e : m ≢ n). get_or-set_other state.words i (key.sizes.readers + 3 + pins + m) w 0 (λ t. e (omega arith))
              ∙ (rule.stored.1 m ∙ sym (get_or-set_other a.pool n m w 0 e))),
        );
        segments = segments_seat key.sizes state.views a b id at refl
            (segments_filled key.sizes state.views a s place w few (λ of. may.1 (inl of))
            (λ v f of. may.1 (inr (inl (v, f, of))))
            (λ seat view hold there behind t e of. may.1 (finds_held_by key names state rule may.0 seat view hold there behind s
            (inl (t, e, of))))
            (λ seat view hold there behind channel pin e placed is holds. may.1
            (finds_held_by key names state rule may.0 seat view hold there behind s
            (inr (
              channel,
              pin,
              e,
              subst (λ (o : Option PlacedVersion). IsSomeAnd o (λ q. PinHolds (root_and_pool q) pin.root s))
                  (sym is) holds,
            )))) rule.segments);
        settled = λ j x e. stands_still key a b (slice_index_or a.settled j x) refl (λ k. refl) refl (rule.settled j x e);
        each_seat = seats_still key state rule id writes b refl (λ k. refl) refl;
      }

  pub fills : NamesHeld → (slots id s place w : ℕ) (me : SeatView) → me.0 ≡ Writer (account_of me.0) → place < 256
      → s < (account_of me.0).sizes.segments → MayFill (account_of me.0).sizes (account_of me.0) s
      → Allows (RegisterRule key) slots id me (segment_at (account_of me.0).sizes s place) (λ _. w)
      (λ _. IsFill (step slots (segment_at (account_of me.0).sizes s place) w 0 none) me w)
  fills names slots id s place w me is few inside may state rule deep at small =
      let e : Account = account_of me.0 in
      let at' : get_elem? state.views id ≡ some (Writer e) = at ∙ ap some is in
      let same : (e ≡ rule.account) × (id ≡ rule.writer) = rule.each_seat id (Writer e) at' in
      let R : Account → Type 0 = λ z. get_elem? state.views id ≡ some (Writer z) → s < z.sizes.segments → MayFill z.sizes z s
      → RegisterRule key record {
        words = set state.words (segment_at z.sizes s place) w;
        homes = state.homes;
        views = set state.views id (Writer (after_fill z s place w));
      } in
      let F : Sizes → Type 0 = λ z. s < z.segments → MayFill z rule.account s
      → RegisterRule key record {
        words = set state.words (segment_at z s place) w;
        homes = state.homes;
        views = set state.views id (Writer (after_fill rule.account s place w));
      } in (
        Writer (after_fill e s place w),
        keeps,
        tt,
        subst R (sym same.0) (λ t. subst F (sym rule.told)
            (λ l m. filled_at state rule id s place w t same.1 names few l m)) at' inside may,
        λ s2 place2 few2 x. let one = same_place e.sizes s place s2 place2 few few2 x in
            (λ j. (Writer (after_fill e (one.0 j) (one.1 j) w), me.1)),
      )

  -- the writer reads a word as it was last written
  pub pool_reads : (slots id s place : ℕ) (me : SeatView) → me.0 ≡ Writer (account_of me.0) → place < 256
      → Allows (RegisterRule key) slots id me (segment_at (account_of me.0).sizes s place) (λ n. n)
      (IsPoolRead (step slots (segment_at (account_of me.0).sizes s place) 0 0 none) me)
  pool_reads slots id s place me is few state rule deep at small =
      let e : Account = account_of me.0 in
      let at' : get_elem? state.views id ≡ some (Writer e) = at ∙ ap some is in
      let same : (e ≡ rule.account) × (id ≡ rule.writer) = rule.each_seat id (Writer e) at' in
      let i : ℕ = segment_at e.sizes s place in
      let w : ℕ = get_or state.words i 0 in
      let sizes : e.sizes ≡ key.sizes = ap (λ (z : Account). z.sizes) same.0 ∙ rule.told in
      let found : w ≡ word_at e.pool s place = ap (λ (z : Sizes). get_or state.words (segment_at z s place) 0) sizes
      ∙ (rule.stored.1 (s * 256 + place) ∙ ap (λ (z : Account). word_at z.pool s place) (sym same.0)) in
      let R : Account → Type 0 = λ z. get_elem? state.views id ≡ some (Writer z)
      → RegisterRule key record {
        words = state.words;
        homes = state.homes;
        views = set state.views id (Writer (after_read z s place));
      } in (
        Writer (after_read e s place),
        keeps,
        tt,
        subst (λ (words : List ℕ). RegisterRule key record {
          words = words;
          homes = state.homes;
          views = set state.views id (Writer (after_read e s place));
        }) (sym (set-get_or state.words i 0))
            (subst R (sym same.0) (λ t. scan_at key state rule id (after_read rule.account s place) t same.1 refl rule.deep (λ k. refl)
            (λ k. refl) rule.unused rule.scanned rule.segments.answers rule.segments.answered rule.segments.order rule.segments.scanned) at'),
        λ s2 place2 few2 x. let one = same_place e.sizes s place s2 place2 few few2 x in
            ((λ j. (Writer (after_read e (one.0 j) (one.1 j)), me.1)), (found ∙ (λ j. word_at e.pool (one.0 j) (one.1 j)))),
      )
