use Rattle.std.proofs.Common.{◌∷◌, ◌++◌, Some, IsNone, rules, ap, ◌∙◌, ◌≡◌, ◌≢◌, ◌≤◌, ◌+◌, ◌*◌, ℕ, true, false, List, length, set, slice_index_or, subst, sym, refl, arith, get_or-set_same, length-set, []}
use mathlib.Core.Option.{none}
use Rattle.atomic_table.specs.Table.{Allows, step}
use Rattle.ft_segments.specs.Walk.{IsSound, walk}
use Rattle.ft_shared.specs.declared.law.Sizes.{Sizes}
use Rattle.ft_shared.specs.declared.law.Slot.{Slot}
use Rattle.ft_shared.specs.declared.law.Account.{Account}
use Rattle.ft_shared.specs.declared.law.View.TheVariants.{Writer}
use Rattle.ft_shared.specs.Layout.{current_word, count_in}
use Rattle.ft_shared.specs.declared.law.PlacedVersion.{PlacedVersion}
use Rattle.ft_shared.specs.History.{placed_at}
use Rattle.ft_shared.proofs.Segments.{placed_last}
use Rattle.ft_shared.specs.Account.{account_of, slot_at, no_slot, after_clear, after_publish, IsWhole}
use Rattle.ft_shared.specs.Plays.{IsPublish}
use Rattle.ft_shared.specs.Register.{RegisterRule}
use Rattle.ft_shared.proofs.Publish.{clears, publishes, a_free_slot, slots_published, seat_published, seated}
use Rattle.ft_shared.specs.Pass.{ArePassesKept}
use Rattle.ft_shared.proofs.shared.Shared.publish.Goals as goal

no : true ≡ false → ⊥
no e = cc

pub first_free-chosen-requires-clause-some : goal.first_free-chosen-requires-clause-some
first_free-chosen-requires-clause-some c =
    let w = c.pass.inside in
    let a = account_of w.place.me.0 in
    let sizes : a.sizes ≡ c.args.self.now.sizes = ap (λ b. b.register.sizes) c.pass.view_is ∙ ap (λ o. o.sizes) c.requires.same in
    let whole = subst (λ (z : Sizes × Account). IsWhole z.0 z.1)
    (λ i. (sym sizes i, sym (ap (λ b. b.account) c.pass.view_is) i)) c.requires.whole in
    let found = a_free_slot a w.readers (c.pass.invariant.whole whole.0) in
    let l = found.1 in
    (found.0, omega arith, ap (λ (ss : List Slot). (slice_index_or ss found.0 no_slot).free) (sym c.pass.invariant.slots) ∙ found.2)

pub store-requires : goal.store-requires
store-requires c =
    let w = c.pass.inside in
    let a = account_of w.place.me.0 in
    let key = c.self.inside.words.table.shared.key in
    let k = c.first_free-chosen.result in
    let chosen = c.first_free-chosen.ensures.free in
    let inside = chosen.0 in
    let sizes : a.sizes.readers ≡ c.args.self.now.sizes.readers = ap (λ b. b.register.sizes.readers) c.pass.view_is
    ∙ ap (λ o. o.sizes.readers) c.requires.same in
    let ours : key.sizes.readers ≡ c.args.self.now.sizes.readers = ap (λ o. o.sizes.readers) c.self.view_is in
    let readers = c.pass.invariant.readers in
    let pins : ℕ = key.sizes.readers * key.sizes.channels in
    let wide : c.self.inside.words.table.shared.table_id.words ≡ key.sizes.readers + 3 + pins + 256 * key.sizes.segments =
    c.self.invariant.0 in (
      search rules,
      omega arith,
      clears key c.self.inside.words.table.shared.table_id.slots w.place.id k w.place.me (ap (λ m. m.0) c.pass.invariant.seat) (omega arith)
          (ap (λ (ss : List Slot). (slice_index_or ss k no_slot).free) c.pass.invariant.slots ∙ chosen.1),
    )

pub swap-found-requires : goal.swap-found-requires
swap-found-requires c =
    let w = c.pass.inside in
    let a = account_of w.place.me.0 in
    let key = c.self.inside.words.table.shared.key in
    let slots = c.self.inside.words.table.shared.table_id.slots in
    let k = c.first_free-chosen.result in
    let chosen = c.first_free-chosen.ensures.free in
    let inside = chosen.0 in
    let deep : length a.slots ≡ 10 = ap length c.pass.invariant.slots ∙ c.pass.invariant.deep in
    let sizes : a.sizes.readers ≡ c.args.self.now.sizes.readers = ap (λ b. b.register.sizes.readers) c.pass.view_is
    ∙ ap (λ o. o.sizes.readers) c.requires.same in
    let ours : key.sizes.readers ≡ c.args.self.now.sizes.readers = ap (λ o. o.sizes.readers) c.self.view_is in
    let readers = c.pass.invariant.readers in
    let pins : ℕ = key.sizes.readers * key.sizes.channels in
    let wide : c.self.inside.words.table.shared.table_id.words ≡ key.sizes.readers + 3 + pins + 256 * key.sizes.segments =
    c.self.invariant.0 in
    let me = c.store.new.place.me in
    let now : me ≡ (Writer (after_clear a k), []) = (c.store.ensures.2 k refl).0
    ∙ ap (λ m. (Writer (after_clear a k), m.1)) c.pass.invariant.seat in
    let e : account_of me.0 ≡ after_clear a k = ap (λ m. account_of m.0) now in
    let bare : Slot = record (slot_at a k) { start = 0 } in
    let is : slot_at (account_of me.0) k ≡ bare = ap (λ (z : Account). slot_at z k) e
    ∙ get_or-set_same a.slots k bare no_slot (omega arith) in
    let free : (slot_at (account_of me.0) k).free ≡ true = ap (λ (z : Slot). z.free) is
    ∙ (ap (λ (ss : List Slot). (slice_index_or ss k no_slot).free) c.pass.invariant.slots ∙ chosen.1) in
    let start : (slot_at (account_of me.0) k).start ≡ 0 = ap (λ (z : Slot). z.start) is in
    let version : (account_of me.0).version ≡ a.version = ap (λ (z : Account). z.version) e in
    let mine = c.pass.invariant.version in
    let was : a.version ≡ c.args.pass.now.account.version = ap (λ b. b.account.version) c.pass.view_is in
    let room = c.requires.room in
    let fits = c.ranges.root.fits in
    let word : current_word ((account_of me.0).version + 1) k c.args.root 0 ≡
    (w.version + 1) * 4294967296 + k * 16777216 + c.args.root * 256 = omega arith in (
      search rules,
      omega arith,
      subst (λ (x : ℕ). Allows (RegisterRule key) slots c.store.new.place.id me 0 (λ _. x) (IsPublish (step slots 0 x 0 none) me)) word
          (publishes key slots c.store.new.place.id k c.args.root me (ap (λ m. m.0) (seated _ _ now)) (omega arith)
          (omega arith) free start (omega arith) (omega arith)
          (subst (λ (z : ℕ × List ℕ). IsSound z.0 (walk z.1 c.args.root))
          (λ i. (
            sym (ap (λ o. o.sizes.segments) c.self.view_is) i,
            sym (ap (λ (z : Account). z.pool) e ∙ ap (λ b. b.account.pool) c.pass.view_is) i,
          )) c.requires.sound)),
    )

pub invariant_of-pass : goal.invariant_of-pass
invariant_of-pass c =
    let w = c.pass.inside in
    let a = account_of w.place.me.0 in
    let k = c.first_free-chosen.result in
    let chosen = c.first_free-chosen.ensures.free in
    let inside = chosen.0 in
    let mid = c.store.new.place.me in
    let fin = c.swap-found.new.place.me in
    let readers = c.pass.invariant.readers in
    let version = c.pass.invariant.version in
    let now : mid ≡ (Writer (after_clear a k), []) = (c.store.ensures.2 k refl).0
    ∙ ap (λ m. (Writer (after_clear a k), m.1)) c.pass.invariant.seat in
    let word : (w.version + 1) * 4294967296 + k * 16777216 + c.args.root * 256 ≡ current_word
    (w.version + 1) k c.args.root 0 = omega arith in
    let done = seat_published a mid fin k c.args.root _ _ (w.version + 1) now c.swap-found.ensures.2.0 word
    (omega arith) c.ranges.root.fits in
    let e : account_of fin.0 ≡ after_publish (after_clear a k) k c.args.root _ = ap (λ m. account_of m.0) done in
    let apart : a.slot ≢ k = λ t. (c.store.ensures.2 k refl).1 (sym t) in
    let slots = c.pass.invariant.slots in
    let slot = c.pass.invariant.slot in
    record {
      seat = seated _ _ done;
      readers = (ap (λ (z : Account). z.sizes.readers) e ∙ readers.0, readers.1);
      version = ap (λ (z : Account). z.version) e ∙ ap (λ (v : ℕ). v + 1) version;
      slot = ap (λ (z : Account). z.slot) e;
      inside = inside;
      slots = ap (λ (z : Account). z.slots) e ∙ (slots_published a k c.args.root _ apart
          ∙ (λ i. set (set (slots i) (slot i) (record (slice_index_or (slots i)
          (slot i) no_slot) { start = count_in c.swap-found.result })) k (record { version = version i + 1; start = 0; free = false })));
      deep = length-set _ _ _ ∙ (length-set _ _ _ ∙ c.pass.invariant.deep);
      many = (ap (λ (z : Account). length z.settled) e ∙ c.pass.invariant.many.0, c.pass.invariant.many.1);
      room = c.pass.invariant.room;
      settled = subst (λ (z : Account). ArePassesKept z.sizes w.settled z.settled) (sym e) c.pass.invariant.settled;
      whole = λ met. absurd (no (sym met.0 ∙ ap (λ (z : Account). z.begun) e));
    }

pub returns-clause-published : goal.returns-clause-published
returns-clause-published c =
    let w = c.pass.inside in
    let a = account_of w.place.me.0 in
    let k = c.first_free-chosen.result in
    let chosen = c.first_free-chosen.ensures.free in
    let inside = chosen.0 in
    let mid = c.store.new.place.me in
    let fin = c.swap-found.new.place.me in
    let readers = c.pass.invariant.readers in
    let now : mid ≡ (Writer (after_clear a k), []) = (c.store.ensures.2 k refl).0
    ∙ ap (λ m. (Writer (after_clear a k), m.1)) c.pass.invariant.seat in
    let word : (w.version + 1) * 4294967296 + k * 16777216 + c.args.root * 256 ≡ current_word
    (w.version + 1) k c.args.root 0 = omega arith in
    let done = seat_published a mid fin k c.args.root _ _ (w.version + 1) now c.swap-found.ensures.2.0 word
    (omega arith) c.ranges.root.fits in
    let was : a ≡ c.args.pass.now.account = ap (λ b. b.account) c.pass.view_is in
    let sizes : a.sizes.readers ≡ c.args.self.now.sizes.readers = ap (λ b. b.register.sizes.readers) c.pass.view_is
    ∙ ap (λ o. o.sizes.readers) c.requires.same in
    let few : count_in c.swap-found.result ≤ (account_of mid.0).sizes.readers = c.swap-found.ensures.2.1 in
    let same : (account_of mid.0).sizes.readers ≡ a.sizes.readers = ap (λ m. (account_of m.0).sizes.readers) now in
    record {
      slot = k;
      count = count_in c.swap-found.result;
      inside = (omega arith, λ t. (c.store.ensures.2 k refl).1 (t ∙ ap (λ (z : Account). z.slot) (sym was)));
      free = ap (λ (z : Account). (slot_at z k).free) (sym was)
          ∙ (ap (λ (ss : List Slot). (slice_index_or ss k no_slot).free) c.pass.invariant.slots ∙ chosen.1);
      first = λ j less. ap (λ (z : Account). (slot_at z j).free) (sym was)
          ∙ (ap (λ (ss : List Slot). (slice_index_or ss j no_slot).free) c.pass.invariant.slots ∙ c.first_free-chosen.ensures.first j less);
      few = omega arith;
      made = ap (λ m. account_of m.0) done ∙ ap (λ (z : Account). after_publish (after_clear z k) k c.args.root
          (count_in c.swap-found.result)) was;
    }

pub returns-clause-placed : goal.returns-clause-placed
returns-clause-placed c =
    let w = c.pass.inside in
    let a = account_of w.place.me.0 in
    let k = c.first_free-chosen.result in
    let chosen = c.first_free-chosen.ensures.free in
    let inside = chosen.0 in
    let mid = c.store.new.place.me in
    let fin = c.swap-found.new.place.me in
    let readers = c.pass.invariant.readers in
    let version = c.pass.invariant.version in
    let now : mid ≡ (Writer (after_clear a k), []) = (c.store.ensures.2 k refl).0
    ∙ ap (λ m. (Writer (after_clear a k), m.1)) c.pass.invariant.seat in
    let e : account_of mid.0 ≡ after_clear a k = ap (λ m. account_of m.0) now in
    let none : IsNone (placed_at a.history (a.version + 1)) = subst
    (λ (z : Account). IsNone (placed_at z.history (z.version + 1))) e c.swap-found.ensures.2.2 in
    let word : (w.version + 1) * 4294967296 + k * 16777216 + c.args.root * 256 ≡ current_word
    (w.version + 1) k c.args.root 0 = omega arith in
    let done = seat_published a mid fin k c.args.root _ _ (w.version + 1) now c.swap-found.ensures.2.0 word
    (omega arith) c.ranges.root.fits in
    let p : PlacedVersion = record { version = a.version + 1; root = c.args.root; pool = a.pool } in
    let history : (account_of fin.0).history ≡ a.history ++ p ∷ [] = ap (λ m. (account_of m.0).history) done in
    let was : a ≡ c.args.pass.now.account = ap (λ b. b.account) c.pass.view_is in
    subst (λ (z : List PlacedVersion × ℕ × List ℕ). placed_at z.0 z.1 ≡ Some (record { version = z.1; root = c.args.root; pool = z.2 }))
    (λ i. (sym history i, version i + 1, (was i).pool)) (placed_last a.history p (a.version + 1) none refl)
