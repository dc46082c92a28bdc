use Rattle.std.proofs.Common.{rules, refl, ap, sym, ◌∙◌, ◌≡◌, ◌<◌, ℕ, subst}
use mathlib.Core.Option.{none}
use Rattle.atomic_table.specs.Table.{Allows, step}
use Rattle.ft_shared.specs.declared.law.Sizes.{Sizes}
use Rattle.ft_shared.specs.Counts.{pin_of, pin_word}
use Rattle.ft_shared.specs.declared.law.Hold.{Hold}
use Rattle.ft_shared.specs.declared.law.Account.{Account}
use Rattle.ft_shared.specs.declared.law.View.TheVariants.{Writer}
use Rattle.ft_shared.specs.Layout.{pin_at, word_count}
use Rattle.ft_shared.specs.Account.{account_of, SlotsAreMet, AreAllSettled, IsSettledReader, pinned_root, after_pin_scan}
use Rattle.ft_shared.specs.Plays.{IsPinScan}
use Rattle.ft_shared.specs.Register.{RegisterRule}
use Rattle.ft_shared.proofs.Pinned.{pin_scans}
use Rattle.ft_shared.proofs.Seats.{writer_still}
use Rattle.ft_shared.proofs.shared.Shared.scan_pin.Goals as goal

pub scan_load-pinned-requires : goal.scan_load-pinned-requires
scan_load-pinned-requires c =
    let w = c.pass.inside in
    let a = account_of w.place.me.0 in
    let key = c.self.inside.words.table.shared.key in
    let slots = c.self.inside.words.table.shared.table_id.slots in
    let sizes : a.sizes ≡ c.args.self.now.sizes = ap (λ b. b.register.sizes) c.pass.view_is ∙ ap (λ o. o.sizes) c.requires.same in
    let met : SlotsAreMet a.sizes a = subst (λ (z : Sizes × Account). SlotsAreMet z.0 z.1)
    (λ i. (sym sizes i, sym (ap (λ b. b.account) c.pass.view_is) i)) c.requires.slots in
    let word : pin_at a.sizes c.args.reader c.args.channel ≡ c.pin_word_of-word.result =
    ap (λ (z : Sizes). pin_at z c.args.reader c.args.channel) sizes ∙ sym c.pin_word_of-word.ensures.number in (
      search rules,
      subst (λ (n : ℕ). c.pin_word_of-word.result < n) (ap word_count (sym (ap (λ o. o.sizes) c.self.view_is))
          ∙ sym c.self.invariant.0) c.pin_word_of-word.ensures.inside,
      subst (λ (n : ℕ). Allows (RegisterRule key) slots w.place.id w.place.me n (λ x. x)
          (IsPinScan (step slots n 0 0 none) w.place.me)) word
          (pin_scans key slots w.place.id c.args.reader c.args.channel w.place.me (ap (λ m. m.0) c.pass.invariant.seat) met
          (subst (λ (z : Sizes). c.args.reader < z.readers) (sym sizes) c.requires.reader)
          (subst (λ (z : Sizes). c.args.channel < z.channels) (sym sizes) c.requires.channel)),
    )

pub root_in-requires : goal.root_in-requires
root_in-requires c =
    let w = c.pass.inside in
    let a = account_of w.place.me.0 in
    let sizes : a.sizes ≡ c.args.self.now.sizes = ap (λ b. b.register.sizes) c.pass.view_is ∙ ap (λ o. o.sizes) c.requires.same in
    let word : c.pin_word_of-word.result ≡ pin_at a.sizes c.args.reader c.args.channel =
    c.pin_word_of-word.ensures.number ∙ ap (λ (z : Sizes). pin_at z c.args.reader c.args.channel) (sym sizes) in
    (c.scan_load-pinned.ensures.2 c.args.reader c.args.channel
    (subst (λ (z : Sizes). c.args.channel < z.channels) (sym sizes) c.requires.channel) word).1

pub returns-clause-answer : goal.returns-clause-answer
returns-clause-answer c =
    let w = c.pass.inside in
    let a = account_of w.place.me.0 in
    let sizes : a.sizes ≡ c.args.self.now.sizes = ap (λ b. b.register.sizes) c.pass.view_is ∙ ap (λ o. o.sizes) c.requires.same in
    let word : c.pin_word_of-word.result ≡ pin_at a.sizes c.args.reader c.args.channel =
    c.pin_word_of-word.ensures.number ∙ ap (λ (z : Sizes). pin_at z c.args.reader c.args.channel) (sym sizes) in
    let now = (c.scan_load-pinned.ensures.2 c.args.reader c.args.channel
    (subst (λ (z : Sizes). c.args.channel < z.channels) (sym sizes) c.requires.channel) word).0 in
    c.root_in.ensures ∙ sym (ap (λ m. pinned_root (account_of m.0).pinned) now)

pub invariant_of-pass : goal.invariant_of-pass
invariant_of-pass c =
    let w = c.pass.inside in
    let a = account_of w.place.me.0 in
    let sizes : a.sizes ≡ c.args.self.now.sizes = ap (λ b. b.register.sizes) c.pass.view_is ∙ ap (λ o. o.sizes) c.requires.same in
    let word : c.pin_word_of-word.result ≡ pin_at a.sizes c.args.reader c.args.channel =
    c.pin_word_of-word.ensures.number ∙ ap (λ (z : Sizes). pin_at z c.args.reader c.args.channel) (sym sizes) in
    let b : Account = after_pin_scan a c.args.reader c.args.channel c.scan_load-pinned.result in
    let now = (c.scan_load-pinned.ensures.2 c.args.reader c.args.channel
    (subst (λ (z : Sizes). c.args.channel < z.channels) (sym sizes) c.requires.channel) word).0 in
    writer_still w (record {
      place = c.scan_load-pinned.new.place;
      readers = w.readers;
      version = w.version;
      slot = w.slot;
      slots = w.slots;
      settled = w.settled;
      many = w.many;
    }) b c.pass.invariant (now ∙ ap (λ m. (Writer b, m.1)) c.pass.invariant.seat) refl

pub returns-clause-exact : goal.returns-clause-exact
returns-clause-exact c =
    let a = account_of c.pass.inside.place.me.0 in
    let sizes : a.sizes ≡ c.args.self.now.sizes = ap (λ b. b.register.sizes) c.pass.view_is ∙ ap (λ o. o.sizes) c.requires.same in
    let word : c.pin_word_of-word.result ≡ pin_at a.sizes c.args.reader c.args.channel =
    c.pin_word_of-word.ensures.number ∙ ap (λ (z : Sizes). pin_at z c.args.reader c.args.channel) (sym sizes) in
    let told = c.scan_load-pinned.ensures.2 c.args.reader c.args.channel
    (subst (λ (z : Sizes). c.args.channel < z.channels) (sym sizes) c.requires.channel) word in
    subst (λ (z : Account). AreAllSettled z → (hold : Hold) × IsSettledReader z c.args.reader hold
    × (c.root_in.result ≡ pinned_root (pin_word (pin_of hold.notes c.args.channel))))
    (ap (λ b. b.account) c.pass.view_is)
    (λ all. let it = told.3 all in (it.0, it.1, c.root_in.ensures ∙ ap pinned_root (told.2 it.0 it.1)))
