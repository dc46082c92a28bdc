use Rattle.std.proofs.Common.{rules, refl, ap, sym, ◌∙◌, ◌≡◌, ◌<◌, ℕ, subst}
use mathlib.Core.Option.{none}
use Rattle.atomic_table.specs.Table.{Allows, step}
use Rattle.ft_shared.specs.declared.law.Sizes.{Sizes}
use Rattle.ft_shared.specs.declared.law.Account.{Account}
use Rattle.ft_shared.specs.declared.law.View.TheVariants.{Writer}
use Rattle.ft_shared.specs.Layout.{segment_at, word_count}
use Rattle.ft_shared.specs.Account.{account_of, MayFill, after_fill}
use Rattle.ft_shared.specs.Plays.{IsFill}
use Rattle.ft_shared.specs.Register.{RegisterRule}
use Rattle.ft_shared.proofs.Fills.{fills}
use Rattle.ft_shared.proofs.Seats.{writer_still}
use Rattle.ft_shared.proofs.shared.Shared.fill.Goals as goal

pub store-requires : goal.store-requires
store-requires c =
    let w = c.pass.inside in
    let a = account_of w.place.me.0 in
    let key = c.self.inside.words.table.shared.key in
    let slots = c.self.inside.words.table.shared.table_id.slots in
    let sizes : a.sizes ≡ c.args.self.now.sizes = ap (λ b. b.register.sizes) c.pass.view_is ∙ ap (λ o. o.sizes) c.requires.same in
    let inside : c.args.seg < a.sizes.segments = subst (λ (z : Sizes). c.args.seg < z.segments) (sym sizes) c.requires.segment in
    let may : MayFill a.sizes a c.args.seg = subst (λ (z : Sizes × Account). MayFill z.0 z.1 c.args.seg)
    (λ i. (sym sizes i, sym (ap (λ b. b.account) c.pass.view_is) i)) c.requires.free in
    let word : segment_at a.sizes c.args.seg c.args.at ≡ c.word_of-word.result =
    ap (λ (z : Sizes). segment_at z c.args.seg c.args.at) sizes ∙ sym c.word_of-word.ensures.number in (
      search rules,
      subst (λ (n : ℕ). c.word_of-word.result < n) (ap word_count (sym (ap (λ o. o.sizes) c.self.view_is))
          ∙ sym c.self.invariant.0) c.word_of-word.ensures.inside,
      subst (λ (n : ℕ). Allows (RegisterRule key) slots w.place.id w.place.me n (λ _. c.args.w)
          (λ _. IsFill (step slots n c.args.w 0 none) w.place.me c.args.w)) word
          (fills key c.held_by_a_pin_is_named.ensures slots w.place.id c.args.seg c.args.at c.args.w w.place.me
          (ap (λ m. m.0) c.pass.invariant.seat) c.ranges.at.fits inside may),
    )

pub invariant_of-pass : goal.invariant_of-pass
invariant_of-pass c =
    let w = c.pass.inside in
    let a = account_of w.place.me.0 in
    let sizes : a.sizes ≡ c.args.self.now.sizes = ap (λ b. b.register.sizes) c.pass.view_is ∙ ap (λ o. o.sizes) c.requires.same in
    let word : c.word_of-word.result ≡ segment_at a.sizes c.args.seg c.args.at =
    c.word_of-word.ensures.number ∙ ap (λ (z : Sizes). segment_at z c.args.seg c.args.at) (sym sizes) in
    let b : Account = after_fill a c.args.seg c.args.at c.args.w in
    let now = (c.store.ensures.2 c.args.seg c.args.at c.ranges.at.fits word) in
    writer_still w (record {
      place = c.store.new.place;
      readers = w.readers;
      version = w.version;
      slot = w.slot;
      slots = w.slots;
      settled = w.settled;
      many = w.many;
    }) b c.pass.invariant (now ∙ ap (λ m. (Writer b, m.1)) c.pass.invariant.seat) refl
