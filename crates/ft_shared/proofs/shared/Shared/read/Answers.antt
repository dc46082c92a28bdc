use Rattle.std.proofs.Common.{rules, refl, ap, sym, ◌∙◌, ◌≡◌, ◌<◌, ℕ, subst}
use mathlib.Core.Option.{none}
use Rattle.atomic_table.specs.Table.{Allows, step}
use Rattle.ft_shared.specs.declared.law.Sizes.{Sizes}
use Rattle.ft_shared.specs.declared.law.Account.{Account}
use Rattle.ft_shared.specs.declared.law.View.TheVariants.{Writer}
use Rattle.ft_shared.specs.Layout.{segment_at, word_count}
use Rattle.ft_shared.specs.Account.{account_of, after_read}
use Rattle.ft_shared.specs.Plays.{IsPoolRead}
use Rattle.ft_shared.specs.Register.{RegisterRule}
use Rattle.ft_shared.proofs.Fills.{pool_reads}
use Rattle.ft_shared.proofs.Seats.{writer_still}
use Rattle.ft_shared.proofs.shared.Shared.read.Goals as goal

pub scan_load-requires : goal.scan_load-requires
scan_load-requires c =
    let w = c.pass.inside in
    let a = account_of w.place.me.0 in
    let key = c.self.inside.words.table.shared.key in
    let slots = c.self.inside.words.table.shared.table_id.slots in
    let sizes : a.sizes ≡ c.args.self.now.sizes = ap (λ b. b.register.sizes) c.pass.view_is ∙ ap (λ o. o.sizes) c.requires.same in
    let word : segment_at a.sizes c.args.seg c.args.at ≡ c.word_of-word.result =
    ap (λ (z : Sizes). segment_at z c.args.seg c.args.at) sizes ∙ sym c.word_of-word.ensures.number in (
      search rules,
      subst (λ (n : ℕ). c.word_of-word.result < n) (ap word_count (sym (ap (λ o. o.sizes) c.self.view_is))
          ∙ sym c.self.invariant.0) c.word_of-word.ensures.inside,
      subst (λ (n : ℕ). Allows (RegisterRule key) slots w.place.id w.place.me n (λ x. x)
          (IsPoolRead (step slots n 0 0 none) w.place.me)) word
          (pool_reads key slots w.place.id c.args.seg c.args.at w.place.me (ap (λ m. m.0) c.pass.invariant.seat) c.ranges.at.fits),
    )

pub invariant_of-pass : goal.invariant_of-pass
invariant_of-pass c =
    let w = c.pass.inside in
    let a = account_of w.place.me.0 in
    let sizes : a.sizes ≡ c.args.self.now.sizes = ap (λ b. b.register.sizes) c.pass.view_is ∙ ap (λ o. o.sizes) c.requires.same in
    let word : c.word_of-word.result ≡ segment_at a.sizes c.args.seg c.args.at =
    c.word_of-word.ensures.number ∙ ap (λ (z : Sizes). segment_at z c.args.seg c.args.at) (sym sizes) in
    let b : Account = after_read a c.args.seg c.args.at in
    let now = (c.scan_load.ensures.2 c.args.seg c.args.at c.ranges.at.fits word).0 in
    writer_still w (record {
      place = c.scan_load.new.place;
      readers = w.readers;
      version = w.version;
      slot = w.slot;
      slots = w.slots;
      settled = w.settled;
      many = w.many;
    }) b c.pass.invariant (now ∙ ap (λ m. (Writer b, m.1)) c.pass.invariant.seat) refl
