use Rattle.std.proofs.Common.{rules, refl, ap, sym, ◌∙◌, ◌≡◌, ◌<◌, ℕ, subst}
use mathlib.Core.Option.{none}
use Rattle.atomic_table.specs.Table.{Allows, step}
use Rattle.ft_shared.specs.declared.law.Sizes.{Sizes}
use Rattle.ft_shared.specs.declared.law.View.TheVariants.{Reader}
use Rattle.ft_shared.specs.Layout.{segment_at, word_count}
use Rattle.ft_shared.specs.Account.{hold_of}
use Rattle.ft_shared.specs.Plays.{after_word, IsWordRead}
use Rattle.ft_shared.specs.Register.{RegisterRule}
use Rattle.ft_shared.proofs.Readers.{reads}
use Rattle.ft_shared.proofs.Seats.{reader_still}
use Rattle.ft_shared.proofs.shared.Shared.word.Goals as goal

pub load-requires : goal.load-requires
load-requires g c =
    let p = c.pass.inside in
    let key = c.self.inside.words.table.shared.key in
    let slots = c.self.inside.words.table.shared.table_id.slots in
    let sizes : (hold_of p.place.me.0).notes.sizes ≡ c.args.self.now.sizes = ap (λ b. b.register.sizes) c.pass.view_is
    ∙ ap (λ o. o.sizes) c.requires.same in
    let word : segment_at (hold_of p.place.me.0).notes.sizes c.args.seg c.args.at ≡ c.word_of-word.result =
    ap (λ (z : Sizes). segment_at z c.args.seg c.args.at) sizes ∙ sym c.word_of-word.ensures.number in (
      search rules,
      subst (λ (n : ℕ). c.word_of-word.result < n) (ap word_count (sym (ap (λ o. o.sizes) c.self.view_is))
          ∙ sym c.self.invariant.0) c.word_of-word.ensures.inside,
      subst (λ (n : ℕ). Allows (RegisterRule key) slots p.place.id p.place.me n (λ x. x)
          (IsWordRead (step slots n 0 0 none) p.place.me)) word
          (reads key slots p.place.id c.args.seg c.args.at p.place.me (ap (λ m. m.0) c.pass.invariant.seat) c.ranges.at.fits),
    )

pub invariant_of-pass : goal.invariant_of-pass
invariant_of-pass g c =
    let p = c.pass.inside in
    let h = hold_of p.place.me.0 in
    let sizes : h.notes.sizes ≡ c.args.self.now.sizes = ap (λ b. b.register.sizes) c.pass.view_is ∙ ap (λ o. o.sizes) c.requires.same in
    let word : c.word_of-word.result ≡ segment_at h.notes.sizes c.args.seg c.args.at =
    c.word_of-word.ensures.number ∙ ap (λ (z : Sizes). segment_at z c.args.seg c.args.at) (sym sizes) in
    let b = after_word h c.args.seg c.args.at c.load.result in
    let now = c.load.ensures.seat.2 c.args.seg c.args.at c.ranges.at.fits word in
    reader_still p (record { place = c.load.new.place; slot = p.slot; number = p.number }) b c.pass.invariant
    (now ∙ ap (λ m. (Reader b, m.1)) c.pass.invariant.seat) refl refl refl
