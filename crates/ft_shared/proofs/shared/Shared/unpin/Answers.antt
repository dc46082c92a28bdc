use Rattle.std.proofs.Common.{rules, refl, ap, sym, ◌∙◌, ◌≡◌, ◌<◌, ℕ, subst}
use mathlib.Core.Option.{none}
use Rattle.atomic_table.specs.Table.{Allows, step}
use Rattle.ft_shared.specs.declared.law.Sizes.{Sizes}
use Rattle.ft_shared.specs.declared.law.View.TheVariants.{Reader}
use Rattle.ft_shared.specs.Layout.{pin_at, word_count}
use Rattle.ft_shared.specs.Account.{hold_of}
use Rattle.ft_shared.specs.Plays.{after_unpin, IsUnpin}
use Rattle.ft_shared.specs.Register.{RegisterRule}
use Rattle.ft_shared.proofs.Pinned.{unpins, none-there}
use Rattle.ft_shared.proofs.Segments.{is_there}
use Rattle.ft_shared.specs.Counts.{pin_of}
use Rattle.ft_shared.proofs.Seats.{reader_still}
use Rattle.ft_shared.proofs.shared.Shared.unpin.Goals as goal

pub counted_store-requires : goal.counted_store-requires
counted_store-requires g c =
    let p = c.pass.inside in
    let h = hold_of p.place.me.0 in
    let key = c.self.inside.words.table.shared.key in
    let slots = c.self.inside.words.table.shared.table_id.slots in
    let sizes : h.notes.sizes ≡ c.args.self.now.sizes = ap (λ b. b.register.sizes) c.pass.view_is ∙ ap (λ o. o.sizes) c.requires.same in
    let channel : c.args.channel < h.notes.sizes.channels = subst (λ (z : Sizes). c.args.channel < z.channels)
    (sym sizes) c.requires.channel in
    let word : pin_at h.notes.sizes h.notes.number c.args.channel ≡ c.pin_word_of-word.result =
    (λ i. pin_at (sizes i) (c.pass.invariant.number.0 i) c.args.channel) ∙ sym c.pin_word_of-word.ensures.number in (
      search rules,
      subst (λ (n : ℕ). c.pin_word_of-word.result < n) (ap word_count (sym (ap (λ o. o.sizes) c.self.view_is))
          ∙ sym c.self.invariant.0) c.pin_word_of-word.ensures.inside,
      subst (λ (n : ℕ). Allows (RegisterRule key) slots p.place.id p.place.me n (λ _. 0)
          (λ _. IsUnpin (step slots n 0 0 none) p.place.me 0)) word
          (unpins key slots p.place.id c.args.channel p.place.me (ap (λ m. m.0) c.pass.invariant.seat) channel),
    )

pub invariant_of-pass : goal.invariant_of-pass
invariant_of-pass g c =
    let p = c.pass.inside in
    let h = hold_of p.place.me.0 in
    let sizes : h.notes.sizes ≡ c.args.self.now.sizes = ap (λ b. b.register.sizes) c.pass.view_is ∙ ap (λ o. o.sizes) c.requires.same in
    let word : pin_at h.notes.sizes h.notes.number c.args.channel ≡ c.pin_word_of-word.result =
    (λ i. pin_at (sizes i) (c.pass.invariant.number.0 i) c.args.channel) ∙ sym c.pin_word_of-word.ensures.number in
    let b = after_unpin h c.args.channel in
    let now = c.counted_store.ensures.seat.2 c.args.channel (sym word) in
    reader_still p (record { place = c.counted_store.new.place; slot = p.slot; number = p.number }) b c.pass.invariant
    (now ∙ ap (λ m. (Reader b, m.1)) c.pass.invariant.seat) refl refl refl

pub returns-clause-gone : goal.returns-clause-gone
returns-clause-gone g c =
    let p = c.pass.inside in
    let h = hold_of p.place.me.0 in
    let sizes : h.notes.sizes ≡ c.args.self.now.sizes = ap (λ b. b.register.sizes) c.pass.view_is ∙ ap (λ o. o.sizes) c.requires.same in
    let word : pin_at h.notes.sizes h.notes.number c.args.channel ≡ c.pin_word_of-word.result =
    (λ i. pin_at (sizes i) (c.pass.invariant.number.0 i) c.args.channel) ∙ sym c.pin_word_of-word.ensures.number in
    let now = c.counted_store.ensures.seat.2 c.args.channel (sym word) in
    ap (λ m. is_there (pin_of (hold_of m.0).notes c.args.channel)) now ∙ none-there h.notes.pins c.args.channel
