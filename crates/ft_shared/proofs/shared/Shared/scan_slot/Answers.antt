use Rattle.std.proofs.Common.{rules, ap, ◌∙◌, ◌≡◌, ◌+◌, ◌*◌, ℕ, length, subst, arith}
use mathlib.Core.Option.{none}
use Rattle.atomic_table.specs.Table.{Allows, step}
use Rattle.ft_shared.specs.Account.{account_of}
use Rattle.ft_shared.specs.Plays.{IsSlotScan}
use Rattle.ft_shared.specs.Register.{RegisterRule}
use Rattle.ft_shared.proofs.Writes.{scans}
use Rattle.ft_shared.proofs.shared.Shared.scan_slot.Goals as goal

pub scan_load-gone-requires : goal.scan_load-gone-requires
scan_load-gone-requires c =
    let w = c.pass.inside in
    let a = account_of w.place.me.0 in
    let next : length a.scan ≡ c.args.slot = ap (λ b. length b.account.scan) c.pass.view_is ∙ c.requires.next in
    let begun = ap (λ b. b.account.begun) c.pass.view_is ∙ c.requires.begun in
    let sizes : a.sizes.readers ≡ c.args.self.now.sizes.readers = ap (λ b. b.register.sizes.readers) c.pass.view_is
    ∙ ap (λ o. o.sizes.readers) c.requires.same in
    let key : c.self.inside.words.table.shared.key.sizes.readers ≡ c.args.self.now.sizes.readers = ap
    (λ o. o.sizes.readers) c.self.view_is in
    let more = c.requires.slot in
    let pins : ℕ = c.self.inside.words.table.shared.key.sizes.readers * c.self.inside.words.table.shared.key.sizes.channels in
    let wide : c.self.inside.words.table.shared.table_id.words ≡
    c.self.inside.words.table.shared.key.sizes.readers + 3 + pins
    + 256 * c.self.inside.words.table.shared.key.sizes.segments = c.self.invariant.0 in
    let slots = c.self.inside.words.table.shared.table_id.slots in (
      search rules,
      omega arith,
      subst (λ (n : ℕ). Allows (RegisterRule c.self.inside.words.table.shared.key) slots w.place.id w.place.me (n + 1) (λ x. x)
          (IsSlotScan (step slots (n + 1) 0 0 none) w.place.me)) next
          (scans c.self.inside.words.table.shared.key slots w.place.id w.place.me (ap (λ m. m.0) c.pass.invariant.seat) begun
          (omega arith)),
    )
