use Rattle.std.proofs.Common.{rules, ap, ◌≡◌, ◌+◌, ◌*◌, ◌%◌, ◌^◌, ℕ, subst, arith}
use mathlib.Core.Option.{none}
use Rattle.atomic_table.specs.Table.{Allows, step}
use Rattle.ft_shared.specs.Plays.{IsLeave}
use Rattle.ft_shared.specs.Register.{RegisterRule}
use Rattle.ft_shared.proofs.Readers.{leaves}
use Rattle.ft_shared.proofs.shared.Shared.leave.Goals as goal

pub fetch_add-requires : goal.fetch_add-requires
fetch_add-requires g c =
    let p = c.pass.inside in
    let key = c.self.inside.words.table.shared.key in
    let slots = c.self.inside.words.table.shared.table_id.slots in
    let mine = ap (λ p. p.register.sizes.readers) c.pass.view_is in
    let same = ap (λ o. o.sizes.readers) c.requires.same in
    let ours = ap (λ o. o.sizes.readers) c.self.view_is in
    let wide = c.self.invariant.0 in
    let inside = c.pass.invariant.inside in
    let pins : ℕ = key.sizes.readers * key.sizes.channels in
    let wide' : c.self.inside.words.table.shared.table_id.words ≡ key.sizes.readers + 3 + pins + 256 * key.sizes.segments = wide in (
      search rules,
      omega arith,
      subst (λ (k : ℕ). Allows (RegisterRule key) slots p.place.id p.place.me (k + 1) (λ n. (n + 1) % 2 ^ 64)
          (IsLeave (step slots (k + 1) 1 0 none) p.place.me)) c.pass.invariant.slot
          (leaves key slots p.place.id p.place.me (ap (λ m. m.0) c.pass.invariant.seat) _ _ (ap (λ p. p.notes.held) c.pass.view_is)
          (ap (λ p. p.notes.latest) c.pass.view_is) c.requires.newer),
    )
