use Rattle.std.proofs.Common.{◌≡◌, ap, subst, ◌∙◌, arith}
use Rattle.std.specs.Prelude.{remove, length, nat_lt, if◌then◌else◌}
use Rattle.ft_types.specs.declared.module.Module.{Module}
use Rattle.ft_roots.specs.RootWords.{HasSongWords}
use Rattle.ft_roots.proofs.song_change.remove_order.Goals as goal

pub returns-then-from-len : goal.returns-then-from-len
returns-then-from-len c = λ m ps is valid lt has.
    let o = c.orders_in-orders.ensures m ps is valid has in
    let left = c.remove.ensures.items
    ∙ ap (λ xs. remove xs c.from-then-from-len.result) o ∙ ap (λ n. remove m.orders n) c.from-then-from-len.ensures in
    let count = c.len-then-from-len.result in
    let n : count ≡ length (remove m.orders c.args.pos) = c.len-then-from-len.ensures.value ∙ ap length left in
    let between : Module = record m { restart = if nat_lt m.restart count then m.restart else 0 } in
    let e = c.as_slice.ensures.value ∙ left in
    subst (λ k. HasSongWords c.put_orders.new.words
    (record m { restart = if nat_lt m.restart k then m.restart else 0; orders = remove m.orders c.args.pos }) ps is) n
    (subst (λ xs. HasSongWords c.put_orders.new.words (record between { orders = xs }) ps is) e
    (c.put_orders.ensures between ps is valid.few_orders (c.fit_restart.ensures m ps is valid has)))

pub returns-else-from-len : goal.returns-else-from-len
returns-else-from-len c = λ m ps is valid lt has.
    let o = c.orders_in-orders.ensures m ps is valid has in
    let n = ap length o in
    absurd (omega (arith, n, lt, c.if-from-len.false, c.len.ensures.value, c.from.ensures))
