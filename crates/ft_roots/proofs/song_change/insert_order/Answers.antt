use Rattle.std.proofs.Common.{ap, subst, ◌∙◌, arith}
use Rattle.std.specs.Prelude.{insert, length}
use Rattle.ft_roots.specs.RootWords.{HasSongWords}
use Rattle.ft_roots.proofs.song_change.insert_order.Goals as goal
use Rattle.ft_roots.proofs.song_change.insert_order.Goals.{else-len-lt256-via-then-len-lt256+else-from-len, else-len-lt256-via-else-len-lt256}

pub returns-then-from-len : goal.returns-then-from-len
returns-then-from-len c = λ m ps is valid le lt has.
    let o = c.orders_in-orders.ensures m ps is valid has in
    let e = c.as_slice.ensures.value ∙ c.insert.ensures.items
    ∙ ap (λ xs. insert xs c.from-then-from-len.result c.args.p) o ∙ ap (λ n. insert m.orders n c.args.p) c.from-then-from-len.ensures in
    subst (λ xs. HasSongWords c.put_orders.new.words (record m { orders = xs }) ps is) e
    (c.put_orders.ensures m ps is valid.few_orders has)

pub returns-else-len-lt256 : goal.returns-else-len-lt256
returns-else-len-lt256 c = λ m ps is valid le lt has.
    let o = c.orders_in-orders.ensures m ps is valid has in
    let n = ap length o in
    absurd (elim c.else-len-lt256.branch [
      | else-len-lt256-via-then-len-lt256+else-from-len w ↦
          omega (arith, n, le, w.if-from-len.false, w.len-then-len-lt256.ensures.value, w.from.ensures)
      | else-len-lt256-via-else-len-lt256 w ↦ omega (arith, n, lt, w.if-len-lt256.false, c.len.ensures.value)
    ])
