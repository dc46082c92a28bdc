use Rattle.std.proofs.Common.{◌≡◌, ◌+◌, ◌/◌, ◌%◌, ◌*◌, ℕ, List, ap, sym, subst, ◌∙◌, arith}
use Rattle.std.specs.Prelude.{slice_index, set}
use Rattle.std.proofs.lemmas.List.{length-set}
use Rattle.ft_image.specs.Changed.{IsOneChanged}
use Rattle.ft_roots.specs.RootWords.{HasSongWords}
use Rattle.ft_roots.proofs.Songs.{set_is_one}
use Rattle.ft_roots.proofs.SongSame.{order_put}
use Rattle.ft_roots.proofs.song_change.set_order.Goals as goal

pub returns-then-pos-lt256 : goal.returns-then-pos-lt256
returns-then-pos-lt256 c = λ m ps is valid lt has.
    let p = c.args.pos in
    let words : List ℕ = c.args.words.now in
    let new = set m.orders p c.args.p in
    let one = set_is_one p c.args.p m.orders lt in
    let e = c.from-at.ensures in
    let same : p / 8 * 8 + p % 8 ≡ p = omega arith in
    let word =
    c.with_byte.ensures m.orders new (p / 8) valid.orders (subst (λ n. IsOneChanged n c.args.p m.orders new) (sym same) one)
    (ap (λ n. slice_index words (8 + n)) e ∙ has.orders (p / 8) (omega (arith, c.if-pos-lt256.true))) in
    subst (λ n. HasSongWords (set words (8 + n) c.with_byte.result) (record m { orders = new }) ps is) (sym e)
    (order_put c.other_words_stay.ensures.bytes words m ps is new p c.args.p c.with_byte.result c.told-words c.if-pos-lt256.true
    (length-set m.orders p c.args.p) one word has)
