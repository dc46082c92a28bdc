use Rattle.std.proofs.Common.{◌≡◌, ◌≤◌, ◌<◌, ◌+◌, ◌/◌, ◌%◌, [], ◌∷◌, ◌++◌, length, take, ap, sym, ◌∙◌, arith, rules}
use Rattle.std.specs.Prelude.{slice_index, get_or}
use Rattle.std.proofs.lemmas.List.{take_more, take_all}
use Rattle.ft_segments.specs.Packing.{digit}
use Rattle.ft_roots.proofs.song_rows.orders_in.Goals as goal

pub loop-i-preserved : goal.loop-i-preserved
loop-i-preserved c =
    let i = c.loop-i.i in
    let kept = c.loop-i.invariant in
    record {
      long = search rules;
      taken = λ m ps is valid has.
          let count = c.orders_of.ensures m valid has.head in
          let lt : i < length m.orders = omega (arith, count, c.min-count.ensures, c.loop-i-test.true) in
          let low : i / 8 < 32 = omega (arith, lt, valid.few_orders) in
          let read : c.byte.result ≡ get_or m.orders i 0 =
          c.byte.ensures
          ∙ ap (λ n. digit 256 (slice_index c.args.words.now (8 + n)) (i % 8)) c.from.ensures
          ∙ ap (λ w. digit 256 w (i % 8)) (has.orders (i / 8) low)
          ∙ c.rows_are_read.ensures.bytes m.orders i valid.orders in
          c.push.ensures.items
          ∙ ap (λ xs. xs ++ c.byte.result ∷ []) (kept.taken m ps is valid has)
          ∙ ap (λ b. take i m.orders ++ b ∷ []) read
          ∙ sym (take_more m.orders i 0 lt);
    }

pub returns : goal.returns
returns c = λ m ps is valid has.
    let count = c.orders_of.ensures m valid has.head in
    let all : length m.orders ≤ c.loop-i.i = omega (arith, count, c.min-count.ensures, c.loop-i-test.false, valid.few_orders) in
    c.loop-i.invariant.taken m ps is valid has ∙ take_all c.loop-i.i m.orders all
