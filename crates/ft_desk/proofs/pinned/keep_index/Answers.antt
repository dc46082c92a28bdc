use Rattle.std.proofs.Common.{◌≡◌, ◌≤◌, ◌∙◌, ◌+◌, ap, arith}
use Rattle.ft_segments.specs.Packing.{digit, word_at}
use Rattle.ft_segments.specs.Walk.{index_uses, index_walk}
use Rattle.ft_shared.specs.Pass.{WriterState}
use Rattle.ft_desk.proofs.Marked.{IsFirst, marked_through, marked_as}
use Rattle.ft_desk.proofs.PinNames.{IsIndexTo, four_more, index_named}
use Rattle.ft_desk.proofs.pinned.keep_index.Goals as goal

pub loop-place-preserved : goal.loop-place-preserved
loop-place-preserved c =
    let old = c.loop-place.invariant in
    let pool = c.args.pass.now.account.pool in
    let index = c.args.index in
    let count = c.args.count in
    let k = c.loop-place.place in
    let now = c.min.result in
    let word = c.written-word.result in
    let here : word ≡ word_at pool index k
    = c.written-word.ensures.word ∙ ap (λ (w : WriterState). word_at w.account.pool index k) old.on.is in
    record {
      on = c.a_writer_steps_on.ensures.through c.args.pass.now c.loop-place.pass c.written-word.new.pass old.on c.written-word.ensures.on;
      marked = marked_through c.args.births.now c.loop-place.births c.keep_ids.new.births (IsIndexTo pool index count k)
          (IsFirst now (λ i. digit 65536 word i)) (IsIndexTo pool index count (k + 1)) old.marked c.keep_ids.ensures
          (four_more pool index k count now word here (let t = c.loop-place-test.true in omega arith) c.min.ensures);
    }

pub returns-clause-marked : goal.returns-clause-marked
returns-clause-marked c =
    let pool = c.args.pass.now.account.pool in
    let place = c.loop-place.place in
    marked_as c.args.births.now c.loop-place.births (IsIndexTo pool c.args.index c.args.count place)
    (λ s. 1 ≤ index_uses s (index_walk pool c.args.count c.args.index)) c.loop-place.invariant.marked
    (index_named pool c.args.index c.args.count place (let t = c.loop-place-test.false in omega arith))
