use Rattle.std.proofs.Common.{◌≡◌, ◌≤◌, ◌<◌, ◌∙◌, ◌+◌, ◌/◌, ℕ, List, ap, subst, arith}
use Rattle.ft_types.specs.Blocks.{pieces_of}
use Rattle.ft_segments.specs.Packing.{word_at}
use Rattle.ft_segments.specs.Walk.{index_uses, index_walk, sample_uses, sample_walk, bodies_in, bodies_of_index}
use Rattle.ft_shared.specs.Pass.{WriterState}
use Rattle.ft_image.specs.Passes.{HasMadeSteps}
use Rattle.ft_desk.specs.Survey.{HasMarked}
use Rattle.ft_desk.proofs.Marked.{marked_through, marked_as}
use Rattle.ft_desk.proofs.PinNames.{IsRootTo, index_more, root_named, id_from}
use Rattle.ft_desk.proofs.pinned.keep_root.Goals as goal

pub loop-k-preserved : goal.loop-k-preserved
loop-k-preserved c =
    let old = c.loop-k.invariant in
    let first = c.args.pass.now in
    let pool = first.account.pool in
    let root = c.args.root in
    let k = c.loop-k.k in
    let count = c.min.result in
    let index = c.quarter-index.result in
    let word : c.written-word.result ≡ word_at pool root (16 + k / 4)
    = c.written-word.ensures.word ∙ ap (λ (w : WriterState). word_at w.account.pool root (16 + k / 4)) old.on.is in
    let read : HasMadeSteps first c.written-word.new.pass
    = c.a_writer_steps_on.ensures.through first c.loop-k.pass c.written-word.new.pass old.on c.written-word.ensures.on in
    let bodies : c.div_ceil-bodies.result ≡ bodies_in pool root
    = let w = c.written.ensures.word in let d = c.div_ceil-bodies.ensures in omega arith in
    let many : count ≡ bodies_of_index (bodies_in pool root) k
    = let m = c.min.ensures in omega arith in
    let inside : k < pieces_of (bodies_in pool root) 1024
    = let t = c.loop-k-test.true in let d = c.div_ceil-k-end.ensures in omega arith in
    let marked : HasMarked c.loop-k.births c.keep_index.new.births (λ s. 1 ≤ index_uses s (index_walk pool count index))
    = subst (λ (p : List ℕ). HasMarked c.loop-k.births c.keep_index.new.births (λ s. 1 ≤ index_uses s (index_walk p count index)))
    (ap (λ (w : WriterState). w.account.pool) read.is) c.keep_index.ensures.marked in
    record {
      on = c.a_writer_steps_on.ensures.through first c.written-word.new.pass c.keep_index.new.pass read c.keep_index.ensures.on;
      marked = marked_through c.args.births.now c.loop-k.births c.keep_index.new.births (IsRootTo pool root k)
          (λ s. 1 ≤ index_uses s (index_walk pool count index)) (IsRootTo pool root (k + 1)) old.marked marked
          (index_more pool root k index count (id_from pool root k c.written-word.result index word c.quarter-index.ensures) many inside);
    }

pub returns-clause-marked : goal.returns-clause-marked
returns-clause-marked c =
    let pool = c.args.pass.now.account.pool in
    let root = c.args.root in
    let k = c.loop-k.k in
    let bodies : c.div_ceil-bodies.result ≡ bodies_in pool root
    = let w = c.written.ensures.word in let d = c.div_ceil-bodies.ensures in omega arith in
    let past : pieces_of (bodies_in pool root) 1024 ≤ k
    = let t = c.loop-k-test.false in let d = c.div_ceil-k-end.ensures in omega arith in
    marked_as c.args.births.now c.loop-k.births (IsRootTo pool root k) (λ s. 1 ≤ sample_uses s (sample_walk pool root))
    c.loop-k.invariant.marked (root_named pool root k past)
