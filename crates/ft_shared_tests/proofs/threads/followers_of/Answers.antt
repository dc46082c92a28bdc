use Rattle.std.proofs.Common.{◌≡◌, ℕ, ◌+◌, ◌-◌, ◌<◌, List, ap, ◌∙◌, arith}
use Rattle.ft_shared.specs.Pass.{RegisterId, ReaderState, fresh_passes}
use Rattle.ft_shared_tests.proofs.threads.followers_of.Goals as goal

-- n passes are one more than n - 1
one_more : (o : RegisterId) (n : ℕ) (ps : List ReaderState) → 0 < n → ps ≡ fresh_passes o n → ps ≡ fresh_passes o (n - 1 + 1)
one_more o n ps more is = let e : n ≡ n - 1 + 1 = omega arith in is ∙ ap (fresh_passes o) e

pub follower_of-requires : goal.follower_of-requires
follower_of-requires c =
    let known = c.loop-given.invariant in
    let n : ℕ = known.0 in
    let sum = known.1 in
    let more = c.loop-given-test.true in
    let fresh = (c.in-Some.ensures.fresh c.args.shared.now (n - 1)
    (one_more c.args.shared.now n c.loop-given.passes (omega arith) known.2)).0 in
    (ap (λ (p : ReaderState). p.register) fresh, ap (λ (p : ReaderState). p.notes.held) fresh, c.requires.channels)

pub loop-given-preserved : goal.loop-given-preserved
loop-given-preserved c =
    let known = c.loop-given.invariant in
    let n : ℕ = known.0 in
    let sum = known.1 in
    let more = c.loop-given-test.true in (
      n - 1,
      omega arith,
      (c.next.ensures.fresh c.args.shared.now (n - 1)
          (one_more c.args.shared.now n c.loop-given.passes (omega arith) known.2)).1,
    )
