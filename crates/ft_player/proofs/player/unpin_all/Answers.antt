use Rattle.std.proofs.Common.{arith, ap, refl}
use Rattle.ft_shared.specs.Pass.{ReaderState}
use Rattle.ft_player.proofs.Closing.{clears_none, clears_next, closed, counts_next}
use Rattle.ft_player.proofs.player.unpin_all.Goals as goal

pub loop-channel-init : goal.loop-channel-init
loop-channel-init g c = (clears_none c.args.pass.now, refl, omega arith)

pub loop-channel-preserved : goal.loop-channel-preserved
loop-channel-preserved g c = (
  clears_next c.loop-channel.channel c.args.pass.now c.loop-channel.pass c.unpin.new.pass _ c.loop-channel.invariant.0
      c.unpin.ensures.noted,
  counts_next c.args.pass.now c.loop-channel.pass c.unpin.new.pass _ c.args.steps.now c.loop-channel.steps _
      c.loop-channel.invariant.1 (ap (λ (x : ReaderState). x.notes.steps) c.unpin.ensures.noted) c.unpin.ensures.steps,
  let before = c.loop-channel.invariant.2 in
      let more = c.unpin.ensures.steps in
      omega arith,
)

pub returns-clause-closed : goal.returns-clause-closed
returns-clause-closed g c =
    let many = c.requires.pins in
    closed c.loop-channel.channel c.args.pass.now c.loop-channel.pass (omega arith) c.loop-channel.invariant.0
