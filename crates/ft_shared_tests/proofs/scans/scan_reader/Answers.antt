use Rattle.std.proofs.Common.{◌≡◌, ◌≢◌, ◌∙◌, ℕ, ◌+◌, ◌<◌, sym, subst, arith}
use mathlib.Core.Logic.{dite}
use native.Mathlib.Decide.{ℕ_discrete}
use Rattle.ft_shared.specs.Account.{IsPinMet}
use Rattle.ft_shared_tests.proofs.Left.{left_through}
use Rattle.ft_shared_tests.proofs.scans.scan_reader.Goals as goal

pub loop-channel-preserved : goal.loop-channel-preserved
loop-channel-preserved c =
    let old = c.loop-channel.invariant in
    let new = c.scan_one.ensures in
    let room = old.room in
    let more = new.room in
    record {
      left = left_through _ _ _ old.left new.left;
      met = new.met;
      scan = new.scan ∙ old.scan;
      room = omega arith;
      known = new.known;
      before = λ r ch met. new.before r ch (old.before r ch met);
      all = λ ch less. dite (ℕ_discrete ch c.loop-channel.channel)
          (λ (e : ch ≡ c.loop-channel.channel). subst (IsPinMet c.scan_one.new.writer.account c.args.reader) (sym e) new.this)
          (λ (e : ch ≢ c.loop-channel.channel). new.before c.args.reader ch (old.all ch (omega arith)));
    }
