use Rattle.std.proofs.Common.{◌≡◌, ◌≢◌, ◌∙◌, sym, subst, arith}
use mathlib.Core.Logic.{dite}
use native.Mathlib.Decide.{ℕ_discrete}
use Rattle.ft_shared.specs.Account.{IsPinMet}
use Rattle.ft_bench_register.proofs.scan_reader.Goals as goal

pub loop-channel-preserved : goal.loop-channel-preserved
loop-channel-preserved c =
    let old = c.loop-channel.invariant in
    let new = c.scan_pin.ensures in
    record {
      same = new.same ∙ old.same;
      met = new.met;
      version = new.left.0 ∙ old.version;
      pool = new.left.1 ∙ old.pool;
      before = λ r ch met. new.before r ch (old.before r ch met);
      all = λ ch less. dite (ℕ_discrete ch c.loop-channel.channel)
          (λ (e : ch ≡ c.loop-channel.channel). subst (IsPinMet c.scan_pin.new.writer.account c.args.reader) (sym e) new.this)
          (λ (e : ch ≢ c.loop-channel.channel). new.before c.args.reader ch (old.all ch (omega arith)));
    }
