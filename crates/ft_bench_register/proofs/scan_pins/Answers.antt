use Rattle.std.proofs.Common.{◌≡◌, ◌≢◌, ◌∙◌, ℕ, sym, subst, arith}
use mathlib.Core.Logic.{dite}
use native.Mathlib.Decide.{ℕ_discrete}
use Rattle.ft_shared.specs.Account.{IsPinMet}
use Rattle.ft_bench_register.proofs.scan_pins.Goals as goal

pub loop-reader-preserved : goal.loop-reader-preserved
loop-reader-preserved c =
    let old = c.loop-reader.invariant in
    let new = c.scan_reader.ensures in
    record {
      same = new.same ∙ old.same;
      met = new.met;
      version = new.left.0 ∙ old.version;
      pool = new.left.1 ∙ old.pool;
      all = λ r ch less inside. dite (ℕ_discrete r c.loop-reader.reader)
          (λ (e : r ≡ c.loop-reader.reader). subst (λ (k : ℕ). IsPinMet c.scan_reader.new.writer.account k ch) (sym e) (new.all ch inside))
          (λ (e : r ≢ c.loop-reader.reader). new.before r ch (old.all r ch (omega arith) inside));
    }

pub returns-clause-whole : goal.returns-clause-whole
returns-clause-whole c =
    let known = c.loop-reader.invariant in
    let over = c.loop-reader-test.false in
    let eight = c.requires.readers in
    let wide = c.requires.channels in (
      known.met,
      λ r ch less inside. known.all r ch (omega arith) (omega arith),
    )
