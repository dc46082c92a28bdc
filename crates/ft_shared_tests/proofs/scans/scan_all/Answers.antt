use Rattle.std.proofs.Common.{◌≡◌, ◌≢◌, ◌∙◌, ℕ, ◌+◌, ◌*◌, ◌<◌, sym, subst, arith}
use mathlib.Core.Logic.{dite}
use native.Mathlib.Decide.{ℕ_discrete}
use Rattle.ft_shared.specs.Account.{IsPinMet}
use Rattle.ft_shared_tests.proofs.Left.{left_through}
use Rattle.ft_shared_tests.proofs.scans.scan_all.Goals as goal

pub loop-reader-preserved : goal.loop-reader-preserved
loop-reader-preserved c =
    let old = c.loop-reader.invariant in
    let new = c.scan_reader.ensures in
    let room = old.room in
    let more = new.room in
    let few = c.requires.channels in
    record {
      left = left_through _ _ _ old.left new.left;
      met = new.met;
      scan = new.scan ∙ old.scan;
      room = omega arith;
      known = new.known;
      all = λ r ch less inside. dite (ℕ_discrete r c.loop-reader.reader)
          (λ (e : r ≡ c.loop-reader.reader). subst (λ (k : ℕ). IsPinMet c.scan_reader.new.writer.account k ch) (sym e) (new.all ch inside))
          (λ (e : r ≢ c.loop-reader.reader). new.before r ch (old.all r ch (omega arith) inside));
    }
