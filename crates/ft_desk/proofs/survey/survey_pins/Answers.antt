use Rattle.std.proofs.Common.{◌≡◌, ◌≢◌, ◌<◌, ◌∙◌, ℕ, sym, subst, refl, arith}
use mathlib.Core.Logic.{dite}
use native.Mathlib.Decide.{ℕ_discrete}
use Rattle.ft_shared.specs.Account.{IsPinMet}
use Rattle.ft_desk.proofs.Surveyed.{seen_nothing, seen_through}
use Rattle.ft_desk.proofs.survey.survey_pins.Goals as goal

pub loop-reader-init : goal.loop-reader-init
loop-reader-init c = record {
  seen = seen_nothing c.args.pass.now;
  all = λ r ch (less : r < 0) inside. absurd (omega arith);
  lives = refl;
  looked = refl;
  marks = c.requires.marks;
}

pub loop-reader-preserved : goal.loop-reader-preserved
loop-reader-preserved c =
    let old = c.loop-reader.invariant in
    let new = c.survey_reader.ensures in
    record {
      seen = seen_through c.args.pass.now c.loop-reader.pass c.survey_reader.new.pass old.seen new.seen;
      all = λ r ch less inside. dite (ℕ_discrete r c.loop-reader.reader)
          (λ (e : r ≡ c.loop-reader.reader). subst (λ (k : ℕ). IsPinMet c.survey_reader.new.pass.account k ch) (sym e) (new.all ch inside))
          (λ (ne : r ≢ c.loop-reader.reader). new.before r ch (old.all r ch (omega arith) inside));
      lives = new.lives ∙ old.lives;
      looked = new.looked ∙ old.looked;
      marks = new.marks;
    }
