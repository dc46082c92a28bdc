use Rattle.std.proofs.Common.{◌≡◌, ◌≢◌, ◌<◌, ◌∙◌, sym, subst, refl, arith}
use mathlib.Core.Logic.{dite}
use native.Mathlib.Decide.{ℕ_discrete}
use Rattle.ft_shared.specs.Account.{IsPinMet}
use Rattle.ft_desk.proofs.Surveyed.{seen_nothing, seen_through}
use Rattle.ft_desk.proofs.survey.survey_reader.Goals as goal

pub loop-channel-init : goal.loop-channel-init
loop-channel-init c = record {
  seen = seen_nothing c.args.pass.now;
  before = λ r ch met. met;
  all = λ ch (less : ch < 0). absurd (omega arith);
  lives = refl;
  looked = refl;
  marks = c.requires.marks;
}

pub loop-channel-preserved : goal.loop-channel-preserved
loop-channel-preserved c =
    let old = c.loop-channel.invariant in
    let new = c.survey_pin.ensures in
    record {
      seen = seen_through c.args.pass.now c.loop-channel.pass c.survey_pin.new.pass old.seen new.seen;
      before = λ r ch met. new.before r ch (old.before r ch met);
      all = λ ch less. dite (ℕ_discrete ch c.loop-channel.channel)
          (λ (e : ch ≡ c.loop-channel.channel). subst (IsPinMet c.survey_pin.new.pass.account c.args.reader) (sym e) new.this)
          (λ (ne : ch ≢ c.loop-channel.channel). new.before c.args.reader ch (old.all ch (omega arith)));
      lives = new.lives ∙ old.lives;
      looked = new.looked ∙ old.looked;
      marks = new.marks;
    }
