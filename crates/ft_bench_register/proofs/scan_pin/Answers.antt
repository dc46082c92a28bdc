use Rattle.std.proofs.Common.{List, [], ◌∷◌, sym, ap, subst}
use Rattle.std.specs.List.{Contains}
use Rattle.std.proofs.lemmas.List.Elements.{Contains-append_left, Contains-push}
use Rattle.ft_shared.specs.declared.law.PinAnswer.{PinAnswer}
use Rattle.ft_shared.specs.Account.{pin_answer, pinned_root}
use Rattle.ft_bench_register.proofs.scan_pin.Goals as goal

pub returns-clause-before : goal.returns-clause-before
returns-clause-before c = λ r ch met.
    let old = c.args.writer.now.account.pin_scan in
    let x : PinAnswer = pin_answer c.args.reader c.args.channel (pinned_root c.scan_pin.new.pass.account.pinned) in
    let is = ap (λ b. b.account.pin_scan) c.scan_pin.ensures.noted in (
      met.0,
      subst (λ (l : List PinAnswer). Contains l (pin_answer r ch met.0)) (sym is)
          (Contains-append_left old (x ∷ []) (pin_answer r ch met.0) met.1),
    )

pub returns-clause-this : goal.returns-clause-this
returns-clause-this c =
    let old = c.args.writer.now.account.pin_scan in
    let x : PinAnswer = pin_answer c.args.reader c.args.channel (pinned_root c.scan_pin.new.pass.account.pinned) in
    let is = ap (λ b. b.account.pin_scan) c.scan_pin.ensures.noted in
    (pinned_root c.scan_pin.new.pass.account.pinned, subst (λ (l : List PinAnswer). Contains l x) (sym is) (Contains-push old x))
