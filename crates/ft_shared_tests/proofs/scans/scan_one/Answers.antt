use Rattle.std.proofs.Common.{◌≡◌, ℕ, List, [], ◌∷◌, ◌++◌, Option, Some, None, sym, ap, ◌∙◌, subst, ⊎_elim}
use Rattle.std.specs.List.{Contains}
use Rattle.ft_shared.specs.declared.law.PinAnswer.{PinAnswer}
use Rattle.ft_shared.specs.Account.{pin_answer}
use Rattle.ft_shared_tests.proofs.Grown.{kept, newest, either}
use Rattle.ft_shared_tests.proofs.scans.scan_one.Goals as goal

one-root : (o : Option ℕ) (r s : ℕ) → o ≡ Some r → o ≡ Some s → r ≡ s
one-root o r s e f = cc

pub returns-in-Some-clause-known : goal.returns-in-Some-clause-known
returns-in-Some-clause-known c =
    let old = c.args.writer.now.account.pin_scan in
    let x : PinAnswer = pin_answer c.args.reader c.args.channel c.scan_pin.result in
    let scan = ap (λ b. b.account.pin_scan) c.scan_pin.ensures.noted
    ∙ ap (λ (o : Option ℕ). old ++ pin_answer c.args.reader c.args.channel o ∷ []) (sym c.scan_pin.ensures.answer) in
    λ r ch root has. ⊎_elim (λ (t : Contains old (pin_answer r ch
    (Some root))). kept c.args.roots.now.items c.push.new.self.items c.in-Some.root c.push.ensures.items root
    (c.requires.known r ch root t))
    (λ (t : x ≡ pin_answer r ch (Some root)).
    let same : c.in-Some.root ≡ root = one-root c.scan_pin.result c.in-Some.root root c.in-Some.is (ap (λ (z : PinAnswer). z.root) t) in
    subst (Contains c.push.new.self.items) same (newest c.args.roots.now.items c.push.new.self.items c.in-Some.root c.push.ensures.items))
    (either old c.scan_pin.new.pass.account.pin_scan x scan (pin_answer r ch (Some root)) has)

pub returns-in-Some-clause-before : goal.returns-in-Some-clause-before
returns-in-Some-clause-before c =
    let old = c.args.writer.now.account.pin_scan in
    let x : PinAnswer = pin_answer c.args.reader c.args.channel c.scan_pin.result in
    let scan = ap (λ b. b.account.pin_scan) c.scan_pin.ensures.noted
    ∙ ap (λ (o : Option ℕ). old ++ pin_answer c.args.reader c.args.channel o ∷ []) (sym c.scan_pin.ensures.answer) in
    λ r ch met. (met.0, kept old c.scan_pin.new.pass.account.pin_scan x scan (pin_answer r ch met.0) met.1)

pub returns-in-Some-clause-this : goal.returns-in-Some-clause-this
returns-in-Some-clause-this c =
    let old = c.args.writer.now.account.pin_scan in
    let x : PinAnswer = pin_answer c.args.reader c.args.channel c.scan_pin.result in
    let scan = ap (λ b. b.account.pin_scan) c.scan_pin.ensures.noted
    ∙ ap (λ (o : Option ℕ). old ++ pin_answer c.args.reader c.args.channel o ∷ []) (sym c.scan_pin.ensures.answer) in
    (c.scan_pin.result, newest old c.scan_pin.new.pass.account.pin_scan x scan)

pub returns-in_default-clause-known : goal.returns-in_default-clause-known
returns-in_default-clause-known c =
    let old = c.args.writer.now.account.pin_scan in
    let x : PinAnswer = pin_answer c.args.reader c.args.channel c.scan_pin.result in
    let scan = ap (λ b. b.account.pin_scan) c.scan_pin.ensures.noted
    ∙ ap (λ (o : Option ℕ). old ++ pin_answer c.args.reader c.args.channel o ∷ []) (sym c.scan_pin.ensures.answer) in
    λ r ch root has. ⊎_elim (λ (t : Contains old (pin_answer r ch (Some root))). c.requires.known r ch root t)
    (λ (t : x ≡ pin_answer r ch (Some root)). absurd (c.in_default.not-Some root (ap (λ (z : PinAnswer). z.root) t)))
    (either old c.scan_pin.new.pass.account.pin_scan x scan (pin_answer r ch (Some root)) has)

pub returns-in_default-clause-before : goal.returns-in_default-clause-before
returns-in_default-clause-before c =
    let old = c.args.writer.now.account.pin_scan in
    let x : PinAnswer = pin_answer c.args.reader c.args.channel c.scan_pin.result in
    let scan = ap (λ b. b.account.pin_scan) c.scan_pin.ensures.noted
    ∙ ap (λ (o : Option ℕ). old ++ pin_answer c.args.reader c.args.channel o ∷ []) (sym c.scan_pin.ensures.answer) in
    λ r ch met. (met.0, kept old c.scan_pin.new.pass.account.pin_scan x scan (pin_answer r ch met.0) met.1)

pub returns-in_default-clause-this : goal.returns-in_default-clause-this
returns-in_default-clause-this c =
    let old = c.args.writer.now.account.pin_scan in
    let x : PinAnswer = pin_answer c.args.reader c.args.channel c.scan_pin.result in
    let scan = ap (λ b. b.account.pin_scan) c.scan_pin.ensures.noted
    ∙ ap (λ (o : Option ℕ). old ++ pin_answer c.args.reader c.args.channel o ∷ []) (sym c.scan_pin.ensures.answer) in
    (c.scan_pin.result, newest old c.scan_pin.new.pass.account.pin_scan x scan)
