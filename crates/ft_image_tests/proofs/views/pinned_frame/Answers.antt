use Rattle.std.proofs.Common.{rules, ℕ, sym, ap, subst, ◌∙◌}
use Rattle.std.specs.Prelude.{◌≡◌, Some, FitsSigned}
use Rattle.std.specs.Int.{w16}
use Rattle.std.proofs.lemmas.Int.{to_z-of_z}
use Rattle.ft_shared.specs.Counts.{pin_of}
use Rattle.ft_shared.specs.History.{root_and_pool, Agrees}
use Rattle.ft_shared.specs.Pass.{RegisterId, ReaderState}
use Rattle.ft_image.specs.Read.{IsRootOf, MayShowSample}
use Rattle.ft_image.specs.Passes.{IsAmong, MayShowPinned}
use Rattle.ft_image_tests.proofs.views.pinned_frame.Goals as goal

pub returns-clause-frame : goal.returns-clause-frame
returns-clause-frame g c = λ history pin placed song x agrees stands root found among shows of less.
    let new = c.frame.new.view.pass.now in
    let channel = c.frame.new.view.channel in
    let register = ap (λ (y : ReaderState). y.register) c.frame.ensures.same.4.is ∙ c.requires.same in
    let all = subst (λ (n : ℕ). IsAmong n (root_and_pool placed)) (sym (ap (λ (r : RegisterId). r.sizes.segments) register)) among in
    let a : Agrees history new.notes = search (rules, agrees) in
    let here : pin_of new.notes c.args.channel ≡ Some pin = search (rules, stands) in
    let s : pin_of new.notes channel ≡ Some pin = subst (λ (k : ℕ). pin_of new.notes k ≡ Some pin) c.frame.ensures.same.1 here in
    let may = c.a_pinned_sample_may_be_shown.ensures new channel history pin placed song x a s found all shows of in
    let fits : FitsSigned w16 c.frame.result = search rules in
    to_z-of_z w16 c.frame.result fits ∙ c.frame.ensures.answer (root_and_pool placed) song x
    (subst (λ (r : ℕ). MayShowSample (λ (view : ReaderState). MayShowPinned view channel) new (root_and_pool placed) r) root may) shows
    (subst (λ (r : ℕ). IsRootOf (root_and_pool placed) song r x) root of) less
