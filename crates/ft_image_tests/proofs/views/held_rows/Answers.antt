use Rattle.std.proofs.Common.{rules, ℕ, sym, ap, subst, ◌∙◌}
use Rattle.ft_shared.specs.History.{root_and_pool, Agrees}
use Rattle.std.specs.Prelude.{◌≡◌, Some}
use Rattle.ft_shared.specs.Pass.{RegisterId, ReaderState}
use Rattle.ft_image.specs.Passes.{IsAmong}
use Rattle.ft_image_tests.proofs.views.held_rows.Goals as goal

pub returns-clause-rows : goal.returns-clause-rows
returns-clause-rows g c = λ history taken placed song agrees held root found among shows.
    let law = c.a_held_version_may_be_shown.ensures in
    let new = c.rows.new.view.pass.now in
    let register = ap (λ (x : ReaderState). x.register) c.rows.ensures.same.3.is ∙ c.requires.same in
    let all = subst (λ (n : ℕ). IsAmong n (root_and_pool placed)) (sym (ap (λ (r : RegisterId). r.sizes.segments) register)) among in
    let a : Agrees history new.notes = search (rules, agrees) in
    let h : new.notes.held ≡ Some taken = search (rules, held) in
    c.rows.ensures.answer (root_and_pool placed) song (law.all new history taken placed a h found all) shows
    (law.root new history taken placed a h found ∙ root)
