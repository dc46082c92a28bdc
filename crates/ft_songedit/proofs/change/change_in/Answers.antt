use Rattle.ft_segments.specs.Walk.{IsOf}
use Rattle.ft_edits.specs.Faults.{fault_of}
use Rattle.std.proofs.Common.{◌≡◌, ℕ, None, sym, subst, ◌∙◌}
use Rattle.ft_changes.specs.declared.reach.Reach.{Reach}
use Rattle.ft_changes.specs.Reached.{IsReached}
use Rattle.ft_edits.specs.Edited.{edited}
use Rattle.ft_songedit.proofs.Needs.{is_there, need_small}
use Rattle.ft_songedit.proofs.change.change_in.Goals as goal

pub returns-clause-answer : goal.returns-clause-answer
returns-clause-answer g c = λ p m all shows here.
    let after_reach : (s : ℕ) → IsOf p s → g.V.WordView.may_show c.reach_in-reach.new.view p s = λ s is. c.drops-drops.ensures.narrows p s (all s is) in
    let after_fault : (s : ℕ) → IsOf p s → g.V.WordView.may_show c.fault_in.new.view p s = λ s is. c.reach_in-reach.ensures.narrows p s (after_reach s is) in
    let none : fault_of m c.args.e.now ≡ None = sym (c.fault_in.ensures.answer p m after_fault shows here) ∙ c.in_default.is in
    let is = c.reach_in-reach.ensures.answer p m after_reach shows here in
    let next = edited m c.args.e.now in
    let valid = c.valid_stays_valid.ensures.edited m c.args.e.now shows.valid c.holds_fields.ensures none in
    let reached = subst (λ (r : Reach). IsReached r m next) (sym is)
    (c.an_edit_changes_what_it_reaches.ensures m c.args.e.now shows.valid none) in
    let there = is_there c.what_was_reached_fits.ensures p m next c.reach_in-reach.result shows reached in
    record {
      allowed = none;
      root = sym here;
      reach = is;
      need = c.need_of.ensures (need_small c.reach_in-reach.result m next shows.valid valid reached);
      drops = c.drops-drops.ensures.answer p m all shows here there;
    }
