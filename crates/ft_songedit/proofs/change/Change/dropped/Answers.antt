use Rattle.std.proofs.Common.{sym, subst}
use Rattle.ft_changes.specs.declared.reach.Reach.{Reach}
use Rattle.ft_changes.specs.Reached.{IsReached}
use Rattle.ft_edits.specs.Edited.{edited}
use Rattle.ft_songedit.proofs.Needs.{is_there}
use Rattle.ft_songedit.proofs.change.Change.dropped.Goals as goal

pub returns-clause-answer : goal.returns-clause-answer
returns-clause-answer g c = λ p m e all shows change.
    let reached = subst (λ (r : Reach). IsReached r m (edited m e)) (sym change.reach)
    (c.an_edit_changes_what_it_reaches.ensures m e shows.valid change.allowed) in
    let there = is_there c.what_was_reached_fits.ensures p m (edited m e) c.args.self.now.reach shows reached in
    c.dropped_at.ensures.answer p m all shows (sym change.root) there
