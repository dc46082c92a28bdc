use Rattle.std.proofs.Common.{◌≡◌, ◌∷◌, List, IsSome, refl, sym, ap, ◌∙◌, subst}
use Rattle.std.specs.List.{slice_get}
use Rattle.ft_shared.specs.declared.law.Hold.{Hold}
use Rattle.ft_shared.specs.Pass.{hold_at}
use Rattle.ft_shared_tests.proofs.settled.through.Goals as goal

pub resumed-newer-requires-clause-some : goal.resumed-newer-requires-clause-some
resumed-newer-requires-clause-some c =
    let second : Hold = hold_at c.args.second in
    let settled = c.scan_of_two_shows-all.ensures.settled
    ∙ (c.publish_next-two.ensures.settled ∙ c.settled_at-also.ensures.settled) in
    subst (λ (l : List Hold). IsSome (slice_get l 0)) (sym settled) refl

pub resumed-older-requires-clause-some : goal.resumed-older-requires-clause-some
resumed-older-requires-clause-some c =
    let first : Hold = hold_at c.args.first in
    let second : Hold = hold_at c.args.second in
    let settled = c.scan_of_two_shows-all.ensures.settled
    ∙ (c.publish_next-two.ensures.settled ∙ (c.settled_at-also.ensures.settled
    ∙ ap (λ (l : List Hold). second ∷ l) c.settled_at-one.ensures.settled)) in
    let back = c.resumed-newer.ensures.hold second (first ∷ c.args.writer.now.account.settled) settled in
    subst (λ (l : List Hold). IsSome (slice_get l 0)) (sym back.0) refl

pub returns-clause-second : goal.returns-clause-second
returns-clause-second c =
    let first : Hold = hold_at c.args.first in
    let second : Hold = hold_at c.args.second in
    let settled = c.scan_of_two_shows-all.ensures.settled
    ∙ (c.publish_next-two.ensures.settled ∙ (c.settled_at-also.ensures.settled
    ∙ ap (λ (l : List Hold). second ∷ l) c.settled_at-one.ensures.settled)) in
    let back = c.resumed-newer.ensures.hold second (first ∷ c.args.writer.now.account.settled) settled in
    (c.resumed-newer.ensures.pass, back.1, back.2)

pub returns-clause-first : goal.returns-clause-first
returns-clause-first c =
    let first : Hold = hold_at c.args.first in
    let second : Hold = hold_at c.args.second in
    let settled = c.scan_of_two_shows-all.ensures.settled
    ∙ (c.publish_next-two.ensures.settled ∙ (c.settled_at-also.ensures.settled
    ∙ ap (λ (l : List Hold). second ∷ l) c.settled_at-one.ensures.settled)) in
    let back = c.resumed-newer.ensures.hold second (first ∷ c.args.writer.now.account.settled) settled in
    let then = c.resumed-older.ensures.hold first c.args.writer.now.account.settled back.0 in
    (c.resumed-older.ensures.pass, then.1, then.2)
