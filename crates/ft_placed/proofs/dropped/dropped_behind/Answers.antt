use Rattle.std.proofs.Common.{◌≡◌, ◌+◌, sym, subst, ◌∙◌}
use Rattle.std.specs.List.{slice_get}
use Rattle.ft_segments.specs.Walk.{ids_of}
use Rattle.ft_changes.specs.declared.reach.Reach.{Reach}
use Rattle.ft_changes.specs.Dropped.{dropped}
use Rattle.ft_placed.proofs.InDropped.{root_alone}
use Rattle.ft_placed.proofs.dropped.dropped_behind.Goals as goal

pub returns-then-k-eq0-clause-answer : goal.returns-then-k-eq0-clause-answer
returns-then-k-eq0-clause-answer g c = λ p m may shows is there.
    subst (λ (r : Reach). c.instrument_id.result ≡ slice_get (dropped r (ids_of p)) (1 + c.args.k)) (sym c.in-Instrument.is)
    (c.instrument_id.ensures.answer p m may shows is ∙ root_alone (ids_of p) c.in-Instrument.at c.args.k c.if-k-eq0.true)
