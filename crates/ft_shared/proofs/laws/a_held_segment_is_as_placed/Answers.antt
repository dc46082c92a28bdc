use Rattle.ft_shared.proofs.laws.a_held_segment_is_as_placed.Goals as goal

pub returns-clause-current : goal.returns-clause-current
returns-clause-current c key state rule = rule.segments.current

pub returns-clause-held : goal.returns-clause-held
returns-clause-held c key state rule seat view hold at behind = (rule.segments.kept seat view hold at behind).held

pub returns-clause-pinned : goal.returns-clause-pinned
returns-clause-pinned c key state rule seat view hold at behind channel pin is =
    ((rule.segments.kept seat view hold at behind).pins channel pin is).unwritten
