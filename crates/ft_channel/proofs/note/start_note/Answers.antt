use Rattle.ft_channel.proofs.note.start_note.Goals as goal

pub returns-then-cell-eq97-clause-range : goal.returns-then-cell-eq97-clause-range
returns-then-cell-eq97-clause-range g c = c.key_off.ensures.stays.range c.args.c c.requires.range

pub returns-then-is_some-clause-range : goal.returns-then-is_some-clause-range
returns-then-is_some-clause-range g c = c.aim.ensures.stays.range c.args.c c.requires.range
