use Rattle.ft_channel.proofs.row.strike_cell.Goals as goal

pub start_note-began-requires-clause-range : goal.start_note-began-requires-clause-range
start_note-began-requires-clause-range g c = c.take_instrument.ensures.stays.range c.args.c c.requires.range

pub returns-clause-range : goal.returns-clause-range
returns-clause-range g c =
    c.volume_start.ensures.stays.range c.args.c
    (c.after_note.ensures.stays.range c.args.c c.start_note-began.ensures.range)
