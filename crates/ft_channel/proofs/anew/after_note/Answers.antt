use Rattle.ft_channel.proofs.Staying.{stays_through}
use Rattle.ft_channel.proofs.anew.after_note.Goals as goal

pub returns-then-is_instrument-clause-stays : goal.returns-then-is_instrument-clause-stays
returns-then-is_instrument-clause-stays c = stays_through _ _ _ c.begin_anew.ensures.stays c.take_levels.ensures.stays
