use Rattle.ft_types.proofs.Refills.{written}
use Rattle.ft_types.proofs.slots.put.Goals as goal

pub returns : goal.returns
returns c =
    written c.args.slots.now.items c.as_mut_slice.result.now c.from.result c.args.channel c.args.kept
    c.as_mut_slice.ensures.value c.from.ensures
