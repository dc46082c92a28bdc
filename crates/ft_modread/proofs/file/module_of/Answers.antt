use Rattle.std.proofs.Common.{arith}
use Rattle.ft_modread.proofs.Places.{place_first}
use Rattle.ft_modread.proofs.file.module_of.Goals as goal

pub instruments_of-requires-clause-place : goal.instruments_of-requires-clause-place
instruments_of-requires-clause-place c = omega (arith, place_first c.args.file.now, c.requires.count)
