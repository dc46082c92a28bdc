use Rattle.std.proofs.Common.{arith}
use Rattle.ft_types.proofs.KindsByName.{found, none_found}
use Rattle.ft_types.proofs.edit_kind.EditKind.with_length_of.Goals as goal

pub returns-in-3 : goal.returns-in-3
returns-in-3 c = found 3 c.args.name.now c.in-3.is

pub returns-in-4 : goal.returns-in-4
returns-in-4 c = found 4 c.args.name.now c.in-4.is

pub returns-in-5 : goal.returns-in-5
returns-in-5 c = found 5 c.args.name.now c.in-5.is

pub returns-in-6 : goal.returns-in-6
returns-in-6 c = found 6 c.args.name.now c.in-6.is

pub returns-in-7 : goal.returns-in-7
returns-in-7 c = found 7 c.args.name.now c.in-7.is

pub returns-in-8 : goal.returns-in-8
returns-in-8 c = found 8 c.args.name.now c.in-8.is

pub returns-in-9 : goal.returns-in-9
returns-in-9 c = found 9 c.args.name.now c.in-9.is

pub returns-in_default : goal.returns-in_default
returns-in_default c = none_found c.args.name.now (λ least. omega arith)
