use Rattle.std.proofs.Common.{arith}
use Rattle.ft_channel.proofs.Lines.{fall_few}
use Rattle.ft_channel.proofs.envelope.fallen.Goals as goal

pub overflow_sub-result-2 : goal.overflow_sub-result-2
overflow_sub-result-2 c =
    let few = fall_few c.args.fall c.args.gone c.args.width c.requires.before in
    omega (arith, few)
