use Rattle.ft_player.proofs.asking.body_for.Goals as goal

pub returns-in-Some-clause-on : goal.returns-in-Some-clause-on
returns-in-Some-clause-on g c = c.a_pass_reads_on.ensures.nothing c.args.pass.now
