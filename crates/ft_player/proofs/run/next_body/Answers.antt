use Rattle.ft_player.proofs.run.next_body.Goals as goal

pub returns-then-number-ne0-clause-on : goal.returns-then-number-ne0-clause-on
returns-then-number-ne0-clause-on g c = c.a_pass_reads_on.ensures.nothing c.args.pass.now
