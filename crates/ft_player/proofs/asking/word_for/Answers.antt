use Rattle.std.proofs.Common.{rules}
use Rattle.ft_player.proofs.asking.word_for.Goals as goal

pub returns-clause-asked : goal.returns-clause-asked
returns-clause-asked g c = record {
  seated = λ songs stands seated. seated;
  rest = search rules;
  words = search rules;
  on = c.a_pass_reads_on.ensures.nothing c.args.pass.now;
  counted = search rules;
  work = search rules;
  cost = search rules;
}
