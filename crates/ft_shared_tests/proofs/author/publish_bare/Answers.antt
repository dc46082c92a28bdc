use Rattle.std.proofs.Common.{◌≡◌, ℕ}
use Rattle.ft_shared_tests.proofs.Unfound.{roots_grow}
use Rattle.ft_shared_tests.proofs.author.publish_bare.Goals as goal

pub returns-clause-known : goal.returns-clause-known
returns-clause-known c = λ roots long known.
    roots_grow c.a_bare_root_names_itself.ensures.song c.args.writer.now.account.history c.publish.new.pass.account.history
    (record {
      version = c.publish.result;
      root = c.args.root;
      pool = c.args.writer.now.account.pool;
    }) roots c.publish.ensures.history long (c.requires.bare c.args.root).1 known
