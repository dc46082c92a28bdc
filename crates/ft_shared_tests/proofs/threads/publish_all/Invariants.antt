use Rattle.std.proofs.Common.{◌≤◌}
use Rattle.ft_shared_tests.specs.Author.{IsAuthor}
use Rattle.ft_shared_tests.proofs.threads.publish_all.Given as goal

abbrev pub invariant-loop-done : goal.invariant-loop-done
invariant-loop-done l = record {
  author : IsAuthor l.shared l.writer l.roots.items;
  few : l.writer.account.version ≤ l._done;
}
