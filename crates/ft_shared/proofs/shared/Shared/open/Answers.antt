use Rattle.std.proofs.Common.{rules}
use Rattle.ft_shared.specs.Account.{pool_of}
use Rattle.ft_shared.proofs.Opens.{pool-words, pool-sound}
use Rattle.ft_shared.proofs.shared.Shared.open.Goals as goal

pub build-requires-clause-sound : goal.build-requires-clause-sound
build-requires-clause-sound c =
    pool-sound c.args.segments _ c.args.words.now c.args.root (search rules)
    (c.a_walk_reads_words_alone.ensures c.args.words.now (pool_of c.args.segments c.args.words.now) c.args.root
    (pool-words c.args.segments c.args.words.now)) c.requires.sound
