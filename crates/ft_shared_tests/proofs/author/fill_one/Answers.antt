use Rattle.std.proofs.Common.{◌≡◌, ℕ, List, sym, ap, subst}
use Rattle.ft_shared.specs.declared.law.Account.{Account}
use Rattle.ft_shared.specs.Account.{after_fill}
use Rattle.ft_shared_tests.specs.Author.{IsBarePool, IsUnfound}
use Rattle.ft_shared_tests.proofs.Unfound.{may_fill, bare_filled}
use Rattle.ft_shared_tests.proofs.author.fill_one.Goals as goal

pub fill-requires-clause-free : goal.fill-requires-clause-free
fill-requires-clause-free c = may_fill c.a_bare_root_names_itself.ensures.sample
    c.args.shared.now.sizes c.args.writer.now.account c.args.segment c.requires.bare c.requires.unfound

pub returns-clause-bare : goal.returns-clause-bare
returns-clause-bare c = subst IsBarePool (sym (ap (λ b. b.account.pool) c.fill.ensures))
    (bare_filled c.args.writer.now.account.pool c.args.segment c.args.at c.args.word c.requires.at c.ranges.at.fits c.requires.bare)

pub returns-clause-unfound : goal.returns-clause-unfound
returns-clause-unfound c =
    let u = c.requires.unfound in
    let filled : Account = after_fill c.args.writer.now.account c.args.segment c.args.at c.args.word in
    subst (λ (z : Account). IsUnfound c.args.shared.now.sizes z c.args.segment) (sym (ap (λ b. b.account) c.fill.ensures))
    (record { whole = u.whole; current = u.current; answered = u.answered; pins = u.pins })
