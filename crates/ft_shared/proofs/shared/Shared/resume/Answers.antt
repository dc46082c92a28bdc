use Rattle.std.proofs.Common.{rules, ap, IsSome, subst, sym}
use Rattle.ft_shared.specs.Account.{last_settled}
use Rattle.ft_shared.proofs.Joins.{resumes}
use Rattle.ft_shared.proofs.shared.Shared.resume.Goals as goal

pub split_seat-place-requires : goal.split_seat-place-requires
split_seat-place-requires c = (
  search rules,
  search rules,
  resumes c.self.inside.words.table.shared.key _ _ (ap (λ m. m.0) c.writer.invariant.seat)
      (subst (λ a. IsSome (last_settled a)) (sym (ap (λ b. b.account) c.writer.view_is)) c.requires.some),
)
