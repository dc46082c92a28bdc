use Rattle.std.proofs.Common.{◌≡◌, []}
use Rattle.ft_shared.specs.Account.{account_of}
use Rattle.ft_shared.specs.Pass.{fresh_passes}
use Rattle.ft_shared.specs.declared.law.View.TheVariants.{Writer}
use Rattle.ft_shared.proofs.shared.Shared.deal.Given as goal

abbrev pub invariant-loop-number : goal.invariant-loop-number
invariant-loop-number l = record {
  here : l.place.table_id ≡ l.initial.place.table_id;
  writer : l.place.me ≡ (Writer (record (account_of l.initial.place.me.0) { given = l.number }), []);
  row : l.passes.items ≡ fresh_passes l.self l.number;
}
