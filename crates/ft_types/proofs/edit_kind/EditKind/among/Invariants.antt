use Rattle.std.proofs.Common.{◌≡◌, drop}
use Rattle.ft_types.specs.Signatures.{kind_among}
use Rattle.ft_types.proofs.edit_kind.EditKind.among.Given as goal

abbrev pub invariant-loop-kind : goal.invariant-loop-kind
invariant-loop-kind l = kind_among (drop l.kind-index l.kinds) l.name ≡ kind_among l.kinds l.name
