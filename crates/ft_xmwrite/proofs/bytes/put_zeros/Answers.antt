use Rattle.std.proofs.Common.{◌≡◌, ◌++◌, ℕ, List, subst}
use Rattle.std.specs.Prelude.{OnOk}
use Rattle.std.proofs.lemmas.List.{take-replicate}
use Rattle.ft_xmwrite.proofs.bytes.put_zeros.Goals as goal

pub returns : goal.returns
returns c =
    subst (λ (zeros : List ℕ). OnOk c.put.result (c.put.new.bytes.items ≡ c.args.bytes.now.items ++ zeros))
    (take-replicate {X = ℕ} c.args.count 256 0 c.requires) c.put.ensures
