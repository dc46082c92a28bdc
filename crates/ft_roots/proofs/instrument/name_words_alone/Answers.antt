use Rattle.std.proofs.Common.{ℕ, [], replicate, arith}
use Rattle.std.proofs.lemmas.List.{length-replicate}
use Rattle.ft_edits.specs.Instruments.{zero_instrument}
use Rattle.ft_roots.proofs.Instruments.{name_changed, bare_has}
use Rattle.ft_roots.proofs.instrument.name_words_alone.Goals as goal

pub returns : goal.returns
returns c = λ x ids has.
    name_changed (replicate 256 0) zero_instrument [] x.name _ _ _ (length-replicate {A = ℕ} 256 0)
    (has.name 0 (omega arith)) (has.name 1 (omega arith)) (has.name 2 (omega arith)) bare_has
