use Rattle.std.proofs.Common.{◌≡◌, true, false, arith, sym, ◌∙◌}
use Rattle.ft_shared.proofs.writer.first_free.Goals as goal

no : true ≡ false → ⊥
no e = cc

pub unreachable-requires : goal.unreachable-requires
unreachable-requires c = let r = c.requires.some in no (sym r.2 ∙ c.loop-slot.invariant r.0 (let l = r.1 in omega arith))
