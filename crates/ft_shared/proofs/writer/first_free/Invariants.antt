use Rattle.std.proofs.Common.{◌≡◌, ◌<◌, ℕ, false, slice_index_or}
use Rattle.ft_shared.specs.Account.{no_slot}
use Rattle.ft_shared.proofs.writer.first_free.Given as goal

abbrev pub invariant-loop-slot : goal.invariant-loop-slot
invariant-loop-slot l = (slot : ℕ) → slot < l.slot → (slice_index_or l.slots slot no_slot).free ≡ false
