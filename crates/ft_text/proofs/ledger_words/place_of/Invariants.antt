-- none of the bytes that were passed is like this
use Rattle.std.proofs.Common.{◌≡◌, ◌+◌, ◌==◌, drop}
use Rattle.std.specs.List.{position_or_len}
use Rattle.ft_text.proofs.ledger_words.place_of.Given as goal

abbrev pub invariant-loop-i : goal.invariant-loop-i
invariant-loop-i l = l.i + position_or_len (λ b. b == l.by) (drop l.i l.bytes) ≡ position_or_len (λ b. b == l.by) l.bytes
