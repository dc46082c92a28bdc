use Rattle.std.proofs.Common.{◌≡◌, ◌≤◌, ◌-◌, vec_len, vec_capacity}
use Rattle.ft_xmread.specs.Reader.{times}
use Rattle.ft_xmread.specs.Pattern.{cell_spelled_at}
use Rattle.ft_xmread.proofs.Loop.{with_front}
use Rattle.ft_xmread.proofs.pattern.read_cells_in.Given as goal

abbrev pub invariant-loop : goal.invariant-loop
invariant-loop l =
    (with_front l.cells.items (times (λ _. cell_spelled_at l.number) l.counter (l.count - l.counter) l.reader)
    ≡ times (λ _. cell_spelled_at l.number) 0 l.count l.fn.reader)
    × (vec_len l.cells ≡ l.counter) × (l.count ≤ vec_capacity l.cells)
