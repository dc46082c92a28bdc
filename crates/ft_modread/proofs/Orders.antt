-- The greatest of some orders, as a loop finds it.
use Rattle.std.proofs.Common.{◌≡◌, ℕ, ◌+◌, ◌<◌, ◌≤◌, List, length, get_or, drop, max, ap, arith}
use Rattle.std.proofs.lemmas.List.{drop_more, drop_all}
use Rattle.ft_modread.specs.Songs.{greatest}

pub greatest_more : (orders : List ℕ) (i most total : ℕ) → i < length orders
    → max most (greatest (drop i orders)) ≡ total
    → max (max most (get_or orders i 0)) (greatest (drop (i + 1) orders)) ≡ total
greatest_more orders i most total lt e =
    let split : greatest (drop i orders) ≡ max (get_or orders i 0) (greatest (drop (i + 1) orders)) =
    ap greatest (drop_more orders i 0 lt) in
    omega (arith, split, e)

pub greatest_all : (orders : List ℕ) (i most total : ℕ) → length orders ≤ i
    → max most (greatest (drop i orders)) ≡ total → most ≡ total
greatest_all orders i most total le e =
    let none : greatest (drop i orders) ≡ 0 = ap greatest (drop_all i orders le) in omega (arith, none, e)
