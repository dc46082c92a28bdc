-- What a list ends as, once a `&mut` into it has ended.
use Rattle.std.specs.Prelude.{ℕ, List, Option, length, set}
use Rattle.std.specs.List.{refill}
use Rattle.std.specs.Borrow.{Lends, LendsIf, Fml, RattleType, MutBor, Array}
use Rattle.ft_types.specs.contracts.items.Items.{the_row}

module _ (T : RattleType) (items : MutBor (List T.Denot)) where
  -- the element has the last value written through r; where there is none, the list stays as it is
  abbrev pub lends_element : ℕ → Option (MutBor T.Denot) → Fml
  lends_element i r = LendsIf (the_row T) T items r (set items.now i) items.now

  -- the elements are the last ones written through r
  abbrev pub lends_elements : MutBor (List T.Denot) → Fml
  lends_elements r = Lends (the_row T) (Array T 0) items r (refill (length items.now) items.now)
