use Rattle.std.proofs.Common.{◌≡◌, ℕ, List, length, take}
use Rattle.ft_types.specs.declared.module.Module.{Module}
use Rattle.ft_types.specs.Valid.{IsValid}
use Rattle.ft_roots.specs.RootWords.{HasSongWords}
use Rattle.ft_roots.proofs.song_rows.orders_in.Given as goal

abbrev pub invariant-loop-i : goal.invariant-loop-i
invariant-loop-i l = record {
  long : length l.orders.items ≡ l.i;
  taken : (m : Module) (ps is : List ℕ) → IsValid m → HasSongWords l.words m ps is → l.orders.items ≡ take l.i m.orders;
}
