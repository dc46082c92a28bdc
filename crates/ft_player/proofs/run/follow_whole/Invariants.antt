use Rattle.std.proofs.Common.{◌≡◌, ◌≤◌, ◌<◌, ◌+◌, ◌-◌, ◌*◌, ℕ, pos, Some, length, get_or}
use Rattle.std.specs.Prelude.{FitsSigned}
use Rattle.ft_types.specs.Valid.{width_of}
use Rattle.ft_types.specs.Views.{frame_of}
use Rattle.ft_types.specs.Work.{body_of}
use Rattle.ft_image.specs.Passes.{HasReadOn, AreCounted}
use Rattle.ft_player.specs.declared.songs.Songs.{Songs}
use Rattle.ft_player.specs.Seats.{owned_by, IsWordOf, IsSeatOf}
use Rattle.ft_player.specs.Behind.{AreSongsBehind}
use Rattle.ft_player.proofs.run.follow_whole.Given as goal

abbrev pub invariant-loop-k : goal.invariant-loop-k
invariant-loop-k g l = record {
  words : (songs : Songs) → AreSongsBehind songs l.pass → IsSeatOf songs l.seat → IsWordOf songs l.seat l.fn.from
      → IsWordOf songs l.seat l.trail.newest × IsWordOf songs l.seat l.trail.older
      × ((j : ℕ) → j < 4 * l.k
      → get_or l.out j (pos 0) ≡ frame_of (owned_by songs (Some l.seat)) (4 * (l.fn.from.number + 1) + j));
  range : (j : ℕ) → j < 4 * l.k → FitsSigned (width_of l.seat.head.wide) (get_or l.out j (pos 0));
  many : length l.out ≡ length l.fn.out;
  number : l.trail.newest.number ≡ l.fn.from.number + l.k;
  older : 1 ≤ l.k → l.trail.newest.number ≡ l.trail.older.number + 1;
  on : HasReadOn l.fn.pass l.pass;
  counted : AreCounted l.fn.pass l.pass l.fn.steps l.steps;
  work : (l.fn.steps ≤ l.steps)
      × (l.steps ≤ l.fn.steps + (l.trail.newest.number - l.fn.from.number)
      + 2 * (body_of l.trail.newest.number - body_of l.fn.from.number));
}
