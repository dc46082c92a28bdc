-- What asking for a word of a sample leaves.
use Rattle.std.specs.Prelude.{◌≡◌, ◌≤◌, ◌+◌, ℕ}
use Rattle.ft_types.specs.Work.{asked, word_of, frame_bound, frame_cost}
use Rattle.ft_shared.specs.Pass.{ReaderState}
use Rattle.ft_image.specs.Passes.{HasReadOn, AreCounted}
use Rattle.ft_player.specs.declared.seat.Seat.{Seat}
use Rattle.ft_player.specs.declared.songs.Songs.{Songs}
use Rattle.ft_player.specs.Seats.{numbers_of, IsSeatOf}
use Rattle.ft_player.specs.Behind.{AreSongsBehind}

-- The word of a place was asked for by a seat, and is its newest one; all else of the seat is as it
-- was. The pass has read on, and each read is a step: none for a kept word
pub record HasAsked (place : ℕ) (pass pass_after : ReaderState) (seat seat_after : Seat)
    (steps steps_after : ℕ) : Type 0 where
  pub seated : (songs : Songs) → AreSongsBehind songs pass_after → IsSeatOf songs seat
      → IsSeatOf songs seat_after
  pub rest : seat_after ≡ record seat { words = seat_after.words }
  pub words : numbers_of seat_after.words ≡ asked (word_of place) (numbers_of seat.words)
  pub on : HasReadOn pass pass_after
  pub counted : AreCounted pass pass_after steps steps_after
  pub work : (steps ≤ steps_after) × (steps_after ≤ steps + frame_bound)
  pub cost : steps_after ≤ steps + frame_cost (word_of place) (numbers_of seat.words)
