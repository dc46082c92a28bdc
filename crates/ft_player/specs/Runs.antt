-- Frames in a row, and what asking for their words leaves.
use Rattle.std.specs.Prelude.{◌≡◌, ◌<◌, ◌≤◌, ◌+◌, ◌-◌, ◌*◌, ℕ, ℤ, pos, Bool, List, length, get_or, FitsSigned}
use Rattle.ft_types.specs.declared.sample.Sample.{Sample}
use Rattle.ft_types.specs.Valid.{width_of, IsValidSample}
use Rattle.ft_types.specs.Work.{asked_all, last_word, word_of, body_of, frame_bound, run_cost}
use Rattle.ft_shared.specs.Pass.{ReaderState}
use Rattle.ft_image.specs.Values.{frames_word}
use Rattle.ft_image.specs.Passes.{HasReadOn, AreCounted}
use Rattle.ft_player.specs.declared.seat.Seat.{Seat}
use Rattle.ft_player.specs.declared.songs.Songs.{Songs}
use Rattle.ft_player.specs.Seats.{numbers_of, IsSeatOf}
use Rattle.ft_player.specs.Behind.{AreSongsBehind}

-- ---- frames in a word

-- What a word holds at a place: in range, and the frame there of each valid sample of this width
-- whose word it is
pub record IsFrameIn (wide : Bool) (word place : ℕ) (frame : ℤ) : Type 0 where
  pub range : FitsSigned (width_of wide) frame
  pub value : (sample : Sample) → IsValidSample sample → sample.wide ≡ wide
      → word ≡ frames_word sample.frames (word_of place) → place < length sample.frames
      → frame ≡ get_or sample.frames place (pos 0)

-- Frames that a word holds from a place on
abbrev pub AreFramesIn : Bool → ℕ → ℕ → List ℤ → Type 0
AreFramesIn wide word place frames =
    (k : ℕ) → k < length frames → IsFrameIn wide word (place + k) (get_or frames k (pos 0))

-- The four frames that a word holds from a place on were written, and those before them stayed
pub record HasUnpacked (wide : Bool) (word place at : ℕ) (frames frames_after : List ℤ) : Type 0
  where
    pub many : length frames_after ≡ length frames
    pub before : (k : ℕ) → k < at → get_or frames_after k (pos 0) ≡ get_or frames k (pos 0)
    pub four : (k : ℕ) → k < 4
        → IsFrameIn wide word (place + k) (get_or frames_after (at + k) (pos 0))

-- ---- words that were read

-- The words after one of these numbers up to the other were read, each by a step, and by two more
-- where it begins a body
pub record HasFollowed (from to : ℕ) (pass pass_after : ReaderState) (steps steps_after : ℕ)
    : Type 0 where
  pub on : HasReadOn pass pass_after
  pub counted : AreCounted pass pass_after steps steps_after
  pub work : (steps ≤ steps_after)
      × (steps_after ≤ steps + (to - from) + 2 * (body_of to - body_of from))

-- The words of that many frames from a place on were asked for, where these were kept
pub record HasRun (first many : ℕ) (words : List ℕ) (pass pass_after : ReaderState)
    (steps steps_after : ℕ) : Type 0 where
  pub on : HasReadOn pass pass_after
  pub counted : AreCounted pass pass_after steps steps_after
  pub work : (steps ≤ steps_after) × (steps_after ≤ steps + frame_bound * many)
  pub cost : steps_after ≤ steps + run_cost (word_of first) (last_word first many) words

-- They were asked for by a seat, one after the other, and the last two of them are its kept ones
pub record HasAskedAll (first many : ℕ) (pass pass_after : ReaderState) (seat seat_after : Seat)
    (steps steps_after : ℕ) : Type 0 where
  pub seated : (songs : Songs) → AreSongsBehind songs pass_after → IsSeatOf songs seat
      → IsSeatOf songs seat_after
  pub rest : seat_after ≡ record seat { words = seat_after.words }
  pub words : numbers_of seat_after.words
      ≡ asked_all (word_of first) (last_word first many) (numbers_of seat.words)
  pub run : HasRun first many (numbers_of seat.words) pass pass_after steps steps_after
