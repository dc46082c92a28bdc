-- What is mixed, the sums of both sides, and what mixing leaves.
use Rattle.std.specs.Prelude.{ℕ, ◌+◌, ◌-◌, ◌*◌, ◌^◌, ◌/◌, ◌==◌, ◌&&◌, ◌<◌, ◌≤◌, ◌%◌, Bool, min, nat_le, nat_lt, if◌then◌else◌, FitsSigned, ◌≡◌, ◌≢◌, ◌≤ℤ◌, ◌+ℤ◌, ◌-ℤ◌, ℤ, pos, true, false, List, [], ◌∷◌, Option, Some, get_or}
use Rattle.std.specs.Int.{w16}
use Rattle.ft_types.specs.declared.voice.SampleHead.{SampleHead}
use Rattle.ft_types.specs.declared.voice.Voice.{Voice}
use Rattle.ft_types.specs.Views.{Owned, Shown}
use Rattle.ft_types.specs.Work.{frame_bound, word_of, body_of}
use Rattle.ft_replay.specs.Range.{IsVoiceInRange}
use Rattle.ft_replay.specs.Sound.{end_of, loop_turn, place_of, value_in, value_at, gained, left_of, right_of, voices_sum, clipped, is_ended}
use Rattle.ft_mix.specs.declared.piece.Piece.{Piece}
use Rattle.ft_mix.specs.declared.piece.Pieces.{Pieces}

-- ---- what is asked of a view

-- a voice in range, on one of that many channels, which keeps the sample of its head
pub record IsMixed (keeps : ℕ → SampleHead → Type 0) (channels : ℕ) (voice : Voice) : Type 0 where
  pub channel : voice.channel < channels
  pub kept : keeps voice.channel voice.head
  pub range : IsVoiceInRange voice

-- a call that only asks: what is shown stays, and this is true of it
abbrev pub OnlyAsks : {V W : Type 0} → (V → W → Type 0) → (V → W → Shown) → V → V → (Shown → Type 0)
    → Type 0
OnlyAsks {W = W} shows shown view view_after answer =
    (w : W) → shows view_after w
    → shows view w × (shown view_after w ≡ shown view w) × answer (shown view w)

-- ---- frames that are reached

-- the place of the k-th frame of a piece, which goes up or down
abbrev pub place_in_piece : Piece → ℕ → ℕ
place_in_piece piece k = if piece.down then piece.place - k else piece.place + k

-- a piece of a looped sample, which a voice reaches from a place on that counts on through the turns
pub record IsPieceOf (head : SampleHead) (at : ℕ) (piece : Piece) : Type 0 where
  pub places : (k : ℕ) → k < piece.frames → place_of head (at + k) ≡ Some (place_in_piece piece k)
  pub some : 1 ≤ piece.frames
  pub up : piece.down ≡ false → piece.place + piece.frames ≤ head.frames
  pub down : piece.down ≡ true → (piece.place < head.frames) × (piece.frames ≤ piece.place + 1)

-- how many frames a voice goes straight on in a loop, some steps into a turn: up to the loop's last
-- frame, or back down to its first
abbrev pub straight_in : SampleHead → ℕ → ℕ
straight_in head steps =
    if nat_lt steps head.loop_len then min head.loop_len (loop_turn head) - steps
    else loop_turn head - steps

-- and from a place on that counts on through the turns
unfoldable pub straight_on : SampleHead → ℕ → ℕ
straight_on head at =
    if nat_lt at (end_of head) then end_of head - at
    else straight_in head ((at - head.loop_start) % loop_turn head)

-- in two pieces, one after the other
abbrev pub straight_twice : SampleHead → ℕ → ℕ
straight_twice head at = straight_on head at + straight_on head (at + straight_on head at)

-- one piece, or two, in which that many frames lie from a place on
pub record ArePiecesOf (head : SampleHead) (at many : ℕ) (pieces : Pieces) : Type 0 where
  pub first : IsPieceOf head at pieces.first
  pub second : pieces.first.frames < many
      → IsPieceOf head (at + pieces.first.frames) pieces.second
      × (many ≤ pieces.first.frames + pieces.second.frames)

-- the values of that many frames that are reached one after the other
abbrev pub AreReached : SampleHead → Option Owned → ℕ → ℕ → List ℤ → Type 0
AreReached head owned at many values =
    (j : ℕ) → j < many → get_or values j (pos 0) ≡ value_in head owned (place_of head (at + j))

-- ---- values

-- that many values, from a position on, each a step on
abbrev pub AreValues : SampleHead → Option Owned → ℕ → ℕ → ℕ → List ℤ → Type 0
AreValues head owned position step many values =
    (k : ℕ) → k < many → get_or values k (pos 0) ≡ value_at head owned (position + k * step)

abbrev pub Fit16 : ℕ → List ℤ → Type 0
Fit16 many values = (k : ℕ) → k < many → FitsSigned w16 (get_or values k (pos 0))

-- ---- sums

-- a sum of that many voices
pub record IsLoud (voices : ℕ) (sum : ℤ) : Type 0 where
  pub low : (pos 0 -ℤ pos (8192 * voices)) ≤ℤ sum
  pub high : sum ≤ℤ pos (8192 * voices)

abbrev pub AreLoud : ℕ → ℕ → List ℤ → Type 0
AreLoud voices many sums = (k : ℕ) → k < many → IsLoud voices (get_or sums k (pos 0))

-- the first n values were added to sums by a gain
pub record HaveAdded (gain : ℕ) (values old new : List ℤ) (many : ℕ) : Type 0 where
  pub sums : (k : ℕ) → k < many → get_or new k (pos 0)
      ≡ (get_or old k (pos 0) +ℤ gained (get_or values k (pos 0)) gain)
  pub loud : (n : ℕ) → AreLoud n many old → AreLoud (n + 1) many new

-- that many sums of both sides, from a frame of a tick on
pub record AreSums (first : ℕ) (kept : List (Option Owned)) (voices : List Voice) (many : ℕ)
    (lefts rights : List ℤ) : Type 0 where
  pub left : (k : ℕ) → k < many
      → get_or lefts k (pos 0) ≡ voices_sum (left_of (first + k)) kept voices
  pub right : (k : ℕ) → k < many
      → get_or rights k (pos 0) ≡ voices_sum (right_of (first + k)) kept voices

-- a frame is written: left, then right, each clipped once
pub record IsFrame (left_sum right_sum : ℤ) (frame : ℕ) (out : List ℤ) : Type 0 where
  pub left : get_or out (2 * frame) (pos 0) ≡ clipped left_sum
  pub right : get_or out (2 * frame + 1) (pos 0) ≡ clipped right_sum

-- that many of the first frames of a tick have the sound of its voices
abbrev pub AreFrames : List (Option Owned) → List Voice → ℕ → List ℤ → Type 0
AreFrames kept voices frames out =
    (k : ℕ) → k < frames
    → IsFrame (voices_sum (left_of k) kept voices) (voices_sum (right_of k) kept voices) k out

-- ---- what the calls of a view cost

-- a voice without loop that passes at most one frame of its sample for each frame of output
abbrev pub is_slow : Voice → Bool
is_slow voice = (voice.head.loop_kind == 0) && nat_le voice.step (2 ^ 32)

-- one cost for such voices, and another for all others
abbrev pub cost_by : ℕ → ℕ → Voice → ℕ
cost_by slow other voice = if is_slow voice then slow else other

-- what mixing that many frames of a voice costs at most, its end too
abbrev pub voice_cost : ℕ → Voice → ℕ
voice_cost frames voice = cost_by (frames / 2 + 9) (1 + 2 * frame_bound * frames) voice

-- without its end
abbrev pub tick_cost : ℕ → Voice → ℕ
tick_cost frames voice = cost_by (frames / 2 + 8) (2 * frame_bound * frames) voice

-- and a block of at most 512 frames
abbrev pub block_cost : ℕ → Voice → ℕ
block_cost frames voice = cost_by (5 + (frames + 3) / 4) (2 * frame_bound * frames) voice

-- going on from a frame to another one, where a body has 256 words
abbrev pub way_cost : ℕ → ℕ → ℕ
way_cost from to =
    3 + (word_of to - word_of from) + 2 * (body_of (word_of to) - body_of (word_of from))

-- that many frames of one piece
abbrev pub piece_cost : ℕ → ℕ
piece_cost frames = 6 + frames / 4 + 2 * (frames / 1024)

-- ---- what mixing leaves

-- no voice on a channel ends
abbrev pub SoundsOn : ℕ → List Voice → ℕ → Type 0
SoundsOn frames [] c = Unit {0}
SoundsOn frames (voice ∷ voices) c =
    (is_ended frames voice ≡ true → c ≢ voice.channel) × SoundsOn frames voices c
