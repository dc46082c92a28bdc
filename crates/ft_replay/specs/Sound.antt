-- The sound of a tick, by positions in closed form.
use Rattle.std.specs.Prelude.{ℕ, zero, suc, ◌+◌, ◌*◌, ◌/◌, ◌-◌, ◌%◌, ◌^◌, ◌==◌, max, ℤ, pos, negsuc, ◌+ℤ◌, ◌-ℤ◌, ◌*ℤ◌, ◌||◌, ◌&&◌, not, Bool, false, List, [], ◌∷◌, ◌++◌, Option, Some, None, get_or, set, nat_lt, if◌then◌else◌}
use Rattle.std.specs.Int.{int_min, int_max}
use Rattle.ft_types.specs.declared.voice.SampleHead.{SampleHead}
use Rattle.ft_types.specs.declared.voice.Voice.{Voice}
use Rattle.ft_types.specs.Views.{Owned, Shown, frame_of, keeping}
use Rattle.ft_tables.specs.Pitch.{floor_div}
use Rattle.ft_replay.specs.State.{Lane}
use Rattle.ft_replay.specs.Row.{without_voice}

-- ---- the value of a voice

-- the steps of a turn of a loop, after which it is at its first frame again: a ping-pong loop goes
-- on to its last frame and back, and one of a single frame stays on it
abbrev pub loop_turn : SampleHead → ℕ
loop_turn head = if head.loop_kind == 2 then max 1 (2 * head.loop_len - 2) else head.loop_len

-- the frame of a loop, from its first, that many steps into a turn: a ping-pong loop is reflected
-- at its last frame
abbrev pub reflected : SampleHead → ℕ → ℕ
reflected head steps = if nat_lt steps head.loop_len then steps else loop_turn head - steps

-- past the last frame of a loop, or of a sample without one
abbrev pub end_of : SampleHead → ℕ
end_of head = if head.loop_kind == 0 then head.frames else head.loop_start + head.loop_len

-- the place of a frame that is reached, which counts on without ever turning: up to the end of the
-- loop, or of a sample without one, it is that place; past the end of a loop it is found by whole
-- turns, and past the end of a sample there is none
unfoldable pub place_of : SampleHead → ℕ → Option ℕ
place_of head frame =
    if nat_lt frame (end_of head) then Some frame
    else (if head.loop_kind == 0 then None
    else Some (head.loop_start + reflected head ((frame - head.loop_start) % loop_turn head)))

-- a frame of 8 bits counts 256 times
abbrev pub loudness : Bool → ℤ → ℤ
loudness wide raw = if wide then raw else (pos 256 *ℤ raw)

abbrev pub value_in : SampleHead → Option Owned → Option ℕ → ℤ
value_in head owned None = pos 0
value_in head owned (Some place) = loudness head.wide (frame_of owned place)

-- how much of a step is made at a fraction of 2^32
unfoldable pub part : ℤ → ℕ → ℤ
part step fraction = floor_div (step *ℤ pos fraction) (2 ^ 32)

-- on the straight line from one value to the next, at a fraction of 2^32
unfoldable pub between : ℤ → ℤ → ℕ → ℤ
between first second fraction = first +ℤ part (second -ℤ first) fraction

-- the value at a position, which has 32 bits of fraction
unfoldable pub value_at : SampleHead → Option Owned → ℕ → ℤ
value_at head owned position =
    between (value_in head owned (place_of head (position / 2 ^ 32)))
    (value_in head owned (place_of head (position / 2 ^ 32 + 1)))
    (position % 2 ^ 32)

-- ---- what a voice adds

-- what a value adds to a side by its gain
unfoldable pub gained : ℤ → ℕ → ℤ
gained value gain = floor_div (value *ℤ pos gain) (2 ^ 18)

-- what a voice adds to each side at frame i of a tick
abbrev pub left_of : ℕ → Option Owned → Voice → ℤ
left_of i owned voice = gained (value_at voice.head owned (voice.pos + i * voice.step)) voice.left

abbrev pub right_of : ℕ → Option Owned → Voice → ℤ
right_of i owned voice = gained (value_at voice.head owned (voice.pos + i * voice.step)) voice.right

abbrev pub clipped : ℤ → ℤ
clipped value = int_max (negsuc 32767) (int_min value (pos 32767))

-- one frame: left, then right, each clipped once
abbrev pub stereo : ℤ → ℤ → List ℤ
stereo left right = clipped left ∷ clipped right ∷ []

-- ---- the sum over lanes

abbrev pub lane_adds : (Option Owned → Voice → ℤ) → Option Owned → Option Voice → ℤ
lane_adds side owned None = pos 0
lane_adds side owned (Some voice) = side owned voice

abbrev pub lanes_sum : (Option Owned → Voice → ℤ) → List Lane → ℤ
lanes_sum side [] = pos 0
lanes_sum side (lane ∷ lanes) = lane_adds side lane.owned lane.channel.voice +ℤ lanes_sum side lanes

-- frame i
unfoldable pub frame_at : List Lane → ℕ → List ℤ
frame_at lanes i = stereo (lanes_sum (left_of i) lanes) (lanes_sum (right_of i) lanes)

-- the first frames of a tick
unfoldable pub sound_of : List Lane → ℕ → List ℤ
sound_of lanes zero = []
sound_of lanes (suc frames) = sound_of lanes frames ++ frame_at lanes frames

-- ---- the same sum over voices between ticks, with what is kept for their channels

abbrev pub voices_sum : (Option Owned → Voice → ℤ) → List (Option Owned) → List Voice → ℤ
voices_sum side kept [] = pos 0
voices_sum side kept (voice ∷ voices) =
    side (get_or kept voice.channel None) voice +ℤ voices_sum side kept voices

unfoldable pub frame_of_voices : List (Option Owned) → List Voice → ℕ → List ℤ
frame_of_voices kept voices i =
    stereo (voices_sum (left_of i) kept voices) (voices_sum (right_of i) kept voices)

unfoldable pub sound_of_voices : List (Option Owned) → List Voice → ℕ → List ℤ
sound_of_voices kept voices zero = []
sound_of_voices kept voices (suc frames) =
    sound_of_voices kept voices frames ++ frame_of_voices kept voices frames

-- ---- what a tick leaves of a voice

-- where a voice has come to after that many frames
abbrev pub reached : ℕ → Voice → ℕ
reached frames voice = voice.pos + frames * voice.step

-- a voice ends after its last tick, and without a loop where its position has passed all its frames
abbrev pub is_ended : ℕ → Voice → Bool
is_ended frames voice =
    voice.last
    || ((voice.head.loop_kind == 0)
    && not (nat_lt (reached frames voice / 2 ^ 32) voice.head.frames))

-- a position past the end of a loop is brought back by whole turns; in a ping-pong loop it may
-- still be on its way back
unfoldable pub brought_back : SampleHead → ℕ → ℕ
brought_back head position =
    if (head.loop_kind == 0) || nat_lt (position / 2 ^ 32) (head.loop_start + head.loop_len)
    then position
    else (head.loop_start + (position / 2 ^ 32 - head.loop_start) % loop_turn head) * 2 ^ 32
    + position % 2 ^ 32

abbrev pub voice_after : ℕ → Voice → Voice
voice_after frames voice = record voice { pos = brought_back voice.head (reached frames voice) }

abbrev pub lane_after_by : ℕ → Option Voice → Lane → Lane
lane_after_by frames None lane = lane
lane_after_by frames (Some voice) lane =
    if is_ended frames voice then without_voice lane
    else record lane { channel = record lane.channel { voice = Some (voice_after frames voice) } }

unfoldable pub lane_after : ℕ → Lane → Lane
lane_after frames lane = lane_after_by frames lane.channel.voice lane

-- ---- and of voices between ticks

-- those that go on
abbrev pub voices_after : ℕ → List Voice → List Voice
voices_after frames [] = []
voices_after frames (voice ∷ voices) =
    if is_ended frames voice then voices_after frames voices
    else voice_after frames voice ∷ voices_after frames voices

-- the channels of those that end keep nothing any more
abbrev pub shown_after : ℕ → List Voice → Shown → Shown
shown_after frames [] shown = shown
shown_after frames (voice ∷ voices) shown =
    if is_ended frames voice then shown_after frames voices (keeping voice.channel None shown)
    else shown_after frames voices shown

abbrev pub holds_after : ℕ → List Voice → List Bool → List Bool
holds_after frames [] holds = holds
holds_after frames (voice ∷ voices) holds =
    if is_ended frames voice then holds_after frames voices (set holds voice.channel false)
    else holds_after frames voices holds
