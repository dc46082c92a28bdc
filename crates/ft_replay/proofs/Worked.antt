-- Worked rows of the definitions, by computation.
use Rattle.std.proofs.Common.{◌≡◌, ℕ, zero, suc, ◌+◌, ◌*◌, ◌^◌, pos, negsuc, ◌*ℤ◌, Option, None, Some, false, List, [], ◌∷◌, ◌++◌, refl}
use Rattle.std.specs.Prelude.{replicate}
use Rattle.ft_types.specs.declared.sample.Sample.{Sample}
use Rattle.ft_types.specs.declared.voice.SampleHead.{SampleHead}
use Rattle.ft_types.specs.Views.{head_of}
use Rattle.ft_replay.specs.declared.state.Place.{Place}
use Rattle.ft_replay.specs.State.{Lane, first_channel, first_control}
use Rattle.ft_replay.specs.Row.{new_voice}
use Rattle.ft_replay.specs.Hearing.{gain_of}
use Rattle.ft_replay.specs.Sound.{sound_of, frame_at, value_at, place_of, between, part, gained, clipped, brought_back, lane_after}
use Rattle.ft_replay.specs.Replay.{cut_last}
use Rattle.ft_replay.specs.Time.{tick_frames, with_carry}
use Rattle.ft_replay.specs.declared.state.Control.{Control}

-- where volume and global volume are full, the gain is full
full_gain : gain_of 64 64 64 32768 ≡ 65536
unfolding gain_of
full_gain = refl

-- ---- one note of one sample of four frames

four_frames : Sample
four_frames = record {
  name = replicate 22 0;
  volume = 64;
  finetune = pos 0;
  relative = pos 0;
  panning = 128;
  wide = false;
  loop_kind = 0;
  loop_start = 0;
  loop_len = 0;
  frames = pos 64 ∷ pos 64 ∷ pos 64 ∷ pos 64 ∷ [];
}

sounding : ℕ → Lane
unfolding four_frames
sounding step = record {
  channel = record first_channel {
    voice = Some (record (new_voice 0 0 (head_of four_frames)) { step = step; left = 32768; right = 32768 });
  };
  owned = Some (record { origin = record { version = 0; instrument = 1; sample = 0 }; sample = four_frames });
}

-- four frames of 2048 on both sides, and then silence
four_and_silence : sound_of (sounding (2 ^ 32) ∷ []) 6
    ≡ pos 2048 ∷ pos 2048 ∷ pos 2048 ∷ pos 2048 ∷ pos 2048 ∷ pos 2048 ∷ pos 2048 ∷ pos 2048 ∷ pos 0 ∷ pos 0 ∷ pos 0
    ∷ pos 0 ∷ []
unfolding sounding four_frames sound_of frame_at value_at place_of between part gained
four_and_silence = refl

-- an octave higher two frames
two_and_silence :
    sound_of (sounding (2 * 2 ^ 32) ∷ []) 3 ≡ pos 2048 ∷ pos 2048 ∷ pos 2048 ∷ pos 2048 ∷ pos 0 ∷ pos 0 ∷ []
unfolding sounding four_frames sound_of frame_at value_at place_of between part gained
two_and_silence = refl

-- after which the voice has ended
ended : (lane_after 4 (sounding (2 ^ 32))).channel.voice ≡ None
unfolding sounding four_frames lane_after
ended = refl

-- ---- loops

looped : ℕ → ℕ → ℕ → SampleHead
looped kind start len = record {
  frames = start + len;
  wide = false;
  loop_kind = kind;
  loop_start = start;
  loop_len = len;
  volume = 64;
  panning = 128;
  finetune = pos 0;
  relative = pos 0;
}

-- the places that are reached first
places : ℕ → SampleHead → List (Option ℕ)
places zero head = []
places (suc many) head = places many head ++ place_of head many ∷ []

some_of : List ℕ → List (Option ℕ)
some_of [] = []
some_of (place ∷ rest) = Some place ∷ some_of rest

-- a ping-pong loop of one frame stays on it, and others play their first and last frame once in a turn
ping_pong_of_one : places 7 (looped 2 0 1) ≡ some_of (0 ∷ 0 ∷ 0 ∷ 0 ∷ 0 ∷ 0 ∷ 0 ∷ [])
unfolding looped places some_of place_of
ping_pong_of_one = refl

ping_pong_of_two : places 7 (looped 2 0 2) ≡ some_of (0 ∷ 1 ∷ 0 ∷ 1 ∷ 0 ∷ 1 ∷ 0 ∷ [])
unfolding looped places some_of place_of
ping_pong_of_two = refl

ping_pong_of_three : places 7 (looped 2 0 3) ≡ some_of (0 ∷ 1 ∷ 2 ∷ 1 ∷ 0 ∷ 1 ∷ 2 ∷ [])
unfolding looped places some_of place_of
ping_pong_of_three = refl

forward_past_its_start : places 9 (looped 1 2 3) ≡ some_of (0 ∷ 1 ∷ 2 ∷ 3 ∷ 4 ∷ 2 ∷ 3 ∷ 4 ∷ 2 ∷ [])
unfolding looped places some_of place_of
forward_past_its_start = refl

ping_pong_past_its_start : places 9 (looped 2 2 3) ≡ some_of (0 ∷ 1 ∷ 2 ∷ 3 ∷ 4 ∷ 3 ∷ 2 ∷ 3 ∷ 4 ∷ [])
unfolding looped places some_of place_of
ping_pong_past_its_start = refl

-- after a tick the turns that are over are dropped: one of 3 frames forward, one of 4 steps there and back
forward_back : brought_back (looped 1 2 3) (6 * 2 ^ 32 + 5) ≡ 3 * 2 ^ 32 + 5
unfolding looped brought_back
forward_back = refl

on_its_way_back : brought_back (looped 2 2 3) (9 * 2 ^ 32 + 5) ≡ 5 * 2 ^ 32 + 5
unfolding looped brought_back
on_its_way_back = refl

-- ---- how long ticks are

-- the frames of that many ticks, one after the other
ticks_at : ℕ → ℕ → Control → List ℕ
ticks_at zero rate control = []
ticks_at (suc ticks) rate control = tick_frames rate control ∷ ticks_at ticks rate (with_carry rate control)

-- the rest is carried on: each thirteenth tick has a frame more
at_bpm_130 : ticks_at 26 44100 (record first_control { bpm = 130 })
    ≡ 848 ∷ 848 ∷ 848 ∷ 848 ∷ 848 ∷ 848 ∷ 848 ∷ 848 ∷ 848 ∷ 848 ∷ 848 ∷ 848 ∷ 849
    ∷ 848 ∷ 848 ∷ 848 ∷ 848 ∷ 848 ∷ 848 ∷ 848 ∷ 848 ∷ 848 ∷ 848 ∷ 848 ∷ 848 ∷ 849 ∷ []
unfolding ticks_at tick_frames
at_bpm_130 = refl

at_bpm_33 : ticks_at 13 44100 (record first_control { bpm = 33 })
    ≡ 3340 ∷ 3341 ∷ 3341 ∷ 3341 ∷ 3341 ∷ 3341 ∷ 3341 ∷ 3341 ∷ 3341 ∷ 3341 ∷ 3341 ∷ 3340 ∷ 3341 ∷ []
unfolding ticks_at tick_frames
at_bpm_33 = refl

-- ---- many voices

-- 32 channels at full volume are clipped once, above and below
loudest : clipped (pos 32 *ℤ gained (pos 32512) 32768) ≡ pos 32767
unfolding gained
loudest = refl

deepest : clipped (pos 32 *ℤ gained (negsuc 32767) 32768) ≡ negsuc 32767
unfolding gained
deepest = refl

-- ---- cut places

tick_at : ℕ → ℕ → Place
tick_at tick frames = record { order = 0; row = 0; tick = tick; frames = frames }

-- of 200 frames the first two ticks of 160 are whole, and leave the last none
only_the_last_is_cut :
    cut_last 200 (tick_at 0 160 ∷ tick_at 1 160 ∷ tick_at 2 160 ∷ []) ≡ tick_at 0 160 ∷ tick_at 1 160 ∷ tick_at 2 0 ∷ []
unfolding tick_at
only_the_last_is_cut = refl

-- of 200 frames two ticks of 160 leave the last 40
the_last_has_the_rest : cut_last 200 (tick_at 0 160 ∷ tick_at 1 160 ∷ []) ≡ tick_at 0 160 ∷ tick_at 1 40 ∷ []
unfolding tick_at
the_last_has_the_rest = refl
