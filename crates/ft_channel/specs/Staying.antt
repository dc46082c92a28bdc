-- What the rules of one channel leave, whatever is behind the view.
use Rattle.std.specs.Prelude.{ℕ, ◌≡◌, ◌<◌, List, [], Option, None, Some, get_or, set}
use Rattle.ft_types.specs.declared.voice.SampleHead.{SampleHead}
use Rattle.ft_types.specs.declared.voice.Voice.{Voice}
use Rattle.ft_replay.specs.declared.state.Channel.{Channel}
use Rattle.ft_replay.specs.declared.state.Control.{Control}
use Rattle.ft_replay.specs.Range.{IsChannelInRange, IsTimed}

-- ---- a channel

-- the sample of a voice
abbrev pub voice_head : Option Voice → Option SampleHead
voice_head None = None
voice_head (Some voice) = Some voice.head

-- what was in range is in range still, and a voice sounds where one did, of the same sample
pub record Stays (channel channel_after : Channel) : Type 0 where
  pub range : (c : ℕ) → IsChannelInRange c channel → IsChannelInRange c channel_after
  pub sample : voice_head channel_after.voice ≡ voice_head channel.voice

-- only this channel's words may be others
abbrev pub WordsFor : ℕ → List (List ℕ) → List (List ℕ) → Type 0
WordsFor c words words_after = words_after ≡ set words c (get_or words_after c [])

-- ---- the control

-- the place of the song, and the time that ticks carry, stay
pub record StaysInPlace (control control_after : Control) : Type 0 where
  pub pos : control_after.pos ≡ control.pos
  pub row : control_after.row ≡ control.row
  pub tick : control_after.tick ≡ control.tick
  pub last : control_after.last_bpm ≡ control.last_bpm
  pub carry : control_after.carry ≡ control.carry

-- at the first tick of a row its time stays in range
abbrev pub StaysTimed : ℕ → Control → Control → Type 0
StaysTimed c control control_after =
    (n : ℕ) → c < n → control.tick ≡ 0 → IsTimed n control → IsTimed n control_after
