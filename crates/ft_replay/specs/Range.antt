-- Which states are in range. Nothing here speaks of what a view keeps.
use Rattle.std.specs.Prelude.{ℕ, ◌≡◌, ◌<◌, ◌≤◌, ◌+◌, ◌*◌, ◌^◌, List, None, Some, IfSome, All, length, get_or}
use Rattle.ft_types.specs.Limits.{highest_period}
use Rattle.ft_types.specs.declared.voice.Voice.{Voice}
use Rattle.ft_types.specs.Valid.{IsBytes, IsValidCell, IsValidHead}
use Rattle.ft_replay.specs.declared.state.Channel.{Channel}
use Rattle.ft_replay.specs.declared.state.Control.{Control}
use Rattle.ft_replay.specs.declared.state.SongState.{SongState}
use Rattle.ft_replay.specs.State.{blank_channel}
use Rattle.ft_replay.specs.Standing.{IsAscending}

-- ---- voices

-- the whole part of the position is below twice the frames
pub record IsVoiceInRange (voice : Voice) : Type 0 where
  pub head : IsValidHead voice.head
  pub place : voice.pos < 2 * voice.head.frames * 2 ^ 32
  pub step : voice.step < 2 ^ 43
  pub left : voice.left ≤ 65536
  pub right : voice.right ≤ 65536

-- ---- channels

-- the ranges of what a channel remembers
pub record IsMemoryInRange (channel : Channel) : Type 0 where
  pub cell : IsValidCell channel.cell
  pub vol : channel.vol ≤ 64
  pub pan : channel.pan < 256
  pub period : channel.period ≤ highest_period
  pub target : channel.target ≤ highest_period
  pub vib_pos : channel.vib_pos ≤ 63
  pub vib_kind : channel.vib_kind ≤ 7
  pub vib_speed : channel.vib_speed ≤ 15
  pub vib_depth : channel.vib_depth ≤ 15
  pub trem_pos : channel.trem_pos ≤ 63
  pub trem_kind : channel.trem_kind ≤ 7
  pub trem_speed : channel.trem_speed ≤ 15
  pub trem_depth : channel.trem_depth ≤ 15
  pub fade : channel.fade ≤ 32768
  pub loop_count : channel.loop_count ≤ 15
  pub memory : IsBytes 15 channel.memory
  pub arp : channel.arp ≤ 15

-- and of its voice, which is its own
pub record IsChannelInRange (c : ℕ) (channel : Channel) : Type 0 where
  pub memory : IsMemoryInRange channel
  pub voice : (voice : Voice) → channel.voice ≡ Some voice → IsVoiceInRange voice
  pub home : (voice : Voice) → channel.voice ≡ Some voice → voice.channel ≡ c

abbrev pub AreInRange : List Channel → Type 0
AreInRange channels =
    (c : ℕ) → c < length channels → IsChannelInRange c (get_or channels c blank_channel)

-- ---- the control

-- a tempo of 0 says that no tick was made; then all else of the time is 0, or out of use
pub record IsControlInRange (channels : ℕ) (control : Control) : Type 0 where
  pub pos : control.pos ≤ 256
  pub row : control.row ≤ 256
  pub pos_within : 1 ≤ control.tick → control.pos ≤ 255
  pub row_within : 1 ≤ control.tick → control.row ≤ 255
  pub delay : control.delay ≤ 15
  pub global : control.global ≤ 64
  pub tempo : control.tempo ≤ 31
  pub at_first : control.tempo ≡ 0 → control.tick ≡ 0
  pub tick : 1 ≤ control.tempo → control.tick < control.tempo * (1 + control.delay)
  pub slow : 1 ≤ control.tempo → 32 ≤ control.bpm
  pub fast : control.bpm ≤ 255
  pub last : control.last_bpm ≤ 255
  pub carry : 1 ≤ control.carry → control.carry < 2 * control.last_bpm
  pub back : IfSome control.back (λ c. c < channels)

-- the control of a tick once tempo and BPM are known
pub record IsTimed (channels : ℕ) (control : Control) : Type 0 where
  pub delay : control.delay ≤ 15
  pub global : control.global ≤ 64
  pub some_tempo : 1 ≤ control.tempo
  pub tempo : control.tempo ≤ 31
  pub tick : control.tick < control.tempo * (1 + control.delay)
  pub slow : 32 ≤ control.bpm
  pub fast : control.bpm ≤ 255
  pub last : control.last_bpm ≤ 255
  pub carry : 1 ≤ control.carry → control.carry < 2 * control.last_bpm
  pub back : IfSome control.back (λ c. c < channels)

-- and once its place is found too
pub record IsPlaying (channels : ℕ) (control : Control) : Type 0 where
  pub pos : control.pos ≤ 255
  pub row : control.row ≤ 255
  pub timed : IsTimed channels control

-- ---- the whole state, while a tick is made

pub record IsInRange (time : Control) (all : List Channel) : Type 0 where
  pub control : IsControlInRange (length all) time
  pub channels : AreInRange all

-- ---- between ticks

-- the voices are in ascending channels, in their list; none is in its channel
pub record IsBetweenTicks (used : ℕ) (time : Control) (all : List Channel) (sounding : List Voice) :
    Type 0 where
  pub few : used ≤ 32
  pub room : used ≤ length all
  pub control : IsControlInRange used time
  pub channels : (c : ℕ) → c < used → IsMemoryInRange (get_or all c blank_channel)
  pub seats : (c : ℕ) → c < used → (get_or all c blank_channel).voice ≡ None
  pub ascend : IsAscending 0 used sounding
  pub voices : All IsVoiceInRange sounding

abbrev pub IsSongInRange : SongState → Type 0
IsSongInRange song = IsBetweenTicks song.used song.control song.channels song.voices.items
