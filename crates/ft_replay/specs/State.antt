-- The sequential state: each voice owns its sample, and so keeps the frames that it began with.
use Rattle.std.specs.Prelude.{ℕ, List, [], ◌∷◌, Option, None, replicate, pos, false}
use Rattle.ft_types.specs.Views.{Owned, empty_cell}
use Rattle.ft_replay.specs.declared.state.Channel.{Channel}
use Rattle.ft_replay.specs.declared.state.Control.{Control}

-- a channel, and the sample that its voice owns; there is none where the channel has no voice
pub record Lane : Type 0 where
  pub channel : Channel
  pub owned : Option Owned

-- the whole state between two ticks
pub record SequentialState : Type 0 where
  pub control : Control
  pub lanes : List Lane

-- what the rules of one channel may change: its own lane, and the control
pub record Turn : Type 0 where
  pub lane : Lane
  pub control : Control

-- fifteen effects have a memory
abbrev pub no_memory : List ℕ
no_memory = 0 ∷ 0 ∷ 0 ∷ 0 ∷ 0 ∷ 0 ∷ 0 ∷ 0 ∷ 0 ∷ 0 ∷ 0 ∷ 0 ∷ 0 ∷ 0 ∷ 0 ∷ []

-- what is read past the channels: zeros, and no memory
abbrev pub blank_channel : Channel
blank_channel = record {
  cell = empty_cell;
  instrument = 0;
  vol = 0;
  pan = 0;
  period = 0;
  target = 0;
  vib_pos = 0;
  vib_kind = 0;
  vib_speed = 0;
  vib_depth = 0;
  trem_pos = 0;
  trem_kind = 0;
  trem_speed = 0;
  trem_depth = 0;
  tone_speed = 0;
  glissando = false;
  released = false;
  fade = 0;
  vol_env = 0;
  pan_env = 0;
  auto_pos = 0;
  auto_age = 0;
  retrigger = 0;
  tremor = 0;
  loop_row = 0;
  loop_count = 0;
  memory = [];
  voice = None;
  vib_off = pos 0;
  trem_off = pos 0;
  arp = 0;
  gliding = false;
  muted = false;
}

abbrev pub blank_lane : Lane
blank_lane = record { channel = blank_channel; owned = None }

-- ---- the first state

-- panning is in the middle at first, and all else is 0
abbrev pub first_channel : Channel
first_channel = record blank_channel { pan = 128; memory = no_memory }

-- a tempo of 0 says that no tick was played; the global volume is full
abbrev pub first_control : Control
first_control = record {
  pos = 0;
  row = 0;
  tick = 0;
  tempo = 0;
  bpm = 0;
  last_bpm = 0;
  global = 64;
  carry = 0;
  delay = 0;
  jump = None;
  to_row = None;
  back = None;
}

abbrev pub first_state : ℕ → SequentialState
first_state channels = record {
  control = first_control;
  lanes = replicate channels (record { channel = first_channel; owned = None });
}
