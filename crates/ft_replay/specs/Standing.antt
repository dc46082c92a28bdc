-- What the program's state stands for: its channels with what is kept for them, and its voices.
use Rattle.std.specs.Prelude.{◌+◌, ◌≤◌, ℕ, ◌≡◌, ◌<◌, ◌++◌, List, [], ◌∷◌, Option, None, Some, get_or, set, take, option_to_list}
use Rattle.ft_types.specs.declared.module.Module.{Module}
use Rattle.ft_types.specs.declared.voice.Voice.{Voice}
use Rattle.ft_types.specs.Views.{Owned, Shown, keeping}
use Rattle.ft_replay.specs.declared.state.Channel.{Channel}
use Rattle.ft_replay.specs.declared.state.Control.{Control}
use Rattle.ft_replay.specs.declared.state.SongState.{SongState}
use Rattle.ft_replay.specs.State.{Lane, SequentialState, Turn, blank_channel}

-- ---- one channel

-- a channel with what is kept for it
abbrev pub lane_of : ℕ → Shown → Channel → Lane
lane_of c shown channel = record { channel = channel; owned = get_or shown.kept c None }

abbrev pub turn_of : ℕ → Shown → Channel → Control → Turn
turn_of c shown channel control = record { lane = lane_of c shown channel; control = control }

-- the channel and what is kept for it are now this lane
pub record Became (c : ℕ) (lane : Lane) (before after : Shown) (channel : Channel) : Type 0 where
  pub same : channel ≡ lane.channel
  pub kept : after ≡ keeping c lane.owned before

-- and the control is this
pub record Turned (c : ℕ) (turn : Turn) (before after : Shown) (channel : Channel)
    (control : Control) : Type 0 where
  pub lane : Became c turn.lane before after channel
  pub same : control ≡ turn.control

-- ---- all channels

-- channels with what is kept for each
abbrev pub lanes_of : List Channel → List (Option Owned) → List Lane
lanes_of [] kept = []
lanes_of (channel ∷ channels) [] = record { channel = channel; owned = None } ∷ lanes_of channels []
lanes_of (channel ∷ channels) (owned ∷ kept) =
    record { channel = channel; owned = owned } ∷ lanes_of channels kept

-- the state behind a control, channels, and what a view shows
abbrev pub state_of : Control → List Channel → Shown → SequentialState
state_of control channels shown = record { control = control; lanes = lanes_of channels shown.kept }

-- what a call made of the state, as a function of the version and the song
pub record Made (rule : ℕ → Module → SequentialState → SequentialState) (before after : Shown)
    (old new : SequentialState) : Type 0 where
  pub version : after.version ≡ before.version
  pub song : after.song ≡ before.song
  pub state : new ≡ rule before.version before.song old

-- ---- voices between ticks

-- a voice sits on its channel
abbrev pub seat_of : Voice → List Channel → List Channel
seat_of voice channels =
    set channels voice.channel
    (record (get_or channels voice.channel blank_channel) { voice = Some voice })

-- each voice sits on its channel
abbrev pub seated : List Channel → List Voice → List Channel
seated channels [] = channels
seated channels (voice ∷ voices) = seated (seat_of voice channels) voices

-- the voices of channels, in ascending order of channel
abbrev pub gathered : List Channel → List Voice
gathered [] = []
gathered (channel ∷ channels) = option_to_list channel.voice ++ gathered channels

abbrev pub emptied : Channel → Channel
emptied channel = record channel { voice = None }

-- the channels of a song, each with its voice
abbrev pub channels_of : SongState → List Channel
channels_of song = seated (take song.used song.channels) song.voices.items

-- the state that a song between ticks stands for, by what a view shows
abbrev pub sequential_of : SongState → Shown → SequentialState
sequential_of song shown = state_of song.control (channels_of song) shown

-- voices on ascending channels, from one on and below another, and so none twice on a channel
unfoldable pub IsAscending : ℕ → ℕ → List Voice → Type 0
IsAscending low high [] = Unit {0}
IsAscending low high (voice ∷ voices) =
    (low ≤ voice.channel) × (voice.channel < high) × IsAscending (voice.channel + 1) high voices
