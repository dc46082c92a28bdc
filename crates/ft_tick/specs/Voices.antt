-- Channels whose voices are the same.
use Rattle.std.specs.Prelude.{ℕ, ◌≡◌, ◌<◌, List, length, get_or}
use Rattle.ft_replay.specs.declared.state.Channel.{Channel}
use Rattle.ft_replay.specs.State.{blank_channel}

abbrev pub HaveSameVoices : List Channel → List Channel → Type 0
HaveSameVoices channels others =
    (c : ℕ) → c < length channels
    → (get_or others c blank_channel).voice ≡ (get_or channels c blank_channel).voice
