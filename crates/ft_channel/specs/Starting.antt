-- What a note does over a view.
use Rattle.std.specs.Prelude.{ℕ, ◌≡◌, Bool}
use Rattle.ft_types.specs.declared.module.Module.{Module}
use Rattle.ft_types.specs.Views.{Shown}
use Rattle.ft_replay.specs.declared.state.Channel.{Channel}
use Rattle.ft_replay.specs.State.{Lane}
use Rattle.ft_replay.specs.Standing.{lane_of, Became}
use Rattle.ft_replay.specs.Row.{Start}

-- the channel and what is kept for it are now the lane of this start, and a voice began exactly if
-- it says so
pub record Started (c : ℕ) (start : Start) (before after : Shown) (channel : Channel) (began : Bool)
    : Type 0 where
  pub lane : Became c start.lane before after channel
  pub same : began ≡ start.began

-- one channel's lane becomes what the rule of a note makes of it
abbrev pub Starts : {V W : Type 0} → (V → W → Type 0) → (V → W → Shown)
    → (ℕ → Module → Lane → Start) → ℕ → V → V → Channel → Channel → Bool → Type 0
Starts {W = W} shows shown rule c view view_after channel channel_after began =
    (w : W) → shows view_after w → shows view w
    × Started c (rule (shown view w).version (shown view w).song (lane_of c (shown view w) channel))
    (shown view w) (shown view_after w) channel_after began
