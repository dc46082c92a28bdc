-- What a rule of channel and control makes of both, whatever the channel keeps.
use Rattle.std.specs.Prelude.{◌≡◌, Option}
use Rattle.ft_types.specs.Views.{Owned}
use Rattle.ft_replay.specs.declared.state.Channel.{Channel}
use Rattle.ft_replay.specs.declared.state.Control.{Control}
use Rattle.ft_replay.specs.State.{Turn}

-- a turn of a channel, of what it keeps, and of the control
abbrev pub turn_with : Channel → Option Owned → Control → Turn
turn_with channel owned control =
    record { lane = record { channel = channel; owned = owned }; control = control }

abbrev pub Loops : (Turn → Turn) → Channel → Channel → Control → Control → Type 0
Loops rule channel channel_after control control_after =
    (owned : Option Owned)
    → turn_with channel_after owned control_after ≡ rule (turn_with channel owned control)
