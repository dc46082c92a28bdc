use Rattle.ft_replay.proofs.Replays.{ticks_go_on, state_goes_on}
use Rattle.ft_replay.proofs.laws.replay_law.Goals as goal

pub returns-clause-ticks : goal.returns-clause-ticks
returns-clause-ticks c = ticks_go_on

pub returns-clause-state : goal.returns-clause-state
returns-clause-state c = state_goes_on
