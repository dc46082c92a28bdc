use Rattle.std.proofs.Common.{ℕ, take}
use Rattle.ft_types.specs.Views.{Shown}
use Rattle.ft_types.specs.declared.module.Module.{Module}
use Rattle.ft_replay.specs.State.{SequentialState}
use Rattle.ft_replay.specs.Standing.{seated, sequential_of, state_of}
use Rattle.ft_replay.specs.Tick.{tick_state_of}
use Rattle.ft_tick.proofs.Showing.{makes_shown}
use Rattle.ft_tick.proofs.state.tick_state.Goals as goal

pub returns-clause-shown : goal.returns-clause-shown
returns-clause-shown g c =
    makes_shown g.V.SongView.shows g.V.SongView.shown
    (λ (version : ℕ) (song : Module) (state : SequentialState). (tick_state_of version song c.args.rate state).state)
    c.args.view.now c.tick_parts.new.view (sequential_of c.args.song.now)
    (λ (shown : Shown).
    state_of c.tick_parts.new.control
    (seated (take c.args.song.now.used c.tick_parts.new.channels) c.tick_parts.new.voices.items) shown)
    c.tick_parts.ensures.made
