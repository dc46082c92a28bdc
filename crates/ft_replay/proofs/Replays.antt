-- Replays, one version after another.
use Rattle.std.proofs.Common.{◌≡◌, ℕ, List, [], ◌∷◌, ◌++◌, refl, ap}
use Rattle.ft_types.specs.declared.module.Module.{Module}
use Rattle.ft_replay.specs.State.{SequentialState}
use Rattle.ft_replay.specs.Replay.{ticks_from, state_after}
use Rattle.ft_replay.specs.Tick.{Tick, seq_tick}

pub ticks_go_on : (song_at : ℕ → Module) (versions more : List ℕ) (rate : ℕ) (state : SequentialState)
    → ticks_from song_at (versions ++ more) rate state
    ≡ ticks_from song_at versions rate state
    ++ ticks_from song_at more rate (state_after song_at versions rate state)
ticks_go_on song_at [] more rate state = refl
ticks_go_on song_at (version ∷ versions) more rate state =
    ap (λ (l : List Tick). seq_tick version (song_at version) rate state ∷ l)
    (ticks_go_on song_at versions more rate (seq_tick version (song_at version) rate state).state)

pub state_goes_on : (song_at : ℕ → Module) (versions more : List ℕ) (rate : ℕ) (state : SequentialState)
    → state_after song_at (versions ++ more) rate state
    ≡ state_after song_at more rate (state_after song_at versions rate state)
state_goes_on song_at [] more rate state = refl
state_goes_on song_at (version ∷ versions) more rate state =
    state_goes_on song_at versions more rate (seq_tick version (song_at version) rate state).state
