-- The replay of a song, over the versions that its ticks play.
use Rattle.std.specs.Prelude.{ℕ, ◌-◌, ◌*◌, ℤ, List, [], ◌∷◌, flat_map, map, take, replicate, min}
use Rattle.ft_types.specs.declared.module.Module.{Module}
use Rattle.ft_replay.specs.declared.state.Place.{Place}
use Rattle.ft_replay.specs.State.{SequentialState, first_state}
use Rattle.ft_replay.specs.Tick.{Tick, seq_tick}

-- the ticks on these versions of a song, one after the other
abbrev pub ticks_from : (ℕ → Module) → List ℕ → ℕ → SequentialState → List Tick
ticks_from song_at [] rate state = []
ticks_from song_at (version ∷ versions) rate state =
    let tick = seq_tick version (song_at version) rate state in
    tick ∷ ticks_from song_at versions rate tick.state

-- the state after them
abbrev pub state_after : (ℕ → Module) → List ℕ → ℕ → SequentialState → SequentialState
state_after song_at [] rate state = state
state_after song_at (version ∷ versions) rate state =
    state_after song_at versions rate (seq_tick version (song_at version) rate state).state

-- of that many frames the last place has what the places before it leave, at most
abbrev pub cut_last : ℕ → List Place → List Place
cut_last count [] = []
cut_last count (place ∷ []) = record place { frames = min place.frames count } ∷ []
cut_last count (place ∷ next ∷ places) = place ∷ cut_last (count - place.frames) (next ∷ places)

abbrev pub sound_of_ticks : List Tick → List ℤ
sound_of_ticks ticks = flat_map (λ tick. tick.sound) ticks

-- what was played: the places of the ticks, and their sound, left and right in turn
pub record Played : Type 0 where
  pub places : List Place
  pub sound : List ℤ

-- that many frames of a song of that many channels, on these versions and at this rate
unfoldable pub replay : ℕ → (ℕ → Module) → List ℕ → ℕ → ℕ → Played
replay channels song_at versions count rate =
    let ticks = ticks_from song_at versions rate (first_state channels) in
    record {
      places = cut_last count (map (λ tick. tick.place) ticks);
      sound = take (2 * count) (sound_of_ticks ticks);
    }

-- the sound of that many frames of one version of a song, from a state on: as many ticks as frames
-- are enough, since each has a frame
unfoldable pub sound_from : ℕ → Module → ℕ → ℕ → SequentialState → List ℤ
sound_from version song count rate state =
    take (2 * count)
    (sound_of_ticks (ticks_from (λ version. song) (replicate count version) rate state))

-- and from its beginning
abbrev pub sound_of_song : Module → ℕ → ℕ → List ℤ
sound_of_song song count rate = sound_from 0 song count rate (first_state song.channels)
