-- The versions of a song that may be behind a player.
use Rattle.std.specs.Prelude.{ℕ, ◌==◌, if◌then◌else◌, List, [], ◌∷◌, Option, Some, None, map, replicate, false}
use Rattle.ft_types.specs.declared.module.Module.{Module}
use Rattle.ft_segments.specs.Walk.{Placed}
use Rattle.ft_shared.specs.declared.law.PlacedVersion.{PlacedVersion}
use Rattle.ft_shared.specs.History.{root_and_pool}
use Rattle.ft_player.specs.declared.songs.SongVersion.{SongVersion}
use Rattle.ft_player.specs.declared.songs.Songs.{Songs}

-- where the versions are placed
abbrev pub placed_of : List SongVersion → List PlacedVersion
placed_of versions = map (λ (version : SongVersion). version.placed) versions

abbrev pub history_of : Songs → List PlacedVersion
history_of songs = placed_of songs.versions

-- the version of a number
abbrev pub version_among : List SongVersion → ℕ → Option SongVersion
version_among [] number = None
version_among (version ∷ versions) number =
    if version.placed.version == number then Some version else version_among versions number

abbrev pub version_at : Songs → ℕ → Option SongVersion
version_at songs number = version_among songs.versions number

-- a song of nothing, and words of nothing, where there is no such version
abbrev pub no_song : Module
no_song = record {
  name = replicate 20 0;
  tracker = replicate 20 0;
  restart = 0;
  channels = 0;
  linear = false;
  tempo = 0;
  bpm = 0;
  orders = [];
  patterns = [];
  instruments = [];
}

abbrev pub song_of : Option SongVersion → Module
song_of None = no_song
song_of (Some version) = version.song

abbrev pub place_in : Option SongVersion → Placed
place_in None = record { root = 0; pool = [] }
place_in (Some version) = root_and_pool version.placed

-- the song of a version, and its root and words, by its number
abbrev pub song_at : Songs → ℕ → Module
song_at songs number = song_of (version_at songs number)

abbrev pub place_at : Songs → ℕ → Placed
place_at songs number = place_in (version_at songs number)
