-- What may be behind a player, and what a player shows by it.
use Rattle.std.specs.Prelude.{◌≡◌, ℕ, List, ◌++◌, All, Option, Some, None, get_or, map}
use Rattle.ft_types.specs.Views.{Shown}
use Rattle.ft_shared.specs.declared.law.Notes.{Notes}
use Rattle.ft_shared.specs.declared.law.Pin.{Pin}
use Rattle.ft_shared.specs.declared.law.Sizes.{Sizes}
use Rattle.ft_shared.specs.declared.law.WordRead.{WordRead}
use Rattle.ft_shared.specs.declared.law.WordStep.{WordStep}
use Rattle.ft_shared.specs.History.{root_and_pool, Agrees}
use Rattle.ft_shared.specs.Pass.{ReaderState}
use Rattle.ft_image.specs.Passes.{IsAmong}
use Rattle.ft_image.specs.Shown.{Shows}
use Rattle.ft_player.specs.declared.seat.Seat.{Seat}
use Rattle.ft_player.specs.declared.songs.SongVersion.{SongVersion}
use Rattle.ft_player.specs.declared.songs.Songs.{Songs}
use Rattle.ft_player.specs.Songs.{history_of, song_at}
use Rattle.ft_player.specs.Seats.{owned_by, IsSeated}

-- ---- what may be behind a pass

-- A version shows its song in segments of the pool, and the song has the register's channels
pub record IsShown (sizes : Sizes) (version : SongVersion) : Type 0 where
  pub among : IsAmong sizes.segments (root_and_pool version.placed)
  pub shows : Shows (root_and_pool version.placed) version.song
  pub channels : version.song.channels ≡ sizes.channels

-- The versions agree with what the pass noted, and show their songs
pub record AreSongsBehind (songs : Songs) (pass : ReaderState) : Type 0 where
  pub agrees : Agrees (history_of songs) pass.notes
  pub shown : All (IsShown pass.register.sizes) songs.versions

-- a pass holds this version, with this root
abbrev pub Holds : ReaderState → ℕ → ℕ → Type 0
Holds pass number root = pass.notes.held ≡ Some (record { version = number; root = root })

-- ---- what is shown by it

-- on a version, with these seats: each keeps the sample of its own version
abbrev pub shown_by : Songs → ℕ → List (Option Seat) → Shown
shown_by songs number seats = record {
  version = number;
  song = song_at songs number;
  kept = map (owned_by songs) seats;
}

-- Whatever may be behind the pass, each seat is that of its sample
abbrev pub AreSeated : ReaderState → List (Option Seat) → Type 0
AreSeated pass seats =
    (songs : Songs) (channel : ℕ) → AreSongsBehind songs pass
    → IsSeated songs (get_or seats channel None)

-- ---- what playing leaves of a pass

-- these pins, and more reads and steps
abbrev pub after_play : Notes → List (Option Pin) → List WordRead → List WordStep → Notes
after_play notes pins reads steps = record notes {
  pins = pins;
  reads = notes.reads ++ reads;
  steps = notes.steps ++ steps;
}

-- A pass has read on, set and taken away pins, and all else of it is as it was: what it holds, and
-- its looks and takes
pub record HasPlayedOn (old new : ReaderState) : Type 0 where
  pub pins : List (Option Pin)
  pub reads : List WordRead
  pub steps : List WordStep
  pub is : new ≡ record old { notes = after_play old.notes pins reads steps }
