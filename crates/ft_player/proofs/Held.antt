-- The song of the version that a pass holds, by its words.
use Rattle.std.proofs.Common.{◌≡◌, ℕ, Option, refl, sym, ap, subst, ◌∙◌}
use Rattle.ft_segments.specs.Walk.{Placed}
use Rattle.ft_shared.specs.History.{root_and_pool}
use Rattle.ft_shared.specs.Pass.{ReaderState}
use Rattle.ft_image.specs.Shown.{Shows}
use Rattle.ft_image.specs.Read.{MayShowAll}
use Rattle.ft_image.specs.Passes.{IsAmong, MayShowHeld, HasReadOn}
use Rattle.ft_player.specs.declared.songs.SongVersion.{SongVersion}
use Rattle.ft_player.specs.declared.songs.Songs.{Songs}
use Rattle.ft_player.specs.Songs.{history_of, song_of, song_at, place_in, place_at}
use Rattle.ft_player.specs.Behind.{Holds, AreSongsBehind}
use Rattle.ft_player.specs.BehindLaws.{held_version}

pub record HeldSong (songs : Songs) (pass : ReaderState) (version root : ℕ) : Type 0 where
  pub may : MayShowAll MayShowHeld pass (place_at songs version)
  pub shows : Shows (place_at songs version) (song_at songs version)
  pub rooted : (place_at songs version).root ≡ root
  pub among : IsAmong pass.register.sizes.segments (place_at songs version)
  pub channels : (song_at songs version).channels ≡ pass.register.sizes.channels

-- by its version
held_by : (songs : Songs) (pass : ReaderState) (version root : ℕ) → Holds pass version root → AreSongsBehind songs pass
    → HeldSong songs pass version root
held_by songs pass version root holds stands =
    let h = held_version songs pass (record { version = version; root = root }) stands holds in
    let place : place_at songs version ≡ root_and_pool h.version.placed = ap place_in h.found in
    let song : song_at songs version ≡ h.version.song = ap song_of h.found in record {
      may = subst (λ (p : Placed). MayShowAll MayShowHeld pass p) (sym place) (λ s of. (
        h.shown.among,
        record {
          taken = record { version = version; root = root };
          held = holds;
          agreed = record {
            history = history_of songs;
            agrees = stands.agrees;
            version = h.version.placed;
            found = h.history;
            is = refl;
          };
        },
        of,
      ));
      shows = subst (λ (o : Option SongVersion). Shows (place_in o) (song_of o)) (sym h.found) h.shown.shows;
      rooted = ap (λ (p : Placed). p.root) place ∙ h.root;
      among = subst (λ (p : Placed). IsAmong pass.register.sizes.segments p) (sym place) h.shown.among;
      channels = ap (λ (o : Option SongVersion). (song_of o).channels) h.found ∙ h.shown.channels;
    }

-- the version that a pass held before it read on
pub held_song : (songs : Songs) (old new : ReaderState) (version root : ℕ) → HasReadOn old new → Holds old version root
    → AreSongsBehind songs new → HeldSong songs new version root
held_song songs old new version root on holds stands =
    held_by songs new version root (ap (λ (x : ReaderState). x.notes.held) on.is ∙ holds) stands
