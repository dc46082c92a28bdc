-- Laws of what may be behind a player.
use Rattle.std.proofs.Common.{◌≡◌, ℕ, zero, suc, ◌==◌, if◌then◌else◌, List, [], ◌∷◌, ◌++◌, Bool, true, false, Option, None, Some, length, map, get_or, is_some, refl, sym, ap, subst, ◌∙◌, append-nil, append_assoc, arith}
use Rattle.std.specs.Prelude.{All, IsSomeAnd}
use Rattle.std.proofs.lemmas.List.{length-map}
use Rattle.std.proofs.lemmas.List.Elements.{All-tail}
use Rattle.std.proofs.lemmas.Option.{none-some, same_Some}
use Rattle.ft_types.specs.declared.voice.SampleHead.{SampleHead}
use Rattle.ft_types.specs.Valid.{IsValid}
use Rattle.ft_types.specs.Views.{head_of_owned}
use Rattle.ft_shared.specs.declared.law.PlacedVersion.{PlacedVersion}
use Rattle.ft_shared.specs.declared.law.TakenVersion.{TakenVersion}
use Rattle.ft_shared.specs.History.{placed_at}
use Rattle.ft_shared.specs.Pass.{RegisterId, ReaderState}
use Rattle.ft_image.specs.Passes.{AreCounted, HasReadOn}
use Rattle.ft_player.specs.declared.seat.Seat.{Seat}
use Rattle.ft_player.specs.declared.songs.SongVersion.{SongVersion}
use Rattle.ft_player.specs.declared.songs.Songs.{Songs}
use Rattle.ft_player.specs.Songs.{placed_of, history_of, version_among, version_at, song_of, song_at}
use Rattle.ft_player.specs.Seats.{head_in, seat_words, owned_by}
use Rattle.ft_player.specs.Behind.{IsShown, AreSongsBehind, AreSeated, HasPlayedOn, after_play}

-- ---- versions by their numbers

picked : (b : Bool) (v : SongVersion) (placed : PlacedVersion) (o : Option SongVersion)
    (p : Option PlacedVersion)
    → (if b then Some v.placed else p) ≡ Some placed
    → (p ≡ Some placed → (x : SongVersion) × (o ≡ Some x) × (x.placed ≡ placed))
    → (x : SongVersion) × ((if b then Some v else o) ≡ Some x) × (x.placed ≡ placed)
picked true v placed o p e rest = (v, refl, same_Some v.placed placed e)
picked false v placed o p e rest = rest e

-- a placed version of the history is that of a version of the songs
pub has_song : (versions : List SongVersion) (number : ℕ) (placed : PlacedVersion)
    → placed_at (placed_of versions) number ≡ Some placed
    → (x : SongVersion) × (version_among versions number ≡ Some x) × (x.placed ≡ placed)
has_song [] number placed e = absurd (none-some placed e)
has_song (v ∷ versions) number placed e =
    picked (v.placed.version == number) v placed (version_among versions number)
    (placed_at (placed_of versions) number) e (has_song versions number placed)

kept_of : (b : Bool) (v x : SongVersion) (o : Option SongVersion) (P : SongVersion → Type 0)
    → (if b then Some v else o) ≡ Some x → P v → (o ≡ Some x → P x) → P x
kept_of true v x o P e here rest = subst P (same_Some v x e) here
kept_of false v x o P e here rest = rest e

-- what holds of all versions holds of that of a number
pub each_version : (P : SongVersion → Type 0) (versions : List SongVersion) (number : ℕ)
    (x : SongVersion)
    → All P versions → version_among versions number ≡ Some x → P x
each_version P [] number x all e = absurd (none-some x e)
each_version P (v ∷ versions) number x all e =
    kept_of (v.placed.version == number) v x (version_among versions number) P e
    (all 0 v (omega arith))
    (each_version P versions number x (All-tail P v versions all))

-- the version that a pass holds is one that is shown
pub record HoldsShown (songs : Songs) (pass : ReaderState) (taken : TakenVersion) : Type 0 where
  pub version : SongVersion
  pub found : version_at songs taken.version ≡ Some version
  pub history : placed_at (history_of songs) taken.version ≡ Some version.placed
  pub root : version.placed.root ≡ taken.root
  pub shown : IsShown pass.register.sizes version

taken_at : (o : Option PlacedVersion) (root : ℕ)
    → IsSomeAnd o (λ placed. placed.root ≡ root)
    → (placed : PlacedVersion) × (o ≡ Some placed) × (placed.root ≡ root)
taken_at None root is = absurd is
taken_at (Some placed) root is = (placed, refl, is)

pub held_version : (songs : Songs) (pass : ReaderState) (taken : TakenVersion)
    → AreSongsBehind songs pass → pass.notes.held ≡ Some taken → HoldsShown songs pass taken
held_version songs pass taken stands held =
    let at = taken_at (placed_at (history_of songs) taken.version) taken.root
    (stands.agrees.held taken held) in
    let x = has_song songs.versions taken.version at.0 at.1 in record {
      version = x.0;
      found = x.1;
      history = at.1 ∙ ap (λ (p : PlacedVersion). Some p) (sym x.2);
      root = ap (λ (p : PlacedVersion). p.root) x.2 ∙ at.2;
      shown = each_version (IsShown pass.register.sizes) songs.versions taken.version x.0
          stands.shown x.1;
    }

-- ---- what a view shows

pub valid : (songs : Songs) (pass : ReaderState) (taken : TakenVersion)
    → AreSongsBehind songs pass → pass.notes.held ≡ Some taken
    → IsValid (song_at songs taken.version)
valid songs pass taken stands held =
    let h = held_version songs pass taken stands held in
    subst (λ (o : Option SongVersion). IsValid (song_of o)) (sym h.found) h.shown.shows.valid

pub channels : (songs : Songs) (pass : ReaderState) (register : RegisterId) (taken : TakenVersion)
    (seats : List (Option Seat))
    → AreSongsBehind songs pass → pass.register ≡ register → pass.notes.held ≡ Some taken
    → length seats ≡ register.sizes.channels
    → (song_at songs taken.version).channels ≡ length (map (is_some {T = Seat}) seats)
channels songs pass register taken seats stands here held many =
    let h = held_version songs pass taken stands held in
    ap (λ (o : Option SongVersion). (song_of o).channels) h.found ∙ h.shown.channels
    ∙ ap (λ (r : RegisterId). r.sizes.channels) here
    ∙ sym many
    ∙ sym (length-map seats (is_some {T = Seat}))

pub wide : (songs : Songs) (seats : List (Option Seat))
    → length (map (owned_by songs) seats) ≡ length (map (is_some {T = Seat}) seats)
wide songs seats = length-map seats (owned_by songs) ∙ sym (length-map seats (is_some {T = Seat}))

pub worded : (seats : List (Option Seat))
    → length (map seat_words seats) ≡ length (map (is_some {T = Seat}) seats)
worded seats = length-map seats seat_words ∙ sym (length-map seats (is_some {T = Seat}))

-- what a channel keeps, by its seat
pub owned_at : (songs : Songs) (seats : List (Option Seat)) (c : ℕ)
    → get_or (map (owned_by songs) seats) c None ≡ owned_by songs (get_or seats c None)
owned_at songs [] c = refl
owned_at songs (seat ∷ seats) zero = refl
owned_at songs (seat ∷ seats) (suc c) = owned_at songs seats c

pub words_at : (seats : List (Option Seat)) (c : ℕ)
    → get_or (map seat_words seats) c [] ≡ seat_words (get_or seats c None)
words_at [] c = refl
words_at (seat ∷ seats) zero = refl
words_at (seat ∷ seats) (suc c) = words_at seats c

-- there is a seat where there is a head
pub seat_of : (o : Option Seat) (h : SampleHead) → head_in o ≡ Some h
    → (seat : Seat) × (o ≡ Some seat) × (seat.head ≡ h)
seat_of None h e = absurd (none-some h e)
seat_of (Some seat) h e = (seat, refl, same_Some seat.head h e)

pub of_head : (songs : Songs) (pass : ReaderState) (seats : List (Option Seat)) (c : ℕ)
    (h : SampleHead)
    → AreSeated pass seats → AreSongsBehind songs pass → head_in (get_or seats c None) ≡ Some h
    → head_of_owned (get_or (map (owned_by songs) seats) c None) ≡ Some h
of_head songs pass seats c h seated stands e =
    let s = seat_of (get_or seats c None) h e in
    ap head_of_owned (owned_at songs seats c ∙ ap (owned_by songs) s.1)
    ∙ (seated songs c stands s.0 s.1).head
    ∙ ap (λ (x : SampleHead). Some x) s.2

pub held : (seats : List (Option Seat)) (c : ℕ) (h : SampleHead)
    → head_in (get_or seats c None) ≡ Some h
    → get_or (map (is_some {T = Seat}) seats) c false ≡ true
held [] c h e = absurd (none-some h e)
held (None ∷ seats) zero h e = absurd (none-some h e)
held (Some seat ∷ seats) zero h e = refl
held (seat ∷ seats) (suc c) h e = held seats c h e

-- ---- what calls leave

pub plays_nothing : (pass : ReaderState) → HasPlayedOn pass pass
plays_nothing pass = record {
  pins = pass.notes.pins;
  reads = [];
  steps = [];
  is = λ i. record pass {
    notes = record pass.notes {
      reads = sym (append-nil pass.notes.reads) i;
      steps = sym (append-nil pass.notes.steps) i;
    };
  };
}

pub counted_through : (a b c : ReaderState) (x y z : ℕ) → AreCounted a b x y → AreCounted b c y z
    → AreCounted a c x z
counted_through a b c x y z e f = omega arith

pub plays_through : (a b c : ReaderState) → HasPlayedOn a b → HasPlayedOn b c → HasPlayedOn a c
plays_through a b c e f = record {
  pins = f.pins;
  reads = e.reads ++ f.reads;
  steps = e.steps ++ f.steps;
  is = f.is ∙ (ap (λ (x : ReaderState). record x {
    notes = after_play x.notes f.pins f.reads f.steps;
  }) e.is
      ∙ (λ i. record a {
        notes = record a.notes {
          pins = f.pins;
          reads = append_assoc a.notes.reads e.reads f.reads i;
          steps = append_assoc a.notes.steps e.steps f.steps i;
        };
      }));
}

-- what has read on has played on, with the pins that it had
pub played_read : (old new : ReaderState) → HasReadOn old new → HasPlayedOn old new
played_read old new on = record {
  pins = old.notes.pins;
  reads = on.reads;
  steps = on.steps;
  is = on.is;
}
