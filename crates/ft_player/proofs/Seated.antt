-- Seats of samples, by what may be behind a pass.
use Rattle.std.proofs.Common.{◌≡◌, ◌≢◌, ℕ, zero, suc, ◌+◌, ◌<◌, ◌≤◌, ◌==◌, if◌then◌else◌, List, [], ◌∷◌, Bool, true, false, Option, None, Some, IfSome, length, map, get_or, set, is_some, refl, sym, ap, subst, ◌∙◌, arith, inl, inr}
use Rattle.std.proofs.Math.Seq.{map-set_same}
use Rattle.std.proofs.lemmas.Bool.{cases_eq}
use Rattle.std.proofs.lemmas.List.{map-set, get_or-set_same, get_or-set_other}
use Rattle.std.proofs.lemmas.Option.{none-some, same_Some}
use Rattle.ft_types.specs.declared.module.Module.{Module}
use Rattle.ft_types.specs.declared.sample.Sample.{Sample}
use Rattle.ft_types.specs.declared.voice.SampleHead.{SampleHead}
use Rattle.ft_types.specs.Valid.{IsValidHead}
use Rattle.ft_types.specs.Views.{Owned, head_of, head_of_owned, keeping}
use Rattle.ft_types.specs.Work.{is_kept, is_near, frame_cost}
use Rattle.ft_segments.specs.Walk.{Placed}
use Rattle.ft_shared.specs.declared.law.Pin.{Pin}
use Rattle.ft_shared.specs.declared.law.PlacedVersion.{PlacedVersion}
use Rattle.ft_shared.specs.Counts.{pin_of}
use Rattle.ft_shared.specs.History.{placed_at, root_and_pool, Agrees}
use Rattle.ft_shared.specs.Pass.{ReaderState}
use Rattle.ft_image.specs.Shown.{Shows}
use Rattle.ft_image.specs.Read.{MayShowSample, IsRootOf, mapped_sample, sample_at}
use Rattle.ft_image.specs.Passes.{IsAmong, MayShowPinned, HasReadOn}
use Rattle.ft_player.specs.declared.seat.KeptWord.{KeptWord}
use Rattle.ft_player.specs.declared.seat.KeptWords.{KeptWords}
use Rattle.ft_player.specs.declared.seat.Seat.{Seat}
use Rattle.ft_player.specs.declared.songs.SongVersion.{SongVersion}
use Rattle.ft_player.specs.declared.songs.Songs.{Songs}
use Rattle.ft_player.specs.Songs.{placed_of, history_of, version_among, version_at, no_song, song_of, song_at, place_in, place_at}
use Rattle.ft_player.specs.Seats.{head_in, pin_in, numbers_of, seat_words, reworded, owned_by, owned_frames, frames_by, IsWordOf, IsSeatOf, IsSeated}
use Rattle.ft_player.specs.Behind.{AreSongsBehind, IsShown, shown_by}
use Rattle.ft_player.specs.BehindLaws.{each_version}
use Rattle.ft_player.proofs.Beginning.{begun_sample}

-- ---- the version of a seat

placed_pick : (b : Bool) (v x : SongVersion) (o : Option SongVersion) (p : Option PlacedVersion)
    → (if b then Some v else o) ≡ Some x → (o ≡ Some x → p ≡ Some x.placed) → (if b then Some v.placed else p) ≡ Some x.placed
placed_pick true v x o p e rest = ap (λ (y : SongVersion). Some y.placed) (same_Some v x e)
placed_pick false v x o p e rest = rest e

has_placed : (versions : List SongVersion) (number : ℕ) (x : SongVersion) → version_among versions number ≡ Some x
    → placed_at (placed_of versions) number ≡ Some x.placed
has_placed [] number x e = absurd (none-some x e)
has_placed (v ∷ versions) number x e =
    placed_pick (v.placed.version == number) v x (version_among versions number) (placed_at (placed_of versions) number) e
    (has_placed versions number x)

nothing_in : (instrument number : ℕ) (x : Sample) → sample_at no_song instrument number ≡ Some x → ⊥
nothing_in zero number x e = none-some x e
nothing_in (suc instrument) number x e = none-some x e

there : (o : Option SongVersion) (instrument number : ℕ) (x : Sample) → sample_at (song_of o) instrument number ≡ Some x
    → (v : SongVersion) × (o ≡ Some v)
there None instrument number x e = absurd (nothing_in instrument number x e)
there (Some v) instrument number x e = (v, refl)

owned_some : (o : Option Owned) (h : SampleHead) → head_of_owned o ≡ Some h → (w : Owned) × (o ≡ Some w) × (head_of w.sample ≡ h)
owned_some None h e = absurd (none-some h e)
owned_some (Some w) h e = (w, refl, same_Some (head_of w.sample) h e)

pub record SeatSample (songs : Songs) (pass : ReaderState) (seat : Seat) : Type 0 where
  pub owned : Owned
  pub is : owned_by songs (Some seat) ≡ Some owned
  pub headed : head_of owned.sample ≡ seat.head
  pub placed : PlacedVersion
  pub found : placed_at (history_of songs) seat.version ≡ Some placed
  pub at : place_at songs seat.version ≡ root_and_pool placed
  pub among : IsAmong pass.register.sizes.segments (root_and_pool placed)
  pub shows : Shows (place_at songs seat.version) (song_at songs seat.version)
  pub of : IsRootOf (place_at songs seat.version) (song_at songs seat.version) seat.root owned.sample

pub seat_sample : (songs : Songs) (pass : ReaderState) (seat : Seat) → AreSongsBehind songs pass → IsSeatOf songs seat
    → SeatSample songs pass seat
seat_sample songs pass seat stands seated =
    let song = song_at songs seat.version in
    let number = mapped_sample song seat.instrument seat.note in
    let o = owned_some (owned_by songs (Some seat)) seat.head seated.head in
    let x = begun_sample seat.version song seat.instrument seat.note o.0 o.1 in
    let v = there (version_at songs seat.version) seat.instrument number o.0.sample x in
    let shown = each_version (IsShown pass.register.sizes) songs.versions seat.version v.0 stands.shown v.1 in record {
      owned = o.0;
      is = o.1;
      headed = o.2;
      placed = v.0.placed;
      found = has_placed songs.versions seat.version v.0 v.1;
      at = ap place_in v.1;
      among = shown.among;
      shows = subst (λ (q : Option SongVersion). Shows (place_in q) (song_of q)) (sym v.1) shown.shows;
      of = record { instrument = seat.instrument; number = number; at = seated.root; is = x };
    }

-- ---- its words, by the pin

abbrev pub PinShown : Type 0
PinShown = (pass : ReaderState) (channel : ℕ) (history : List PlacedVersion) (pin : Pin) (placed : PlacedVersion)
    (song : Module) (sample : Sample) → Agrees history pass.notes → pin_of pass.notes channel ≡ Some pin
    → placed_at history pin.version ≡ Some placed → IsAmong pass.register.sizes.segments (root_and_pool placed)
    → Shows (root_and_pool placed) song → IsRootOf (root_and_pool placed) song pin.root sample
    → MayShowSample (λ view. MayShowPinned view channel) pass (root_and_pool placed) pin.root

pub record PinnedSample (songs : Songs) (pass : ReaderState) (channel : ℕ) (seat : Seat) : Type 0 where
  pub sample : Sample
  pub frames : frames_by songs seat ≡ sample.frames
  pub many : seat.head.frames ≡ length sample.frames
  pub may : MayShowSample (λ view. MayShowPinned view channel) pass (place_at songs seat.version) seat.root
  pub shows : Shows (place_at songs seat.version) (song_at songs seat.version)
  pub of : IsRootOf (place_at songs seat.version) (song_at songs seat.version) seat.root sample

pinned_by : PinShown → (songs : Songs) (pass : ReaderState) (channel : ℕ) (seat : Seat) → AreSongsBehind songs pass
    → pin_of pass.notes channel ≡ pin_in (Some seat) → SeatSample songs pass seat → PinnedSample songs pass channel seat
pinned_by law songs pass channel seat stands pinned s =
    let song = song_at songs seat.version in record {
      sample = s.owned.sample;
      frames = ap owned_frames s.is;
      many = ap (λ (h : SampleHead). h.frames) (sym s.headed);
      may = subst (λ (p : Placed). MayShowSample (λ view. MayShowPinned view channel) pass p seat.root) (sym s.at)
          (law pass channel (history_of songs) (record { version = seat.version; root = seat.root }) s.placed song s.owned.sample
          stands.agrees pinned s.found s.among
          (subst (λ (p : Placed). Shows p song) s.at s.shows)
          (subst (λ (p : Placed). IsRootOf p song seat.root s.owned.sample) s.at s.of));
      shows = s.shows;
      of = s.of;
    }

-- after a pass has read on
pub pinned_sample : PinShown → (songs : Songs) (old new : ReaderState) (channel other : ℕ) (seat : Seat) → HasReadOn old new
    → channel ≡ other → pin_of old.notes channel ≡ pin_in (Some seat) → AreSongsBehind songs new → IsSeatOf songs seat
    → PinnedSample songs new other seat
pinned_sample law songs old new channel other seat on same pinned stands seated =
    pinned_by law songs new other seat stands
    (subst (λ (k : ℕ). pin_of new.notes k ≡ pin_in (Some seat)) same
    (ap (λ (x : ReaderState). pin_of x.notes channel) on.is ∙ pinned))
    (seat_sample songs new seat stands seated)

-- ---- what a word costs

cost_of : (kept near : Bool) (old mid new : ℕ) → kept ≡ false → (near ≡ true → mid ≡ old) → mid ≤ old + 2 → new ≤ mid + 1
    → new ≤ old + (if kept then 0 else (if near then 1 else 3))
cost_of true near old mid new none same few one = absurd cc
cost_of false true old mid new none same few one = let e = same refl in omega (arith, e, one)
cost_of false false old mid new none same few one = omega (arith, few, one)

pub costs : (word : ℕ) (words : List ℕ) (old mid new : ℕ) → is_kept word words ≡ false → (is_near word words ≡ true → mid ≡ old)
    → mid ≤ old + 2 → new ≤ mid + 1 → new ≤ old + frame_cost word words
unfolding frame_cost
costs word words old mid new none same few one =
    cost_of (is_kept word words) (is_near word words) old mid new none same few one

-- ---- a list of seats

pub set_seated : (songs : Songs) (seats : List (Option Seat)) (c d : ℕ) (seat : Option Seat) → c < length seats
    → IsSeated songs seat → IsSeated songs (get_or seats d None) → IsSeated songs (get_or (set seats c seat) d None)
set_seated songs seats c d seat inside here there =
    elim (cases_eq d c) [
      | inl e ↦
          subst (IsSeated songs)
          (sym (ap (λ (k : ℕ). get_or (set seats c seat) k None) e ∙ get_or-set_same seats c seat None inside)) here
      | inr ne ↦ subst (IsSeated songs) (sym (get_or-set_other seats c d seat None ne)) there
    ]

pub sets : (songs : Songs) (version : ℕ) (seats : List (Option Seat)) (c : ℕ) (seat : Option Seat)
    → shown_by songs version (set seats c seat) ≡ keeping c (owned_by songs seat) (shown_by songs version seats)
sets songs version seats c seat =
    ap (λ (l : List (Option Owned)). record { version = version; song = song_at songs version; kept = l })
    (map-set (owned_by songs) seats c seat)

pub pin_at : (seats : List (Option Seat)) (c : ℕ) → get_or (map pin_in seats) c None ≡ pin_in (get_or seats c None)
pin_at [] c = refl
pin_at (seat ∷ seats) zero = refl
pin_at (seat ∷ seats) (suc c) = pin_at seats c

pub head_at : (seats : List (Option Seat)) (c : ℕ) → get_or (map head_in seats) c None ≡ head_in (get_or seats c None)
head_at [] c = refl
head_at (seat ∷ seats) zero = refl
head_at (seat ∷ seats) (suc c) = head_at seats c

-- where one seat was asked, and stands for its sample still
pub asked_seated : (songs : Songs) (seats new : List (Option Seat)) (c d : ℕ) (seat : Option Seat) → c < length seats
    → new ≡ set seats c seat → IsSeated songs (get_or new c None) → IsSeated songs (get_or seats d None)
    → IsSeated songs (get_or new d None)
asked_seated songs seats new c d seat inside e here there =
    subst (λ (l : List (Option Seat)). IsSeated songs (get_or l d None)) (sym e)
    (set_seated songs seats c d seat inside
    (subst (IsSeated songs) (ap (λ (l : List (Option Seat)). get_or l c None) e ∙ get_or-set_same seats c seat None inside) here)
    there)

pub keeps_else : (seats : List (Option Seat)) (c d : ℕ) (seat : Option Seat) (h : SampleHead) → d ≢ c
    → head_in (get_or seats d None) ≡ Some h → head_in (get_or (set seats c seat) d None) ≡ Some h
keeps_else seats c d seat h ne e = ap head_in (get_or-set_other seats c d seat None ne) ∙ e

pub head_owned : (songs : Songs) (o : Option Seat) → IsSeated songs o → head_in o ≡ head_of_owned (owned_by songs o)
head_owned songs None seated = refl
head_owned songs (Some seat) seated = sym (seated seat refl).head

pub has_head : (o : Option Seat) → is_some (head_in o) ≡ is_some o
has_head None = refl
has_head (Some seat) = refl

pub began : (o : Option Seat) (seats : List (Option Seat)) (c : ℕ) → c < length seats
    → IfSome (head_in o) (λ h. head_in (get_or (set seats c o) c None) ≡ Some h)
began None seats c inside = tt
began (Some seat) seats c inside = ap head_in (get_or-set_same seats c (Some seat) None inside)

pub none_seated : (songs : Songs) → IsSeated songs None
none_seated songs seat e = absurd (none-some seat e)

pub head_valid : (o : Option Seat) (version segments : ℕ) → IfSome o (λ seat. (seat.version ≡ version)
    × (seat.root < segments) × (numbers_of seat.words ≡ []) × IsValidHead seat.head)
    → IfSome (head_in o) IsValidHead
head_valid None version segments all = tt
head_valid (Some seat) version segments all = all.3

pub no_words : (o : Option Seat) (version segments : ℕ) → IfSome o (λ seat. (seat.version ≡ version)
    × (seat.root < segments) × (numbers_of seat.words ≡ []) × IsValidHead seat.head)
    → seat_words o ≡ []
no_words None version segments all = refl
no_words (Some seat) version segments all = all.2

-- ---- other kept words

pub reworded_head : (words : KeptWords) (o : Option Seat) → head_in (reworded words o) ≡ head_in o
reworded_head words None = refl
reworded_head words (Some seat) = refl

pub reworded_pin : (words : KeptWords) (o : Option Seat) → pin_in (reworded words o) ≡ pin_in o
reworded_pin words None = refl
reworded_pin words (Some seat) = refl

pub reworded_owned : (songs : Songs) (words : KeptWords) (o : Option Seat) → owned_by songs (reworded words o) ≡ owned_by songs o
reworded_owned songs words None = refl
reworded_owned songs words (Some seat) = refl

pub reworded_some : (words : KeptWords) (o : Option Seat) → is_some (reworded words o) ≡ is_some o
reworded_some words None = refl
reworded_some words (Some seat) = refl

-- what is the same of each seat is the same of all
pub same_at : {A : Type 0} (f : Option Seat → A) (words : KeptWords) (seats new : List (Option Seat)) (c : ℕ)
    → new ≡ set seats c (reworded words (get_or seats c None))
    → ((o : Option Seat) → f (reworded words o) ≡ f o) → map f new ≡ map f seats
same_at f words seats new c e same =
    ap (map f) e ∙ map-set_same f seats c (reworded words (get_or seats c None)) None (same (get_or seats c None))

pub reworded_word : (songs : Songs) (seat : Seat) (words : KeptWords) (word : KeptWord) → IsWordOf songs seat word
    → IsWordOf songs (record seat { words = words }) word
reworded_word songs seat words word is = record { value = is.value; body = is.body }
