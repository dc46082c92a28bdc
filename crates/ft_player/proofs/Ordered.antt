-- A player is in order again after a tick.
use Rattle.std.proofs.Common.{◌≡◌, ◌≤◌, ◌<◌, ◌⊎◌, ℕ, Bool, List, [], ◌∷◌, ◌++◌, All, Some, length, map, is_some, refl, sym, ap, subst, ◌∙◌, arith}
use Rattle.std.specs.List.{Contains}
use Rattle.ft_types.specs.declared.voice.Voice.{Voice}
use Rattle.ft_replay.specs.Calls.{AreVoicesExact, AreVoicesKept, StaysExact}
use Rattle.ft_replay.specs.Range.{IsSongInRange}
use Rattle.ft_shared.specs.declared.law.TakenVersion.{TakenVersion}
use Rattle.ft_shared.specs.declared.reader.Held.{Held}
use Rattle.ft_shared.specs.Pass.{ReaderState, RegisterId}
use Rattle.ft_image.specs.Passes.{AreCounted}
use Rattle.ft_player.specs.declared.seat.Seat.{Seat}
use Rattle.ft_player.specs.Seats.{pin_in}
use Rattle.ft_shared.specs.History.{HasVersion, HasTakenVersion, HasRead}
use Rattle.ft_player.specs.declared.songs.Songs.{Songs}
use Rattle.ft_player.specs.Songs.{history_of}
use Rattle.ft_player.specs.Behind.{AreSeated, HasPlayedOn, IsShown, AreSongsBehind}
use Rattle.ft_player.specs.Player.{PlayerState, HasClosed, HasLooked, IsAsBefore, IsInOrder, IsRenewed, KeepsHead, taken_of}
use Rattle.ft_player.proofs.Renewing.{WasTaken, is_taken, still_taken}

-- what was taken stays taken while the pass only reads on
still : (mid new : ReaderState) → HasPlayedOn mid new → WasTaken mid.notes → WasTaken new.notes
still mid new on taken t e =
    subst (λ (l : List TakenVersion). Contains l t) (sym (ap (λ (x : ReaderState). x.notes.takes) on.is))
    (taken t (sym (ap (λ (x : ReaderState). x.notes.held) on.is) ∙ e))

pub same_register : (mid new : ReaderState) → HasPlayedOn mid new → new.register ≡ mid.register
same_register mid new on = ap (λ (x : ReaderState). x.register) on.is

-- each channel stays exact, so all do
pub all_exact : (held held_after : List Bool) (voices voices_after : List Voice) → length held_after ≡ length held
    → StaysExact held held_after voices voices_after → AreVoicesExact held voices
    → AreVoicesExact held_after voices_after
all_exact held held_after voices voices_after wide stays all = λ c lt. stays c (omega arith) (all c (omega arith))

pub ordered : (old new : PlayerState) (mid : ReaderState) (held : Held) → IsInOrder old
    → mid.register ≡ old.pass.register → IsRenewed old.pass.notes mid.notes held → HasPlayedOn mid new.pass
    → new.rate ≡ old.rate → new.song.used ≡ old.song.used → IsSongInRange new.song
    → length new.seats ≡ old.pass.register.sizes.channels → new.pass.notes.pins ≡ map pin_in new.seats
    → AreVoicesExact (map (is_some {T = Seat}) new.seats) new.song.voices.items
    → AreVoicesKept (KeepsHead new.seats) new.song.voices.items → AreSeated new.pass new.seats → IsInOrder new
ordered old new mid held o reg r on rate used range many pins sounding heads seated =
    let all = same_register mid new.pass on ∙ reg in
    let channels : new.pass.register.sizes.channels ≡ old.pass.register.sizes.channels
    = ap (λ (x : RegisterId). x.sizes.channels) all in
    record {
      low = subst (λ (n : ℕ). 8000 ≤ n) (sym rate) o.low;
      high = subst (λ (n : ℕ). n ≤ 48000) (sym rate) o.high;
      used = used ∙ o.used ∙ sym channels;
      range = range;
      taken = still mid new.pass on (is_taken old.pass.notes mid.notes held r o.taken);
      many = many ∙ sym channels;
      pins = pins;
      sounding = sounding;
      heads = heads;
      seated = seated;
    }

-- ---- looks and takes

-- what a renewed pass has looked at and taken stays while it only plays on
pub has_looked : (old mid new : ReaderState) (held : Held) → IsRenewed old.notes mid.notes held → HasPlayedOn mid new
    → WasTaken old.notes → HasLooked old.notes new.notes held.version
has_looked old mid new held r on taken =
    let takes : new.notes.takes ≡ mid.notes.takes = ap (λ (x : ReaderState). x.notes.takes) on.is in
    record {
      look = r.look;
      once = ap (λ (x : ReaderState). x.notes.looks) on.is ∙ r.once;
      seen = r.seen;
      current = r.current;
      later = r.later;
      held = taken_of held;
      holds = ap (λ (x : ReaderState). x.notes.held) on.is ∙ r.holds;
      number = refl;
      takes = subst
          (λ (l : List TakenVersion). ((l ≡ old.notes.takes) × (old.notes.held ≡ Some (taken_of held)))
          ⊎ (l ≡ old.notes.takes ++ taken_of held ∷ []))
          (sym takes) r.takes;
      taken = subst (λ (l : List TakenVersion). Contains l (taken_of held)) (sym takes)
          (still_taken old.notes mid.notes held r.takes taken);
    }

-- a count that goes on
pub counted_on : (a b c : ReaderState) (x y z : ℕ) → AreCounted a b x y → AreCounted b c y z → AreCounted a c x z
counted_on a b c x y z e f = omega (arith, e, f)

-- ---- with another pass, which holds and has noted the same

-- the same songs may be behind passes of one register with the same looks, takes, held version and
-- reads
pub same_songs : (songs : Songs) (a b : ReaderState) → b.register ≡ a.register → b.notes.looks ≡ a.notes.looks
    → b.notes.takes ≡ a.notes.takes → b.notes.held ≡ a.notes.held → b.notes.reads ≡ a.notes.reads → AreSongsBehind songs b
    → AreSongsBehind songs a
same_songs songs a b register looks takes held reads s = record {
  agrees = record {
    looks = subst (All (HasVersion (history_of songs))) looks s.agrees.looks;
    takes = subst (All (HasTakenVersion (history_of songs))) takes s.agrees.takes;
    held = λ t e. s.agrees.held t (held ∙ e);
    reads = subst (All (HasRead (history_of songs))) reads s.agrees.reads;
  };
  shown = subst (λ (x : RegisterId). All (IsShown x.sizes) songs.versions) register s.shown;
}

pub songs_before : (songs : Songs) (old new : ReaderState) → IsAsBefore old new → AreSongsBehind songs new → AreSongsBehind songs old
songs_before songs old new b = same_songs songs old new b.register b.looks b.takes b.held b.reads

pub songs_after : (songs : Songs) (old new : ReaderState) → IsAsBefore old new → AreSongsBehind songs old → AreSongsBehind songs new
songs_after songs old new b =
    same_songs songs new old (sym b.register) (sym b.looks) (sym b.takes) (sym b.held) (sym b.reads)

pub songs_closed : (songs : Songs) (old new : ReaderState) → HasClosed old new → AreSongsBehind songs new → AreSongsBehind songs old
songs_closed songs old new c =
    same_songs songs old new (ap (λ (x : ReaderState). x.register) c.is) (ap (λ (x : ReaderState). x.notes.looks) c.is)
    (ap (λ (x : ReaderState). x.notes.takes) c.is) (ap (λ (x : ReaderState). x.notes.held) c.is)
    (ap (λ (x : ReaderState). x.notes.reads) c.is)

pub songs_unclosed : (songs : Songs) (old new : ReaderState) → HasClosed old new → AreSongsBehind songs old → AreSongsBehind songs new
songs_unclosed songs old new c =
    let is = sym c.is in
    same_songs songs new old (ap (λ (x : ReaderState). x.register) is) (ap (λ (x : ReaderState). x.notes.looks) is)
    (ap (λ (x : ReaderState). x.notes.takes) is) (ap (λ (x : ReaderState). x.notes.held) is)
    (ap (λ (x : ReaderState). x.notes.reads) is)

pub as_before : (player : PlayerState) (pass : ReaderState) → IsInOrder player → IsAsBefore player.pass pass
    → IsInOrder (record player { pass = pass })
as_before player pass o b =
    let channels : pass.register.sizes.channels ≡ player.pass.register.sizes.channels
    = ap (λ (x : RegisterId). x.sizes.channels) b.register in
    record {
      low = o.low;
      high = o.high;
      used = o.used ∙ sym channels;
      range = o.range;
      taken = λ t e. subst (λ (l : List TakenVersion). Contains l t) (sym b.takes) (o.taken t (sym b.held ∙ e));
      many = o.many ∙ sym channels;
      pins = b.pins ∙ o.pins;
      sounding = o.sounding;
      heads = o.heads;
      seated = λ songs d stands. o.seated songs d (songs_before songs player.pass pass b stands);
    }
