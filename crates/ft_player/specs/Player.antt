-- What contracts see of a player, and what it makes of a tick.
use Rattle.std.specs.Prelude.{◌≡◌, ◌⊎◌, ◌≤◌, ℕ, ℤ, ◌*◌, ◌++◌, ◌∷◌, [], List, Option, None, Some, Contains, take, length, get_or, is_some, map, replicate}
use Rattle.ft_types.specs.Limits.{lowest_rate, highest_rate}
use Rattle.ft_types.specs.declared.tick_report.TickReport.{TickReport}
use Rattle.ft_types.specs.declared.voice.SampleHead.{SampleHead}
use Rattle.ft_types.specs.declared.voice.Voice.{Voice}
use Rattle.ft_replay.specs.declared.state.Place.{Place}
use Rattle.ft_replay.specs.declared.state.SongState.{SongState}
use Rattle.ft_replay.specs.Calls.{AreVoicesExact, AreVoicesKept}
use Rattle.ft_replay.specs.Range.{IsSongInRange}
use Rattle.ft_replay.specs.State.{SequentialState}
use Rattle.ft_replay.specs.Standing.{sequential_of}
use Rattle.ft_replay.specs.Tick.{seq_tick, tick_state_of}
use Rattle.ft_shared.specs.declared.law.Notes.{Notes}
use Rattle.ft_shared.specs.declared.law.TakenVersion.{TakenVersion}
use Rattle.ft_shared.specs.declared.reader.Held.{Held}
use Rattle.ft_shared.specs.declared.law.WordStep.{WordStep}
use Rattle.ft_shared.specs.Pass.{ReaderState}
use Rattle.ft_play.specs.Mixed.{voices_of}
use Rattle.ft_player.specs.declared.seat.Seat.{Seat}
use Rattle.ft_player.specs.declared.songs.Songs.{Songs}
use Rattle.ft_player.specs.Songs.{song_at}
use Rattle.ft_player.specs.Seats.{head_in, pin_in}
use Rattle.ft_player.specs.Behind.{AreSeated, AreSongsBehind, shown_by}

-- its pass, the state of its song between ticks, what it keeps by channel for the voices, the
-- voices that were mixed last, and its rate
pub record PlayerState : Type 0 where
  pub pass : ReaderState
  pub song : SongState
  pub seats : List (Option Seat)
  pub mixed : List Voice
  pub rate : ℕ

-- ---- what is always true of it

-- it keeps a sample of this head for a channel
abbrev pub KeepsHead : List (Option Seat) → ℕ → SampleHead → Type 0
KeepsHead seats channel head = head_in (get_or seats channel None) ≡ Some head

-- The player plays the channels of its register, its state is in range, and what the pass holds was
-- taken by it. There is a pin exactly where a voice sounds: it names the sample of the seat, from
-- the version in which the voice began
pub record IsInOrder (player : PlayerState) : Type 0 where
  pub low : lowest_rate ≤ player.rate
  pub high : player.rate ≤ highest_rate
  pub used : player.song.used ≡ player.pass.register.sizes.channels
  pub range : IsSongInRange player.song
  pub taken : (taken : TakenVersion) → player.pass.notes.held ≡ Some taken
      → Contains player.pass.notes.takes taken
  pub many : length player.seats ≡ player.pass.register.sizes.channels
  pub pins : player.pass.notes.pins ≡ map pin_in player.seats
  pub sounding : AreVoicesExact (map is_some player.seats) player.song.voices.items
  pub heads : AreVoicesKept (KeepsHead player.seats) player.song.voices.items
  pub seated : AreSeated player.pass player.seats

-- ---- what it stands for

-- the sequential state, where these songs are behind the player: each voice has the frames of the
-- version in which it began
abbrev pub stood_by : Songs → PlayerState → SequentialState
stood_by songs player = sequential_of player.song (shown_by songs 0 player.seats)

abbrev pub place_of_report : TickReport → Place
place_of_report report = record {
  order = report.order;
  row = report.row;
  tick = report.tick;
  frames = report.frames;
}

-- A tick was played as the sequential one, on the song of the version that is reported
pub record IsPlayed (songs : Songs) (old new : PlayerState) (report : TickReport) (out : List ℤ)
    : Type 0 where
  pub place : place_of_report report
      ≡ (seq_tick report.version (song_at songs report.version) old.rate (stood_by songs old)).place
  pub sound : take (2 * report.frames) out
      ≡ (seq_tick report.version (song_at songs report.version) old.rate (stood_by songs old)).sound
  pub state : stood_by songs new
      ≡ (seq_tick report.version (song_at songs report.version) old.rate (stood_by songs old)).state
  pub mixed : new.mixed
      ≡ voices_of (tick_state_of report.version (song_at songs report.version) old.rate
      (stood_by songs old)).state.lanes

-- Whatever is behind a player after a call was behind it before, and of it this is true
abbrev pub ForAllBehind : PlayerState → PlayerState → (Songs → Type 0) → Type 0
ForAllBehind old new True =
    (songs : Songs) → AreSongsBehind songs new.pass → AreSongsBehind songs old.pass × True songs

-- ---- looks and takes

-- The takes are the old ones, and this version was held before; or they are these and this version
abbrev pub TakesAreOf : Notes → Notes → TakenVersion → Type 0
TakesAreOf old new held =
    ((new.takes ≡ old.takes) × (old.held ≡ Some held)) ⊎ (new.takes ≡ old.takes ++ held ∷ [])

-- A tick has looked once, and holds a version that is none before the one looked at, the greatest
-- one seen, or the one held before. What it holds is among its takes: it was held before, or it was
-- taken now, and nothing else was taken
pub record HasLooked (old new : Notes) (version : ℕ) : Type 0 where
  pub look : ℕ
  pub once : new.looks ≡ old.looks ++ look ∷ []
  pub seen : old.seen ≤ look
  pub current : look ≤ version
  pub later : (taken : TakenVersion) → old.held ≡ Some taken → taken.version ≤ version
  pub held : TakenVersion
  pub holds : new.held ≡ Some held
  pub number : held.version ≡ version
  pub takes : TakesAreOf old new held
  pub taken : Contains new.takes held

-- ---- what it does before a tick

abbrev pub taken_of : Held → TakenVersion
taken_of held = record { version = held.version; root = held.root }

abbrev pub held_in : Option Held → Option TakenVersion
held_in None = None
held_in (Some held) = Some (taken_of held)

-- It has looked once, and holds what it held, or what it took then; all else of the notes but the
-- steps is as it was
pub record IsRenewed (old new : Notes) (held : Held) : Type 0 where
  pub look : ℕ
  pub once : new.looks ≡ old.looks ++ look ∷ []
  pub seen : old.seen ≤ look
  pub current : look ≤ held.version
  pub later : (taken : TakenVersion) → old.held ≡ Some taken → taken.version ≤ held.version
  pub holds : new.held ≡ Some (taken_of held)
  pub takes : TakesAreOf old new (taken_of held)
  pub number : new.number ≡ old.number
  pub sizes : new.sizes ≡ old.sizes
  pub pins : new.pins ≡ old.pins
  pub reads : new.reads ≡ old.reads

-- ---- a player without its pass

-- A pass holds and has noted what another did
pub record IsAsBefore (old new : ReaderState) : Type 0 where
  pub register : new.register ≡ old.register
  pub number : new.notes.number ≡ old.notes.number
  pub held : new.notes.held ≡ old.notes.held
  pub pins : new.notes.pins ≡ old.notes.pins
  pub looks : new.notes.looks ≡ old.notes.looks
  pub takes : new.notes.takes ≡ old.notes.takes
  pub reads : new.notes.reads ≡ old.notes.reads

-- A pass has taken its pins away, and all else of it but the steps is as it was
pub record HasClosed (old new : ReaderState) : Type 0 where
  pub steps : List WordStep
  pub is : new ≡ record old {
    notes = record old.notes {
      pins = replicate (length old.notes.pins) None;
      steps = old.notes.steps ++ steps;
    };
  }
