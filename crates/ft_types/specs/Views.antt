-- What is read of a song while it plays: rows, cells, and the samples that voices own.
use Rattle.std.specs.Prelude.{◌≡◌, ◌<◌, ℕ, zero, suc, ◌+◌, ◌*◌, ◌==◌, Bool, List, Option, None, Some, length, slice_get, get_or, set, nat_lt, if◌then◌else◌, unwrap_or, ℤ, pos, FitsSigned}
use Rattle.ft_types.specs.declared.module.Module.{Module}
use Rattle.ft_types.specs.declared.module.SongHead.{SongHead}
use Rattle.ft_types.specs.declared.pattern.Pattern.{Pattern}
use Rattle.ft_types.specs.declared.pattern.Cell.{Cell}
use Rattle.ft_types.specs.declared.instrument.Instrument.{Instrument}
use Rattle.ft_types.specs.declared.instrument.Envelope.{Envelope}
use Rattle.ft_types.specs.declared.instrument.Shape.{Shape}
use Rattle.ft_types.specs.declared.sample.Sample.{Sample}
use Rattle.ft_types.specs.declared.voice.SampleHead.{SampleHead}
use Rattle.ft_types.specs.Valid.{width_of}

-- ---- the song as a whole

abbrev pub song_head_of : Module → SongHead
song_head_of song = record {
  length = length song.orders;
  restart = song.restart;
  tempo = song.tempo;
  bpm = song.bpm;
  linear = song.linear;
}

-- ---- rows and cells

abbrev pub empty_cell : Cell
empty_cell = record { note = 0; instrument = 0; volume = 0; effect = 0; parameter = 0 }

-- a pattern that isn't stored has 64 rows
abbrev pub row_count : Option Pattern → ℕ
row_count None = 64
row_count (Some pattern) = pattern.rows

-- the rows of the pattern of a number
abbrev pub rows_at : Module → ℕ → ℕ
rows_at song pattern = row_count (slice_get song.patterns pattern)

-- the cell of a row and a channel; one is empty past the rows, and in a pattern that isn't stored
abbrev pub cell_in : ℕ → Option Pattern → ℕ → ℕ → Cell
cell_in channels None row channel = empty_cell
cell_in channels (Some pattern) row channel =
    if nat_lt row pattern.rows
    then unwrap_or (slice_get pattern.cells (row * channels + channel)) empty_cell
    else empty_cell

abbrev pub cell_at : Module → ℕ → ℕ → ℕ → Cell
cell_at song pattern row channel =
    cell_in song.channels (slice_get song.patterns pattern) row channel

-- the number of the pattern at an order position
abbrev pub order_at : Module → ℕ → ℕ
order_at song position = get_or song.orders position 0

-- ---- instruments

-- the instrument of a number; they count from 1
abbrev pub instrument_at : Module → ℕ → Option Instrument
instrument_at song zero = None
instrument_at song (suc number) = slice_get song.instruments number

-- which is 0 for the volume envelope, and 1 for that of the panning
abbrev pub envelope_in : Option Instrument → ℕ → Option Envelope
envelope_in None which = None
envelope_in (Some instrument) which =
    Some (if which == 0 then instrument.volume else instrument.panning)

abbrev pub shape_in : Option Instrument → Option Shape
shape_in None = None
shape_in (Some instrument) =
    Some (record { vibrato = instrument.vibrato; fadeout = instrument.fadeout })

-- ---- samples

-- the version, the instrument from 1 and the sample from 0 from which a voice was begun
pub record Origin : Type 0 where
  pub version : ℕ
  pub instrument : ℕ
  pub sample : ℕ

-- the sample that a voice owns, with its origin
pub record Owned : Type 0 where
  pub origin : Origin
  pub sample : Sample

abbrev pub sample_in : Option Instrument → ℕ → Option Sample
sample_in None number = None
sample_in (Some instrument) number = slice_get instrument.samples number

-- the number of the sample that the note map gives a note, from 0
abbrev pub number_in : Option Instrument → ℕ → ℕ
number_in None note = 0
number_in (Some instrument) note = get_or instrument.map note 0

-- a sample that can sound: one with frames
abbrev pub sounding : ℕ → ℕ → ℕ → Option Sample → Option Owned
sounding version instrument number None = None
sounding version instrument number (Some sample) =
    if length sample.frames == 0 then None
    else Some (record {
      origin = record { version = version; instrument = instrument; sample = number };
      sample = sample;
    })

-- the sample of an instrument by its number, if it has frames
abbrev pub sample_of : ℕ → Module → ℕ → ℕ → Option Owned
sample_of version song instrument number =
    sounding version instrument number (sample_in (instrument_at song instrument) number)

-- the sample that a note, from 0, of an instrument begins in a version, if there is one with frames
unfoldable pub begun : ℕ → Module → ℕ → ℕ → Option Owned
begun version song instrument note =
    sample_of version song instrument (number_in (instrument_at song instrument) note)

abbrev pub head_of : Sample → SampleHead
head_of sample = record {
  frames = length sample.frames;
  wide = sample.wide;
  loop_kind = sample.loop_kind;
  loop_start = sample.loop_start;
  loop_len = sample.loop_len;
  volume = sample.volume;
  panning = sample.panning;
  finetune = sample.finetune;
  relative = sample.relative;
}

abbrev pub head_of_owned : Option Owned → Option SampleHead
head_of_owned None = None
head_of_owned (Some owned) = Some (head_of owned.sample)

-- the frame that is kept at a place, as the file has it
abbrev pub frame_of : Option Owned → ℕ → ℤ
frame_of None place = pos 0
frame_of (Some owned) place = get_or owned.sample.frames place (pos 0)

-- its frames from a place on
abbrev pub AreFramesFrom : Option Owned → ℕ → List ℤ → Type 0
AreFramesFrom owned first frames =
    (k : ℕ) → k < length frames → get_or frames k (pos 0) ≡ frame_of owned (first + k)

-- each of them has the width of the sample's frames
abbrev pub FitWidth : Bool → List ℤ → Type 0
FitWidth wide frames =
    (k : ℕ) → k < length frames → FitsSigned (width_of wide) (get_or frames k (pos 0))

-- ---- what a view shows

-- a version, its song, and by channel the samples that are kept
pub record Shown : Type 0 where
  pub version : ℕ
  pub song : Module
  pub kept : List (Option Owned)

-- what is shown once a channel keeps this
abbrev pub keeping : ℕ → Option Owned → Shown → Shown
keeping channel owned shown = record shown { kept = set shown.kept channel owned }

-- what a view may show: what it shows where something is behind it
abbrev pub MayShow : {V W : Type 0}
    → (V → W → Type 0) → (V → W → Shown) → V → Shown → Type 0
MayShow {W = W} shows shown view it = (w : W) × shows view w × (shown view w ≡ it)
