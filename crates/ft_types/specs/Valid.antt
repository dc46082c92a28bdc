-- Which modules are valid: each value is in the range that the format gives it.
use Rattle.std.specs.Prelude.{◌≡◌, ℕ, ◌<◌, ◌≤◌, ◌+◌, ◌*◌, List, length, All, Bool, FitsSigned, if◌then◌else◌}
use Rattle.std.specs.Int.{Width, w8, w16}
use Rattle.ft_types.specs.Limits.{most_channels, most_orders, most_patterns, most_rows, most_instruments, most_samples, most_frames}
use Rattle.ft_types.specs.declared.module.Module.{Module}
use Rattle.ft_types.specs.declared.pattern.Pattern.{Pattern}
use Rattle.ft_types.specs.declared.pattern.Cell.{Cell}
use Rattle.ft_types.specs.declared.instrument.Instrument.{Instrument}
use Rattle.ft_types.specs.declared.instrument.Envelope.{Envelope}
use Rattle.ft_types.specs.declared.instrument.Point.{Point}
use Rattle.ft_types.specs.declared.instrument.Vibrato.{Vibrato}
use Rattle.ft_types.specs.declared.instrument.Shape.{Shape}
use Rattle.ft_types.specs.declared.module.SongHead.{SongHead}
use Rattle.ft_types.specs.declared.sample.Sample.{Sample}
use Rattle.ft_types.specs.declared.voice.SampleHead.{SampleHead}

-- as many raw bytes
pub record IsBytes (count : ℕ) (bytes : List ℕ) : Type 0 where
  pub len : length bytes ≡ count
  pub each : All (λ byte. byte < 256) bytes

-- ---- patterns

-- a note is 0 for none, 1 to 96, or 97 for a key off; the other four are any bytes
pub record IsValidCell (cell : Cell) : Type 0 where
  pub note : cell.note ≤ 97
  pub instrument : cell.instrument < 256
  pub volume : cell.volume < 256
  pub effect : cell.effect < 256
  pub parameter : cell.parameter < 256

-- a cell for each row and channel
pub record IsValidPattern (channels : ℕ) (pattern : Pattern) : Type 0 where
  pub some_rows : 1 ≤ pattern.rows
  pub few_rows : pattern.rows ≤ most_rows
  pub whole : length pattern.cells ≡ pattern.rows * channels
  pub cells : All IsValidCell pattern.cells

-- ---- instruments

pub record IsValidPoint (point : Point) : Type 0 where
  pub x : point.x < 65536
  pub y : point.y ≤ 64

-- all twelve points are in range, those that aren't counted too
pub record IsValidEnvelope (envelope : Envelope) : Type 0 where
  pub twelve : length envelope.points ≡ 12
  pub points : All IsValidPoint envelope.points
  pub count : envelope.count ≤ 12
  pub sustain : envelope.sustain ≤ 11
  pub loop_start : envelope.loop_start ≤ 11
  pub loop_end : envelope.loop_end ≤ 11
  pub flags : envelope.flags ≤ 7

pub record IsValidVibrato (vibrato : Vibrato) : Type 0 where
  pub kind : vibrato.kind ≤ 3
  pub sweep : vibrato.sweep < 256
  pub depth : vibrato.depth ≤ 15
  pub rate : vibrato.rate ≤ 63

-- the width of a sample's frames
abbrev pub width_of : Bool → Width
width_of wide = if wide then w16 else w8

-- a loop has at least one frame and lies within the frames; without one both numbers are 0
pub record IsValidLoop (loop_kind loop_start loop_len frames : ℕ) : Type 0 where
  pub kind : loop_kind ≤ 2
  pub none_start : loop_kind ≡ 0 → loop_start ≡ 0
  pub none_len : loop_kind ≡ 0 → loop_len ≡ 0
  pub some_len : 1 ≤ loop_kind → 1 ≤ loop_len
  pub within : 1 ≤ loop_kind → loop_start + loop_len ≤ frames

pub record IsValidSample (sample : Sample) : Type 0 where
  pub name : IsBytes 22 sample.name
  pub volume : sample.volume ≤ 64
  pub finetune : FitsSigned w8 sample.finetune
  pub relative : FitsSigned w8 sample.relative
  pub panning : sample.panning < 256
  pub looping : IsValidLoop sample.loop_kind sample.loop_start sample.loop_len
      (length sample.frames)
  pub few_frames : length sample.frames ≤ most_frames
  pub frames : All (FitsSigned (width_of sample.wide)) sample.frames

abbrev pub IsZeroPoint : Point → Type 0
IsZeroPoint point = (point.x ≡ 0) × (point.y ≡ 0)

pub record IsZeroEnvelope (envelope : Envelope) : Type 0 where
  pub points : All IsZeroPoint envelope.points
  pub count : envelope.count ≡ 0
  pub sustain : envelope.sustain ≡ 0
  pub loop_start : envelope.loop_start ≡ 0
  pub loop_end : envelope.loop_end ≡ 0
  pub flags : envelope.flags ≡ 0

-- an instrument without samples says nothing but its name
pub record IsZeroInstrument (instrument : Instrument) : Type 0 where
  pub map : All (λ sample. sample ≡ 0) instrument.map
  pub volume : IsZeroEnvelope instrument.volume
  pub panning : IsZeroEnvelope instrument.panning
  pub kind : instrument.vibrato.kind ≡ 0
  pub sweep : instrument.vibrato.sweep ≡ 0
  pub depth : instrument.vibrato.depth ≡ 0
  pub rate : instrument.vibrato.rate ≡ 0
  pub fadeout : instrument.fadeout ≡ 0

pub record IsValidInstrument (instrument : Instrument) : Type 0 where
  pub name : IsBytes 22 instrument.name
  pub map_len : length instrument.map ≡ 96
  pub map : All (λ sample. sample ≤ 15) instrument.map
  pub volume : IsValidEnvelope instrument.volume
  pub panning : IsValidEnvelope instrument.panning
  pub vibrato : IsValidVibrato instrument.vibrato
  pub fadeout : instrument.fadeout < 65536
  pub few_samples : length instrument.samples ≤ most_samples
  pub samples : All IsValidSample instrument.samples
  pub without : length instrument.samples ≡ 0 → IsZeroInstrument instrument

-- ---- the song

pub record IsValid (song : Module) : Type 0 where
  pub name : IsBytes 20 song.name
  pub tracker : IsBytes 20 song.tracker
  pub some_orders : 1 ≤ length song.orders
  pub few_orders : length song.orders ≤ most_orders
  pub orders : All (λ order. order < 256) song.orders
  pub restart : song.restart < length song.orders
  pub some_channels : 1 ≤ song.channels
  pub few_channels : song.channels ≤ most_channels
  pub some_tempo : 1 ≤ song.tempo
  pub low_tempo : song.tempo ≤ 31
  pub some_bpm : 32 ≤ song.bpm
  pub low_bpm : song.bpm ≤ 255
  pub few_patterns : length song.patterns ≤ most_patterns
  pub patterns : All (IsValidPattern song.channels) song.patterns
  pub few_instruments : length song.instruments ≤ most_instruments
  pub instruments : All IsValidInstrument song.instruments

-- ---- what is read of a song while it plays

-- the head of a valid song
pub record IsValidSongHead (head : SongHead) : Type 0 where
  pub some_orders : 1 ≤ head.length
  pub few_orders : head.length ≤ most_orders
  pub restart : head.restart < head.length
  pub some_tempo : 1 ≤ head.tempo
  pub low_tempo : head.tempo ≤ 31
  pub some_bpm : 32 ≤ head.bpm
  pub low_bpm : head.bpm ≤ 255

-- the shape of a valid instrument
pub record IsValidShape (shape : Shape) : Type 0 where
  pub vibrato : IsValidVibrato shape.vibrato
  pub fadeout : shape.fadeout < 65536

-- the head of a valid sample with frames: one that can sound
pub record IsValidHead (head : SampleHead) : Type 0 where
  pub some_frames : 1 ≤ head.frames
  pub few_frames : head.frames ≤ most_frames
  pub looping : IsValidLoop head.loop_kind head.loop_start head.loop_len head.frames
  pub volume : head.volume ≤ 64
  pub panning : head.panning < 256
  pub finetune : FitsSigned w8 head.finetune
  pub relative : FitsSigned w8 head.relative
