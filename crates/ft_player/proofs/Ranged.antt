-- What is read of a valid song is in range.
use Rattle.std.proofs.Common.{◌≡◌, ℕ, zero, suc, ◌*◌, ◌+◌, ◌<◌, ◌≤◌, ◌==◌, if◌then◌else◌, List, Bool, true, false, Option, None, Some, length, get_or, IfSome, refl, subst, arith, pos}
use Rattle.std.specs.Prelude.{All, FitsSigned, slice_get, nat_lt, unwrap_or}
use Rattle.std.proofs.lemmas.Option.{slice_get_within, get_or_from_slice_get}
use Rattle.ft_types.specs.declared.module.Module.{Module}
use Rattle.ft_types.specs.declared.pattern.Pattern.{Pattern}
use Rattle.ft_types.specs.declared.pattern.Cell.{Cell}
use Rattle.ft_types.specs.declared.instrument.Instrument.{Instrument}
use Rattle.ft_types.specs.declared.sample.Sample.{Sample}
use Rattle.ft_types.specs.Valid.{width_of, IsValid, IsValidCell, IsValidPattern, IsValidInstrument, IsValidEnvelope, IsValidShape, IsValidSample, IsValidHead, IsValidSongHead}
use Rattle.ft_types.specs.Views.{song_head_of, row_count, rows_at, cell_in, cell_at, empty_cell, instrument_at, envelope_in, shape_in, head_of}

all_at : {A : Type 0} (P : A → Type 0) (xs : List A) (k : ℕ) (x : A) → All P xs → slice_get xs k ≡ Some x → P x
all_at P xs k x all e =
    subst P (get_or_from_slice_get xs k x x e) (all k x (slice_get_within xs k x e))

pub head_ranged : (song : Module) → IsValid song → IsValidSongHead (song_head_of song)
head_ranged song v = record {
  some_orders = v.some_orders;
  few_orders = v.few_orders;
  restart = v.restart;
  some_tempo = v.some_tempo;
  low_tempo = v.low_tempo;
  some_bpm = v.some_bpm;
  low_bpm = v.low_bpm;
}

rows_of : (channels : ℕ) (o : Option Pattern) → ((p : Pattern) → o ≡ Some p → IsValidPattern channels p)
    → (1 ≤ row_count o) × (row_count o ≤ 256)
rows_of channels None all = (omega arith, omega arith)
rows_of channels (Some p) all = let v = all p refl in (v.some_rows, v.few_rows)

pub rows_ranged : (song : Module) (pattern : ℕ) → IsValid song
    → (1 ≤ rows_at song pattern) × (rows_at song pattern ≤ 256)
rows_ranged song pattern v =
    rows_of song.channels (slice_get song.patterns pattern)
    (λ p e. all_at (IsValidPattern song.channels) song.patterns pattern p v.patterns e)

empty_ranged : IsValidCell empty_cell
empty_ranged = record {
  note = omega arith;
  instrument = omega arith;
  volume = omega arith;
  effect = omega arith;
  parameter = omega arith;
}

or_empty : (o : Option Cell) → ((c : Cell) → o ≡ Some c → IsValidCell c) → IsValidCell (unwrap_or o empty_cell)
or_empty None all = empty_ranged
or_empty (Some c) all = all c refl

either : (b : Bool) (x y : Cell) → IsValidCell x → IsValidCell y → IsValidCell (if b then x else y)
either true x y a b = a
either false x y a b = b

cell_of : (channels : ℕ) (o : Option Pattern) (row channel : ℕ)
    → ((p : Pattern) → o ≡ Some p → IsValidPattern channels p) → IsValidCell (cell_in channels o row channel)
cell_of channels None row channel all = empty_ranged
cell_of channels (Some p) row channel all =
    either (nat_lt row p.rows) (unwrap_or (slice_get p.cells (row * channels + channel)) empty_cell) empty_cell
    (or_empty (slice_get p.cells (row * channels + channel))
    (λ c e. all_at IsValidCell p.cells (row * channels + channel) c (all p refl).cells e))
    empty_ranged

pub cell_ranged : (song : Module) (pattern row channel : ℕ) → IsValid song
    → IsValidCell (cell_at song pattern row channel)
cell_ranged song pattern row channel v =
    cell_of song.channels (slice_get song.patterns pattern) row channel
    (λ p e. all_at (IsValidPattern song.channels) song.patterns pattern p v.patterns e)

pub instrument_valid : (song : Module) (number : ℕ) → IsValid song
    → (x : Instrument) → instrument_at song number ≡ Some x → IsValidInstrument x
instrument_valid song zero v x e = absurd cc
instrument_valid song (suc n) v x e = all_at IsValidInstrument song.instruments n x v.instruments e

which_of : (b : Bool) (x : Instrument) → IsValidInstrument x
    → IsValidEnvelope (if b then x.volume else x.panning)
which_of true x v = v.volume
which_of false x v = v.panning

envelope_of : (o : Option Instrument) (which : ℕ) → ((x : Instrument) → o ≡ Some x → IsValidInstrument x)
    → IfSome (envelope_in o which) IsValidEnvelope
envelope_of None which all = tt
envelope_of (Some x) which all = which_of (which == 0) x (all x refl)

pub envelope_ranged : (song : Module) (instrument which : ℕ) → IsValid song
    → IfSome (envelope_in (instrument_at song instrument) which) IsValidEnvelope
envelope_ranged song instrument which v =
    envelope_of (instrument_at song instrument) which (instrument_valid song instrument v)

shape_of : (o : Option Instrument) → ((x : Instrument) → o ≡ Some x → IsValidInstrument x)
    → IfSome (shape_in o) IsValidShape
shape_of None all = tt
shape_of (Some x) all = let v = all x refl in record { vibrato = v.vibrato; fadeout = v.fadeout }

pub shape_ranged : (song : Module) (instrument : ℕ) → IsValid song
    → IfSome (shape_in (instrument_at song instrument)) IsValidShape
shape_ranged song instrument v = shape_of (instrument_at song instrument) (instrument_valid song instrument v)

pub sample_ranged : (x : Sample) → IsValidSample x → 1 ≤ length x.frames → IsValidHead (head_of x)
sample_ranged x v some = record {
  some_frames = some;
  few_frames = v.few_frames;
  looping = v.looping;
  volume = v.volume;
  panning = v.panning;
  finetune = v.finetune;
  relative = v.relative;
}

pub frame_ranged : (x : Sample) (place : ℕ) → IsValidSample x → place < length x.frames
    → FitsSigned (width_of x.wide) (get_or x.frames place (pos 0))
frame_ranged x place v lt = v.frames place (pos 0) lt
