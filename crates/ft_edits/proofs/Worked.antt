-- Edits of a small song, computed.
use Rattle.std.proofs.Common.{◌≡◌, ℕ, true, List, [], ◌∷◌, None, Some, replicate, get_or, map, ℤ, pos, negsuc, refl}
use Rattle.ft_types.specs.declared.module.Module.{Module}
use Rattle.ft_types.specs.declared.pattern.Pattern.{Pattern}
use Rattle.ft_types.specs.declared.pattern.Cell.{Cell}
use Rattle.ft_types.specs.declared.instrument.Instrument.{Instrument}
use Rattle.ft_types.specs.declared.sample.Sample.{Sample}
use Rattle.ft_types.specs.declared.edit.Edit.TheVariants as edits
use Rattle.ft_types.specs.declared.edit_fault.EditFault.TheVariants.{NoPattern, NoRow, NoChannel, NoInstrument, Range, Cut}
use Rattle.ft_types.specs.Views.{empty_cell}
use Rattle.ft_edits.specs.Instruments.{named_only}
use Rattle.ft_edits.specs.Samples.{new_sample}
use Rattle.ft_edits.specs.Faults.{fault_of}
use Rattle.ft_edits.specs.Edited.{edited}

note : ℕ → Cell
note n = record { note = n; instrument = 1; volume = 0; effect = 0; parameter = 0 }

-- two channels, one pattern of 4 rows that begins with a note, one sample of these frames with this loop
abbrev song : ℕ → ℕ → ℕ → List ℤ → Module
song kind start len frames = record {
  name = replicate 20 0;
  tracker = replicate 20 0;
  restart = 0;
  channels = 2;
  linear = true;
  tempo = 6;
  bpm = 125;
  orders = 0 ∷ [];
  patterns =
      record {
        rows = 4;
        cells = record { note = 49; instrument = 1; volume = 0; effect = 0; parameter = 0 } ∷ replicate 7 empty_cell;
      } ∷ [];
  instruments = record (named_only []) {
    samples = record new_sample { loop_kind = kind; loop_start = start; loop_len = len; frames = frames } ∷ [];
  } ∷ [];
}

abbrev four : List ℤ
four = pos 64 ∷ pos 32 ∷ pos 16 ∷ pos 8 ∷ []

abbrev plain : Module
plain = song 0 0 0 four

abbrev first_pattern : Module → Pattern
first_pattern m = get_or m.patterns 0 (record { rows = 0; cells = [] })

abbrev first_instrument : Module → Instrument
first_instrument m = get_or m.instruments 0 (named_only [])

abbrev first_sample : Module → Sample
first_sample m = get_or (first_instrument m).samples 0 new_sample

abbrev notes : Module → List ℕ
notes m = map (λ (cell : Cell). cell.note) (first_pattern m).cells

abbrev frames : Module → List ℤ
frames m = (first_sample m).frames

-- ---- the first fault

no_pattern : fault_of plain (edits.Cell 1 0 0 0 0 0 0 0) ≡ Some (NoPattern 1)
no_pattern = refl

past_the_rows : fault_of plain (edits.Copy 0 3 0 2 1 0 0 0) ≡ Some (NoRow 4 4)
past_the_rows = refl

only_order : fault_of plain (edits.Delorder 0) ≡ Some (Range 17 (pos 0))
only_order = refl

too_many_points : fault_of plain (edits.Env 1 0 13 0 0 0 0) ≡ Some (Range 6 (pos 13))
too_many_points = refl

too_low_a_channel : fault_of plain (edits.Clear 0 0 1 1 2) ≡ Some (NoChannel 2)
too_low_a_channel = refl

no_size : fault_of plain (edits.Clear 0 9 9 0 1) ≡ Some (Range 3 (pos 0))
no_size = refl

backwards : fault_of plain (edits.Cut 1 0 3 2) ≡ Some (Cut 3 2 4)
backwards = refl

too_large_a_frame : fault_of plain (edits.Paste 1 0 4 (pos 128 ∷ [])) ≡ Some (Range 16 (pos 128))
too_large_a_frame = refl

past_the_frames : fault_of plain (edits.Paste 1 0 5 (pos 128 ∷ [])) ≡ Some (Cut 5 5 4)
past_the_frames = refl

no_instrument_zero : fault_of plain (edits.Clearins 0) ≡ Some (NoInstrument 0)
no_instrument_zero = refl

loop_past_the_end : fault_of plain (edits.Loop 1 0 2 1 4) ≡ Some (Cut 1 5 4)
loop_past_the_end = refl

no_loop_of_any_numbers : fault_of plain (edits.Loop 1 0 0 1 4) ≡ None
no_loop_of_any_numbers = refl

-- ---- the new song

an_octave_up : notes (edited plain (edits.Transpose 0 0 0 4 2 (pos 12))) ≡ 61 ∷ replicate 7 0
an_octave_up = refl

kept_note : notes (edited plain (edits.Transpose 0 0 0 4 2 (pos 48))) ≡ 49 ∷ replicate 7 0
kept_note = refl

-- two rows lower and one channel to the right, over itself
copied_block : notes (edited plain (edits.Copy 0 0 0 3 1 0 1 0)) ≡ 49 ∷ 0 ∷ 49 ∷ 0 ∷ 0 ∷ 0 ∷ 0 ∷ 0 ∷ []
copied_block = refl

emptied : notes (edited plain (edits.Clear 0 0 0 1 1)) ≡ replicate 8 0
emptied = refl

a_row_before : notes (edited plain (edits.Insrow 0 0)) ≡ 0 ∷ 0 ∷ 49 ∷ 0 ∷ 0 ∷ 0 ∷ 0 ∷ 0 ∷ []
a_row_before = refl

a_row_less : notes (edited plain (edits.Delrow 0 0)) ≡ replicate 8 0
a_row_less = refl

a_longer_pattern : notes (edited plain (edits.Rows 0 5)) ≡ 49 ∷ replicate 9 0
a_longer_pattern = refl

cut_frames : frames (edited plain (edits.Cut 1 0 1 3)) ≡ pos 64 ∷ pos 8 ∷ []
cut_frames = refl

turned_frames : frames (edited plain (edits.Reverse 1 0 0 4)) ≡ pos 8 ∷ pos 16 ∷ pos 32 ∷ pos 64 ∷ []
turned_frames = refl

by_minus_a_half :
    frames (edited plain (edits.Scale 1 0 0 4 (negsuc 0) 2)) ≡ negsuc 31 ∷ negsuc 15 ∷ negsuc 7 ∷ negsuc 3 ∷ []
by_minus_a_half = refl

rounded_down :
    frames (edited plain (edits.Scale 1 0 0 4 (negsuc 0) 100)) ≡ negsuc 0 ∷ negsuc 0 ∷ negsuc 0 ∷ negsuc 0 ∷ []
rounded_down = refl

three_times : frames (edited plain (edits.Scale 1 0 0 4 (pos 3) 1)) ≡ pos 127 ∷ pos 96 ∷ pos 48 ∷ pos 24 ∷ []
three_times = refl

wide_frames : frames (edited plain (edits.Bits 1 0 16)) ≡ pos 16384 ∷ pos 8192 ∷ pos 4096 ∷ pos 2048 ∷ []
wide_frames = refl

pasted :
    frames (edited plain (edits.Paste 1 0 4 (negsuc 127 ∷ []))) ≡ pos 64 ∷ pos 32 ∷ pos 16 ∷ pos 8 ∷ negsuc 127 ∷ []
pasted = refl

-- a loop over the last two of four frames, of which one is left, and then none
abbrev looped : Sample → ℕ × ℕ × ℕ
looped sample = (sample.loop_kind, sample.loop_start, sample.loop_len)

loop_of_one : looped (first_sample (edited (song 2 2 2 four) (edits.Cut 1 0 0 1))) ≡ (2, 2, 1)
loop_of_one = refl

loop_gone : looped (first_sample (edited (song 2 2 2 four) (edits.Cut 1 0 0 2))) ≡ (0, 0, 0)
loop_gone = refl
