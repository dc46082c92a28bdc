-- Which edits change an instrument alone, which a sample, and which sample an edit names.
use Rattle.std.specs.Prelude.{◌≡◌, ◌-◌, Some, slice_get}
use Rattle.ft_types.specs.declared.module.Module.{Module}
use Rattle.ft_types.specs.declared.instrument.Instrument.{Instrument}
use Rattle.ft_types.specs.declared.sample.Sample.{Sample}
use Rattle.ft_types.specs.declared.edit.Edit.{Edit}
use Rattle.ft_types.specs.declared.edit.Edit.TheVariants as edits
use Rattle.ft_edits.specs.Changes.{instrument_number, sample_number}

-- the name, the note map, an envelope, the vibrato or the fadeout: which samples it has stays
abbrev pub ChangesInstrumentAlone : Edit → Type 0
ChangesInstrumentAlone (edits.Insname i name) = Unit {0}
ChangesInstrumentAlone (edits.Map i n k) = Unit {0}
ChangesInstrumentAlone (edits.Env i w count sus ls le flags) = Unit {0}
ChangesInstrumentAlone (edits.Point i w k x y) = Unit {0}
ChangesInstrumentAlone (edits.Vib i kind sweep depth rate) = Unit {0}
ChangesInstrumentAlone (edits.Fade i n) = Unit {0}
ChangesInstrumentAlone _ = ⊥

-- the name, volume, tuning, panning, loop or frames of a sample
abbrev pub ChangesSample : Edit → Type 0
ChangesSample (edits.Smpname i s name) = Unit {0}
ChangesSample (edits.Smp i s vol fine rel pan) = Unit {0}
ChangesSample (edits.Loop i s kind start len) = Unit {0}
ChangesSample (edits.Cut i s from to) = Unit {0}
ChangesSample (edits.Paste i s at new) = Unit {0}
ChangesSample (edits.Reverse i s from to) = Unit {0}
ChangesSample (edits.Scale i s from to n d) = Unit {0}
ChangesSample (edits.Bits i s b) = Unit {0}
ChangesSample _ = ⊥

-- the edit names this sample of the song
pub record NamesSample (song : Module) (edit : Edit) (sample : Sample) : Type 0 where
  pub instrument : Instrument
  pub has_instrument : slice_get song.instruments (instrument_number edit - 1) ≡ Some instrument
  pub has_sample : slice_get instrument.samples (sample_number edit) ≡ Some sample
