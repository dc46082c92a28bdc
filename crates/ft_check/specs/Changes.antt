-- What the changes of one instrument and one sample take for granted.
use Rattle.std.specs.Prelude.{ℕ, ◌<◌, ◌≤◌, ◌++◌, ◌==◌, Bool, List, ℤ, pos, ◌*ℤ◌, take, drop, map, reverse, length, if◌then◌else◌}
use Rattle.ft_types.specs.declared.edit.Edit.{Edit}
use Rattle.ft_types.specs.declared.edit.Edit.TheVariants as edits
use Rattle.ft_types.specs.declared.instrument.Instrument.{Instrument}
use Rattle.ft_types.specs.declared.sample.Sample.{Sample}
use Rattle.ft_edits.specs.Lists.{changed_at, with_stretch}
use Rattle.ft_edits.specs.Samples.{floor_of, scaled_frame}

-- the note and the point are there
abbrev pub SuitsInstrument : Edit → Type 0
SuitsInstrument (edits.Map i n k) = n ≤ 95
SuitsInstrument (edits.Point i w k x y) = k ≤ 11
SuitsInstrument _ = Unit {0}

-- the frames are there, and new ones are few
abbrev pub SuitsFrames : ℕ → Edit → Type 0
SuitsFrames frames (edits.Cut i s from to) = (from ≤ to) × (to ≤ frames)
SuitsFrames frames (edits.Paste i s at new) = (at ≤ frames) × (length new ≤ 256)
SuitsFrames frames (edits.Reverse i s from to) = (from ≤ to) × (to ≤ frames)
SuitsFrames frames (edits.Scale i s from to n d) = (from ≤ to) × (to ≤ frames) × (0 < d)
SuitsFrames frames _ = Unit {0}

-- the sample of a number of an instrument changed
abbrev pub sample_in_changed : ℕ → (Sample → Sample) → Instrument → Instrument
sample_in_changed s change instrument =
    record instrument { samples = changed_at s change instrument.samples }

-- frames of 8 bits, or of 16, with that many bits
abbrev pub with_width : ℕ → Bool → List ℤ → List ℤ
with_width b wide frames =
    if b == 16 then (if wide then frames else map (λ frame. pos 256 *ℤ frame) frames)
    else (if wide then map (λ frame. floor_of frame 256) frames else frames)

-- the frames of a sample of 8 bits, or of 16, after an edit
abbrev pub frames_changed : Bool → Edit → List ℤ → List ℤ
frames_changed wide (edits.Cut i s from to) frames = take from frames ++ drop to frames
frames_changed wide (edits.Paste i s at new) frames = take at frames ++ (new ++ drop at frames)
frames_changed wide (edits.Reverse i s from to) frames = with_stretch from to reverse frames
frames_changed wide (edits.Scale i s from to n d) frames =
    with_stretch from to (map (scaled_frame wide n d)) frames
frames_changed wide (edits.Bits i s b) frames = with_width b wide frames
frames_changed wide _ frames = frames
