-- Where the frames of a sample after an edit come from.
use Rattle.std.specs.Prelude.{ℕ, ◌==◌, ◌<◌, ◌≤◌, Bool, List, ℤ, pos, ◌*ℤ◌, length, slice_index_or, if◌then◌else◌}
use Rattle.ft_types.specs.declared.edit.Edit.{Edit}
use Rattle.ft_types.specs.declared.edit.Edit.TheVariants as edits
use Rattle.ft_edits.specs.Samples.{floor_of, scaled_frame}
use Rattle.ft_smpedit.specs.declared.source.FrameSource.{FrameSource}
use Rattle.ft_smpedit.specs.declared.source.FrameSource.TheVariants as sources

-- a sample of that many frames has those that the edit names, and new ones are few
abbrev pub HasNamedFrames : ℕ → Edit → Type 0
HasNamedFrames frames (edits.Cut i s from to) = (from ≤ to) × (to ≤ frames)
HasNamedFrames frames (edits.Paste i s at new) = (at ≤ frames) × (length new ≤ 256)
HasNamedFrames frames (edits.Reverse i s from to) = (from ≤ to) × (to ≤ frames)
HasNamedFrames frames (edits.Scale i s from to n d) = (from ≤ to) × (to ≤ frames) × (0 < d)
HasNamedFrames frames _ = Unit {0}

-- what the edit makes of a frame of 8 bits, or of 16, that it changes
abbrev pub frame_changed : Edit → Bool → ℤ → ℤ
frame_changed (edits.Scale i s from to n d) wide frame = scaled_frame wide n d frame
frame_changed (edits.Bits i s b) wide frame =
    if b == 16 then (if wide then frame else pos 256 *ℤ frame)
    else (if wide then floor_of frame 256 else frame)
frame_changed _ wide frame = frame

-- the frame that comes from a source, where the sample had these frames of 8 bits, or of 16
abbrev pub frame_from : Edit → Bool → List ℤ → FrameSource → ℤ
frame_from edit wide frames (sources.Old place) = slice_index_or frames place (pos 0)
frame_from edit wide frames (sources.Changed place) =
    frame_changed edit wide (slice_index_or frames place (pos 0))
frame_from edit wide frames (sources.Given frame) = frame

-- the source is a new frame, or one of that many
abbrev pub IsSourceOf : ℕ → FrameSource → Type 0
IsSourceOf frames (sources.Old place) = place < frames
IsSourceOf frames (sources.Changed place) = place < frames
IsSourceOf frames (sources.Given frame) = Unit {0}
