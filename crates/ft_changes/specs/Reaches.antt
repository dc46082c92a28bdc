-- How far each edit reaches into a song: the parts that it touches.
use Rattle.std.specs.Prelude.{ℕ, ◌+◌, ◌-◌, ◌*◌, ◌/◌, ◌==◌, if◌then◌else◌, length}
use Rattle.ft_types.specs.declared.module.Module.{Module}
use Rattle.ft_types.specs.declared.edit.Edit.{Edit}
use Rattle.ft_types.specs.declared.edit.Edit.TheVariants as edits
use Rattle.ft_types.specs.Blocks.{pieces_of}
use Rattle.ft_types.specs.Views.{rows_at}
use Rattle.ft_edits.specs.Faults.{samples_at, frames_at}
use Rattle.ft_changes.specs.declared.reach.Reach.{Reach}
use Rattle.ft_changes.specs.declared.reach.Reach.TheVariants.{Song, LastPattern, Cell, Pattern, Instrument, Bare, LastSample, Sample, Frames}

-- a pattern written whole, with that many rows
abbrev pub whole_pattern : Module → ℕ → ℕ → Reach
whole_pattern song p rows = Pattern p (pieces_of (rows * song.channels) 256)

-- the frames from one up to another, which stay as many
abbrev pub frames_between : ℕ → ℕ → ℕ → ℕ → Reach
frames_between i s from to =
    if from == to then Sample (i - 1) s
    else Frames (i - 1) s (from / 1024) (pieces_of to 1024) (pieces_of to 1024)

-- all frames from one on, in a sample that had so many frames and now has so many
abbrev pub frames_from : ℕ → ℕ → ℕ → ℕ → ℕ → Reach
frames_from i s from before now =
    Frames (i - 1) s (from / 1024) (pieces_of now 1024) (pieces_of before 1024)

abbrev pub reach_of : Module → Edit → Reach
-- patterns
reach_of song (edits.Cell p r c note ins vol eff par) = Cell p ((r * song.channels + c) / 256)
reach_of song (edits.Rows p n) = whole_pattern song p n
reach_of song (edits.Insrow p r) = whole_pattern song p (rows_at song p)
reach_of song (edits.Delrow p r) = whole_pattern song p (rows_at song p)
reach_of song (edits.Clear p r c h w) = whole_pattern song p (rows_at song p)
reach_of song (edits.Transpose p r c h w d) = whole_pattern song p (rows_at song p)
reach_of song (edits.Copy p r c h w q r2 c2) = whole_pattern song q (rows_at song q)
-- the song
reach_of song (edits.Newpat n) = whole_pattern song (length song.patterns) n
reach_of song edits.Delpat = LastPattern
-- instruments
reach_of song edits.Newins = Bare (length song.instruments)
reach_of song (edits.Clearins i) = Bare (i - 1)
reach_of song (edits.Insname i name) = Instrument (i - 1)
reach_of song (edits.Map i n k) = Instrument (i - 1)
reach_of song (edits.Env i w count sus ls le flags) = Instrument (i - 1)
reach_of song (edits.Point i w k x y) = Instrument (i - 1)
reach_of song (edits.Vib i kind sweep depth rate) = Instrument (i - 1)
reach_of song (edits.Fade i n) = Instrument (i - 1)
-- samples
reach_of song (edits.Newsmp i) = Sample (i - 1) (samples_at song i)
reach_of song (edits.Delsmp i) = LastSample (i - 1)
reach_of song (edits.Smpname i s name) = Sample (i - 1) s
reach_of song (edits.Smp i s vol fine rel pan) = Sample (i - 1) s
reach_of song (edits.Loop i s kind start len) = Sample (i - 1) s
-- frames
reach_of song (edits.Cut i s from to) =
    frames_from i s from (frames_at song i s) (frames_at song i s - (to - from))
reach_of song (edits.Paste i s at new) =
    frames_from i s at (frames_at song i s) (frames_at song i s + length new)
reach_of song (edits.Reverse i s from to) = frames_between i s from to
reach_of song (edits.Scale i s from to n d) = frames_between i s from to
reach_of song (edits.Bits i s b) =
    frames_from i s 0 (frames_at song i s) (frames_at song i s)
-- order, insorder, delorder, restart, tempo, bpm and title
reach_of song edit = Song

-- how many segments are filled
abbrev pub needed : Reach → ℕ
needed Song = 1
needed LastPattern = 1
needed (Cell pattern body) = 3
needed (Pattern pattern bodies) = 2 + bodies
needed (Instrument at) = 2
needed (Bare at) = 2
needed (LastSample at) = 2
needed (Sample at sample) = 3
needed (Frames at sample first last gone) =
    3 + (pieces_of last 1024 - first / 1024) + (last - first)
