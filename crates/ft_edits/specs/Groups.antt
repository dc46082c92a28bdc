-- Which part of a song an edit changes.
use Rattle.ft_types.specs.declared.edit.Edit.{Edit}
use Rattle.ft_types.specs.declared.edit.Edit.TheVariants as edits
use Rattle.ft_edits.specs.declared.group.Group.{Group}
use Rattle.ft_edits.specs.declared.group.Group.TheVariants.{Patterns, Song, Instruments, Samples, Frames}

-- a pattern, the song as a whole, an instrument, its samples, or the frames of one
abbrev pub group_of : Edit → Group
group_of (edits.Cell p r c note ins vol eff par) = Patterns
group_of (edits.Rows p n) = Patterns
group_of (edits.Insrow p r) = Patterns
group_of (edits.Delrow p r) = Patterns
group_of (edits.Clear p r c h w) = Patterns
group_of (edits.Transpose p r c h w d) = Patterns
group_of (edits.Copy p r c h w q r2 c2) = Patterns
group_of (edits.Order position p) = Song
group_of (edits.Insorder position p) = Song
group_of (edits.Delorder position) = Song
group_of (edits.Restart position) = Song
group_of (edits.Tempo n) = Song
group_of (edits.Bpm n) = Song
group_of (edits.Title name) = Song
group_of (edits.Newpat n) = Song
group_of edits.Delpat = Song
group_of edits.Newins = Instruments
group_of (edits.Clearins i) = Instruments
group_of (edits.Insname i name) = Instruments
group_of (edits.Map i n k) = Instruments
group_of (edits.Env i w count sus ls le flags) = Instruments
group_of (edits.Point i w k x y) = Instruments
group_of (edits.Vib i kind sweep depth rate) = Instruments
group_of (edits.Fade i n) = Instruments
group_of (edits.Newsmp i) = Samples
group_of (edits.Delsmp i) = Samples
group_of (edits.Smpname i s name) = Samples
group_of (edits.Smp i s vol fine rel pan) = Samples
group_of (edits.Loop i s kind start len) = Samples
group_of _ = Frames
