-- What is known of the places of an edit that isn't refused.
use Rattle.std.specs.Prelude.{ℕ, ◌+◌, ◌<◌, ◌≤◌, length}
use Rattle.ft_types.specs.declared.module.Module.{Module}
use Rattle.ft_types.specs.declared.edit.Edit.{Edit}
use Rattle.ft_types.specs.declared.edit.Edit.TheVariants as edits
use Rattle.ft_types.specs.Views.{rows_at}
use Rattle.ft_edits.specs.Faults.{frames_at}

-- the block lies within the pattern
abbrev pub HasBlock : Module → ℕ → ℕ → ℕ → ℕ → ℕ → Type 0
HasBlock song p r c h w =
    (p < length song.patterns) × (r + h ≤ rows_at song p) × (c + w ≤ song.channels)

-- the frames are there, in an instrument; they count from 1
abbrev pub HasFrames : Module → ℕ → ℕ → ℕ → ℕ → Type 0
HasFrames song i s from to = (0 < i) × (from ≤ to) × (to ≤ frames_at song i s)

abbrev pub Allows : Module → Edit → Type 0
Allows song (edits.Insrow p r) = r < rows_at song p
Allows song (edits.Delrow p r) = r < rows_at song p
Allows song (edits.Clear p r c h w) = HasBlock song p r c h w
Allows song (edits.Transpose p r c h w d) = HasBlock song p r c h w
Allows song (edits.Copy p r c h w q r2 c2) = HasBlock song p r c h w × HasBlock song q r2 c2 h w
Allows song (edits.Insorder position p) = position ≤ length song.orders
Allows song (edits.Delorder position) = position < length song.orders
Allows song (edits.Map i n k) = n ≤ 95
Allows song (edits.Point i w k x y) = k ≤ 11
Allows song (edits.Cut i s from to) = HasFrames song i s from to
Allows song (edits.Paste i s at frames) = HasFrames song i s at at
Allows song (edits.Reverse i s from to) = HasFrames song i s from to
Allows song (edits.Scale i s from to n d) = HasFrames song i s from to × (0 < d)
Allows song (edits.Smpname i s name) = 0 < i
Allows song (edits.Smp i s vol fine rel pan) = 0 < i
Allows song (edits.Loop i s kind start len) = 0 < i
Allows song (edits.Bits i s b) = 0 < i
Allows song _ = Unit {0}
