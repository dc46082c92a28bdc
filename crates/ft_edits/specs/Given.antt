-- The numbers of an edit as its fields hold them.
use Rattle.std.specs.Prelude.{◌<◌, All, FitsSigned}
use Rattle.std.specs.Int.{w8, w16}
use Rattle.ft_types.specs.Valid.{IsBytes}
use Rattle.ft_types.specs.declared.edit.Edit.{Edit}
use Rattle.ft_types.specs.declared.edit.Edit.TheVariants as edits

-- the numbers that no fault bounds fit their fields
abbrev pub HoldsFields : Edit → Type 0
HoldsFields (edits.Cell p r c note ins vol eff par) =
    (ins < 256) × (vol < 256) × (eff < 256) × (par < 256)
HoldsFields (edits.Order position p) = p < 256
HoldsFields (edits.Insorder position p) = p < 256
HoldsFields (edits.Title name) = IsBytes 20 name
HoldsFields (edits.Insname i name) = IsBytes 22 name
HoldsFields (edits.Point i w k x y) = x < 65536
HoldsFields (edits.Vib i kind sweep depth rate) = sweep < 256
HoldsFields (edits.Fade i n) = n < 65536
HoldsFields (edits.Smpname i s name) = IsBytes 22 name
HoldsFields (edits.Smp i s vol fine rel pan) = FitsSigned w8 fine × FitsSigned w8 rel × (pan < 256)
HoldsFields (edits.Paste i s at frames) = All (FitsSigned w16) frames
HoldsFields _ = Unit {0}
