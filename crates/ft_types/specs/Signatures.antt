-- The table of edits: the name of each kind, and the types of its arguments.
use Rattle.std.specs.Prelude.{ℕ, zero, suc, ℤ, pos, negsuc, ◌<◌, ◌^◌, List, [], ◌∷◌, ◌++◌, take, replicate, codes, bytes_eq, nat_le, Option, Some, None, if◌then◌else◌, FitsSigned}
use Rattle.std.specs.Int.{w8, w16}
use Rattle.ft_types.specs.declared.edit_kind.EditKind.{EditKind}
use Rattle.ft_types.specs.declared.edit_kind.EditKind.TheVariants as kinds
use Rattle.ft_types.specs.declared.edit_kind.NumberType.{NumberType}
use Rattle.ft_types.specs.declared.edit_kind.NumberType.TheVariants.{U8, U16, U32, I8, I16}
use Rattle.ft_types.specs.declared.edit_kind.LastType.{LastType}
use Rattle.ft_types.specs.declared.edit_kind.LastType.TheVariants.{Nothing, Title, Name, Frames}

-- what an edit is written with: its name, then numbers of these types, then a name, frames or nothing
pub record Signature : Type 0 where
  pub name : List ℕ
  pub numbers : List NumberType
  pub last : LastType

abbrev pub takes : List ℕ → List NumberType → LastType → Signature
takes name numbers last = record { name = name; numbers = numbers; last = last }

abbrev pub signature : EditKind → Signature
signature kinds.Cell = takes (codes "cell") (U8 ∷ U16 ∷ U8 ∷ U8 ∷ U8 ∷ U8 ∷ U8 ∷ U8 ∷ []) Nothing
signature kinds.Rows = takes (codes "rows") (U8 ∷ U16 ∷ []) Nothing
signature kinds.Insrow = takes (codes "insrow") (U8 ∷ U16 ∷ []) Nothing
signature kinds.Delrow = takes (codes "delrow") (U8 ∷ U16 ∷ []) Nothing
signature kinds.Clear = takes (codes "clear") (U8 ∷ U16 ∷ U8 ∷ U16 ∷ U8 ∷ []) Nothing
signature kinds.Transpose = takes (codes "transpose") (U8 ∷ U16 ∷ U8 ∷ U16 ∷ U8 ∷ I8 ∷ []) Nothing
signature kinds.Copy = takes (codes "copy") (U8 ∷ U16 ∷ U8 ∷ U16 ∷ U8 ∷ U8 ∷ U16 ∷ U8 ∷ []) Nothing
signature kinds.Order = takes (codes "order") (U16 ∷ U8 ∷ []) Nothing
signature kinds.Insorder = takes (codes "insorder") (U16 ∷ U8 ∷ []) Nothing
signature kinds.Delorder = takes (codes "delorder") (U16 ∷ []) Nothing
signature kinds.Restart = takes (codes "restart") (U16 ∷ []) Nothing
signature kinds.Tempo = takes (codes "tempo") (U8 ∷ []) Nothing
signature kinds.Bpm = takes (codes "bpm") (U8 ∷ []) Nothing
signature kinds.Title = takes (codes "title") ([]) Title
signature kinds.Newpat = takes (codes "newpat") (U16 ∷ []) Nothing
signature kinds.Delpat = takes (codes "delpat") ([]) Nothing
signature kinds.Newins = takes (codes "newins") ([]) Nothing
signature kinds.Clearins = takes (codes "clearins") (U8 ∷ []) Nothing
signature kinds.Insname = takes (codes "insname") (U8 ∷ []) Name
signature kinds.Map = takes (codes "map") (U8 ∷ U8 ∷ U8 ∷ []) Nothing
signature kinds.Env = takes (codes "env") (U8 ∷ U8 ∷ U8 ∷ U8 ∷ U8 ∷ U8 ∷ U8 ∷ []) Nothing
signature kinds.Point = takes (codes "point") (U8 ∷ U8 ∷ U8 ∷ U16 ∷ U8 ∷ []) Nothing
signature kinds.Vib = takes (codes "vib") (U8 ∷ U8 ∷ U8 ∷ U8 ∷ U8 ∷ []) Nothing
signature kinds.Fade = takes (codes "fade") (U8 ∷ U16 ∷ []) Nothing
signature kinds.Newsmp = takes (codes "newsmp") (U8 ∷ []) Nothing
signature kinds.Delsmp = takes (codes "delsmp") (U8 ∷ []) Nothing
signature kinds.Smpname = takes (codes "smpname") (U8 ∷ U8 ∷ []) Name
signature kinds.Smp = takes (codes "smp") (U8 ∷ U8 ∷ U8 ∷ I8 ∷ I8 ∷ U8 ∷ []) Nothing
signature kinds.Loop = takes (codes "loop") (U8 ∷ U8 ∷ U8 ∷ U32 ∷ U32 ∷ []) Nothing
signature kinds.Cut = takes (codes "cut") (U8 ∷ U8 ∷ U32 ∷ U32 ∷ []) Nothing
signature kinds.Paste = takes (codes "paste") (U8 ∷ U8 ∷ U32 ∷ []) Frames
signature kinds.Reverse = takes (codes "reverse") (U8 ∷ U8 ∷ U32 ∷ U32 ∷ []) Nothing
signature kinds.Scale = takes (codes "scale") (U8 ∷ U8 ∷ U32 ∷ U32 ∷ I16 ∷ U16 ∷ []) Nothing
signature kinds.Bits = takes (codes "bits") (U8 ∷ U8 ∷ U8 ∷ []) Nothing

-- all kinds
abbrev pub every_kind : List EditKind
every_kind =
    kinds.Cell ∷ kinds.Rows ∷ kinds.Insrow ∷ kinds.Delrow ∷ kinds.Clear ∷ kinds.Transpose ∷
    kinds.Copy ∷ kinds.Order ∷ kinds.Insorder ∷ kinds.Delorder ∷ kinds.Restart ∷ kinds.Tempo ∷
    kinds.Bpm ∷ kinds.Title ∷ kinds.Newpat ∷ kinds.Delpat ∷ kinds.Newins ∷ kinds.Clearins ∷
    kinds.Insname ∷ kinds.Map ∷ kinds.Env ∷ kinds.Point ∷ kinds.Vib ∷ kinds.Fade ∷
    kinds.Newsmp ∷ kinds.Delsmp ∷ kinds.Smpname ∷ kinds.Smp ∷ kinds.Loop ∷ kinds.Cut ∷
    kinds.Paste ∷ kinds.Reverse ∷ kinds.Scale ∷ kinds.Bits ∷ []

-- the first kind of this name in a list
abbrev pub kind_among : List EditKind → List ℕ → Option EditKind
kind_among [] name = None
kind_among (kind ∷ kinds) name =
    if bytes_eq name (signature kind).name then Some kind else kind_among kinds name

-- the kind of this name
unfoldable pub kind_named : List ℕ → Option EditKind
kind_named name = kind_among every_kind name

-- ---- numbers

-- from 0 on, below a limit
abbrev pub IsNaturalBelow : ℕ → ℤ → Type 0
IsNaturalBelow limit (pos n) = n < limit
IsNaturalBelow limit (negsuc n) = ⊥

-- a number that a type holds
abbrev pub IsOfType : NumberType → ℤ → Type 0
IsOfType U8 z = IsNaturalBelow (2 ^ 8) z
IsOfType U16 z = IsNaturalBelow (2 ^ 16) z
IsOfType U32 z = IsNaturalBelow (2 ^ 32) z
IsOfType I8 z = FitsSigned w8 z
IsOfType I16 z = FitsSigned w16 z

-- one number of each type, in order
abbrev pub AreOfTypes : List NumberType → List ℤ → Type 0
AreOfTypes [] [] = Unit {0}
AreOfTypes [] (n ∷ ns) = ⊥
AreOfTypes (t ∷ ts) [] = ⊥
AreOfTypes (t ∷ ts) (n ∷ ns) = IsOfType t n × AreOfTypes ts ns

-- a number from 0 to `most`, or else 0
abbrev pub natural_to : ℕ → ℤ → ℤ
natural_to most (pos n) = if nat_le n most then pos n else pos 0
natural_to most (negsuc n) = pos 0

-- a number from -most - 1 to `most`, or else 0
abbrev pub signed_to : ℕ → ℤ → ℤ
signed_to most (pos n) = if nat_le n most then pos n else pos 0
signed_to most (negsuc n) = if nat_le n most then negsuc n else pos 0

-- a number, or 0 where its type doesn't hold it
abbrev pub clip : NumberType → ℤ → ℤ
clip U8 z = natural_to 255 z
clip U16 z = natural_to 65535 z
clip U32 z = natural_to 4294967295 z
clip I8 z = signed_to 127 z
clip I16 z = signed_to 32767 z

abbrev pub natural : ℤ → ℕ
natural (pos n) = n
natural (negsuc n) = 0

-- the first number, or 0
abbrev pub first_number : List ℤ → ℤ
first_number [] = pos 0
first_number (n ∷ ns) = n

abbrev pub later_numbers : List ℤ → List ℤ
later_numbers [] = []
later_numbers (n ∷ ns) = ns

-- the number behind that many others, or 0
abbrev pub at : List ℤ → ℕ → ℤ
at ns zero = first_number ns
at ns (suc i) = at (later_numbers ns) i

-- one number for each type, 0 where it is missing or the type doesn't hold it
abbrev pub clipped_numbers : List NumberType → List ℤ → List ℤ
clipped_numbers [] ns = []
clipped_numbers (t ∷ ts) ns = clip t (first_number ns) ∷ clipped_numbers ts (later_numbers ns)

-- the first `size` bytes; those that are missing are 0
abbrev pub padded : ℕ → List ℕ → List ℕ
padded size bytes = take size (bytes ++ replicate size 0)
