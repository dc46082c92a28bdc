-- An edit in parts: its kind and its arguments.
use Rattle.std.specs.Prelude.{◌≡◌, ◌↔◌, ℕ, ◌≤◌, length, Some, ℤ, pos, List, [], ◌∷◌, All, FitsSigned}
use Rattle.std.specs.Int.{w16}
use Rattle.ft_types.specs.declared.edit.Edit.{Edit}
use Rattle.ft_types.specs.declared.edit.Edit.TheVariants as edits
use Rattle.ft_types.specs.declared.edit_kind.EditKind.{EditKind}
use Rattle.ft_types.specs.declared.edit_kind.EditKind.TheVariants as kinds
use Rattle.ft_types.specs.declared.edit_kind.LastType.{LastType}
use Rattle.ft_types.specs.declared.edit_kind.LastType.TheVariants.{Nothing, Title, Name, Frames}
use Rattle.ft_types.specs.Valid.{IsBytes}
use Rattle.ft_types.specs.Edits.{IsGivable}
use Rattle.ft_types.specs.Signatures.{signature, kind_named, AreOfTypes, clipped_numbers, natural, at, padded}

-- what an edit does, its numbers in order, and its name and its frames, which are empty where it
-- has none
pub record InParts : Type 0 where
  pub kind : EditKind
  pub numbers : List ℤ
  pub name : List ℕ
  pub frames : List ℤ

abbrev pub numbers_only : EditKind → List ℤ → InParts
numbers_only kind numbers = record { kind = kind; numbers = numbers; name = []; frames = [] }

abbrev pub parts_with_name : EditKind → List ℤ → List ℕ → InParts
parts_with_name kind numbers name = record {
  kind = kind;
  numbers = numbers;
  name = name;
  frames = [];
}

abbrev pub parts_with_frames : EditKind → List ℤ → List ℤ → InParts
parts_with_frames kind numbers frames =
    record { kind = kind; numbers = numbers; name = []; frames = frames }

-- the parts of an edit
abbrev pub edit_parts : Edit → InParts
edit_parts (edits.Cell p r c note ins vol eff par) =
    numbers_only kinds.Cell (pos p ∷ pos r ∷ pos c ∷ pos note ∷ pos ins ∷ pos vol ∷ pos eff ∷ pos par ∷ [])
edit_parts (edits.Rows p n) = numbers_only kinds.Rows (pos p ∷ pos n ∷ [])
edit_parts (edits.Insrow p r) = numbers_only kinds.Insrow (pos p ∷ pos r ∷ [])
edit_parts (edits.Delrow p r) = numbers_only kinds.Delrow (pos p ∷ pos r ∷ [])
edit_parts (edits.Clear p r c h w) =
    numbers_only kinds.Clear (pos p ∷ pos r ∷ pos c ∷ pos h ∷ pos w ∷ [])
edit_parts (edits.Transpose p r c h w d) =
    numbers_only kinds.Transpose (pos p ∷ pos r ∷ pos c ∷ pos h ∷ pos w ∷ d ∷ [])
edit_parts (edits.Copy p r c h w q r2 c2) =
    numbers_only kinds.Copy (pos p ∷ pos r ∷ pos c ∷ pos h ∷ pos w ∷ pos q ∷ pos r2 ∷ pos c2 ∷ [])
edit_parts (edits.Order position p) = numbers_only kinds.Order (pos position ∷ pos p ∷ [])
edit_parts (edits.Insorder position p) = numbers_only kinds.Insorder (pos position ∷ pos p ∷ [])
edit_parts (edits.Delorder position) = numbers_only kinds.Delorder (pos position ∷ [])
edit_parts (edits.Restart position) = numbers_only kinds.Restart (pos position ∷ [])
edit_parts (edits.Tempo n) = numbers_only kinds.Tempo (pos n ∷ [])
edit_parts (edits.Bpm n) = numbers_only kinds.Bpm (pos n ∷ [])
edit_parts (edits.Title name) = parts_with_name kinds.Title ([]) name
edit_parts (edits.Newpat n) = numbers_only kinds.Newpat (pos n ∷ [])
edit_parts edits.Delpat = numbers_only kinds.Delpat ([])
edit_parts edits.Newins = numbers_only kinds.Newins ([])
edit_parts (edits.Clearins i) = numbers_only kinds.Clearins (pos i ∷ [])
edit_parts (edits.Insname i name) = parts_with_name kinds.Insname (pos i ∷ []) name
edit_parts (edits.Map i n k) = numbers_only kinds.Map (pos i ∷ pos n ∷ pos k ∷ [])
edit_parts (edits.Env i w count sus ls le flags) =
    numbers_only kinds.Env (pos i ∷ pos w ∷ pos count ∷ pos sus ∷ pos ls ∷ pos le ∷ pos flags ∷ [])
edit_parts (edits.Point i w k x y) =
    numbers_only kinds.Point (pos i ∷ pos w ∷ pos k ∷ pos x ∷ pos y ∷ [])
edit_parts (edits.Vib i kind sweep depth rate) =
    numbers_only kinds.Vib (pos i ∷ pos kind ∷ pos sweep ∷ pos depth ∷ pos rate ∷ [])
edit_parts (edits.Fade i n) = numbers_only kinds.Fade (pos i ∷ pos n ∷ [])
edit_parts (edits.Newsmp i) = numbers_only kinds.Newsmp (pos i ∷ [])
edit_parts (edits.Delsmp i) = numbers_only kinds.Delsmp (pos i ∷ [])
edit_parts (edits.Smpname i s name) = parts_with_name kinds.Smpname (pos i ∷ pos s ∷ []) name
edit_parts (edits.Smp i s vol fine rel pan) =
    numbers_only kinds.Smp (pos i ∷ pos s ∷ pos vol ∷ fine ∷ rel ∷ pos pan ∷ [])
edit_parts (edits.Loop i s kind start len) =
    numbers_only kinds.Loop (pos i ∷ pos s ∷ pos kind ∷ pos start ∷ pos len ∷ [])
edit_parts (edits.Cut i s from to) = numbers_only kinds.Cut (pos i ∷ pos s ∷ pos from ∷ pos to ∷ [])
edit_parts (edits.Paste i s at frames) =
    parts_with_frames kinds.Paste (pos i ∷ pos s ∷ pos at ∷ []) frames
edit_parts (edits.Reverse i s from to) =
    numbers_only kinds.Reverse (pos i ∷ pos s ∷ pos from ∷ pos to ∷ [])
edit_parts (edits.Scale i s from to n d) =
    numbers_only kinds.Scale (pos i ∷ pos s ∷ pos from ∷ pos to ∷ n ∷ pos d ∷ [])
edit_parts (edits.Bits i s b) = numbers_only kinds.Bits (pos i ∷ pos s ∷ pos b ∷ [])

-- what comes behind the numbers is so
abbrev pub IsLastPart : LastType → List ℕ → List ℤ → Type 0
IsLastPart Nothing name frames = (name ≡ []) × (frames ≡ [])
IsLastPart Title name frames = IsBytes 20 name × (frames ≡ [])
IsLastPart Name name frames = IsBytes 22 name × (frames ≡ [])
IsLastPart Frames name frames = (name ≡ []) × All (FitsSigned w16) frames

-- 1 to 256 frames, where there are to be frames
abbrev pub AreGiven : LastType → List ℤ → Type 0
AreGiven Frames frames = (1 ≤ length frames) × (length frames ≤ 256)
AreGiven _ frames = Unit {0}

-- parts as the table has them for their kind
abbrev pub FollowsTable : InParts → Type 0
FollowsTable p = AreOfTypes (signature p.kind).numbers p.numbers
    × IsLastPart (signature p.kind).last p.name p.frames

-- the values of an edit are in the ranges of their types
abbrev pub EditHasRanges : Edit → Type 0
EditHasRanges edit = FollowsTable (edit_parts edit)

-- the edit of a kind with these arguments
abbrev pub edit_with : EditKind → List ℤ → List ℕ → List ℤ → Edit
edit_with kinds.Cell ns name frames =
    edits.Cell (natural (at ns 0)) (natural (at ns 1)) (natural (at ns 2)) (natural (at ns 3))
    (natural (at ns 4)) (natural (at ns 5)) (natural (at ns 6)) (natural (at ns 7))
edit_with kinds.Rows ns name frames = edits.Rows (natural (at ns 0)) (natural (at ns 1))
edit_with kinds.Insrow ns name frames = edits.Insrow (natural (at ns 0)) (natural (at ns 1))
edit_with kinds.Delrow ns name frames = edits.Delrow (natural (at ns 0)) (natural (at ns 1))
edit_with kinds.Clear ns name frames =
    edits.Clear (natural (at ns 0)) (natural (at ns 1)) (natural (at ns 2)) (natural (at ns 3))
    (natural (at ns 4))
edit_with kinds.Transpose ns name frames =
    edits.Transpose (natural (at ns 0)) (natural (at ns 1)) (natural (at ns 2)) (natural (at ns 3))
    (natural (at ns 4)) (at ns 5)
edit_with kinds.Copy ns name frames =
    edits.Copy (natural (at ns 0)) (natural (at ns 1)) (natural (at ns 2)) (natural (at ns 3))
    (natural (at ns 4)) (natural (at ns 5)) (natural (at ns 6)) (natural (at ns 7))
edit_with kinds.Order ns name frames = edits.Order (natural (at ns 0)) (natural (at ns 1))
edit_with kinds.Insorder ns name frames = edits.Insorder (natural (at ns 0)) (natural (at ns 1))
edit_with kinds.Delorder ns name frames = edits.Delorder (natural (at ns 0))
edit_with kinds.Restart ns name frames = edits.Restart (natural (at ns 0))
edit_with kinds.Tempo ns name frames = edits.Tempo (natural (at ns 0))
edit_with kinds.Bpm ns name frames = edits.Bpm (natural (at ns 0))
edit_with kinds.Title ns name frames = edits.Title (padded 20 name)
edit_with kinds.Newpat ns name frames = edits.Newpat (natural (at ns 0))
edit_with kinds.Delpat ns name frames = edits.Delpat
edit_with kinds.Newins ns name frames = edits.Newins
edit_with kinds.Clearins ns name frames = edits.Clearins (natural (at ns 0))
edit_with kinds.Insname ns name frames = edits.Insname (natural (at ns 0)) (padded 22 name)
edit_with kinds.Map ns name frames =
    edits.Map (natural (at ns 0)) (natural (at ns 1)) (natural (at ns 2))
edit_with kinds.Env ns name frames =
    edits.Env (natural (at ns 0)) (natural (at ns 1)) (natural (at ns 2)) (natural (at ns 3))
    (natural (at ns 4)) (natural (at ns 5)) (natural (at ns 6))
edit_with kinds.Point ns name frames =
    edits.Point (natural (at ns 0)) (natural (at ns 1)) (natural (at ns 2)) (natural (at ns 3))
    (natural (at ns 4))
edit_with kinds.Vib ns name frames =
    edits.Vib (natural (at ns 0)) (natural (at ns 1)) (natural (at ns 2)) (natural (at ns 3))
    (natural (at ns 4))
edit_with kinds.Fade ns name frames = edits.Fade (natural (at ns 0)) (natural (at ns 1))
edit_with kinds.Newsmp ns name frames = edits.Newsmp (natural (at ns 0))
edit_with kinds.Delsmp ns name frames = edits.Delsmp (natural (at ns 0))
edit_with kinds.Smpname ns name frames =
    edits.Smpname (natural (at ns 0)) (natural (at ns 1)) (padded 22 name)
edit_with kinds.Smp ns name frames =
    edits.Smp (natural (at ns 0)) (natural (at ns 1)) (natural (at ns 2)) (at ns 3) (at ns 4)
    (natural (at ns 5))
edit_with kinds.Loop ns name frames =
    edits.Loop (natural (at ns 0)) (natural (at ns 1)) (natural (at ns 2)) (natural (at ns 3))
    (natural (at ns 4))
edit_with kinds.Cut ns name frames =
    edits.Cut (natural (at ns 0)) (natural (at ns 1)) (natural (at ns 2)) (natural (at ns 3))
edit_with kinds.Paste ns name frames =
    edits.Paste (natural (at ns 0)) (natural (at ns 1)) (natural (at ns 2)) frames
edit_with kinds.Reverse ns name frames =
    edits.Reverse (natural (at ns 0)) (natural (at ns 1)) (natural (at ns 2)) (natural (at ns 3))
edit_with kinds.Scale ns name frames =
    edits.Scale (natural (at ns 0)) (natural (at ns 1)) (natural (at ns 2)) (natural (at ns 3))
    (at ns 4) (natural (at ns 5))
edit_with kinds.Bits ns name frames =
    edits.Bits (natural (at ns 0)) (natural (at ns 1)) (natural (at ns 2))

-- the edit of these parts, whose numbers are brought into their types
abbrev pub edit_of : InParts → Edit
edit_of p = edit_with p.kind (clipped_numbers (signature p.kind).numbers p.numbers) p.name p.frames

-- ---- the two ways are each other's inverse

-- an edit whose values are in the ranges of their types is the edit of its parts
abbrev pub EditsAreWhole : Type 0
EditsAreWhole = (edit : Edit) → EditHasRanges edit → edit_of (edit_parts edit) ≡ edit

-- parts that follow the table are those of their edit
abbrev pub PartsAreKept : Type 0
PartsAreKept = (p : InParts) → FollowsTable p → edit_parts (edit_of p) ≡ p

-- each name is that of one kind
abbrev pub NamesAreOfOne : Type 0
NamesAreOfOne = (kind : EditKind) → kind_named (signature kind).name ≡ Some kind

-- an edit can be given exactly where its frames can
abbrev pub FramesAreGiven : Type 0
FramesAreGiven = (edit : Edit)
    → IsGivable edit ↔ AreGiven (signature (edit_parts edit).kind).last (edit_parts edit).frames
