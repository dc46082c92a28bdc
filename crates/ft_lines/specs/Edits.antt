-- How an edit is read: its name says which arguments follow.
use Rattle.std.specs.Prelude.{ℕ, ℤ, pos, List, [], ◌∷◌, ◌++◌, map, option_map, bytes_eq, Option, Some, None, if◌then◌else◌}
use Rattle.ft_types.specs.declared.edit.Edit.{Edit}
use Rattle.ft_types.specs.declared.edit_kind.EditKind.{EditKind}
use Rattle.ft_types.specs.declared.edit_kind.NumberType.{NumberType}
use Rattle.ft_types.specs.declared.edit_kind.NumberType.TheVariants.{U8, U16, U32, I8, I16}
use Rattle.ft_types.specs.declared.edit_kind.LastType.{LastType}
use Rattle.ft_types.specs.declared.edit_kind.LastType.TheVariants.{Nothing, Title, Name, Frames}
use Rattle.ft_types.specs.Signatures.{signature, every_kind}
use Rattle.ft_types.specs.EditParts.{edit_of}
use Rattle.ft_lines.specs.Sequence.{give, ◌>>=◌}
use Rattle.ft_lines.specs.Reading.{Reading, word}
use Rattle.ft_lines.specs.Values.{number_of, signed_of, name_of, frames_of}

-- ---- arguments

unfoldable pub u32 : Reading ℕ
u32 = word (number_of 4294967295)

unfoldable pub name_20 : Reading (List ℕ)
name_20 = word (name_of 20)

unfoldable pub name_22 : Reading (List ℕ)
name_22 = word (name_of 22)

unfoldable pub frames_argument : Reading (List ℤ)
frames_argument = word frames_of

-- a number from 0 to `most`
abbrev pub natural_word : ℕ → List ℕ → Option ℤ
natural_word most w = option_map pos (number_of most w)

-- a number of each type
abbrev pub number_word : NumberType → List ℕ → Option ℤ
number_word U8 w = natural_word 255 w
number_word U16 w = natural_word 65535 w
number_word U32 w = natural_word 4294967295 w
number_word I8 w = signed_of 127 w
number_word I16 w = signed_of 32767 w

-- a number behind others
abbrev pub one_number : List ℤ → NumberType → Reading (List ℤ)
one_number front t = do
  n ← word (number_word t)
  give (front ++ n ∷ [])

-- numbers of these types, in order
abbrev pub numbers_reading : List NumberType → Reading (List ℤ)
numbers_reading [] = give []
numbers_reading (t ∷ ts) = do
  n ← word (number_word t)
  ns ← numbers_reading ts
  give (n ∷ ns)

-- a name and frames, of which only one is read, or none
abbrev pub closing_reading : LastType → Reading (List ℕ × List ℤ)
closing_reading Nothing = give ([], [])
closing_reading Title = do
  name ← name_20
  give (name, [])
closing_reading Name = do
  name ← name_22
  give (name, [])
closing_reading Frames = do
  frames ← frames_argument
  give ([], frames)

-- ---- edits

-- an edit of a kind and with these numbers, behind them
abbrev pub closed_reading : EditKind → LastType → List ℤ → Reading Edit
closed_reading kind last numbers = do
  closing ← closing_reading last
  give (edit_of (record {
    kind = kind;
    numbers = numbers;
    name = closing.0;
    frames = closing.1;
  }))

-- the arguments of an edit of a kind
unfoldable pub kind_reading : EditKind → Reading Edit
kind_reading kind = do
  numbers ← numbers_reading (signature kind).numbers
  closed_reading kind (signature kind).last numbers

-- a name with the reading of what follows it
abbrev pub named_reading : EditKind → List ℕ × Reading Edit
named_reading kind = ((signature kind).name, kind_reading kind)

unfoldable pub readings : List (List ℕ × Reading Edit)
readings = map named_reading every_kind

-- what is in a table behind a name
abbrev pub named : {A : Type 0} → List (List ℕ × A) → List ℕ → Option A
named [] name = None
named (row ∷ rows) name = if bytes_eq name row.0 then Some row.1 else named rows name

-- an edit: a name, then its arguments
unfoldable pub edit_reading : Reading Edit
edit_reading = do
  arguments ← word (named readings)
  arguments
