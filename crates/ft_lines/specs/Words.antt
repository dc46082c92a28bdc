-- The words of each edit: first its name, then its arguments in their order.
use Rattle.std.specs.Prelude.{ℕ, List, [], ◌∷◌, ◌++◌, ℤ, map, decimal}
use Rattle.std.specs.Int.{w16, cast_unsigned, to_be_bytes}
use Rattle.std.specs.List.{flat_map}
use Rattle.std.specs.Fmt.{signed_decimal}
use Rattle.hex.specs.Hex.{encode_lower}
use Rattle.ft_types.specs.declared.edit.Edit.{Edit}
use Rattle.ft_types.specs.declared.edit_kind.LastType.{LastType}
use Rattle.ft_types.specs.declared.edit_kind.LastType.TheVariants.{Nothing, Title, Name, Frames}
use Rattle.ft_types.specs.Signatures.{signature}
use Rattle.ft_types.specs.EditParts.{InParts, edit_parts}

-- each number in decimal digits
abbrev pub numbers : List ℕ → List (List ℕ)
numbers ns = map decimal ns

-- the two bytes of each frame in two's complement, the high one first
abbrev pub frame_bytes : List ℤ → List ℕ
frame_bytes frames = flat_map (λ frame. to_be_bytes w16 (cast_unsigned w16 frame)) frames

-- a name in two lower-case hexadecimal digits a byte, frames in four each
abbrev pub closing_words : LastType → List ℕ → List ℤ → List (List ℕ)
closing_words Nothing name frames = []
closing_words Title name frames = encode_lower name ∷ []
closing_words Name name frames = encode_lower name ∷ []
closing_words Frames name frames = encode_lower (frame_bytes frames) ∷ []

-- the name of its kind, its numbers in decimal, and what comes behind them
abbrev pub words_in_parts : InParts → List (List ℕ)
words_in_parts p = (signature p.kind).name
    ∷ map signed_decimal p.numbers ++ closing_words (signature p.kind).last p.name p.frames

abbrev pub words_of : Edit → List (List ℕ)
words_of edit = words_in_parts (edit_parts edit)
