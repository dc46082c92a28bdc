-- What words say: numbers, names and frames.
use Rattle.std.specs.Prelude.{ℕ, ◌-◌, ◌+◌, ◌*◌, ◌&&◌, Bool, List, [], ◌∷◌, ◌++◌, ℤ, pos, negsuc, length, replicate, nat_le, bytes_eq, decimal, Option, Some, None, Result, Ok, Err, if◌then◌else◌}
use Rattle.std.specs.Int.{w16, cast_signed}
use Rattle.std.specs.Fmt.{signed_decimal}
use Rattle.std.specs.Str.Parse.{digits_value, signed_digits_value}
use Rattle.hex.specs.Hex.{decode_of, encode_lower}

-- a number of at most n, in decimal digits as it is written
abbrev pub number_of : ℕ → List ℕ → Option ℕ
number_of most w =
    let n = digits_value 10 w in
    if bytes_eq w (decimal n) && nat_le n most then Some n else None

-- a number from -most - 1 to most
abbrev pub is_within : ℕ → ℤ → Bool
is_within most (pos n) = nat_le n most
is_within most (negsuc n) = nat_le n most

-- such a number, in decimal digits as it is written, with `-` before one below 0
abbrev pub signed_of : ℕ → List ℕ → Option ℤ
signed_of most w =
    let n = signed_digits_value 10 w in
    if bytes_eq w (signed_decimal n) && is_within most n then Some n else None

-- the bytes, where the word is what they are written as
abbrev pub lower_only : List ℕ → {E : Type 0} → Result (List ℕ) E → Option (List ℕ)
lower_only w (Ok bytes) = if bytes_eq w (encode_lower bytes) then Some bytes else None
lower_only w (Err e) = None

-- bytes in two lower-case hexadecimal digits each
abbrev pub bytes_of : List ℕ → Option (List ℕ)
bytes_of w = lower_only w (decode_of w)

-- a name of 1 to `size` bytes; those that aren't given are 0
abbrev pub filled : ℕ → Option (List ℕ) → Option (List ℕ)
filled size None = None
filled size (Some bytes) =
    if nat_le 1 (length bytes) && nat_le (length bytes) size
    then Some (bytes ++ replicate (size - length bytes) 0) else None

abbrev pub name_of : ℕ → List ℕ → Option (List ℕ)
name_of size w = filled size (bytes_of w)

-- a frame before others, where there are any
abbrev pub frame_before : ℤ → Option (List ℤ) → Option (List ℤ)
frame_before frame None = None
frame_before frame (Some frames) = Some (frame ∷ frames)

-- numbers of two bytes, the high one first; none where a byte is left over
abbrev pub doubles : List ℕ → Option (List ℤ)
doubles [] = Some []
doubles (byte ∷ []) = None
doubles (high ∷ low ∷ rest) = frame_before (cast_signed w16 (high * 256 + low)) (doubles rest)

-- 1 to 256 frames
abbrev pub pasted_frames : Option (List ℤ) → Option (List ℤ)
pasted_frames None = None
pasted_frames (Some frames) =
    if nat_le 1 (length frames) && nat_le (length frames) 256 then Some frames else None

abbrev pub doubles_if : Option (List ℕ) → Option (List ℤ)
doubles_if None = None
doubles_if (Some bytes) = doubles bytes

abbrev pub frames_of : List ℕ → Option (List ℤ)
frames_of w = pasted_frames (doubles_if (bytes_of w))
