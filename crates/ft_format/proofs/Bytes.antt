-- Bytes, by place and one by one.
use Rattle.std.proofs.Common.{ℕ, ◌<◌, List, length, All, arith, inl, inr}
use Rattle.std.proofs.lemmas.Bool.{cases_lt}
use Rattle.std.proofs.lemmas.List.{get_or_past}
use Rattle.std.proofs.lemmas.List.Elements.{All-from_get_or}
use Rattle.ft_types.specs.Valid.{IsBytes}
use Rattle.ft_format.specs.Fields.{AreBytes, IsField}

pub are_bytes : (n : ℕ) (l : List ℕ) → IsField n l → IsBytes n l
are_bytes n l f = record { len = f.0; each = All-from_get_or (λ byte. byte < 256) l 0 (λ i lt. f.1 i) }

pub bytes_of : (l : List ℕ) → All (λ byte. byte < 256) l → AreBytes l
bytes_of l h i = elim (cases_lt i (length l)) [
  | inl lt ↦ h i 0 lt
  | inr le ↦ rw (get_or_past l i 0 le) (omega arith)
]

pub all_of : (l : List ℕ) → AreBytes l → All (λ byte. byte < 256) l
all_of l f = All-from_get_or (λ byte. byte < 256) l 0 (λ i lt. f i)

pub field_of : (n : ℕ) (l : List ℕ) → IsBytes n l → IsField n l
field_of n l b = (b.len, bytes_of l b.each)
