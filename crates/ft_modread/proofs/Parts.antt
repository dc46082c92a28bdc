-- Parts of a file: their lengths and their bytes.
use Rattle.std.proofs.Common.{◌≡◌, ℕ, ◌+◌, ◌<◌, ◌≤◌, List, length, get_or, take, drop, replicate, All, ◌∙◌, arith, ◌-◌, inl, inr}
use Rattle.std.proofs.lemmas.List.{length-take-le, length-take, length-drop, length-append, length-replicate, get_or-take, get_or-drop, get_or_past}
use Rattle.std.proofs.lemmas.Bool.{cases_lt}
use Rattle.std.proofs.lemmas.List.Elements.{All-take, All-drop, All-append, All-replicate, All-from_get_or}
use Rattle.ft_types.specs.Valid.{IsBytes}
use Rattle.ft_format.specs.Fields.{AreBytes}
use Rattle.ft_modread.specs.Layout.{file_part, filled_up}

abbrev pub IsByte : ℕ → Type 0
IsByte byte = byte < 256

pub length_part : (at n : ℕ) (file : List ℕ) → at + n ≤ length file → length (file_part at n file) ≡ n
length_part at n file le = length-take-le n (drop at file) (omega (arith, length-drop at file))

pub part_few : (at n : ℕ) (file : List ℕ) → length (file_part at n file) ≤ n
part_few at n file = omega (arith, length-take n (drop at file))

pub at_part : (at n : ℕ) (file : List ℕ) (k : ℕ) → k < n → get_or (file_part at n file) k 0 ≡ get_or file (at + k) 0
at_part at n file k lt = get_or-take n (drop at file) k 0 lt ∙ get_or-drop at file k 0

pub all_of_file : (file : List ℕ) → AreBytes file → All IsByte file
all_of_file file bytes = All-from_get_or IsByte file 0 (λ i lt. bytes i)

pub all_of_part : (at n : ℕ) (file : List ℕ) → AreBytes file → All IsByte (file_part at n file)
all_of_part at n file bytes = All-take IsByte n (drop at file) (All-drop IsByte at file (all_of_file file bytes))

pub byte_of : (bytes : List ℕ) → All IsByte bytes → (k : ℕ) → get_or bytes k 0 < 256
byte_of bytes all k = elim (cases_lt k (length bytes)) [
  | inl lt ↦ all k 0 lt
  | inr le ↦ rw (get_or_past bytes k 0 le) (omega arith)
]

pub byte_of_part : (at n : ℕ) (file : List ℕ) → AreBytes file → (k : ℕ) → get_or (file_part at n file) k 0 < 256
byte_of_part at n file bytes k = byte_of (file_part at n file) (all_of_part at n file bytes) k

pub bytes_of_part : (at n : ℕ) (file : List ℕ) → AreBytes file → at + n ≤ length file → IsBytes n (file_part at n file)
bytes_of_part at n file bytes le = record { len = length_part at n file le; each = all_of_part at n file bytes }

pub front_of : (n : ℕ) (bytes : List ℕ) → All IsByte bytes → n ≤ length bytes → IsBytes n (take n bytes)
front_of n bytes all le = record { len = length-take-le n bytes le; each = All-take IsByte n bytes all }

pub all_padded : (n : ℕ) (bytes : List ℕ) → All IsByte bytes → All IsByte (filled_up n bytes)
all_padded n bytes all =
    All-append IsByte bytes (replicate (n - length bytes) 0) all (All-replicate IsByte (n - length bytes) 0 (omega arith))

pub length_padded : (n : ℕ) (bytes : List ℕ) → length bytes ≤ n → length (filled_up n bytes) ≡ n
length_padded n bytes le =
    omega (arith, le, length-append bytes (replicate (n - length bytes) 0), length-replicate {A = ℕ} (n - length bytes) 0)
