-- The fields of a file in file order, and the first fault. Each field is there whole or is short; a
-- check is made of the bytes of a field that is there.
use Rattle.std.specs.Prelude.{ℕ, ◌+◌, ◌*◌, zero, suc, List, [], ◌∷◌, ◌++◌, Option, Some, None, length, nat_lt, ◌==◌, slice_index, if◌then◌else◌}
use Rattle.std.specs.List.{position}
use Rattle.ft_modread.specs.declared.fault.ModFault.{ModFault}
use Rattle.ft_modread.specs.declared.fault.ModFault.TheVariants.{NotMod, Short, Count}
use Rattle.ft_modread.specs.declared.layout.TheConstants.{TITLE, HEADERS_AT, SAMPLES, HEADER, LENGTH_AT, MOST_LENGTH, RESTART_AT, ORDERS_AT, ORDERS, MOST_ORDER, MARK_AT, MOD_MARK, PATTERNS_AT, PATTERN}
use Rattle.ft_modread.specs.Layout.{file_part, each}
use Rattle.ft_modread.specs.Songs.{pattern_count_in}

-- ---- checks

abbrev pub Check : Type 0
Check = List ℕ → Option ModFault

abbrev pub anything : Check
anything bytes = None

abbrev pub length_check : Check
length_check bytes =
    if nat_lt MOST_LENGTH (slice_index bytes 0) then Some (Count LENGTH_AT (slice_index bytes 0)) else None

abbrev pub order_fault : List ℕ → Option ℕ → Option ModFault
order_fault bytes None = None
order_fault bytes (Some k) = Some (Count (ORDERS_AT + k) (slice_index bytes k))

-- the first order over 127
abbrev pub orders_check : Check
orders_check bytes = order_fault bytes (position (nat_lt MOST_ORDER) bytes)

-- the first byte of n from k on that isn't the mark's
unfoldable pub mark_from : ℕ → ℕ → List ℕ → Option ModFault
mark_from k zero bytes = None
mark_from k (suc n) bytes =
    if slice_index bytes k == slice_index MOD_MARK k then mark_from (suc k) n bytes else Some (NotMod (MARK_AT + k))

abbrev pub mark_check : Check
mark_check bytes = mark_from 0 4 bytes

-- ---- the table

pub record ModField : Type 0 where
  pub at : ℕ
  pub need : ℕ
  pub check : Check

abbrev pub unchecked : ℕ → ℕ → ModField
unchecked at need = record { at = at; need = need; check = anything }

abbrev pub checked_by : ℕ → ℕ → Check → ModField
checked_by at need check = record { at = at; need = need; check = check }

-- title, sample headers, song length, restart, orders, mark
unfoldable pub head_fields : List ModField
head_fields = unchecked 0 TITLE ∷ (each SAMPLES (λ i. unchecked (HEADERS_AT + HEADER * i) HEADER)
    ++ (checked_by LENGTH_AT 1 length_check ∷ (unchecked RESTART_AT 1
    ∷ (checked_by ORDERS_AT ORDERS orders_check ∷ (checked_by MARK_AT 4 mark_check ∷ [])))))

unfoldable pub pattern_fields : ℕ → List ModField
pattern_fields count = each count (λ p. unchecked (PATTERNS_AT + PATTERN * p) PATTERN)

-- ---- the first fault

abbrev pub field_fault : List ℕ → ModField → Option ModFault
field_fault file field = if nat_lt (length file) (field.at + field.need)
    then Some (Short field.at field.need)
    else field.check (file_part field.at field.need file)

abbrev pub or_later : Option ModFault → Option ModFault → Option ModFault
or_later (Some fault) later = Some fault
or_later None later = later

unfoldable pub fault_among : List ℕ → List ModField → Option ModFault
fault_among file [] = None
fault_among file (field ∷ fields) = or_later (field_fault file field) (fault_among file fields)

-- as many patterns as the orders ask for
unfoldable pub first_mod_fault : List ℕ → Option ModFault
first_mod_fault file = fault_among file (head_fields ++ pattern_fields (pattern_count_in file))
