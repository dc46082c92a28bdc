-- The two laws of a pattern.
use Rattle.std.proofs.Common.{◌≡◌, ℕ, ◌+◌, ◌-◌, ◌*◌, Bool, true, false, not, cond, List, [], ◌++◌, length, replicate, map, refl, ap, subst, arith}
use Rattle.std.specs.Prelude.{nat_lt, nat_eq, ◌==◌, Ok}
use Rattle.std.specs.List.{flat_map}
use Rattle.ft_types.specs.declared.pattern.Cell.{Cell}
use Rattle.ft_types.specs.declared.pattern.Pattern.{Pattern}
use Rattle.ft_format.specs.declared.pattern.PatternHead.{PatternHead}
use Rattle.ft_format.specs.declared.cell.RawCell.{RawCell}
use Rattle.ft_format.specs.declared.layout.TheConstants.{EMPTY_CELL}
use Rattle.ft_format.specs.Fields.{byte, two_bytes, four_bytes, IsNumber, AreBytes, IsField, AllFit}
use Rattle.ft_format.specs.Pattern.{raw_cell_text, RawCellFits, cell_of, RawPattern, pattern_head_text, PatternHeadFits, pattern_text, DataFits, rows_of, RawPatternFits, pattern_of}
use Rattle.ft_xmread.specs.declared.fault.XmFault.TheVariants.{Count, Packing}
use Rattle.ft_xmread.specs.Reader.{FilePlace, FileReading, field_at, number_at, count_at, checked, seen, times, in_piece}
use Rattle.ft_xmread.specs.Pattern.{cell_spelled_at, packing_at, pattern_head_at, cells_spelled_at, pattern_at}
use Rattle.ft_xmread.proofs.Numbers.{is_so, eq_is, not_lt, fits_limit}
use Rattle.ft_xmread.proofs.Chains.{do2, both4, alike2, alike4}
use Rattle.ft_xmread.proofs.Lawful.{Lawful, Alike, both, alike_law, next_alike, field_law, byte_law, u16_law, u32_law, count_law, pair_law, checked_law, seen_law, ok_is, no_text}
use Rattle.ft_xmread.proofs.Spelled.{Reached, Spelled, same, alike_spelled, lawful_spelled, seen_spelled, recast, both_spelled, pair_spelled, within_spelled, times_spelled}
use Rattle.ft_xmread.proofs.CellLaws.{cell_law}

-- ---- the head

abbrev low_size : ℕ → Bool
low_size size = nat_lt size 9

abbrev packed_otherwise : ℕ → Bool
packed_otherwise packing = not (packing == 0)

abbrev head_parts : PatternHead → ℕ × (ℕ × (ℕ × ℕ))
head_parts head = (head.size, (0, (head.rows, head.packed)))

behind_size : (size packing rows packed : ℕ) → packing ≡ 0
    → four_bytes size ++ (byte packing ++ (two_bytes rows ++ two_bytes packed)) ≡ four_bytes size
    ++ (byte 0 ++ (two_bytes rows ++ two_bytes packed))
behind_size size packing rows packed e = ap (λ (x : ℕ). four_bytes size ++ (byte x ++ (two_bytes rows ++ two_bytes packed))) e

abbrev make_head : ℕ → ℕ → ℕ → ℕ → PatternHead
make_head size packing rows packed = record { size = size; rows = rows; packed = packed }

abbrev parts_of_head : ℕ → FileReading PatternHead
parts_of_head number =
    seen (λ x. make_head x.0 x.1.0 x.1.1.0 x.1.1.1)
    (both4 (checked low_size Count (number_at 4)) (packing_at number) (count_at 256) (number_at 2))

head_alike : (number : ℕ) → Alike (pattern_head_at number) (parts_of_head number)
unfolding pattern_head_at
head_alike number =
    alike4 (checked low_size Count (number_at 4)) (packing_at number) (count_at 256) (number_at 2) make_head

head_law : (number : ℕ) → Lawful (pattern_head_at number) pattern_head_text PatternHeadFits
head_law number =
    alike_law (pattern_head_at number) (parts_of_head number) pattern_head_text PatternHeadFits (head_alike number)
    (seen_law _ head_parts _ _ _ pattern_head_text PatternHeadFits
    (pair_law _ _ _ _ _ _ (checked_law low_size Count (number_at 4) four_bytes (IsNumber 4) u32_law)
    (pair_law _ _ _ _ _ _
    (checked_law packed_otherwise (λ _ packing. Packing number packing) (number_at 1) byte (IsNumber 1) byte_law)
    (pair_law _ _ _ _ _ _ (count_law 256) u16_law)))
    (λ x f. (
      record { size = f.0.0; whole = fits_limit x.0 9 f.0.1; rows = fits_limit 256 x.1.1.0 f.1.1.0.1; packed = f.1.1.1 },
      behind_size x.0 x.1.0 x.1.1.0 x.1.1.1 (eq_is x.1.0 0 (is_so (nat_eq x.1.0 0) f.1.0.1)),
    ))
    (λ y g. (((g.size, not_lt y.size 9 g.whole), ((omega arith, refl), ((omega (arith, g.rows), not_lt 256 y.rows g.rows), g.packed))), refl, refl)))

-- ---- the cells

abbrev Data : Type 0
Data = List RawCell × List ℕ

abbrev data_text : Data → List ℕ
data_text x = flat_map raw_cell_text x.0 ++ x.1

abbrev Cells : Type 0
Cells = List Cell × List ℕ

abbrev all_empty : ℕ → Cells
all_empty count = (replicate count EMPTY_CELL, [])

-- what the data of a pattern mean
abbrev cells_of : Bool → ℕ → Data → Cells
cells_of none count x = (cond none (replicate count EMPTY_CELL) (map cell_of x.0), x.1)

abbrev cells_if : Bool → ℕ → ℕ → ℕ → FileReading Cells
cells_if none number count packed p =
    cond none (Ok (all_empty count, p)) (in_piece packed (times (λ _. cell_spelled_at number) 0 count) p)

none_takes : (number count packed : ℕ) (p : FilePlace) (x : Cells × FilePlace) → AreBytes p.left
    → cells_if true number count packed p ≡ Ok x
    → Reached data_text (DataFits true count packed) (cells_of true count) p x
none_takes number count packed p x bytes e =
    let made : Cells × FilePlace = (all_empty count, p) in
    subst (λ (y : Cells × FilePlace). Reached data_text (DataFits true count packed) (cells_of true count) p y)
    (ok_is made x e)
    (record { raw = ([], []); fits = refl; parts = refl; value = refl; bytes = bytes })

none_again : (number count packed at : ℕ) (raw : Data) (rest : List ℕ) → raw ≡ ([], [])
    → cells_if true number count packed (record { at = at; left = data_text raw ++ rest })
    ≡ Ok (cells_of true count raw, record { at = at + length (data_text raw); left = rest })
none_again number count packed at raw rest e = rw (e, no_text at) refl

some_cells_law : (number count packed : ℕ)
    → Spelled (in_piece packed (times (λ _. cell_spelled_at number) 0 count)) data_text (DataFits false count packed)
    (λ x. (map cell_of x.0, x.1))
some_cells_law number count packed =
    within_spelled packed (times (λ _. cell_spelled_at number) 0 count) (flat_map raw_cell_text)
    (AllFit count RawCellFits) (map cell_of)
    (times_spelled (λ _. cell_spelled_at number) raw_cell_text RawCellFits cell_of (λ _. cell_law number) 0 count)

cells_if_law : (none : Bool) (number count packed : ℕ)
    → Spelled (cells_if none number count packed) data_text (DataFits none count packed) (cells_of none count)
cells_if_law true number count packed = record {
  again = λ at raw rest fits. none_again number count packed at raw rest fits;
  takes = λ p x bytes e. none_takes number count packed p x bytes e;
}
cells_if_law false number count packed = record {
  again = λ at raw rest fits. (some_cells_law number count packed).again at raw rest fits;
  takes =
      λ p x bytes e.
      let t = (some_cells_law number count packed).takes p x bytes e in
      record { raw = t.raw; fits = t.fits; parts = t.parts; value = t.value; bytes = t.bytes };
}

cells_law : (number count packed : ℕ)
    → Spelled (cells_spelled_at number count packed) data_text (DataFits (nat_eq packed 0) count packed)
    (cells_of (nat_eq packed 0) count)
unfolding cells_spelled_at
cells_law number count packed = cells_if_law (nat_eq packed 0) number count packed

-- ---- a pattern

abbrev Parts : Type 0
Parts = PatternHead × (List ℕ × Data)

abbrev parts_text : Parts → List ℕ
parts_text x = pattern_head_text x.0 ++ (x.1.0 ++ data_text x.1.1)

abbrev PartsFit : ℕ → Parts → Type 0
PartsFit channels x =
    PatternHeadFits x.0
    × (IsField (x.0.size - 9) x.1.0 × DataFits (nat_eq x.0.packed 0) (rows_of x.0 * channels) x.0.packed x.1.1)

abbrev parts_mean : ℕ → Parts → PatternHead × (List ℕ × Cells)
parts_mean channels x = (x.0, (x.1.0, cells_of (nat_eq x.0.packed 0) (rows_of x.0 * channels) x.1.1))

abbrev behind : ℕ → ℕ → PatternHead → FileReading (List ℕ × Cells)
behind channels number head =
    both (field_at (head.size - 9)) (λ _. cells_spelled_at number (rows_of head * channels) head.packed)

parts_law : (channels number : ℕ)
    → Spelled (both (pattern_head_at number) (behind channels number)) parts_text (PartsFit channels)
    (parts_mean channels)
parts_law channels number = both_spelled (pattern_head_at number) (behind channels number)
    pattern_head_text (λ head x. x.0 ++ data_text x.1)
    PatternHeadFits
    (λ head x.
    IsField (head.size - 9) x.0 × DataFits (nat_eq head.packed 0) (rows_of head * channels) head.packed x.1)
    same (λ head x. (x.0, cells_of (nat_eq head.packed 0) (rows_of head * channels) x.1))
    (lawful_spelled (pattern_head_at number) pattern_head_text PatternHeadFits (head_law number))
    (λ head _. pair_spelled (field_at (head.size - 9)) (cells_spelled_at number (rows_of head * channels) head.packed)
    (λ l. l) data_text (IsField (head.size - 9)) (DataFits (nat_eq head.packed 0) (rows_of head * channels) head.packed)
    same (cells_of (nat_eq head.packed 0) (rows_of head * channels))
    (lawful_spelled (field_at (head.size - 9)) (λ l. l) (IsField (head.size - 9)) (field_law (head.size - 9)))
    (cells_law number (rows_of head * channels) head.packed))

abbrev pattern_from : PatternHead × (List ℕ × Cells) → Pattern
pattern_from x = record { rows = rows_of x.0; cells = x.1.1.0 }

abbrev raw_of : Parts → RawPattern
raw_of x = record { head = x.0; skipped = x.1.0; cells = x.1.1.0; surplus = x.1.1.1 }

abbrev parts_of : RawPattern → Parts
parts_of raw = (raw.head, (raw.skipped, (raw.cells, raw.surplus)))

abbrev made : PatternHead → List ℕ → Cells → Pattern
made head skipped cells = record { rows = rows_of head; cells = cells.0 }

pattern_alike : (channels number : ℕ)
    → Alike (pattern_at channels number) (seen pattern_from (both (pattern_head_at number) (behind channels number)))
unfolding pattern_at
pattern_alike channels number = next_alike pattern_from (pattern_head_at number) (behind channels number)
    (λ head. do2 (field_at (head.size - 9)) (cells_spelled_at number (rows_of head * channels) head.packed) (made head))
    (λ head. alike2 (field_at (head.size - 9)) (cells_spelled_at number (rows_of head * channels) head.packed) (made head))

pub pattern_law : (channels number : ℕ)
    → Spelled (pattern_at channels number) pattern_text (RawPatternFits channels) (pattern_of channels)
unfolding pattern_text pattern_of
pattern_law channels number =
    alike_spelled (pattern_at channels number) _ _ (RawPatternFits channels) _ (pattern_alike channels number) (recast
    raw_of parts_of _ parts_text (PartsFit channels) (λ x. pattern_from (parts_mean channels x)) _
    (RawPatternFits channels) _
    (seen_spelled pattern_from (both (pattern_head_at number) (behind channels number)) parts_text (PartsFit channels)
    (parts_mean channels) (parts_law channels number))
    (λ x f. (record { head = f.0; skipped = f.1.0; cells = f.1.1 }, refl, refl))
    (λ y g. ((g.head, (g.skipped, g.cells)), refl, refl)))
