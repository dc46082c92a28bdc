-- A pattern as it is written.
use Rattle.std.proofs.Common.{suc, ◌≡◌, ℕ, ◌+◌, ◌*◌, ◌<◌, ◌≤◌, Bool, true, false, cond, List, [], ◌∷◌, ◌++◌, length, map, replicate, All, refl, sym, ap, ◌∙◌, arith}
use Rattle.std.specs.Prelude.{nat_eq, nat_lt}
use Rattle.std.specs.List.{list_all, flat_map}
use Rattle.std.proofs.lemmas.List.{append-nil, length-append, length-map}
use Rattle.std.proofs.lemmas.List.Elements.{All-map}
use Rattle.std.proofs.Math.Nat.{mul-le-mul_left}
use Rattle.std.proofs.lemmas.Bool.Decides.{nat_tests}
use Rattle.ft_types.specs.declared.pattern.Cell.{Cell}
use Rattle.ft_types.specs.declared.pattern.Pattern.{Pattern}
use Rattle.ft_types.specs.Valid.{IsValidPattern, IsValidCell}
use Rattle.ft_format.specs.declared.cell.RawCell.{RawCell}
use Rattle.ft_format.specs.declared.layout.TheConstants.{EMPTY_CELL}
use Rattle.ft_format.specs.Fields.{byte_if_text}
use Rattle.ft_format.specs.Pattern.{has, note_text, raw_cell_text, RawCellFits, cell_of, pattern_text, RawPatternFits, DataFits, rows_of, pattern_of}
use Rattle.ft_format.specs.Canon.{is_empty_cell, raw_cell_of, raw_cells_of, raw_pattern_of}
use Rattle.ft_format.proofs.Numbers.{and_split, eq_is}
use Rattle.ft_format.proofs.Lists.{map_back}
use Rattle.ft_format.proofs.Cells.{cell_fits, cell_means}

-- ---- the data of cells

abbrev make : ℕ → ℕ → ℕ → ℕ → ℕ → Cell
make note instrument volume effect parameter =
    record { note = note; instrument = instrument; volume = volume; effect = effect; parameter = parameter }

zero_cell : (cell : Cell) → cell.note ≡ 0 → cell.instrument ≡ 0 → cell.volume ≡ 0 → cell.effect ≡ 0 → cell.parameter ≡ 0
    → make cell.note cell.instrument cell.volume cell.effect cell.parameter ≡ make 0 0 0 0 0
zero_cell cell note instrument volume effect parameter = rw (note, instrument, volume, effect, parameter) refl

cell_is_empty : (cell : Cell) → is_empty_cell cell ≡ true → cell ≡ EMPTY_CELL
cell_is_empty cell e =
    let a = and_split (nat_eq cell.note 0) _ e in
    let b = and_split (nat_eq cell.instrument 0) _ a.1 in
    let c = and_split (nat_eq cell.volume 0) _ b.1 in
    let d = and_split (nat_eq cell.effect 0) _ c.1 in
    let f = and_split (nat_eq cell.parameter 0) true d.1 in
    zero_cell cell (eq_is cell.note 0 a.0) (eq_is cell.instrument 0 b.0) (eq_is cell.volume 0 c.0)
    (eq_is cell.effect 0 d.0) (eq_is cell.parameter 0 f.0)

cells_are_empty : (cells : List Cell) → list_all is_empty_cell cells ≡ true
    → cells ≡ replicate (length cells) EMPTY_CELL
cells_are_empty [] e = refl
cells_are_empty (cell ∷ cells) e =
    let s = and_split (is_empty_cell cell) (list_all is_empty_cell cells) e in
    ap (λ (c : Cell). c ∷ cells) (cell_is_empty cell s.0)
    ∙ ap (λ (l : List Cell). EMPTY_CELL ∷ l) (cells_are_empty cells s.1)

byte_if_length : (b : Bool) (x : ℕ) → length (byte_if_text b x) ≤ 1
byte_if_length true x = omega arith
byte_if_length false x = omega arith

note_length : (low : Bool) (first note : ℕ) → length (note_text low first note) ≤ 1
note_length true first note = omega arith
note_length false first note = byte_if_length _ note

six_parts : (a b c d e : List ℕ) → length a ≤ 1 → length b ≤ 1 → length c ≤ 1 → length d ≤ 1 → length e ≤ 1
    → suc (length (a ++ (b ++ (c ++ (d ++ e))))) ≤ 6
six_parts a b c d e la lb lc ld le =
    omega (
      arith,
      la,
      lb,
      lc,
      ld,
      le,
      length-append a (b ++ (c ++ (d ++ e))),
      length-append b (c ++ (d ++ e)),
      length-append c
          (d ++ e),
      length-append d e,
    )

at_least_one : (raw : RawCell) → 1 ≤ length (raw_cell_text raw)
unfolding raw_cell_text
at_least_one raw = omega arith

at_most_six : (raw : RawCell) → length (raw_cell_text raw) ≤ 6
unfolding raw_cell_text
at_most_six raw =
    let low = nat_lt raw.first 128 in
    six_parts (note_text low raw.first raw.cell.note) (byte_if_text (has raw.first 2) raw.cell.instrument)
    (byte_if_text (has raw.first 4) raw.cell.volume) (byte_if_text (has raw.first 8) raw.cell.effect)
    (byte_if_text (has raw.first 16) raw.cell.parameter) (note_length low raw.first raw.cell.note)
    (byte_if_length (has raw.first 2) raw.cell.instrument) (byte_if_length (has raw.first 4) raw.cell.volume)
    (byte_if_length (has raw.first 8) raw.cell.effect) (byte_if_length (has raw.first 16) raw.cell.parameter)

data_le : (raws : List RawCell) → length (flat_map raw_cell_text raws) ≤ 6 * length raws
data_le [] = omega arith
data_le (raw ∷ raws) =
    omega (arith, length-append (raw_cell_text raw) (flat_map raw_cell_text raws), at_most_six raw, data_le raws)

some_data : (raws : List RawCell) → 1 ≤ length raws → 1 ≤ length (flat_map raw_cell_text raws)
some_data [] le = absurd (omega arith)
some_data (raw ∷ raws) le =
    omega (arith, length-append (raw_cell_text raw) (flat_map raw_cell_text raws), at_least_one raw)

-- the raw cells of a pattern, where the test says whether all are empty
abbrev raws_if : Bool → List Cell → List RawCell
raws_if empty cells = cond empty [] (map raw_cell_of cells)

few_raws : (empty : Bool) (cells : List Cell) → length (raws_if empty cells) ≤ length cells
few_raws true cells = omega arith
few_raws false cells = omega (arith, length-map cells raw_cell_of)

data_small : (cells : List Cell) → length cells ≤ 8192 → length (flat_map raw_cell_text (raw_cells_of cells)) < 65536
data_small cells le = omega (arith, le, few_raws (list_all is_empty_cell cells) cells, data_le (raw_cells_of cells))

-- ---- the cells of a pattern

some_product : (a b : ℕ) → 1 ≤ a → 1 ≤ b → 1 ≤ a * b
some_product a b some more = omega (arith, some, mul-le-mul_left a more)

not_zero : (n : ℕ) → 1 ≤ n → nat_eq n 0 ≡ false
not_zero n le = grind (arith, nat_tests)

same_rows : (n : ℕ) → 1 ≤ n → cond (nat_eq n 0) 64 n ≡ n
same_rows n le = rw (not_zero n le) refl

-- what the data of written cells are
record Written (count : ℕ) (cells : List Cell) (raws : List RawCell) : Type 0 where
  fits :
      DataFits (nat_eq (length (flat_map raw_cell_text raws)) 0) count (length (flat_map raw_cell_text raws)) (raws, [])
  means : cond (nat_eq (length (flat_map raw_cell_text raws)) 0) (replicate count EMPTY_CELL) (map cell_of raws) ≡ cells

full_fits : (count packed : ℕ) (raws : List RawCell) → nat_eq packed 0 ≡ false → length raws ≡ count
    → All RawCellFits raws → length (flat_map raw_cell_text raws) ≡ packed
    → DataFits (nat_eq packed 0) count packed (raws, [])
full_fits count packed raws e len all whole = rw e (record {
  fits = record { count = len; each = all };
  whole = ap length (append-nil (flat_map raw_cell_text raws)) ∙ whole;
  bytes = λ i. omega arith;
})

full_means : (count packed : ℕ) (raws : List RawCell) (cells : List Cell) → nat_eq packed 0 ≡ false
    → map cell_of raws ≡ cells → cond (nat_eq packed 0) (replicate count EMPTY_CELL) (map cell_of raws) ≡ cells
full_means count packed raws cells e f = rw e f

written : (empty : Bool) (count : ℕ) (cells : List Cell) → list_all is_empty_cell cells ≡ empty → length cells ≡ count
    → 1 ≤ count → All IsValidCell cells → Written count cells (raws_if empty cells)
written true count cells e len some all = record {
  fits = refl;
  means = ap (λ (n : ℕ). replicate n EMPTY_CELL) (sym len) ∙ sym (cells_are_empty cells e);
}
written false count cells e len some all =
    let raws = map raw_cell_of cells in
    let full =
    not_zero (length (flat_map raw_cell_text raws))
    (some_data raws (omega (arith, length-map cells raw_cell_of, len, some))) in
    record {
      fits = full_fits count (length (flat_map raw_cell_text raws)) raws full (length-map cells raw_cell_of ∙ len)
          (All-map RawCellFits raw_cell_of cells (λ k d lt. cell_fits _ (all k d lt))) refl;
      means =
          full_means count (length (flat_map raw_cell_text raws)) raws cells full
          (map_back cell_of raw_cell_of cells (λ k d lt. cell_means _ (all k d lt)));
    }

abbrev make_pattern : ℕ → List Cell → Pattern
make_pattern rows cells = record { rows = rows; cells = cells }

same_pattern : (rows more : ℕ) (cells again : List Cell) → rows ≡ more → cells ≡ again
    → make_pattern rows cells ≡ make_pattern more again
same_pattern rows more cells again e f = rw (e, f) refl

written_pattern : (channels : ℕ) (pattern : Pattern) → 1 ≤ channels → IsValidPattern channels pattern
    → Written (rows_of (raw_pattern_of pattern).head * channels) pattern.cells (raw_pattern_of pattern).cells
written_pattern channels pattern some v =
    let rows = same_rows pattern.rows v.some_rows in
    written (list_all is_empty_cell pattern.cells) (cond (nat_eq pattern.rows 0) 64 pattern.rows * channels)
    pattern.cells refl
    (v.whole ∙ ap (λ (n : ℕ). n * channels) (sym rows)) (rw rows (some_product pattern.rows channels v.some_rows some))
    v.cells

pub pattern_fits : (channels : ℕ) (pattern : Pattern) → 1 ≤ channels → channels ≤ 32 → IsValidPattern channels pattern
    → RawPatternFits channels (raw_pattern_of pattern)
pattern_fits channels pattern some few v =
    let most : length pattern.cells ≤ 8192 = omega (arith, v.whole, v.few_rows, mul-le-mul_left pattern.rows few) in
    record {
      head = record {
        size = omega arith;
        whole = omega arith;
        rows = v.few_rows;
        packed = omega (arith, data_small pattern.cells most);
      };
      skipped = (refl, λ i. omega arith);
      cells = (written_pattern channels pattern some v).fits;
    }

pub pattern_means : (channels : ℕ) (pattern : Pattern) → 1 ≤ channels → IsValidPattern channels pattern
    → pattern_of channels (raw_pattern_of pattern) ≡ pattern
unfolding pattern_of
pattern_means channels pattern some v =
    same_pattern _ pattern.rows _ pattern.cells (same_rows pattern.rows v.some_rows)
    (written_pattern channels pattern some v).means

-- ---- its size

pub pattern_length : (pattern : Pattern)
    → length (pattern_text (raw_pattern_of pattern)) ≡ 9 + (raw_pattern_of pattern).head.packed
unfolding pattern_text
pattern_length pattern = omega (arith, ap length (append-nil (flat_map raw_cell_text (raw_cells_of pattern.cells))))
