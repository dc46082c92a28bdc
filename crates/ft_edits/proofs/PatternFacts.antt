-- Edits of patterns keep them valid.
use Rattle.std.proofs.Common.{◌≡◌, ℕ, zero, suc, ◌+◌, ◌-◌, ◌*◌, ◌/◌, ◌%◌, ◌<◌, ◌≤◌, Bool, true, false, cond, List, [], ◌∷◌, ◌++◌, Some, length, take, drop, set, replicate, All, ℤ, pos, negsuc, refl, ◌∙◌, arith}
use Rattle.std.specs.Prelude.{slice_get, nat_lt, nat_le, nat_abs, ◌&&◌, ◌+ℤ◌, unwrap_or}
use Rattle.std.proofs.lemmas.List.{length-replicate, length-take, length-drop, length-append, length-set}
use Rattle.std.proofs.lemmas.List.Elements.{All-replicate, All-take, All-drop, All-append, All-set}
use Rattle.ft_types.specs.declared.module.Module.{Module}
use Rattle.ft_types.specs.declared.pattern.Pattern.{Pattern}
use Rattle.ft_types.specs.declared.pattern.Cell.{Cell}
use Rattle.ft_types.specs.Valid.{IsValid, IsValidPattern, IsValidCell}
use Rattle.ft_types.specs.Views.{empty_cell, cell_in}
use Rattle.ft_edits.specs.Lists.{each_from}
use Rattle.ft_edits.specs.Patterns.{empty_rows, with_cell, with_rows, with_new_row, without_row, empty_pattern, in_block, with_block, is_note_number, moved_cell, copied}
use Rattle.ft_edits.proofs.ListFacts.{length-each, all-each}
use Rattle.ft_edits.proofs.Causes.{both, most}

pub empty_valid : IsValidCell empty_cell
empty_valid =
    record {
      note = omega arith;
      instrument = omega arith;
      volume = omega arith;
      effect = omega arith;
      parameter = omega arith;
    }

-- as many valid cells in place of these
pub cells_valid : (channels : ℕ) (pattern : Pattern) (cells : List Cell) → IsValidPattern channels pattern
    → length cells ≡ length pattern.cells → All IsValidCell cells
    → IsValidPattern channels (record pattern { cells = cells })
cells_valid channels pattern cells v same all =
    record { some_rows = v.some_rows; few_rows = v.few_rows; whole = same ∙ v.whole; cells = all }

all_empty : (n : ℕ) → All IsValidCell (replicate n empty_cell)
all_empty n = All-replicate IsValidCell n empty_cell empty_valid

pub empty_pattern_valid : (channels n : ℕ) → 1 ≤ n → n ≤ 256 → IsValidPattern channels (empty_pattern channels n)
empty_pattern_valid channels n some few =
    record {
      some_rows = some;
      few_rows = few;
      whole = length-replicate {A = Cell} (n * channels) empty_cell;
      cells = all_empty (n * channels);
    }

pub cell_kept : (channels r c : ℕ) (cell : Cell) (pattern : Pattern) → IsValidCell cell
    → IsValidPattern channels pattern
    → IsValidPattern channels (with_cell channels r c cell pattern)
cell_kept channels r c cell pattern valid v =
    cells_valid channels pattern (set pattern.cells (r * channels + c) cell) v
    (length-set pattern.cells (r * channels + c) cell)
    (All-set IsValidCell pattern.cells (r * channels + c) cell valid v.cells)

pub rows_kept : (channels n : ℕ) (pattern : Pattern) → 1 ≤ n → n ≤ 256 → IsValidPattern channels pattern
    → IsValidPattern channels (with_rows channels n pattern)
rows_kept channels n pattern some few v = record {
  some_rows = some;
  few_rows = few;
  whole = length-take (n * channels) (pattern.cells ++ empty_rows channels n)
      ∙ omega
      (arith, length-append pattern.cells (empty_rows channels n), length-replicate {A = Cell} (n * channels) empty_cell);
  cells = All-take IsValidCell (n * channels) (pattern.cells ++ empty_rows channels n)
      (All-append IsValidCell pattern.cells (empty_rows channels n) v.cells (all_empty (n * channels)));
}

pub new_row_kept : (channels r : ℕ) (pattern : Pattern) → IsValidPattern channels pattern
    → IsValidPattern channels (with_new_row channels r pattern)
new_row_kept channels r pattern v =
    let cells = pattern.cells in
    let rest : List Cell = empty_rows channels 1 ++ drop (r * channels) cells in
    let front : List Cell = take (r * channels) cells in
    cells_valid channels pattern (take (length cells) (front ++ rest)) v
    (length-take (length cells) (front ++ rest)
    ∙ omega (
      arith,
      length-append front rest,
      length-append (empty_rows channels 1) (drop (r * channels) cells),
      length-take (r * channels) cells,
      length-drop (r * channels) cells,
      length-replicate {A = Cell} (1 * channels) empty_cell,
    ))
    (All-take IsValidCell (length cells) (front ++ rest)
    (All-append IsValidCell front rest (All-take IsValidCell (r * channels) cells v.cells)
    (All-append IsValidCell (empty_rows channels 1) (drop (r * channels) cells) (all_empty (1 * channels))
    (All-drop IsValidCell (r * channels) cells v.cells))))

-- a row that is there lies within the cells
row_within : (channels r rows : ℕ) → r < rows → r * channels + channels ≤ rows * channels
row_within channels r zero below = absurd (omega (arith, below))
row_within channels zero (suc rows) below = omega arith
row_within channels (suc r) (suc rows) below =
    let h = row_within channels r rows (omega (arith, below)) in omega (arith, h)

pub without_row_kept : (channels r : ℕ) (pattern : Pattern) → r < pattern.rows → IsValidPattern channels pattern
    → IsValidPattern channels (without_row channels r pattern)
without_row_kept channels r pattern below v =
    let cells = pattern.cells in
    let front : List Cell = take (r * channels) cells in
    let back : List Cell = drop (r * channels + channels) cells in
    let within = row_within channels r pattern.rows below in
    cells_valid channels pattern (front ++ (back ++ empty_rows channels 1)) v
    (omega (
      arith,
      length-append front (back ++ empty_rows channels 1),
      length-append back (empty_rows channels 1),
      length-take (r * channels) cells,
      length-drop (r * channels + channels) cells,
      length-replicate {A = Cell} (1 * channels) empty_cell,
      within,
      v.whole,
    ))
    (All-append IsValidCell front (back ++ empty_rows channels 1) (All-take IsValidCell (r * channels) cells v.cells)
    (All-append IsValidCell back (empty_rows channels 1) (All-drop IsValidCell (r * channels + channels) cells v.cells) (all_empty (1 * channels))))

-- ---- blocks

chosen : (b : Bool) (changed cell : Cell) → IsValidCell changed → IsValidCell cell → IsValidCell (cond b changed cell)
chosen true changed cell new old = new
chosen false changed cell new old = old

pub block_kept : (channels r c h w : ℕ) (change : ℕ → ℕ → Cell → Cell) (pattern : Pattern)
    → ((row channel : ℕ) (cell : Cell) → IsValidCell cell → IsValidCell (change row channel cell))
    → IsValidPattern channels pattern → IsValidPattern channels (with_block channels r c h w change pattern)
block_kept channels r c h w change pattern keeps v =
    let each : ℕ → Cell → Cell = λ place cell.
    cond (in_block r c h w (place / channels) (place % channels)) (change (place / channels) (place % channels) cell)
    cell in
    cells_valid channels pattern (each_from each 0 pattern.cells) v (length-each each 0 pattern.cells)
    (all-each IsValidCell each 0 pattern.cells v.cells
    (λ k cell valid. chosen (in_block r c h w (k / channels) (k % channels)) (change (k / channels) (k % channels) cell)
    cell
    (keeps (k / channels) (k % channels) cell valid) valid))

low_note : (z : ℤ) → is_note_number z ≡ true → nat_abs z ≤ 97
low_note (pos n) holds = let m : n ≤ 96 = most n 96 (both (nat_lt 0 n) (nat_le n 96) holds).1 in omega (arith, m)
low_note (negsuc n) holds = absurd cc

moved_low : (d : ℤ) (note : ℕ) (b : Bool) → (is_note_number (pos note) && is_note_number (pos note +ℤ d)) ≡ b → note ≤ 97
    → cond b (nat_abs (pos note +ℤ d)) note ≤ 97
moved_low d note true holds old = low_note (pos note +ℤ d) (both _ _ holds).1
moved_low d note false holds old = old

pub moved_kept : (d : ℤ) (cell : Cell) → IsValidCell cell → IsValidCell (moved_cell d cell)
moved_kept d cell v = record {
  note = moved_low d cell.note (is_note_number (pos cell.note) && is_note_number (pos cell.note +ℤ d)) refl v.note;
  instrument = v.instrument;
  volume = v.volume;
  effect = v.effect;
  parameter = v.parameter;
}

-- ---- cells that are read

all_got : (P : Cell → Type 0) (cells : List Cell) (k : ℕ) → All P cells → P empty_cell
    → P (unwrap_or (slice_get cells k) empty_cell)
all_got P [] k all none = none
all_got P (cell ∷ cells) zero all none = all 0 cell (omega arith)
all_got P (cell ∷ cells) (suc k) all none = all_got P cells k (λ j d below. all (suc j) d (omega (arith, below))) none

in_pattern : (channels : ℕ) (pattern : Pattern) (row channel : ℕ) → IsValidPattern channels pattern
    → IsValidCell (cell_in channels (Some pattern) row channel)
in_pattern channels pattern row channel v =
    chosen (nat_lt row pattern.rows) (unwrap_or (slice_get pattern.cells (row * channels + channel)) empty_cell)
    empty_cell
    (all_got IsValidCell pattern.cells (row * channels + channel) v.cells empty_valid) empty_valid

in_patterns : (channels : ℕ) (patterns : List Pattern) (p row channel : ℕ) → All (IsValidPattern channels) patterns
    → IsValidCell (cell_in channels (slice_get patterns p) row channel)
in_patterns channels [] p row channel all = empty_valid
in_patterns channels (pattern ∷ patterns) zero row channel all =
    in_pattern channels pattern row channel (all 0 pattern (omega arith))
in_patterns channels (pattern ∷ patterns) (suc p) row channel all =
    in_patterns channels patterns p row channel (λ j d below. all (suc j) d (omega (arith, below)))

pub copied_valid : (song : Module) (p r c r2 c2 row channel : ℕ) → IsValid song
    → IsValidCell (copied song p r c r2 c2 row channel)
copied_valid song p r c r2 c2 row channel v =
    in_patterns song.channels song.patterns p (r + (row - r2)) (c + (channel - c2)) v.patterns
