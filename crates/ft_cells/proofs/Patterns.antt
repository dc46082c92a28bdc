-- Cells that are copied, as cells of the song.
use Rattle.std.proofs.Common.{◌≡◌, ℕ, zero, suc, ◌+◌, ◌-◌, ◌*◌, ◌/◌, ◌%◌, ◌<◌, ◌≤◌, Bool, true, false, cond, List, [], ◌∷◌, Option, Some, length, get_or, refl, ap, sym, ◌∙◌, subst, arith}
use Rattle.std.specs.Prelude.{slice_get, unwrap_or, nat_lt, All}
use Rattle.std.proofs.lemmas.Bool.Decides.{nat_tests}
use Rattle.std.proofs.lemmas.List.{take_all}
use Rattle.ft_types.specs.declared.module.Module.{Module}
use Rattle.ft_types.specs.declared.pattern.Pattern.{Pattern}
use Rattle.ft_types.specs.declared.pattern.Cell.{Cell}
use Rattle.ft_types.specs.declared.edit.Edit.{Edit}
use Rattle.ft_types.specs.declared.edit.Edit.TheVariants as edits
use Rattle.ft_types.specs.Valid.{IsValid, IsValidPattern}
use Rattle.ft_types.specs.Views.{empty_cell, rows_at, row_count, cell_in}
use Rattle.ft_edits.specs.Lists.{each_from}
use Rattle.ft_edits.specs.Patterns.{in_block, with_block, copied}
use Rattle.ft_edits.specs.Changes.{pattern_changed, pattern_number}
use Rattle.ft_edits.specs.Allowed.{Allows, HasBlock}
use Rattle.ft_cells.specs.Blocks.{blocked, sourced}
use Rattle.ft_cells.specs.Buffers.{pattern_in, cells_in, cells_at, IsSource}
use Rattle.ft_cells.proofs.BlockCells.{rows_within, length_each}

-- ---- patterns that are found

all_found : {X : Type 0} (P : X → Type 0) (xs : List X) (k : ℕ) (x : X) → All P xs → slice_get xs k ≡ Some x → P x
all_found P [] k x all found = absurd cc
all_found P (y ∷ xs) zero x all found = let same : y ≡ x = cc in subst P same (all 0 y (omega arith))
all_found P (y ∷ xs) (suc k) x all found = all_found P xs k x (λ j d below. all (suc j) d (omega (arith, below))) found

is_there : {X : Type 0} (xs : List X) (k : ℕ) → k < length xs → (x : X) × (slice_get xs k ≡ Some x)
is_there [] k below = absurd (omega (arith, below))
is_there (x ∷ xs) zero below = (x, refl)
is_there (x ∷ xs) (suc k) below = is_there xs k (omega (arith, below))

-- the cells of a block's rows are there
block_long : (song : Module) (p r h : ℕ) (pattern : Pattern) → IsValid song
    → slice_get song.patterns p ≡ Some pattern
    → r + h ≤ rows_at song p → (r + h) * song.channels ≤ length pattern.cells
block_long song p r h pattern v found below =
    let valid = all_found (IsValidPattern song.channels) song.patterns p pattern v.patterns found in
    rows_within song.channels r h pattern.rows (length pattern.cells)
    (subst (λ (it : Option Pattern). r + h ≤ row_count it) found below) valid.whole

-- all of its cells
pub whole_in : (rows channels : ℕ) (cells : List Cell) → length cells ≡ rows * channels
    → pattern_in rows channels cells ≡ record { rows = rows; cells = cells }
whole_in rows channels cells whole =
    ap (λ (xs : List Cell). record { rows = rows; cells = xs }) (take_all (rows * channels) cells (omega (arith, whole)))

-- ---- copied cells

got : (cells : List Cell) (k : ℕ) → get_or cells k empty_cell ≡ unwrap_or (slice_get cells k) empty_cell
got [] k = refl
got (cell ∷ cells) zero = refl
got (cell ∷ cells) (suc k) = got cells k

when_true : (b : Bool) (x y : Cell) → b ≡ true → x ≡ cond b x y
when_true true x y is = refl
when_true false x y is = absurd cc

lower : (a b : ℕ) → a < b → nat_lt a b ≡ true
lower a b below = grind (arith, nat_tests)

cond_same : (b : Bool) (x y z : Cell) → (b ≡ true → x ≡ y) → cond b x z ≡ cond b y z
cond_same true x y z same = same refl
cond_same false x y z same = refl

each_same : (f g : ℕ → Cell → Cell) (place : ℕ) (cells : List Cell) → ((k : ℕ) (cell : Cell) → f k cell ≡ g k cell)
    → each_from f place cells ≡ each_from g place cells
each_same f g place [] same = refl
each_same f g place (cell ∷ cells) same =
    ap (λ x. x ∷ each_from f (place + 1) cells) (same place cell)
    ∙ ap (λ xs. g place cell ∷ xs) (each_same f g (place + 1) cells same)

-- two changes of a block that agree within it
block_same : (channels r c h w : ℕ) (f g : ℕ → ℕ → Cell → Cell) (cells : List Cell)
    → ((row channel : ℕ) (cell : Cell) → in_block r c h w row channel ≡ true → f row channel cell ≡ g row channel cell)
    → each_from (blocked channels r c h w f) 0 cells ≡ each_from (blocked channels r c h w g) 0 cells
block_same channels r c h w f g cells same =
    each_same (blocked channels r c h w f) (blocked channels r c h w g) 0 cells (λ k cell.
    cond_same (in_block r c h w (k / channels) (k % channels)) (f (k / channels) (k % channels) cell)
    (g (k / channels) (k % channels) cell) cell (same (k / channels) (k % channels) cell))

block_row : (r c h w row channel : ℕ) → in_block r c h w row channel ≡ true → row - r < h
block_row r c h w row channel is = grind (arith, nat_tests)

-- the cells of a source are those of its pattern
copied_same : (song : Module) (p r c r2 c2 h w : ℕ) (pattern : Pattern) → slice_get song.patterns p ≡ Some pattern
    → r + h ≤ pattern.rows → (row channel : ℕ) (cell : Cell) → in_block r2 c2 h w row channel ≡ true
    → sourced song.channels pattern.cells r c r2 c2 row channel cell ≡ copied song p r c r2 c2 row channel
copied_same song p r c r2 c2 h w pattern found there row channel cell inside =
    let low = block_row r2 c2 h w row channel inside in
    let place : ℕ = (r + (row - r2)) * song.channels + (c + (channel - c2)) in
    got pattern.cells place
    ∙ when_true (nat_lt (r + (row - r2)) pattern.rows) (unwrap_or (slice_get pattern.cells place) empty_cell) empty_cell
    (lower (r + (row - r2)) pattern.rows (omega (arith, low, there)))
    ∙ ap (λ (it : Option Pattern). cell_in song.channels it (r + (row - r2)) (c + (channel - c2))) (sym found)

-- what pasting a block does, where it is there
abbrev pub WherePasted : (channels r c h w r2 c2 rows : ℕ) (cells source new : List Cell) → Type 0
WherePasted channels r c h w r2 c2 rows cells source new =
    r2 + h ≤ rows → c2 + w ≤ channels → (r + h) * channels ≤ length source → c + w ≤ channels
    → new ≡ each_from (blocked channels r2 c2 h w (sourced channels source r c r2 c2)) 0 cells

-- a copy in a song, from a pattern that was found
pasted : (song : Module) (p r c h w q r2 c2 rows : ℕ) (cells source new : List Cell) (from : Pattern) → IsValid song
    → slice_get song.patterns p ≡ Some from
    → slice_get song.patterns q ≡ Some (pattern_in rows song.channels cells) → source ≡ cells_at song p
    → HasBlock song p r c h w → HasBlock song q r2 c2 h w
    → WherePasted song.channels r c h w r2 c2 rows cells source new
    → new
    ≡ each_from (blocked song.channels r2 c2 h w (λ row channel cell. copied song p r c r2 c2 row channel)) 0 cells
pasted song p r c h w q r2 c2 rows cells source new from valid found named is old there so =
    let all : source ≡ from.cells = is ∙ ap cells_in found in
    let long : (r + h) * song.channels ≤ length from.cells = block_long song p r h from valid found old.1 in
    so (subst (λ (it : Option Pattern). r2 + h ≤ row_count it) named there.1) there.2
    (subst (λ (zs : List Cell). (r + h) * song.channels ≤ length zs) (sym all) long) old.2
    ∙ ap (λ (zs : List Cell). each_from (blocked song.channels r2 c2 h w (sourced song.channels zs r c r2 c2)) 0 cells) all
    ∙ block_same song.channels r2 c2 h w (sourced song.channels from.cells r c r2 c2)
    (λ row channel cell. copied song p r c r2 c2 row channel) cells
    (copied_same song p r c r2 c2 h w from found (subst (λ (it : Option Pattern). r + h ≤ row_count it) found old.1))

copied_in : (song : Module) (p r c h w q r2 c2 rows : ℕ) (cells source new : List Cell) → IsValid song
    → slice_get song.patterns q ≡ Some (pattern_in rows song.channels cells) → source ≡ cells_at song p
    → HasBlock song p r c h w → HasBlock song q r2 c2 h w → length cells ≡ rows * song.channels
    → WherePasted song.channels r c h w r2 c2 rows cells source new
    → pattern_in rows song.channels new
    ≡ pattern_changed song (edits.Copy p r c h w q r2 c2) (pattern_in rows song.channels cells)
copied_in song p r c h w q r2 c2 rows cells source new valid named is old there whole so =
    let change : ℕ → ℕ → Cell → Cell = λ row channel cell. copied song p r c r2 c2 row channel in
    let f = is_there song.patterns p old.0 in
    let made : new ≡ each_from (blocked song.channels r2 c2 h w change) 0 cells =
    pasted song p r c h w q r2 c2 rows cells source new f.0 valid f.1 named is old there so in
    let long : length new ≡ rows * song.channels =
    ap length made ∙ length_each (blocked song.channels r2 c2 h w change) 0 cells ∙ whole in
    whole_in rows song.channels new long ∙ ap (λ (xs : List Cell). record { rows = rows; cells = xs }) made
    ∙ ap (with_block song.channels r2 c2 h w change) (sym (whole_in rows song.channels cells whole))

-- a copy that isn't refused
pub copy_made : (song : Module) (edit : Edit) (p r c h w q r2 c2 rows channels : ℕ) (cells source new : List Cell)
    → edit ≡ edits.Copy p r c h w q r2 c2 → IsValid song → song.channels ≡ channels
    → slice_get song.patterns (pattern_number edit) ≡ Some (pattern_in rows channels cells)
    → IsSource song edit source → Allows song edit → length cells ≡ rows * channels
    → WherePasted channels r c h w r2 c2 rows cells source new
    → pattern_in rows channels new ≡ pattern_changed song edit (pattern_in rows channels cells)
copy_made song edit p r c h w q r2 c2 rows channels cells source new is valid wide named taken allows whole so =
    subst
    (λ (e : Edit). slice_get song.patterns (pattern_number e) ≡ Some (pattern_in rows channels cells)
    → IsSource song e source → Allows song e
    → pattern_in rows channels new ≡ pattern_changed song e (pattern_in rows channels cells)) (sym is)
    (λ at from there.
    subst
    (λ n. slice_get song.patterns q ≡ Some (pattern_in rows n cells) → length cells ≡ rows * n
    → WherePasted n r c h w r2 c2 rows cells source new
    → pattern_in rows n new ≡ pattern_changed song (edits.Copy p r c h w q r2 c2) (pattern_in rows n cells)) wide
    (λ here all done.
    copied_in song p r c h w q r2 c2 rows cells source new valid here from there.0 there.1 all done) at whole so)
    named taken allows
