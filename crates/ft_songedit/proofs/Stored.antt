-- What the words say of a stored pattern.
use Rattle.std.proofs.Common.{◌≡◌, ℕ, zero, suc, ◌+◌, ◌*◌, ◌<◌, ◌≤◌, Bool, true, false, List, [], ◌∷◌, Some, None, length, get_or, take, refl, ap, sym, subst, ◌∙◌, arith, eq-eqb}
use Rattle.std.specs.List.{slice_get, sum_by}
use Rattle.std.proofs.lemmas.Nat.{mul-le}
use Rattle.std.proofs.lemmas.List.{ext_get_or, get_or-take, length-take}
use Rattle.std.proofs.lemmas.List.Sums.{get_or-le-sum_by}
use Rattle.std.proofs.lemmas.Option.{slice_get_within, get_or_from_slice_get, none-some}
use Rattle.ft_types.specs.declared.module.Module.{Module}
use Rattle.ft_types.specs.declared.pattern.Pattern.{Pattern}
use Rattle.ft_types.specs.declared.pattern.Cell.{Cell}
use Rattle.ft_types.specs.Blocks.{pieces_of}
use Rattle.ft_types.specs.Valid.{IsValid, IsValidPattern, IsValidCell}
use Rattle.ft_types.specs.Views.{empty_cell, rows_at, row_count}
use Rattle.ft_cells.specs.Buffers.{pattern_in}
use Rattle.ft_segments.specs.Packing.{digit, word_at}
use Rattle.ft_segments.specs.Walk.{PatternIds, Placed, IsOf, ids_of, walk, is_it, pattern_uses}
use Rattle.ft_changes.specs.Ids.{bodies_if, bodies_at}
use Rattle.ft_image.specs.Values.{bit, head_word, cell_word}
use Rattle.ft_image.specs.Shown.{Shows, ShowsPattern}

-- ---- the song root

pub itself : (s : ℕ) → is_it s s ≡ 1
itself s = rw (eq-eqb s s refl) refl

root_walk : (p : Placed) → (ids_of p).root ≡ p.root
unfolding walk
root_walk p = refl

pub root_is : (p : Placed) (root : ℕ) → p.root ≡ root → IsOf p root
unfolding walk
root_is p root is = subst (IsOf p) is (let one = itself p.root in omega arith)

bit-le : (b : Bool) → bit b ≤ 1
bit-le true = omega arith
bit-le false = omega arith

head_back : (m : Module) (word : ℕ) → IsValid m → word ≡ head_word m → digit 256 word 4 ≡ m.channels
unfolding head_word
head_back m word valid is =
    let l = valid.few_orders in
    let r = valid.restart in
    let c = valid.few_channels in
    let t = valid.low_tempo in
    let b = valid.low_bpm in
    let f = bit-le m.linear in
    omega arith

pub channels_read : (p : Placed) (m : Module) (root word : ℕ) → Shows p m → p.root ≡ root → word ≡ word_at p.pool root 0
    → digit 256 word 4 ≡ m.channels
channels_read p m root word shows here w =
    let at_root : root ≡ (ids_of p).root = sym here ∙ sym (root_walk p) in
    head_back m word shows.valid (w ∙ ap (λ (r : ℕ). word_at p.pool r 0) at_root ∙ shows.stands.root.head)

-- ---- patterns

-- a stored pattern has segments that show it
pub record IsStored (p : Placed) (m : Module) (k : ℕ) (x : Pattern) : Type 0 where
  pub ids : PatternIds
  pub named : slice_get (ids_of p).patterns k ≡ Some ids
  pub shown : ShowsPattern p.pool m.channels x ids
  pub valid : IsValidPattern m.channels x

pub stored : {X : Type 0} (xs : List X) (k : ℕ) → k < length xs → (x : X) × (slice_get xs k ≡ Some x)
stored [] k lt = absurd (omega arith)
stored (x ∷ xs) zero lt = (x, refl)
stored (x ∷ xs) (suc k) lt = stored xs k (omega arith)

pub is_stored : (p : Placed) (m : Module) (k : ℕ) (x : Pattern) → Shows p m → slice_get m.patterns k ≡ Some x → IsStored p m k x
is_stored p m k x shows there =
    let within = slice_get_within m.patterns k x there in
    let y = stored (ids_of p).patterns k (omega (arith, within, shows.stands.patterns.count)) in
    record {
      ids = y.0;
      named = y.1;
      shown = shows.stands.patterns.each k x y.0 there y.1;
      valid = subst (IsValidPattern m.channels) (get_or_from_slice_get m.patterns k x x there) (shows.valid.patterns k x within);
    }

-- the bodies of the pattern
pub bodies_are : (p : Placed) (m : Module) (k : ℕ) (x : Pattern) → (is : IsStored p m k x) → bodies_at (ids_of p) k ≡ is.ids.bodies
bodies_are p m k x is = ap bodies_if is.named

part_of_sum : {X : Type 0} (f : X → ℕ) (xs : List X) (k : ℕ) (x : X) → slice_get xs k ≡ Some x → f x ≤ sum_by f xs
part_of_sum f xs k x is =
    let e : f (get_or xs k x) ≡ f x = ap f (get_or_from_slice_get xs k x x is) in
    let part = get_or-le-sum_by f xs k x (slice_get_within xs k x is) in
    omega arith

of_pattern : (p : Placed) (k s : ℕ) (ids : PatternIds) → slice_get (ids_of p).patterns k ≡ Some ids → 1 ≤ pattern_uses s ids → IsOf p s
of_pattern p k s ids is one =
    let part = part_of_sum (pattern_uses s) (ids_of p).patterns k ids is in omega arith

-- the root of a pattern is a segment of the version
pub pattern_root_is : (p : Placed) (m : Module) (k : ℕ) (x : Pattern) → (is : IsStored p m k x) → IsOf p is.ids.root
pattern_root_is p m k x is = let one = itself is.ids.root in of_pattern p k is.ids.root is.ids is.named (omega arith)

-- a body too
pub body_is : (p : Placed) (m : Module) (k b s : ℕ) (x : Pattern) → (is : IsStored p m k x) → slice_get is.ids.bodies b ≡ Some s → IsOf p s
body_is p m k b s x is there =
    let one = itself s in
    let part = part_of_sum (is_it s) is.ids.bodies b s there in
    of_pattern p k s is.ids is.named (omega arith)

-- each cell is valid, and past the last one it is empty
cell_valid : (channels : ℕ) (x : Pattern) (n : ℕ) → IsValidPattern channels x → IsValidCell (get_or x.cells n empty_cell)
cell_valid channels x n valid = cell_or_past x.cells n valid.cells
  where
    cell_or_past : (cells : List Cell) (n : ℕ) → Rattle.std.specs.List.All IsValidCell cells → IsValidCell (get_or cells n empty_cell)
    cell_or_past [] n all =
        record { note = omega arith; instrument = omega arith; volume = omega arith; effect = omega arith; parameter = omega arith }
    cell_or_past (c ∷ cells) zero all = all 0 c (omega arith)
    cell_or_past (c ∷ cells) (suc n) all = cell_or_past cells n (λ k d lt. all (suc k) d (omega (arith, lt)))

-- what is read of a body
pub record BodyRead (p : Placed) (x : Pattern) (b s : ℕ) : Type 0 where
  pub segment : IsOf p s
  pub words : (j : ℕ) → j < 256 → word_at p.pool s j ≡ cell_word (get_or x.cells (b * 256 + j) empty_cell)
  pub valid : (j : ℕ) → IsValidCell (get_or x.cells (b * 256 + j) empty_cell)

pub body_read : (p : Placed) (m : Module) (k b s : ℕ) (x : Pattern) → (is : IsStored p m k x)
    → Some s ≡ slice_get (bodies_at (ids_of p) k) b → BodyRead p x b s
body_read p m k b s x is at =
    let there : slice_get is.ids.bodies b ≡ Some s = ap (λ (xs : List ℕ). slice_get xs b) (sym (bodies_are p m k x is)) ∙ sym at in
    let within = slice_get_within is.ids.bodies b s there in
    let id : get_or is.ids.bodies b 0 ≡ s = get_or_from_slice_get is.ids.bodies b s 0 there in
    record {
      segment = body_is p m k b s x is there;
      words = λ j lt. ap (λ (r : ℕ). word_at p.pool r j) (sym id) ∙ is.shown.cells b j within lt;
      valid = λ j. cell_valid m.channels x (b * 256 + j) is.valid;
    }

-- there is a segment for each body
pub body_there : (p : Placed) (m : Module) (k b : ℕ) (x : Pattern) → (is : IsStored p m k x) → b < pieces_of (x.rows * m.channels) 256
    → None ≡ slice_get (bodies_at (ids_of p) k) b → ⊥
body_there p m k b x is lt none =
    let one = stored is.ids.bodies b (omega (arith, lt, is.shown.count)) in
    none-some one.0 (none ∙ ap (λ (xs : List ℕ). slice_get xs b) (bodies_are p m k x is) ∙ one.1)

-- ---- the whole pattern

pub rows_are : (m : Module) (k : ℕ) (x : Pattern) → slice_get m.patterns k ≡ Some x → rows_at m k ≡ x.rows
rows_are m k x there = ap row_count there

pub few_cells : (p : Placed) (m : Module) (k : ℕ) (x : Pattern) → IsStored p m k x → Shows p m → x.rows * m.channels ≤ 8192
few_cells p m k x is shows = mul-le x.rows m.channels 256 32 is.valid.few_rows shows.valid.few_channels

abbrev made : ℕ → List Cell → Pattern
made r xs = record { rows = r; cells = xs }

-- a buffer begins with the pattern
pub buffer_is : (rows channels : ℕ) (cells : List Cell) (x : Pattern) → rows ≡ x.rows → IsValidPattern channels x
    → rows * channels ≤ length cells
    → ((n : ℕ) → n < rows * channels → get_or cells n empty_cell ≡ get_or x.cells n empty_cell) → pattern_in rows channels cells ≡ x
buffer_is rows channels cells x is valid room same =
    let count : rows * channels ≡ x.rows * channels = ap (λ r. r * channels) is in
    let long : length (take (rows * channels) cells) ≡ rows * channels = length-take (rows * channels) cells ∙ omega (arith, room) in
    let all : take (rows * channels) cells ≡ x.cells =
    ext_get_or empty_cell (take (rows * channels) cells) x.cells (omega (arith, long, count, valid.whole))
    (λ n lt. let l : n < rows * channels = omega (arith, lt, long) in get_or-take (rows * channels) cells n empty_cell l ∙ same n l) in
    ap (λ (r : ℕ). made r (take (rows * channels) cells)) is ∙ ap (λ (xs : List Cell). made x.rows xs) all
