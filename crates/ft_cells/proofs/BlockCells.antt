-- A block of cells, row by row.
use Rattle.std.proofs.Common.{◌≡◌, ℕ, zero, suc, ◌+◌, ◌-◌, ◌*◌, ◌/◌, ◌%◌, ◌<◌, ◌≤◌, Bool, true, false, cond, List, [], ◌∷◌, ◌++◌, length, take, drop, map, get_or, refl, ap, sym, ◌∙◌, subst, arith}
use Rattle.std.specs.Prelude.{◌≢◌, ◌&&◌, nat_le, nat_lt}
use Rattle.std.proofs.lemmas.Bool.Decides.{nat_tests}
use Rattle.std.proofs.lemmas.Nat.{div-add-mod', div-mul-add, mod-mul-add, mul-le}
use Rattle.std.proofs.lemmas.List.{same_lists, length-map, length-take, length-drop, length-append, get_or-map, get_or-take, get_or-drop, get_or-append_right, get_or_default}
use borrow.Rule.Slice.PartMut.{put_mid, mid_of}
use Rattle.ft_types.specs.declared.pattern.Cell.{Cell}
use Rattle.ft_edits.specs.Lists.{each_from}
use Rattle.ft_edits.specs.Patterns.{in_block}
use Rattle.ft_types.specs.Views.{empty_cell}
use Rattle.ft_cells.specs.Blocks.{blocked, sourced}

-- ---- each element, by its place

pub length_each : {X : Type 0} (change : ℕ → X → X) (place : ℕ) (xs : List X)
    → length (each_from change place xs) ≡ length xs
length_each change place [] = refl
length_each change place (x ∷ xs) = ap suc (length_each change (place + 1) xs)

get_each : {X : Type 0} (change : ℕ → X → X) (place : ℕ) (xs : List X) (k : ℕ) (d : X) → k < length xs
    → get_or (each_from change place xs) k d ≡ change (place + k) (get_or xs k d)
get_each change place [] k d below = absurd (omega (arith, below))
get_each change place (x ∷ xs) zero d below = let e : place ≡ place + 0 = omega arith in ap (λ n. change n x) e
get_each change place (x ∷ xs) (suc k) d below =
    let e : place + 1 + k ≡ place + suc k = omega arith in
    get_each change (place + 1) xs k d (omega (arith, below)) ∙ ap (λ n. change n (get_or xs k d)) e

-- the first element has the place 0
get_first : {X : Type 0} (change : ℕ → X → X) (xs : List X) (k : ℕ) (d : X) → k < length xs
    → get_or (each_from change 0 xs) k d ≡ change k (get_or xs k d)
get_first change xs k d below =
    let e : 0 + k ≡ k = omega arith in get_each change 0 xs k d below ∙ ap (λ n. change n (get_or xs k d)) e

-- ---- what a row more adds to a block

same_when : (A B B2 C D : Bool) → (C ≡ true → D ≡ true → B ≡ B2) → (((A && B) && C) && D) ≡ (((A && B2) && C) && D)
same_when false B B2 C D same = refl
same_when true true true C D same = refl
same_when true false false C D same = refl
same_when true true false false D same = refl
same_when true true false true false same = refl
same_when true true false true true same = same refl refl
same_when true false true false D same = refl
same_when true false true true false same = refl
same_when true false true true true same = same refl refl

rows_same : (r i q : ℕ) → q ≢ r + i → nat_lt q (r + (i + 1)) ≡ nat_lt q (r + i)
rows_same r i q other = grind (arith, nat_tests)

low_channel : (c m : ℕ) → nat_le c m ≡ true → c ≤ m
low_channel c m holds = grind (arith, nat_tests)

high_channel : (m end : ℕ) → nat_lt m end ≡ true → m < end
high_channel m end holds = grind (arith, nat_tests)

-- a cell that isn't of the new row is of the block or not, as before
not_new : (r c i w q m : ℕ) → (q ≡ r + i → c ≤ m → m < c + w → ⊥) → in_block r c (i + 1) w q m ≡ in_block r c i w q m
not_new r c i w q m other =
    same_when (nat_le r q) (nat_lt q (r + (i + 1))) (nat_lt q (r + i)) (nat_le c m) (nat_lt m (c + w))
    (λ low high. rows_same r i q (λ is. other is (low_channel c m low) (high_channel m (c + w) high)))

is_new : (r c i w q m : ℕ) → q ≡ r + i → c ≤ m → m < c + w → in_block r c (i + 1) w q m ≡ true
is_new r c i w q m is low high = grind (arith, nat_tests)

not_yet : (r c i w q m : ℕ) → q ≡ r + i → in_block r c i w q m ≡ false
not_yet r c i w q m is = grind (arith, nat_tests)

none_yet : (r c w q m : ℕ) → in_block r c 0 w q m ≡ false
none_yet r c w q m = grind (arith, nat_tests)

pub no_rows : (channels r c w : ℕ) (change : ℕ → ℕ → Cell → Cell) (old : List Cell)
    → old ≡ each_from (blocked channels r c 0 w change) 0 old
no_rows channels r c w change old = same_lists old (each_from (blocked channels r c 0 w change) 0 old)
    (sym (length_each (blocked channels r c 0 w change) 0 old))
    (λ k d below. sym (get_first (blocked channels r c 0 w change) old k d below
    ∙ ap (λ b. cond b (change (k / channels) (k % channels) (get_or old k d)) (get_or old k d))
    (none_yet r c w (k / channels) (k % channels))))

-- what is known of the new row
pub record IsRow (channels r c i w : ℕ) (change : ℕ → ℕ → Cell → Cell) (old cells ys : List Cell) (at : ℕ) : Type 0
  where
    pub wide : c + w ≤ channels
    pub long : (r + i) * channels + channels ≤ length old
    pub before : cells ≡ each_from (blocked channels r c i w change) 0 old
    pub place : at ≡ (r + i) * channels + c
    pub count : length ys ≡ w
    pub each : (j : ℕ) (d : Cell) → j < w → get_or ys j d ≡ change (r + i) (c + j) (get_or cells (at + j) d)

in_row : (channels r c i w : ℕ) (change : ℕ → ℕ → Cell → Cell) (old cells ys : List Cell) (at k : ℕ) (d : Cell)
    → IsRow channels r c i w change old cells ys at → at ≤ k → k < at + w
    → get_or ys (k - at) d ≡ blocked channels r c (i + 1) w change k (get_or old k d)
in_row channels r c i w change old cells ys at k d row from to =
    let m : ℕ = c + (k - at) in
    let narrow : m < channels = omega (arith, row.wide, from, to) in
    let spot : k ≡ (r + i) * channels + m = omega (arith, row.place, from) in
    let q : k / channels ≡ r + i = ap (λ n. n / channels) spot ∙ div-mul-add (r + i) channels m narrow in
    let rest : k % channels ≡ m = ap (λ n. n % channels) spot ∙ mod-mul-add (r + i) channels m narrow in
    let low : c ≤ k % channels = omega (arith, rest) in
    let high : k % channels < c + w = omega (arith, rest, from, to) in
    let here : at + (k - at) ≡ k = omega (arith, from) in
    let inside : k < length old = omega (arith, spot, narrow, row.long) in
    let kept : get_or cells k d ≡ get_or old k d =
    ap (λ zs. get_or zs k d) row.before ∙ get_first (blocked channels r c i w change) old k d inside
    ∙ ap (λ b. cond b (change (k / channels) (k % channels) (get_or old k d)) (get_or old k d))
    (not_yet r c i w (k / channels) (k % channels) q) in
    row.each (k - at) d (omega (arith, from, to))
    ∙ ap (λ n. change (r + i) m (get_or cells n d)) here ∙ ap (change (r + i) m) kept
    ∙ sym (ap (λ b. cond b (change (k / channels) (k % channels) (get_or old k d)) (get_or old k d))
    (is_new r c i w (k / channels) (k % channels) q low high)
    ∙ ap (λ n. change n (k % channels) (get_or old k d)) q ∙ ap (λ n. change (r + i) n (get_or old k d)) rest)

off_row : (channels r c i w : ℕ) (change : ℕ → ℕ → Cell → Cell) (old cells ys : List Cell) (at k : ℕ) (d : Cell)
    → IsRow channels r c i w change old cells ys at → k < length old → (at ≤ k → k < at + w → ⊥)
    → get_or cells k d ≡ blocked channels r c (i + 1) w change k (get_or old k d)
off_row channels r c i w change old cells ys at k d row below off =
    let whole : k / channels * channels + k % channels ≡ k = div-add-mod' k channels in
    ap (λ zs. get_or zs k d) row.before ∙ get_first (blocked channels r c i w change) old k d below
    ∙ sym (ap (λ b. cond b (change (k / channels) (k % channels) (get_or old k d)) (get_or old k d))
    (not_new r c i w (k / channels) (k % channels) (λ is low high.
    let there : (r + i) * channels + k % channels ≡ k = subst (λ n. n * channels + k % channels ≡ k) is whole in
    off (omega (arith, there, row.place, low)) (omega (arith, there, row.place, high)))))

row_fits : (channels r c i w : ℕ) (change : ℕ → ℕ → Cell → Cell) (old cells ys : List Cell) (at : ℕ)
    → IsRow channels r c i w change old cells ys at → at + w ≤ length cells
row_fits channels r c i w change old cells ys at row =
    let same : length cells ≡ length old = ap length row.before ∙ length_each (blocked channels r c i w change) 0 old in
    omega (arith, same, row.place, row.wide, row.long)

get_left : (xs ys : List Cell) (k : ℕ) (d : Cell) → k < length xs → get_or (xs ++ ys) k d ≡ get_or xs k d
get_left [] ys k d below = absurd (omega (arith, below))
get_left (x ∷ xs) ys zero d below = refl
get_left (x ∷ xs) ys (suc k) d below = get_left xs ys k d (omega (arith, below))

put_below : (at w : ℕ) (cells ys : List Cell) (k : ℕ) (d : Cell) → at + w ≤ length cells → k < at
    → get_or (put_mid at w cells ys) k d ≡ get_or cells k d
put_below at w cells ys k d fits low =
    get_left (take at cells) (ys ++ drop w (drop at cells)) k d (omega (arith, fits, low, length-take at cells))
    ∙ get_or-take at cells k d low

put_within : (at w : ℕ) (cells ys : List Cell) (k : ℕ) (d : Cell) → at + w ≤ length cells → length ys ≡ w → at ≤ k
    → k < at + w
    → get_or (put_mid at w cells ys) k d ≡ get_or ys (k - at) d
put_within at w cells ys k d fits count low high =
    get_or-append_right (take at cells) (ys ++ drop w (drop at cells)) at k d
    (length-take at cells ∙ omega (arith, fits)) low
    ∙ get_left ys (drop w (drop at cells)) (k - at) d (omega (arith, count, low, high))

put_above : (at w : ℕ) (cells ys : List Cell) (k : ℕ) (d : Cell) → at + w ≤ length cells → length ys ≡ w → at + w ≤ k
    → get_or (put_mid at w cells ys) k d ≡ get_or cells k d
put_above at w cells ys k d fits count high =
    let here : at + (w + (k - at - w)) ≡ k = omega (arith, high) in
    get_or-append_right (take at cells) (ys ++ drop w (drop at cells)) at k d
    (length-take at cells ∙ omega (arith, fits)) (omega (arith, high))
    ∙ get_or-append_right ys (drop w (drop at cells)) w (k - at) d count (omega (arith, high))
    ∙ get_or-drop w (drop at cells) (k - at - w) d ∙ get_or-drop at cells (w + (k - at - w)) d
    ∙ ap (λ n. get_or cells n d) here

at_place : (channels r c i w : ℕ) (change : ℕ → ℕ → Cell → Cell) (old cells ys : List Cell) (at k : ℕ) (d : Cell)
    → IsRow channels r c i w change old cells ys at → k < length old → (b e : Bool) → nat_le at k ≡ b
    → nat_lt k (at + w) ≡ e
    → get_or (put_mid at w cells ys) k d ≡ blocked channels r c (i + 1) w change k (get_or old k d)
at_place channels r c i w change old cells ys at k d row below true true from to =
    let low : at ≤ k = low_channel at k from in
    let high : k < at + w = high_channel k (at + w) to in
    let fits = row_fits channels r c i w change old cells ys at row in
    let e : get_or (put_mid at w cells ys) k d ≡ get_or ys (k - at) d =
    put_within at w cells ys k d fits row.count low high in
    e ∙ in_row channels r c i w change old cells ys at k d row low high
at_place channels r c i w change old cells ys at k d row below true false from to =
    let high : at + w ≤ k = grind (arith, nat_tests) in
    let fits = row_fits channels r c i w change old cells ys at row in
    let e : get_or (put_mid at w cells ys) k d ≡ get_or cells k d = put_above at w cells ys k d fits row.count high in
    e
    ∙ off_row channels r c i w change old cells ys at k d row below
    (λ (low : at ≤ k) (end : k < at + w). absurd (omega (arith, high, end)))
at_place channels r c i w change old cells ys at k d row below false b from to =
    let high : k < at = grind (arith, nat_tests) in
    let fits = row_fits channels r c i w change old cells ys at row in
    let e : get_or (put_mid at w cells ys) k d ≡ get_or cells k d = put_below at w cells ys k d fits high in
    e
    ∙ off_row channels r c i w change old cells ys at k d row below
    (λ (low : at ≤ k) (end : k < at + w). absurd (omega (arith, high, low)))

put_length : (at w : ℕ) (cells ys : List Cell) → length ys ≡ w → at + w ≤ length cells
    → length (put_mid at w cells ys) ≡ length cells
put_length at w cells ys count below =
    omega (
      arith,
      count,
      below,
      length-append (take at cells) (ys ++ drop w (drop at cells)),
      length-append ys (drop w (drop at cells)),
      length-take at cells,
      length-drop w (drop at cells),
      length-drop at cells,
    )

pub row_more : (channels r c i w : ℕ) (change : ℕ → ℕ → Cell → Cell) (old cells ys : List Cell) (at : ℕ)
    → IsRow channels r c i w change old cells ys at
    → put_mid at w cells ys ≡ each_from (blocked channels r c (i + 1) w change) 0 old
row_more channels r c i w change old cells ys at row =
    let same : length cells ≡ length old = ap length row.before ∙ length_each (blocked channels r c i w change) 0 old in
    let fits : at + w ≤ length cells = omega (arith, same, row.place, row.wide, row.long) in
    let long = put_length at w cells ys row.count fits in
    same_lists (put_mid at w cells ys) (each_from (blocked channels r c (i + 1) w change) 0 old)
    (long ∙ same ∙ sym (length_each (blocked channels r c (i + 1) w change) 0 old))
    (λ k d below.
    let inside : k < length old = omega (arith, below, long, same) in
    at_place channels r c i w change old cells ys at k d row inside (nat_le at k) (nat_lt k (at + w)) refl refl
    ∙ sym (get_first (blocked channels r c (i + 1) w change) old k d inside))

-- rows that are there lie within the cells
pub rows_within : (channels r h rows count : ℕ) → r + h ≤ rows → count ≡ rows * channels → (r + h) * channels ≤ count
rows_within channels r h rows count below is =
    let m = mul-le (r + h) channels rows channels below (omega arith) in omega (arith, is, m)

pub next_row : (channels r i h count : ℕ) → i < h → (r + h) * channels ≤ count → (r + i) * channels + channels ≤ count
next_row channels r i h count below there =
    let m : suc (r + i) * channels ≤ (r + h) * channels =
    mul-le (suc (r + i)) channels (r + h) channels (omega (arith, below)) (omega arith) in
    omega (arith, m, there)

pub mid_length : (at w : ℕ) (cells : List Cell) → at + w ≤ length cells → length (mid_of at w cells) ≡ w
mid_length at w cells fits = omega (arith, fits, length-take w (drop at cells), length-drop at cells)

-- a part of cells, each changed
pub part_length : (change : Cell → Cell) (at w : ℕ) (cells : List Cell) → at + w ≤ length cells
    → length (map change (mid_of at w cells)) ≡ w
part_length change at w cells fits = length-map (mid_of at w cells) change
    ∙ omega (arith, fits, length-take w (drop at cells), length-drop at cells)

pub part_each : (change : Cell → Cell) (at w : ℕ) (cells : List Cell) (j : ℕ) (d : Cell) → at + w ≤ length cells → j < w
    → get_or (map change (mid_of at w cells)) j d ≡ change (get_or cells (at + j) d)
part_each change at w cells j d fits below =
    get_or-map change (take w (drop at cells)) j d d
    (omega (arith, fits, below, length-take w (drop at cells), length-drop at cells))
    ∙ ap change (get_or-take w (drop at cells) j d below ∙ get_or-drop at cells j d)

-- a cell of a row of the source
pub row_each : (channels r r2 c2 i c w j : ℕ) (source : List Cell) (d : Cell) → j < w
    → (r + i) * channels + c + w ≤ length source
    → get_or (take w (drop ((r + i) * channels + c) source)) j d
    ≡ sourced channels source r c r2 c2 (r2 + i) (c2 + j) d
row_each channels r r2 c2 i c w j source d below there =
    let row : r + i ≡ r + (r2 + i - r2) = omega arith in
    let channel : j ≡ c2 + j - c2 = omega arith in
    let here : (r + i) * channels + c + j ≡ (r + i) * channels + (c + j) = omega arith in
    get_or-take w (drop ((r + i) * channels + c) source) j d below ∙ get_or-drop ((r + i) * channels + c) source j d
    ∙ get_or_default source ((r + i) * channels + c + j) d empty_cell (omega (arith, below, there))
    ∙ ap (λ n. get_or source n empty_cell) here
    ∙ ap (λ n. get_or source (n * channels + (c + j)) empty_cell) row
    ∙ ap (λ n. get_or source ((r + (r2 + i - r2)) * channels + (c + n)) empty_cell) channel
