-- The segments of a part, one by one.
use Rattle.std.proofs.Common.{◌≡◌, ℕ, zero, suc, ◌+◌, ◌-◌, ◌/◌, ◌<◌, ◌≤◌, List, [], ◌∷◌, ◌++◌, Option, Some, None, length, take, drop, refl, sym, ap, ◌∙◌, arith}
use Rattle.std.specs.Prelude.{option_map, slice_index}
use Rattle.std.specs.List.{slice_get}
use Rattle.std.proofs.lemmas.List.{length-append, length-map, length-take, length-drop}
use Rattle.std.proofs.lemmas.Option.{slice_get-map, slice_get_past, slice_get-get_or}
use Rattle.ft_types.specs.declared.module.Module.{Module}
use Rattle.ft_types.specs.Blocks.{pieces_of}
use Rattle.ft_edits.specs.Lists.{stretch_of}
use Rattle.ft_segments.specs.Walk.{PatternIds, SampleIds, SongIds, Placed, ids_of, pattern_walk}
use Rattle.ft_changes.specs.Dropped.{root_and_body, root_and_stretch}
use Rattle.ft_changes.specs.Fits.{HasBody, IsStretch}
use Rattle.ft_changes.specs.Ids.{bodies_if, bodies_at}
use Rattle.ft_changes.specs.Parts.{pattern_segments, index_roots, body_ids, sample_segments, segments_if}
use Rattle.ft_image.specs.Read.{HasPattern}
use Rattle.ft_placed.specs.Roots.{pattern_root_in}
use Rattle.ft_placed.proofs.Lists.{in_first, in_second, of_no_root}
use Rattle.ft_placed.proofs.OfPatterns.{root_of}
use Rattle.ft_placed.proofs.OfSamples.{index_root}

-- ---- a list behind its first element

pub behind_first : {X : Type 0} (x : X) (xs : List X) (k j : ℕ) → k ≡ 1 + j → slice_get (x ∷ xs) k ≡ slice_get xs j
behind_first x xs zero j is = absurd (omega (arith, is))
behind_first x xs (suc k) j is = let e : k ≡ j = omega (arith, is) in ap (slice_get xs) e

pub first_if : {X : Type 0} (root : X → ℕ) (rest : X → List ℕ) (o : Option X) (k : ℕ) → k ≡ 0
    → option_map root o ≡ slice_get (segments_if (λ x. root x ∷ rest x) o) k
first_if root rest None k is = refl
first_if root rest (Some x) zero is = refl
first_if root rest (Some x) (suc k) is = absurd (omega (arith, is))

pub rest_if : {X : Type 0} (root : X → ℕ) (rest : X → List ℕ) (o : Option X) (k j : ℕ) → k ≡ 1 + j
    → slice_get (segments_if rest o) j ≡ slice_get (segments_if (λ x. root x ∷ rest x) o) k
rest_if root rest None k j is = refl
rest_if root rest (Some x) k j is = sym (behind_first (root x) (rest x) k j is)

-- ---- patterns

pub pattern_first : (ids : SongIds) (p k : ℕ) → k ≡ 0
    → pattern_root_in ids p ≡ slice_get (segments_if pattern_segments (slice_get ids.patterns p)) k
pattern_first ids p k is =
    slice_get-map root_of ids.patterns p
    ∙ first_if root_of (λ (x : PatternIds). x.bodies) (slice_get ids.patterns p) k is

bodies_of_one : (o : Option PatternIds) → bodies_if o ≡ segments_if (λ (x : PatternIds). x.bodies) o
bodies_of_one None = refl
bodies_of_one (Some x) = refl

pub pattern_rest : (ids : SongIds) (p k j : ℕ) → k ≡ 1 + j
    → slice_get (bodies_at ids p) j ≡ slice_get (segments_if pattern_segments (slice_get ids.patterns p)) k
pattern_rest ids p k j is =
    ap (λ (xs : List ℕ). slice_get xs j) (bodies_of_one (slice_get ids.patterns p))
    ∙ rest_if root_of (λ (x : PatternIds). x.bodies) (slice_get ids.patterns p) k j is

pub no_pattern : (ids : SongIds) (p : ℕ) → None ≡ pattern_root_in ids p
    → 0 ≡ length (segments_if pattern_segments (slice_get ids.patterns p))
no_pattern ids p none =
    sym (ap (λ (o : Option PatternIds). length (segments_if pattern_segments o)) (of_no_root root_of ids.patterns p (sym none)))

pub pattern_length : (p : Placed) (m : Module) (k r n : ℕ) → HasPattern p m k r
    → n ≡ length (pattern_walk p.pool m.channels r).bodies
    → 1 + n ≡ length (segments_if pattern_segments (slice_get (ids_of p).patterns k))
pattern_length p m k r n has is =
    let all = ap (λ (o : Option PatternIds). length (segments_if pattern_segments o)) has.named in
    omega (arith, all, is)

pub cell_first : (ids : SongIds) (p b k : ℕ) → k ≡ 0
    → pattern_root_in ids p ≡ slice_get (segments_if (root_and_body b) (slice_get ids.patterns p)) k
cell_first ids p b k is =
    slice_get-map root_of ids.patterns p
    ∙ first_if root_of (λ (x : PatternIds). slice_index x.bodies b ∷ []) (slice_get ids.patterns p) k is

pub cell_second : (ids : SongIds) (p b k : ℕ) → k ≡ 1 → HasBody p b ids
    → slice_get (bodies_at ids p) b ≡ slice_get (segments_if (root_and_body b) (slice_get ids.patterns p)) k
cell_second ids p b k is has =
    ap (λ (o : Option PatternIds). slice_get (bodies_if o) b) has.there
    ∙ slice_get-get_or has.pattern.bodies b 0 has.below
    ∙ ap (λ (o : Option PatternIds). slice_get (segments_if (λ (x : PatternIds). slice_index x.bodies b ∷ []) o) 0) (sym has.there)
    ∙ rest_if root_of (λ (x : PatternIds). slice_index x.bodies b ∷ []) (slice_get ids.patterns p) k 0 (omega (arith, is))

-- ---- samples

pub roots_number : (x : SampleIds) → length (index_roots x) ≡ length x.indexes
roots_number x = length-map x.indexes index_root

pub sample_index : (x : SampleIds) (k j : ℕ) → k ≡ 1 + j → j < length x.indexes
    → slice_get (index_roots x) j ≡ slice_get (sample_segments x) k
sample_index x k j is lt =
    sym (in_first (index_roots x) (body_ids x) j (omega (arith, lt, roots_number x)))
    ∙ sym (behind_first x.root (index_roots x ++ body_ids x) k j is)

pub sample_body : (x : SampleIds) (k j : ℕ) → k ≡ 1 + (length x.indexes + j)
    → slice_get (body_ids x) j ≡ slice_get (sample_segments x) k
sample_body x k j is =
    let n = length x.indexes + j in
    sym (in_second (index_roots x) (body_ids x) j n (omega (arith, roots_number x)))
    ∙ sym (behind_first x.root (index_roots x ++ body_ids x) k n is)

pub sample_length : (x : SampleIds) (i b : ℕ) → i ≡ length x.indexes → b ≡ length (body_ids x)
    → 1 + i + b ≡ length (sample_segments x)
sample_length x i b is bs =
    let both = length-append (index_roots x) (body_ids x) in
    omega (arith, is, bs, both, roots_number x)

-- ---- stretches

in_drop : (xs : List ℕ) (a j : ℕ) → slice_get (drop a xs) j ≡ slice_get xs (a + j)
in_drop xs zero j = let e : j ≡ 0 + j = omega arith in ap (slice_get xs) e
in_drop [] (suc a) j = refl
in_drop (x ∷ xs) (suc a) j = in_drop xs a j ∙ sym (behind_first x xs (suc a + j) (a + j) (omega arith))

in_take : (xs : List ℕ) (n j : ℕ) → j < n → slice_get (take n xs) j ≡ slice_get xs j
in_take xs zero j lt = absurd (omega (arith, lt))
in_take [] (suc n) j lt = refl
in_take (x ∷ xs) (suc n) zero lt = refl
in_take (x ∷ xs) (suc n) (suc j) lt = in_take xs n j (omega (arith, lt))

in_stretch : (xs : List ℕ) (a b j : ℕ) → j < b - a → slice_get (stretch_of a b xs) j ≡ slice_get xs (a + j)
in_stretch xs a b j lt = in_take (drop a xs) (b - a) j lt ∙ in_drop xs a j

stretch_length : (xs : List ℕ) (a b : ℕ) → b ≤ length xs → length (stretch_of a b xs) ≡ b - a
stretch_length xs a b le = omega (arith, le, length-take (b - a) (drop a xs), length-drop a xs)

abbrev first_stretch : ℕ → ℕ → SampleIds → List ℕ
first_stretch first gone x = stretch_of (first / 1024) (pieces_of gone 1024) (index_roots x)

indexes_stretch : (x : SampleIds) (first last gone : ℕ) → IsStretch first last gone x
    → length (first_stretch first gone x) ≡ pieces_of gone 1024 - first / 1024
indexes_stretch x first last gone is =
    stretch_length (index_roots x) (first / 1024) (pieces_of gone 1024) (omega (arith, is.within, is.indexes, roots_number x))

pub stretch_index : (x : SampleIds) (first last gone k j at : ℕ) → IsStretch first last gone x → k ≡ 1 + j
    → j < pieces_of gone 1024 - first / 1024 → at ≡ first / 1024 + j
    → slice_get (index_roots x) at ≡ slice_get (root_and_stretch first gone x) k
stretch_index x first last gone k j at is e lt place =
    ap (slice_get (index_roots x)) place
    ∙ sym (in_stretch (index_roots x) (first / 1024) (pieces_of gone 1024) j lt)
    ∙ sym (in_first (first_stretch first gone x) (stretch_of first gone (body_ids x)) j
    (omega (arith, lt, indexes_stretch x first last gone is)))
    ∙ sym (behind_first x.root (first_stretch first gone x ++ stretch_of first gone (body_ids x)) k j e)

behind_indexes : (x : SampleIds) (first last gone k j : ℕ) → IsStretch first last gone x
    → k ≡ 1 + (pieces_of gone 1024 - first / 1024 + j)
    → slice_get (root_and_stretch first gone x) k ≡ slice_get (stretch_of first gone (body_ids x)) j
behind_indexes x first last gone k j is e =
    let n = pieces_of gone 1024 - first / 1024 + j in
    behind_first x.root (first_stretch first gone x ++ stretch_of first gone (body_ids x)) k n e
    ∙ in_second (first_stretch first gone x) (stretch_of first gone (body_ids x)) j n
    (omega (arith, indexes_stretch x first last gone is))

pub stretch_body : (x : SampleIds) (first last gone k j : ℕ) → IsStretch first last gone x
    → k ≡ 1 + (pieces_of gone 1024 - first / 1024 + j) → j < gone - first
    → slice_get (body_ids x) (first + j) ≡ slice_get (root_and_stretch first gone x) k
stretch_body x first last gone k j is e lt =
    sym (in_stretch (body_ids x) first gone j lt) ∙ sym (behind_indexes x first last gone k j is e)

pub stretch_end : (x : SampleIds) (first last gone k j : ℕ) → IsStretch first last gone x
    → k ≡ 1 + (pieces_of gone 1024 - first / 1024 + j) → gone - first ≤ j
    → slice_get (root_and_stretch first gone x) k ≡ None
stretch_end x first last gone k j is e le =
    behind_indexes x first last gone k j is e
    ∙ slice_get_past (stretch_of first gone (body_ids x)) j (omega (arith, le, stretch_length (body_ids x) first gone is.within))
