-- Frames as steps, and steps as frames; for frames of any width.
use Rattle.std.proofs.Common.{rules, ◌≡◌, ℕ, suc, ◌+◌, ◌-◌, ◌*◌, ◌/◌, ◌%◌, ◌<◌, List, [], ◌∷◌, length, map, ℤ, All, refl, ap, ◌∙◌, arith}
use Rattle.std.specs.Prelude.{FitsSigned}
use Rattle.std.specs.List.{flat_map}
use Rattle.std.specs.Int.{w8, w16, cast_signed, cast_unsigned}
use Rattle.std.proofs.lemmas.Int.{to_z-of_z}
use Rattle.std.proofs.lemmas.List.{length-map}
use Rattle.std.proofs.lemmas.List.Elements.{All-head, All-tail, All-nil, All-cons, All-map}
use Rattle.ft_format.specs.Fields.{two_bytes}
use Rattle.ft_format.specs.Canon.{steps_from}
use Rattle.ft_format.specs.Sample.{sums_from, pairs_of, narrow_frames, wide_frames}
use Rattle.ft_format.proofs.Lists.{map_back}

pub narrow_signed : (n : ℕ) → n < 256 → FitsSigned w8 (cast_signed w8 n)
narrow_signed n lt = search rules

wide_signed : (n : ℕ) → n < 65536 → FitsSigned w16 (cast_signed w16 n)
wide_signed n lt = search rules

sums_small_8 : (before : ℕ) (steps : List ℕ) → All (λ x. x < 256) (sums_from 256 before steps)
sums_small_8 before [] = All-nil _
sums_small_8 before (step ∷ steps) =
    All-cons (λ x. x < 256) ((before + step) % 256) (sums_from 256 ((before + step) % 256) steps) (omega arith)
    (sums_small_8 ((before + step) % 256) steps)

sums_small_16 : (before : ℕ) (steps : List ℕ) → All (λ x. x < 65536) (sums_from 65536 before steps)
sums_small_16 before [] = All-nil _
sums_small_16 before (step ∷ steps) =
    All-cons (λ x. x < 65536) ((before + step) % 65536) (sums_from 65536 ((before + step) % 65536) steps) (omega arith)
    (sums_small_16 ((before + step) % 65536) steps)

pub narrow_fit : (steps : List ℕ) → All (FitsSigned w8) (narrow_frames steps)
unfolding narrow_frames
narrow_fit steps =
    All-map (FitsSigned w8) (cast_signed w8) (sums_from 256 0 steps)
    (λ k d lt. narrow_signed _ (sums_small_8 0 steps k d lt))

pub wide_fit : (steps : List ℕ) → All (FitsSigned w16) (wide_frames steps)
unfolding wide_frames
wide_fit steps =
    All-map (FitsSigned w16) (cast_signed w16) (sums_from 65536 0 (pairs_of steps))
    (λ k d lt. wide_signed _ (sums_small_16 0 (pairs_of steps) k d lt))

length_sums : (span before : ℕ) (steps : List ℕ) → length (sums_from span before steps) ≡ length steps
length_sums span before [] = refl
length_sums span before (step ∷ steps) = ap suc (length_sums span ((before + step) % span) steps)

length_pairs : (bytes : List ℕ) → length (pairs_of bytes) ≡ length bytes / 2
length_pairs [] = refl
length_pairs (low ∷ []) = refl
length_pairs (low ∷ (high ∷ bytes)) = omega (arith, length_pairs bytes)

pub narrow_length : (steps : List ℕ) → length (narrow_frames steps) ≡ length steps
unfolding narrow_frames
narrow_length steps = length-map (sums_from 256 0 steps) (cast_signed w8) ∙ length_sums 256 0 steps

pub wide_length : (steps : List ℕ) → length (wide_frames steps) ≡ length steps / 2
unfolding wide_frames
wide_length steps =
    length-map (sums_from 65536 0 (pairs_of steps)) (cast_signed w16) ∙ length_sums 65536 0 (pairs_of steps)
    ∙ length_pairs steps

-- ---- frames as they are written

pub narrow_unsigned : (z : ℤ) → FitsSigned w8 z → cast_unsigned w8 z < 256
narrow_unsigned z fits = search rules

wide_unsigned : (z : ℤ) → FitsSigned w16 z → cast_unsigned w16 z < 65536
wide_unsigned z fits = search rules

back_8 : (before x : ℕ) → before < 256 → x < 256 → (before + (x + (256 - before)) % 256) % 256 ≡ x
back_8 before x b s = omega (arith, b, s)

back_16 : (before x : ℕ) → before < 65536 → x < 65536 → (before + (x + (65536 - before)) % 65536) % 65536 ≡ x
back_16 before x b s = omega (arith, b, s)

-- a number is the one before it and the step between them
abbrev IsBack : ℕ → Type 0
IsBack span = (before x : ℕ) → before < span → x < span → (before + (x + (span - before)) % span) % span ≡ x

sums_steps : (span : ℕ) → IsBack span → (before : ℕ) (xs : List ℕ) → before < span → All (λ x. x < span) xs
    → sums_from span before (steps_from span before xs) ≡ xs
sums_steps span back before [] b all = refl
sums_steps span back before (x ∷ xs) b all =
    let lt = All-head (λ x. x < span) x xs all in
    ap (λ (y : ℕ). y ∷ sums_from span y (steps_from span x xs)) (back before x b lt)
    ∙ ap (λ (l : List ℕ). x ∷ l) (sums_steps span back x xs lt (All-tail (λ x. x < span) x xs all))

steps_small_8 : (before : ℕ) (xs : List ℕ) → All (λ x. x < 256) (steps_from 256 before xs)
steps_small_8 before [] = All-nil _
steps_small_8 before (x ∷ xs) =
    All-cons (λ x. x < 256) ((x + (256 - before)) % 256) (steps_from 256 x xs) (omega arith) (steps_small_8 x xs)

steps_small_16 : (before : ℕ) (xs : List ℕ) → All (λ x. x < 65536) (steps_from 65536 before xs)
steps_small_16 before [] = All-nil _
steps_small_16 before (x ∷ xs) =
    All-cons (λ x. x < 65536) ((x + (65536 - before)) % 65536) (steps_from 65536 x xs) (omega arith)
    (steps_small_16 x xs)

length_steps : (span before : ℕ) (xs : List ℕ) → length (steps_from span before xs) ≡ length xs
length_steps span before [] = refl
length_steps span before (x ∷ xs) = ap suc (length_steps span x xs)

pair_back : (x : ℕ) → x < 65536 → x % 256 + 256 * (x / 256 % 256) ≡ x
pair_back x lt = omega (arith, lt)

pairs_back : (xs : List ℕ) → All (λ x. x < 65536) xs → pairs_of (flat_map two_bytes xs) ≡ xs
pairs_back [] all = refl
pairs_back (x ∷ xs) all =
    ap (λ (y : ℕ). y ∷ pairs_of (flat_map two_bytes xs)) (pair_back x (All-head (λ x. x < 65536) x xs all))
    ∙ ap (λ (l : List ℕ). x ∷ l) (pairs_back xs (All-tail (λ x. x < 65536) x xs all))

pairs_bytes : (xs : List ℕ) → All (λ x. x < 256) (flat_map two_bytes xs)
pairs_bytes [] = All-nil _
pairs_bytes (x ∷ xs) =
    All-cons (λ x. x < 256) (x % 256) (x / 256 % 256 ∷ flat_map two_bytes xs) (omega arith)
    (All-cons (λ x. x < 256) (x / 256 % 256) (flat_map two_bytes xs) (omega arith) (pairs_bytes xs))

pairs_length : (xs : List ℕ) → length (flat_map two_bytes xs) ≡ 2 * length xs
pairs_length [] = refl
pairs_length (x ∷ xs) = omega (arith, pairs_length xs)

abbrev pub narrow_data : List ℤ → List ℕ
narrow_data frames = steps_from 256 0 (map (cast_unsigned w8) frames)

abbrev pub wide_data : List ℤ → List ℕ
wide_data frames = flat_map two_bytes (steps_from 65536 0 (map (cast_unsigned w16) frames))

pub narrow_back : (frames : List ℤ) → All (FitsSigned w8) frames → narrow_frames (narrow_data frames) ≡ frames
unfolding narrow_frames
narrow_back frames all =
    ap (map (cast_signed w8))
    (sums_steps 256 back_8 0 (map (cast_unsigned w8) frames) (omega arith)
    (All-map (λ x. x < 256) (cast_unsigned w8) frames (λ k d lt. narrow_unsigned _ (all k d lt))))
    ∙ map_back (cast_signed w8) (cast_unsigned w8) frames (λ k d lt. to_z-of_z w8 _ (all k d lt))

pub wide_back : (frames : List ℤ) → All (FitsSigned w16) frames → wide_frames (wide_data frames) ≡ frames
unfolding wide_frames
wide_back frames all =
    let xs = map (cast_unsigned w16) frames in
    ap (λ (l : List ℕ). map (cast_signed w16) (sums_from 65536 0 l))
    (pairs_back (steps_from 65536 0 xs) (steps_small_16 0 xs))
    ∙ ap (map (cast_signed w16))
    (sums_steps 65536 back_16 0 xs (omega arith)
    (All-map (λ x. x < 65536) (cast_unsigned w16) frames (λ k d lt. wide_unsigned _ (all k d lt))))
    ∙ map_back (cast_signed w16) (cast_unsigned w16) frames (λ k d lt. to_z-of_z w16 _ (all k d lt))

pub narrow_data_length : (frames : List ℤ) → length (narrow_data frames) ≡ length frames
narrow_data_length frames = length_steps 256 0 (map (cast_unsigned w8) frames) ∙ length-map frames (cast_unsigned w8)

pub wide_data_length : (frames : List ℤ) → length (wide_data frames) ≡ 2 * length frames
wide_data_length frames =
    let xs = map (cast_unsigned w16) frames in
    pairs_length (steps_from 65536 0 xs)
    ∙ ap (λ (n : ℕ). 2 * n) (length_steps 65536 0 xs ∙ length-map frames (cast_unsigned w16))

pub narrow_data_bytes : (frames : List ℤ) → All (λ x. x < 256) (narrow_data frames)
narrow_data_bytes frames = steps_small_8 0 (map (cast_unsigned w8) frames)

pub wide_data_bytes : (frames : List ℤ) → All (λ x. x < 256) (wide_data frames)
wide_data_bytes frames = pairs_bytes (steps_from 65536 0 (map (cast_unsigned w16) frames))
