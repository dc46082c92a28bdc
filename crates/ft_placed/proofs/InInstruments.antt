-- The segments of instruments, one by one.
use Rattle.std.proofs.Common.{◌≡◌, ℕ, zero, suc, ◌+◌, ◌-◌, ◌<◌, ◌≤◌, List, [], ◌∷◌, ◌++◌, Option, Some, None, length, drop, refl, sym, ap, subst, ◌∙◌, arith}
use Rattle.std.specs.Prelude.{option_map}
use Rattle.std.specs.List.{flat_map, slice_get}
use Rattle.std.proofs.lemmas.List.{length-append, drop_all}
use Rattle.std.proofs.lemmas.Option.{slice_get-map, same_Some}
use Rattle.ft_segments.specs.Walk.{SampleIds, InstrumentIds, SongIds, Placed, ids_of, samples_in, sample_walk}
use Rattle.ft_segments.specs.Packing.{id_at}
use Rattle.ft_changes.specs.Dropped.{sample_root_of}
use Rattle.ft_changes.specs.Fits.{HoldsInstrument, HasStretch, IsStretch}
use Rattle.ft_changes.specs.Ids.{samples_if, samples_of}
use Rattle.ft_changes.specs.Parts.{sample_segments, instrument_segments, segments_if}
use Rattle.ft_placed.specs.Roots.{instrument_root_in, sample_root_in}
use Rattle.ft_placed.proofs.Lists.{length_below, in_first, in_second, of_root, of_no_root}
use Rattle.ft_placed.proofs.OfInstruments.{root_of, sample_root, samples_are, instrument_of}
use Rattle.ft_placed.proofs.InOrder.{first_if, rest_if}

-- ---- one sample

pub sample_there : (ids : SongIds) (at s r : ℕ) → Some r ≡ sample_root_in ids at s
    → (x : SampleIds) × (slice_get (samples_of ids at) s ≡ Some x) × (x.root ≡ r)
sample_there ids at s r is = of_root sample_root (samples_of ids at) s r (sym is)

pub no_sample : (ids : SongIds) (at s : ℕ) → None ≡ sample_root_in ids at s → slice_get (samples_of ids at) s ≡ None
no_sample ids at s is = of_no_root sample_root (samples_of ids at) s (sym is)

pub no_segments : (segments : SampleIds → List ℕ) (ids : SongIds) (at s k : ℕ) → None ≡ sample_root_in ids at s
    → None ≡ slice_get (segments_if segments (slice_get (samples_of ids at) s)) k
no_segments segments ids at s k is =
    sym (ap (λ (o : Option SampleIds). slice_get (segments_if segments o) k) (no_sample ids at s is))

pub nothing_there : (segments : SampleIds → List ℕ) (ids : SongIds) (at s : ℕ) → None ≡ sample_root_in ids at s
    → 0 ≡ length (segments_if segments (slice_get (samples_of ids at) s))
nothing_there segments ids at s is =
    sym (ap (λ (o : Option SampleIds). length (segments_if segments o)) (no_sample ids at s is))

pub no_last : (ids : SongIds) (at : ℕ) → None ≡ instrument_root_in ids at → 0 ≡ length (samples_of ids at) - 1
no_last ids at is =
    let none = ap (λ (o : Option InstrumentIds). length (samples_if o)) (of_no_root root_of ids.instruments at (sym is)) in
    omega (arith, none)

pub last_there : (p : Placed) (at r : ℕ) → Some r ≡ instrument_root_in (ids_of p) at
    → samples_in p.pool r - 1 ≡ length (samples_of (ids_of p) at) - 1
last_there p at r is =
    let all = ap (λ (xs : List SampleIds). length xs) (samples_are p at r is) in
    let many = length_below (samples_in p.pool r) (λ i. sample_walk p.pool (id_at p.pool r 30 i)) in
    omega (arith, all, many)

-- ---- one after the other

from_drop : {X : Type 0} (f : X → List ℕ) (xs : List X) (s : ℕ)
    → flat_map f (drop s xs) ≡ segments_if f (slice_get xs s) ++ flat_map f (drop (suc s) xs)
from_drop f [] zero = refl
from_drop f [] (suc s) = refl
from_drop f (x ∷ xs) zero = refl
from_drop f (x ∷ xs) (suc s) = from_drop f xs s

pub at_sample : {X : Type 0} (f : X → List ℕ) (xs : List X) (s k : ℕ) → k < length (segments_if f (slice_get xs s))
    → slice_get (flat_map f (drop s xs)) k ≡ slice_get (segments_if f (slice_get xs s)) k
at_sample f xs s k lt =
    ap (λ (ys : List ℕ). slice_get ys k) (from_drop f xs s)
    ∙ in_first (segments_if f (slice_get xs s)) (flat_map f (drop (suc s) xs)) k lt

pub past_sample : {X : Type 0} (f : X → List ℕ) (xs : List X) (s n k j : ℕ) → n ≡ suc s
    → k ≡ length (segments_if f (slice_get xs s)) + j
    → slice_get (flat_map f (drop s xs)) k ≡ slice_get (flat_map f (drop n xs)) j
past_sample f xs s n k j next is =
    ap (λ (ys : List ℕ). slice_get ys k) (from_drop f xs s)
    ∙ in_second (segments_if f (slice_get xs s)) (flat_map f (drop (suc s) xs)) j k is
    ∙ ap (λ (i : ℕ). slice_get (flat_map f (drop i xs)) j) (sym next)

pub none_left : {X : Type 0} (f : X → List ℕ) (xs : List X) (s k : ℕ) → length xs ≤ s
    → slice_get (flat_map f (drop s xs)) k ≡ None
none_left f xs s k le = ap (λ (ys : Rattle.std.proofs.Common.List _). slice_get (flat_map f ys) k) (drop_all s xs le)

pub length_from : {X : Type 0} (f : X → List ℕ) (xs : List X) (s n : ℕ) → n ≡ suc s
    → length (flat_map f (drop s xs)) ≡ length (segments_if f (slice_get xs s)) + length (flat_map f (drop n xs))
length_from f xs s n next =
    ap (λ (ys : List ℕ). length ys) (from_drop f xs s)
    ∙ length-append (segments_if f (slice_get xs s)) (flat_map f (drop (suc s) xs))
    ∙ ap (λ (i : ℕ). length (segments_if f (slice_get xs s)) + length (flat_map f (drop i xs))) (sym next)

pub length_left : {X : Type 0} (f : X → List ℕ) (xs : List X) (s : ℕ) → length xs ≤ s → length (flat_map f (drop s xs)) ≡ 0
length_left f xs s le = ap (λ (ys : Rattle.std.proofs.Common.List _). length (flat_map f ys)) (drop_all s xs le)

-- ---- an instrument

pub instrument_first : (rest : InstrumentIds → List ℕ) (ids : SongIds) (at k : ℕ) → k ≡ 0
    → instrument_root_in ids at ≡ slice_get (segments_if (λ y. y.root ∷ rest y) (slice_get ids.instruments at)) k
instrument_first rest ids at k is =
    slice_get-map root_of ids.instruments at ∙ first_if root_of rest (slice_get ids.instruments at) k is

-- what is behind the root, by the samples
by_samples : (rest : List SampleIds → List ℕ) → rest [] ≡ [] → (o : Option InstrumentIds)
    → rest (samples_if o) ≡ segments_if (λ (y : InstrumentIds). rest y.samples) o
by_samples rest none None = none
by_samples rest none (Some y) = refl

pub instrument_rest : (rest : List SampleIds → List ℕ) (ids : SongIds) (at k j : ℕ) → rest [] ≡ [] → k ≡ 1 + j
    → slice_get (rest (samples_of ids at)) j
    ≡ slice_get (segments_if (λ (y : InstrumentIds). y.root ∷ rest y.samples) (slice_get ids.instruments at)) k
instrument_rest rest ids at k j none is =
    ap (λ (xs : List ℕ). slice_get xs j) (by_samples rest none (slice_get ids.instruments at))
    ∙ rest_if root_of (λ (y : InstrumentIds). rest y.samples) (slice_get ids.instruments at) k j is

one_of : (o : Option SampleIds) → option_map sample_root o ≡ slice_get (segments_if sample_root_of o) 0
one_of None = refl
one_of (Some x) = refl

pub one_root : (ids : SongIds) (at s : ℕ)
    → sample_root_in ids at s ≡ slice_get (segments_if sample_root_of (slice_get (samples_of ids at) s)) 0
one_root ids at s = slice_get-map sample_root (samples_of ids at) s ∙ one_of (slice_get (samples_of ids at) s)

pub stretch_there : (ids : SongIds) (at s first last gone : ℕ) (x : SampleIds)
    → HoldsInstrument at (HasStretch s first last gone) ids → slice_get (samples_of ids at) s ≡ Some x
    → IsStretch first last gone x
stretch_there ids at s first last gone x has there =
    let named : slice_get (samples_of ids at) s ≡ Some has.holds.sample
    = ap (λ (o : Option InstrumentIds). slice_get (samples_if o) s) has.there ∙ has.holds.there in
    subst (IsStretch first last gone) (same_Some has.holds.sample x (sym named ∙ there)) has.holds.stretch

pub instrument_length : (p : Placed) (at r n : ℕ) → Some r ≡ instrument_root_in (ids_of p) at
    → n ≡ length (flat_map sample_segments (samples_of (ids_of p) at))
    → 1 + n ≡ length (segments_if instrument_segments (slice_get (ids_of p).instruments at))
instrument_length p at r n named is =
    let there = instrument_of p at r named in
    let all = ap (λ (o : Option InstrumentIds). length (segments_if instrument_segments o)) there in
    let samples = ap (λ (xs : List SampleIds). length (flat_map sample_segments xs)) (samples_are p at r named) in
    omega (arith, all, samples, is)

pub no_instrument : (ids : SongIds) (at : ℕ) → None ≡ instrument_root_in ids at
    → 0 ≡ length (segments_if instrument_segments (slice_get ids.instruments at))
no_instrument ids at none =
    sym (ap (λ (o : Option InstrumentIds). length (segments_if instrument_segments o)) (of_no_root root_of ids.instruments at (sym none)))

pub one_sample : (ids : SongIds) (at s r : ℕ) → Some r ≡ sample_root_in ids at s
    → 2 ≡ 1 + length (segments_if sample_root_of (slice_get (samples_of ids at) s))
one_sample ids at s r is =
    let one = sample_there ids at s r is in
    let all = ap (λ (o : Option SampleIds). length (segments_if sample_root_of o)) one.1 in
    omega (arith, all)

pub no_root : (ids : SongIds) (at s : ℕ) → None ≡ sample_root_in ids at s
    → 1 ≡ 1 + length (segments_if sample_root_of (slice_get (samples_of ids at) s))
no_root ids at s is = let none = nothing_there sample_root_of ids at s is in omega (arith, none)
