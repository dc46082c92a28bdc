-- The ids of a sample, by its words.
use Rattle.std.proofs.Common.{◌≡◌, ℕ, ◌+◌, ◌/◌, ◌%◌, ◌<◌, ◌≤◌, List, Option, Some, None, length, refl, sym, ap, subst, ◌∙◌, arith}
use Rattle.std.specs.List.{range_with_len, slice_get}
use Rattle.std.proofs.lemmas.List.Folds.{flat_map-map}
use Rattle.std.proofs.lemmas.Option.{slice_get_past, slice_get_within, get_or_from_slice_get, none-some}
use Rattle.ft_types.specs.declared.module.Module.{Module}
use Rattle.ft_types.specs.Blocks.{pieces_of}
use Rattle.ft_types.specs.declared.instrument.Instrument.{Instrument}
use Rattle.ft_types.specs.Valid.{IsValidInstrument, IsValidSample}
use Rattle.ft_segments.specs.Packing.{id_at}
use Rattle.ft_segments.specs.Walk.{IndexIds, SampleIds, InstrumentIds, Placed, IsOf, ids_of, is_it, index_uses, sample_uses, index_walk, sample_walk, samples_in, bodies_in, bodies_of_index}
use Rattle.ft_changes.specs.Ids.{samples_if, samples_of}
use Rattle.ft_changes.specs.Parts.{index_roots, body_ids}
use Rattle.ft_image.specs.Shown.{Shows, ShowsInstrument}
use Rattle.ft_placed.specs.Roots.{IsSampleOf}
use Rattle.ft_placed.proofs.Lists.{stored, part_of_sum, below_at, length_below, root_there, root_absent, made_of_root}
use Rattle.ft_placed.proofs.Walked.{itself, of_instrument, of_sample, sample_walk_root}
use Rattle.ft_placed.proofs.OfInstruments.{instrument_made, sample_root}
use Rattle.ft_placed.proofs.Pieces.{pieces, length_pieces, in_pieces}

-- ---- a sample of the song

-- its instrument
owner : (s : ℕ) (x : SampleIds) (o : Option InstrumentIds) → slice_get (samples_if o) s ≡ Some x
    → (y : InstrumentIds) × (o ≡ Some y) × (slice_get y.samples s ≡ Some x)
owner s x None is = absurd (none-some x is)
owner s x (Some y) is = (y, refl, is)

pub sample_made : (p : Placed) (x : SampleIds) → IsSampleOf (ids_of p) x → x ≡ sample_walk p.pool x.root
sample_made p x of =
    let one = owner of.number x (slice_get (ids_of p).instruments of.at) of.there in
    let y = one.0 in
    let there = ap (λ (z : InstrumentIds). slice_get z.samples of.number) (sym (instrument_made p of.at y one.1)) ∙ one.2 in
    made_of_root sample_root (sample_walk p.pool) (λ i. id_at p.pool y.root 30 i) (samples_in p.pool y.root) of.number x
    (sample_walk_root p.pool) there

pub sample_walked : (p : Placed) (x : SampleIds) (root : ℕ) → IsSampleOf (ids_of p) x → x.root ≡ root → x ≡ sample_walk p.pool root
sample_walked p x root of is = sample_made p x of ∙ ap (sample_walk p.pool) is

pub sample_used : (p : Placed) (x : SampleIds) (r : ℕ) → IsSampleOf (ids_of p) x → 1 ≤ sample_uses r x → IsOf p r
sample_used p x r of used =
    let one = owner of.number x (slice_get (ids_of p).instruments of.at) of.there in
    of_instrument p of.at r one.0 one.1 (of_sample r of.number one.0 x one.2 used)

pub sample_is : (p : Placed) (x : SampleIds) (root : ℕ) → IsSampleOf (ids_of p) x → x.root ≡ root → IsOf p root
sample_is p x root of is =
    let one : is_it root x.root ≡ 1 = ap (is_it root) is ∙ itself root in
    sample_used p x root of (omega (arith, one))

-- an instrument among the ids shows a valid one of the song
pub instrument_shown : (p : Placed) (m : Module) (at : ℕ) (y : InstrumentIds) → Shows p m
    → slice_get (ids_of p).instruments at ≡ Some y → (z : Instrument) × IsValidInstrument z × ShowsInstrument p.pool z y
instrument_shown p m at y shows is =
    let within = slice_get_within (ids_of p).instruments at y is in
    let one = stored m.instruments at (omega (arith, within, shows.stands.instruments.count)) in
    let valid = shows.valid.instruments at one.0 (slice_get_within m.instruments at one.0 one.1) in
    let same = get_or_from_slice_get m.instruments at one.0 one.0 one.1 in
    (one.0, subst IsValidInstrument same valid, shows.stands.instruments.each at one.0 y one.1 is)

pub few_indexes : (p : Placed) (m : Module) (x : SampleIds) → Shows p m → IsSampleOf (ids_of p) x → length x.indexes ≤ 4
few_indexes p m x shows of =
    let one = owner of.number x (slice_get (ids_of p).instruments of.at) of.there in
    let y = instrument_shown p m of.at one.0 shows one.1 in
    let within = slice_get_within one.0.samples of.number x one.2 in
    let sample = stored y.0.samples of.number (omega (arith, within, y.2.each.count)) in
    let count = (y.2.each.each of.number sample.0 x sample.1 one.2).count in
    let valid = y.1.samples of.number sample.0 (slice_get_within y.0.samples of.number sample.0 sample.1) in
    let same = get_or_from_slice_get y.0.samples of.number sample.0 sample.0 sample.1 in
    let low = (subst IsValidSample same valid).few_frames in
    omega (arith, count, low)

pub few_samples : (p : Placed) (m : Module) (at : ℕ) → Shows p m → length (samples_of (ids_of p) at) ≤ 16
few_samples p m at shows = by_case (slice_get (ids_of p).instruments at) refl
  where
    by_case : (o : Option InstrumentIds) → slice_get (ids_of p).instruments at ≡ o → length (samples_if o) ≤ 16
    by_case None is = omega arith
    by_case (Some y) is =
        let one = instrument_shown p m at y shows is in
        let few = one.1.few_samples in
        omega (arith, few, one.2.each.count)

-- ---- its indexes

abbrev pub index_root : IndexIds → ℕ
index_root index = index.root

abbrev index_here : List ℕ → ℕ → ℕ → IndexIds
index_here pool root k = index_walk pool (bodies_of_index (bodies_in pool root) k) (id_at pool root 16 k)

pub index_number : (pool : List ℕ) (root : ℕ) → length (sample_walk pool root).indexes ≡ pieces_of (bodies_in pool root) 1024
unfolding sample_walk
index_number pool root = length_below (pieces_of (bodies_in pool root) 1024) (index_here pool root)

index_there : (pool : List ℕ) (root k : ℕ) → k < pieces_of (bodies_in pool root) 1024
    → slice_get (sample_walk pool root).indexes k ≡ Some (index_here pool root k)
unfolding sample_walk
index_there pool root k lt = below_at (pieces_of (bodies_in pool root) 1024) (index_here pool root) k lt

pub index_read : (pool : List ℕ) (x : SampleIds) (root k id : ℕ) → x ≡ sample_walk pool root
    → k < pieces_of (bodies_in pool root) 1024 → id ≡ id_at pool root 16 k → Some id ≡ slice_get (index_roots x) k
index_read pool x root k id is lt at =
    ap (λ (s : ℕ). Some s) at
    ∙ sym (root_there index_root (sample_walk pool root).indexes k (index_here pool root k) (index_there pool root k lt))
    ∙ sym (ap (λ (z : SampleIds). slice_get (index_roots z) k) is)

pub index_absent : (x : SampleIds) (k : ℕ) → length x.indexes ≤ k → slice_get (index_roots x) k ≡ None
index_absent x k le = root_absent index_root x.indexes k (slice_get_past x.indexes k le)

pub index_used : (x : SampleIds) (k r : ℕ) → Some r ≡ slice_get (index_roots x) k → 1 ≤ sample_uses r x
index_used x k r is =
    let one = Rattle.ft_placed.proofs.Lists.of_root index_root x.indexes k r (sym is) in
    let part = part_of_sum (index_uses r) x.indexes k one.0 one.1 in
    let it : is_it r one.0.root ≡ 1 = ap (is_it r) one.2 ∙ itself r in
    omega (arith, part, it)

-- ---- its bodies

bodies_are : (pool : List ℕ) (root : ℕ) → body_ids (sample_walk pool root)
    ≡ pieces (λ k j. id_at pool (id_at pool root 16 k) 0 j) (bodies_in pool root) 0 (pieces_of (bodies_in pool root) 1024)
unfolding sample_walk
bodies_are pool root =
    flat_map-map (λ (index : IndexIds). index.bodies) (index_here pool root) (range_with_len 0 (pieces_of (bodies_in pool root) 1024))

pub body_number : (pool : List ℕ) (root : ℕ) → length (body_ids (sample_walk pool root)) ≡ bodies_in pool root
body_number pool root =
    let n = bodies_in pool root in
    let many = length_pieces (λ k j. id_at pool (id_at pool root 16 k) 0 j) n 0 (pieces_of n 1024) in
    ap (λ (xs : List ℕ). length xs) (bodies_are pool root) ∙ omega (arith, many)

pub body_read : (pool : List ℕ) (x : SampleIds) (root b index id : ℕ) → x ≡ sample_walk pool root → b < bodies_in pool root
    → Some index ≡ slice_get (index_roots x) (b / 1024) → id ≡ id_at pool index 0 (b % 1024)
    → Some id ≡ slice_get (body_ids x) b
body_read pool x root b index id is lt named at =
    let n = bodies_in pool root in
    let f : ℕ → ℕ → ℕ = λ k j. id_at pool (id_at pool root 16 k) 0 j in
    let from_0 : b / 1024 ≡ 0 + b / 1024 = omega arith in
    let here : Some (id_at pool root 16 (b / 1024)) ≡ slice_get (index_roots x) (b / 1024)
    = index_read pool x root (b / 1024) (id_at pool root 16 (b / 1024)) is (omega (arith, lt)) refl in
    let same : index ≡ id_at pool root 16 (b / 1024) = Rattle.std.proofs.lemmas.Option.same_Some index _ (named ∙ sym here) in
    ap (λ (s : ℕ). Some s) (at ∙ ap (λ (i : ℕ). id_at pool i 0 (b % 1024)) same)
    ∙ ap (λ (k : ℕ). Some (id_at pool (id_at pool root 16 k) 0 (b % 1024))) from_0
    ∙ sym (in_pieces f n 0 (pieces_of n 1024) b (omega (arith, lt)) (omega (arith, lt)))
    ∙ sym (ap (λ (xs : List ℕ). slice_get xs b) (bodies_are pool root))
    ∙ sym (ap (λ (z : SampleIds). slice_get (body_ids z) b) is)

-- each body that is there has its index
pub body_indexed : (pool : List ℕ) (x : SampleIds) (root b : ℕ) → x ≡ sample_walk pool root → b < bodies_in pool root
    → None ≡ slice_get (index_roots x) (b / 1024) → None ≡ slice_get (body_ids x) b
body_indexed pool x root b is lt none =
    absurd (none-some (id_at pool root 16 (b / 1024))
    (none ∙ sym (index_read pool x root (b / 1024) (id_at pool root 16 (b / 1024)) is (omega (arith, lt)) refl)))

pub body_absent : (pool : List ℕ) (x : SampleIds) (root b : ℕ) → x ≡ sample_walk pool root → bodies_in pool root ≤ b
    → slice_get (body_ids x) b ≡ None
body_absent pool x root b is le =
    ap (λ (z : SampleIds). slice_get (body_ids z) b) is
    ∙ slice_get_past (body_ids (sample_walk pool root)) b (omega (arith, le, body_number pool root))
