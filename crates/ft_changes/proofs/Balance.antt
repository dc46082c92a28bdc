-- The segments after an edit and those that it drops are, together, those before it and the fresh.
use Rattle.std.proofs.Common.{◌≡◌, ℕ, ◌+◌, ◌-◌, List, [], ◌∷◌, Some, length, drop, set, ap, ◌∙◌, arith}
use Rattle.std.specs.Prelude.{slice_get, slice_index}
use Rattle.std.specs.List.{sum_by}
use Rattle.std.proofs.lemmas.List.Sums.{sum_by-cons, sum_by-set}
use Rattle.ft_edits.specs.Lists.{without_last}
use Rattle.ft_segments.specs.Walk.{PatternIds, SampleIds, InstrumentIds, SongIds, is_it, pattern_uses, index_uses, sample_uses, instrument_uses, uses}
use Rattle.ft_changes.specs.declared.reach.Reach.TheVariants as reaches
use Rattle.ft_changes.specs.Parts.{put, pattern_segments, sample_segments, instrument_segments, segments_if}
use Rattle.ft_changes.specs.Ids.{bodies_if, samples_if, indexes_if, bodies_at, samples_of, indexes_at, with_samples_at, with_bodies_at, ids_after, indexes_after}
use Rattle.ft_changes.specs.Dropped.{instrument_root_of, sample_root_of, root_and_body, root_and_stretch, root_and_sample, root_and_last, dropped_of_pattern, dropped_of_instrument}
use Rattle.ft_changes.specs.Fits.{TakesFresh}
use Rattle.ft_changes.specs.Laws.{named_in, SegmentsBalance}
use Rattle.ft_changes.proofs.Sums.{put_part, put_whole, put_if, last_whole, of_pattern, of_sample, of_instrument}
use Rattle.ft_changes.proofs.Stretches.{first_one, first_two, first_three, none_left, stretch_balance}

-- a pattern becomes another
pattern_put : (s : ℕ) (ids : SongIds) (p : ℕ) (x : PatternIds) (bodies fresh : List ℕ) (segments : PatternIds → List ℕ)
    → slice_get ids.patterns p ≡ Some x
    → is_it s (slice_index fresh 0) + is_it s (slice_index fresh 1) + named_in s bodies + named_in s (segments x)
    ≡ pattern_uses s x + named_in s fresh
    → uses s (with_bodies_at p bodies fresh ids) + named_in s (dropped_of_pattern segments p ids)
    ≡ uses s ids + named_in s fresh
pattern_put s ids p x bodies fresh segments found same =
    let y : PatternIds = record { root = slice_index fresh 1; bodies = bodies } in
    let a = put_part (pattern_uses s) ids.patterns p x y (is_it s (slice_index fresh 0) + named_in s (segments x)) (named_in s fresh)
    found (omega (arith, same)) in
    let d : named_in s (segments_if segments (slice_get ids.patterns p)) ≡ named_in s (segments x) =
    ap (λ o. named_in s (segments_if segments o)) found in
    let e = sum_by-cons (is_it s) ids.root (segments_if segments (slice_get ids.patterns p)) in
    omega (arith, a, d, e)

-- an instrument becomes another
instrument_put : (s : ℕ) (ids : SongIds) (at : ℕ) (x : InstrumentIds) (samples : List SampleIds) (fresh : List ℕ)
    (segments : InstrumentIds → List ℕ)
    → slice_get ids.instruments at ≡ Some x
    → is_it s (slice_index fresh 0) + is_it s (slice_index fresh 1) + sum_by (sample_uses s) samples + named_in s (segments x)
    ≡ instrument_uses s x + named_in s fresh
    → uses s (with_samples_at at samples fresh ids) + named_in s (dropped_of_instrument segments at ids)
    ≡ uses s ids + named_in s fresh
instrument_put s ids at x samples fresh segments found same =
    let y : InstrumentIds = record { root = slice_index fresh 1; samples = samples } in
    let a = put_part (instrument_uses s) ids.instruments at x y (is_it s (slice_index fresh 0) + named_in s (segments x)) (named_in s fresh)
    found (omega (arith, same)) in
    let d : named_in s (segments_if segments (slice_get ids.instruments at)) ≡ named_in s (segments x) =
    ap (λ o. named_in s (segments_if segments o)) found in
    let e = sum_by-cons (is_it s) ids.root (segments_if segments (slice_get ids.instruments at)) in
    omega (arith, a, d, e)

cell_balance : (s p b : ℕ) (fresh : List ℕ) (ids : SongIds) → TakesFresh (reaches.Cell p b) fresh ids
    → uses s (ids_after (reaches.Cell p b) fresh ids) + named_in s (dropped_of_pattern (root_and_body b) p ids)
    ≡ uses s ids + named_in s fresh
cell_balance s p b fresh ids fits =
    let x = fits.there.pattern in
    let e : bodies_at ids p ≡ x.bodies = ap bodies_if fits.there.there in
    let c : named_in s (set (bodies_at ids p) b (slice_index fresh 2)) ≡ named_in s (set x.bodies b (slice_index fresh 2)) =
    ap (λ bs. named_in s (set bs b (slice_index fresh 2))) e in
    let d = sum_by-set (is_it s) x.bodies b (slice_index fresh 2) 0 fits.there.below in
    let f = first_three s fresh (omega (arith, fits.count)) in
    let n = none_left s 3 fresh fits.count in
    let g = sum_by-cons (is_it s) x.root (slice_index x.bodies b ∷ []) in
    let h = sum_by-cons (is_it s) (slice_index x.bodies b) [] in
    pattern_put s ids p x (set (bodies_at ids p) b (slice_index fresh 2)) fresh (root_and_body b) fits.there.there
    (omega (arith, c, d, f, n, g, h))

whole_balance : (s p n : ℕ) (fresh : List ℕ) (ids : SongIds) → TakesFresh (reaches.Pattern p n) fresh ids
    → uses s (with_bodies_at p (drop 2 fresh) fresh ids) + named_in s (dropped_of_pattern pattern_segments p ids)
    ≡ uses s ids + named_in s fresh
whole_balance s p n fresh ids fits =
    let y : PatternIds = record { root = slice_index fresh 1; bodies = drop 2 fresh } in
    let a = put_whole (pattern_uses s) pattern_segments s (of_pattern s) ids.patterns p y fits.there in
    let e = sum_by-cons (is_it s) ids.root (segments_if pattern_segments (slice_get ids.patterns p)) in
    let f = first_two s fresh (omega (arith, fits.count)) in
    omega (arith, a, e, f)

last_balance : (s : ℕ) (fresh : List ℕ) (ids : SongIds) → TakesFresh reaches.LastPattern fresh ids
    → uses s (ids_after reaches.LastPattern fresh ids) + named_in s (dropped_of_pattern pattern_segments (length ids.patterns - 1) ids)
    ≡ uses s ids + named_in s fresh
last_balance s fresh ids fits =
    let a = last_whole (pattern_uses s) pattern_segments s (of_pattern s) ids.patterns in
    let e = sum_by-cons (is_it s) ids.root (segments_if pattern_segments (slice_get ids.patterns (length ids.patterns - 1))) in
    let f = first_one s fresh (omega (arith, fits.count)) in
    let n = none_left s 1 fresh fits.count in
    omega (arith, a, e, f, n)

bare_balance : (s at : ℕ) (fresh : List ℕ) (ids : SongIds) → TakesFresh (reaches.Bare at) fresh ids
    → uses s (with_samples_at at [] fresh ids) + named_in s (dropped_of_instrument instrument_segments at ids)
    ≡ uses s ids + named_in s fresh
bare_balance s at fresh ids fits =
    let y : InstrumentIds = record { root = slice_index fresh 1; samples = [] } in
    let a = put_whole (instrument_uses s) instrument_segments s (of_instrument s) ids.instruments at y fits.there in
    let e = sum_by-cons (is_it s) ids.root (segments_if instrument_segments (slice_get ids.instruments at)) in
    let f = first_two s fresh (omega (arith, fits.count)) in
    let n = none_left s 2 fresh fits.count in
    omega (arith, a, e, f, n)

root_balance : (s at : ℕ) (fresh : List ℕ) (ids : SongIds) → TakesFresh (reaches.Instrument at) fresh ids
    → uses s (with_samples_at at (samples_of ids at) fresh ids) + named_in s (dropped_of_instrument instrument_root_of at ids)
    ≡ uses s ids + named_in s fresh
root_balance s at fresh ids fits =
    let x = fits.there.instrument in
    let e : sum_by (sample_uses s) (samples_of ids at) ≡ sum_by (sample_uses s) x.samples =
    ap (λ o. sum_by (sample_uses s) (samples_if o)) fits.there.there in
    let f = first_two s fresh (omega (arith, fits.count)) in
    let n = none_left s 2 fresh fits.count in
    let g = sum_by-cons (is_it s) x.root [] in
    instrument_put s ids at x (samples_of ids at) fresh instrument_root_of fits.there.there (omega (arith, e, f, n, g))

last_sample_balance : (s at : ℕ) (fresh : List ℕ) (ids : SongIds) → TakesFresh (reaches.LastSample at) fresh ids
    → uses s (with_samples_at at (without_last (samples_of ids at)) fresh ids) + named_in s (dropped_of_instrument root_and_last at ids)
    ≡ uses s ids + named_in s fresh
last_sample_balance s at fresh ids fits =
    let x = fits.there.instrument in
    let e : sum_by (sample_uses s) (without_last (samples_of ids at)) ≡ sum_by (sample_uses s) (without_last x.samples) =
    ap (λ o. sum_by (sample_uses s) (without_last (samples_if o))) fits.there.there in
    let a = last_whole (sample_uses s) sample_segments s (of_sample s) x.samples in
    let f = first_two s fresh (omega (arith, fits.count)) in
    let n = none_left s 2 fresh fits.count in
    let g = sum_by-cons (is_it s) x.root (segments_if sample_segments (slice_get x.samples (length x.samples - 1))) in
    instrument_put s ids at x (without_last (samples_of ids at)) fresh root_and_last fits.there.there (omega (arith, a, e, f, n, g))

sample_balance : (s at k : ℕ) (fresh : List ℕ) (ids : SongIds) → TakesFresh (reaches.Sample at k) fresh ids
    → uses s (ids_after (reaches.Sample at k) fresh ids) + named_in s (dropped_of_instrument (root_and_sample sample_root_of k) at ids)
    ≡ uses s ids + named_in s fresh
sample_balance s at k fresh ids fits =
    let x = fits.there.instrument in
    let y : SampleIds = record { root = slice_index fresh 2; indexes = indexes_at ids at k } in
    let e : sum_by (sample_uses s) (put k y (samples_of ids at)) ≡ sum_by (sample_uses s) (put k y x.samples) =
    ap (λ o. sum_by (sample_uses s) (put k y (samples_if o))) fits.there.there in
    let i : indexes_at ids at k ≡ indexes_if (slice_get x.samples k) =
    ap (λ o. indexes_if (slice_get (samples_if o) k)) fits.there.there in
    let a = put_if (sample_uses s) sample_root_of s x.samples k y (is_it s (slice_index fresh 2)) fits.there.holds
    (λ none.
    let j : sum_by (index_uses s) (indexes_at ids at k) ≡ 0 = ap (sum_by (index_uses s)) (i ∙ ap indexes_if none) in
    omega (arith, j))
    (λ q some.
    let j : sum_by (index_uses s) (indexes_at ids at k) ≡ sum_by (index_uses s) q.indexes =
    ap (sum_by (index_uses s)) (i ∙ ap indexes_if some) in
    let t = sum_by-cons (is_it s) q.root [] in
    omega (arith, j, t)) in
    let f = first_three s fresh (omega (arith, fits.count)) in
    let n = none_left s 3 fresh fits.count in
    let g = sum_by-cons (is_it s) x.root (segments_if sample_root_of (slice_get x.samples k)) in
    instrument_put s ids at x (put k y (samples_of ids at)) fresh (root_and_sample sample_root_of k) fits.there.there
    (omega (arith, a, e, f, n, g))

frames_balance : (s at k first last gone : ℕ) (fresh : List ℕ) (ids : SongIds) → TakesFresh (reaches.Frames at k first last gone) fresh ids
    → uses s (ids_after (reaches.Frames at k first last gone) fresh ids)
    + named_in s (dropped_of_instrument (root_and_sample (root_and_stretch first gone) k) at ids)
    ≡ uses s ids + named_in s fresh
frames_balance s at k first last gone fresh ids fits =
    let x = fits.there.instrument in
    let q = fits.there.holds.sample in
    let indexes = indexes_after first last gone fresh (indexes_at ids at k) in
    let y : SampleIds = record { root = slice_index fresh 2; indexes = indexes } in
    let i : indexes_at ids at k ≡ q.indexes =
    ap (λ o. indexes_if (slice_get (samples_if o) k)) fits.there.there ∙ ap indexes_if fits.there.holds.there in
    let j : sum_by (index_uses s) indexes ≡ sum_by (index_uses s) (indexes_after first last gone fresh q.indexes) =
    ap (λ is. sum_by (index_uses s) (indexes_after first last gone fresh is)) i in
    let e : sum_by (sample_uses s) (put k y (samples_of ids at)) ≡ sum_by (sample_uses s) (put k y x.samples) =
    ap (λ o. sum_by (sample_uses s) (put k y (samples_if o))) fits.there.there in
    let b = stretch_balance s first last gone fresh q fits.there.holds.stretch fits.count in
    let a = put_part (sample_uses s) x.samples k q y
    (is_it s (slice_index fresh 0) + is_it s (slice_index fresh 1) + named_in s (root_and_stretch first gone q))
    (named_in s fresh) fits.there.holds.there (omega (arith, b, j)) in
    let d : named_in s (segments_if (root_and_stretch first gone) (slice_get x.samples k)) ≡ named_in s (root_and_stretch first gone q) =
    ap (λ o. named_in s (segments_if (root_and_stretch first gone) o)) fits.there.holds.there in
    let g = sum_by-cons (is_it s) x.root (segments_if (root_and_stretch first gone) (slice_get x.samples k)) in
    instrument_put s ids at x (put k y (samples_of ids at)) fresh (root_and_sample (root_and_stretch first gone) k) fits.there.there
    (omega (arith, a, e, d, g))

pub balance : SegmentsBalance
balance reaches.Song fresh ids s fits =
    let f = first_one s fresh (omega (arith, fits.count)) in
    let n = none_left s 1 fresh fits.count in
    let e = sum_by-cons (is_it s) ids.root [] in
    omega (arith, f, n, e)
balance reaches.LastPattern fresh ids s fits = last_balance s fresh ids fits
balance (reaches.Cell p b) fresh ids s fits = cell_balance s p b fresh ids fits
balance (reaches.Pattern p n) fresh ids s fits = whole_balance s p n fresh ids fits
balance (reaches.Instrument at) fresh ids s fits = root_balance s at fresh ids fits
balance (reaches.Bare at) fresh ids s fits = bare_balance s at fresh ids fits
balance (reaches.LastSample at) fresh ids s fits = last_sample_balance s at fresh ids fits
balance (reaches.Sample at k) fresh ids s fits = sample_balance s at k fresh ids fits
balance (reaches.Frames at k first last gone) fresh ids s fits = frames_balance s at k first last gone fresh ids fits
