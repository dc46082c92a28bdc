-- The segments that an edit drops are of those before it.
use Rattle.std.proofs.Common.{◌≡◌, ℕ, ◌-◌, ◌/◌, ◌<◌, ◌≤◌, List, [], ◌∷◌, ◌++◌, Option, Some, length, sym, subst, arith}
use Rattle.std.specs.Prelude.{slice_get, slice_index}
use Rattle.std.proofs.lemmas.List.Sums.{sum_by-cons, sum_by-append, get_or-le-sum_by}
use Rattle.ft_types.specs.Blocks.{pieces_of}
use Rattle.ft_edits.specs.Lists.{stretch_of}
use Rattle.ft_segments.specs.Walk.{PatternIds, SampleIds, InstrumentIds, SongIds, is_it, pattern_uses, sample_uses, instrument_uses, uses}
use Rattle.ft_changes.specs.declared.reach.Reach.TheVariants as reaches
use Rattle.ft_changes.specs.Parts.{pattern_segments, index_roots, body_ids, sample_segments, instrument_segments, segments_if}
use Rattle.ft_changes.specs.Dropped.{instrument_root_of, sample_root_of, root_and_body, root_and_stretch, root_and_sample, root_and_last, dropped_of_pattern, dropped_of_instrument}
use Rattle.ft_changes.specs.Laws.{named_in, DroppedWereUsed}
use Rattle.ft_changes.proofs.Sums.{if_le, stretch_part, of_pattern, of_indexes, of_sample, of_instrument}
use Rattle.ft_changes.proofs.Stretches.{counted}

of_patterns : (s p : ℕ) (ids : SongIds) (segments : PatternIds → List ℕ)
    → ((x : PatternIds) → slice_get ids.patterns p ≡ Some x → named_in s (segments x) ≤ pattern_uses s x)
    → named_in s (dropped_of_pattern segments p ids) ≤ uses s ids
of_patterns s p ids segments each =
    let a = if_le (pattern_uses s) segments s ids.patterns p each in
    let e = sum_by-cons (is_it s) ids.root (segments_if segments (slice_get ids.patterns p)) in
    omega (arith, a, e)

of_instruments : (s at : ℕ) (ids : SongIds) (segments : InstrumentIds → List ℕ)
    → ((x : InstrumentIds) → slice_get ids.instruments at ≡ Some x → named_in s (segments x) ≤ instrument_uses s x)
    → named_in s (dropped_of_instrument segments at ids) ≤ uses s ids
of_instruments s at ids segments each =
    let a = if_le (instrument_uses s) segments s ids.instruments at each in
    let e = sum_by-cons (is_it s) ids.root (segments_if segments (slice_get ids.instruments at)) in
    omega (arith, a, e)

of_one_sample : (s k : ℕ) (x : InstrumentIds) (segments : SampleIds → List ℕ)
    → ((q : SampleIds) → slice_get x.samples k ≡ Some q → named_in s (segments q) ≤ sample_uses s q)
    → named_in s (root_and_sample segments k x) ≤ instrument_uses s x
of_one_sample s k x segments each =
    let a = if_le (sample_uses s) segments s x.samples k each in
    let e = sum_by-cons (is_it s) x.root (segments_if segments (slice_get x.samples k)) in
    omega (arith, a, e)

of_stretch : (s first gone : ℕ) (q : SampleIds) → first ≤ gone → named_in s (root_and_stretch first gone q) ≤ sample_uses s q
of_stretch s first gone q le =
    let n = counted first gone gone gone le le (omega arith) in
    let r = stretch_part (is_it s) (index_roots q) [] (first / 1024) (pieces_of gone 1024) n.0 in
    let b = stretch_part (is_it s) (body_ids q) [] first gone le in
    let o = of_indexes s q.indexes in
    let d = sum_by-cons (is_it s) q.root
    (stretch_of (first / 1024) (pieces_of gone 1024) (index_roots q) ++ stretch_of first gone (body_ids q)) in
    let e = sum_by-append (is_it s) (stretch_of (first / 1024) (pieces_of gone 1024) (index_roots q))
    (stretch_of first gone (body_ids q)) in
    omega (arith, r, b, o, d, e)

-- where both options are the same, so is what they hold
same_one : {X : Type 0} (o : Option X) (x y : X) → o ≡ Some x → o ≡ Some y → x ≡ y
same_one o x y a b = cc

pub were_used : DroppedWereUsed
were_used reaches.Song ids s there = let e = sum_by-cons (is_it s) ids.root [] in omega (arith, e)
were_used reaches.LastPattern ids s there =
    of_patterns s (length ids.patterns - 1) ids pattern_segments (λ x found. omega (arith, of_pattern s x))
were_used (reaches.Cell p b) ids s there =
    of_patterns s p ids (root_and_body b)
    (λ x found.
    let same = same_one (slice_get ids.patterns p) x there.pattern found there.there in
    let below : b < length x.bodies = subst (λ (q : PatternIds). b < length q.bodies) (sym same) there.below in
    let a = get_or-le-sum_by (is_it s) x.bodies b 0 below in
    let g = sum_by-cons (is_it s) x.root (slice_index x.bodies b ∷ []) in
    let h = sum_by-cons (is_it s) (slice_index x.bodies b) [] in
    omega (arith, a, g, h))
were_used (reaches.Pattern p n) ids s there =
    of_patterns s p ids pattern_segments (λ x found. omega (arith, of_pattern s x))
were_used (reaches.Instrument at) ids s there =
    of_instruments s at ids instrument_root_of (λ x found. let g = sum_by-cons (is_it s) x.root [] in omega (arith, g))
were_used (reaches.Bare at) ids s there =
    of_instruments s at ids instrument_segments (λ x found. omega (arith, of_instrument s x))
were_used (reaches.LastSample at) ids s there =
    of_instruments s at ids root_and_last
    (λ x found. of_one_sample s (length x.samples - 1) x sample_segments (λ q is. omega (arith, of_sample s q)))
were_used (reaches.Sample at k) ids s there =
    of_instruments s at ids (root_and_sample sample_root_of k)
    (λ x found. of_one_sample s k x sample_root_of (λ q is. let g = sum_by-cons (is_it s) q.root [] in omega (arith, g)))
were_used (reaches.Frames at k first last gone) ids s there =
    of_instruments s at ids (root_and_sample (root_and_stretch first gone) k)
    (λ x found. of_one_sample s k x (root_and_stretch first gone)
    (λ q is. of_stretch s first gone q there.holds.stretch.gone_upward))
