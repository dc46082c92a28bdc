-- Each part of a song is one segment, by which it can be found again.
use Rattle.std.proofs.Common.{◌≡◌, ℕ, ◌+◌, ◌-◌, ◌*◌, ◌/◌, ◌%◌, ◌≤◌, List, [], ◌∷◌, Option, Some, None, length, true, false, Bool, cond, eqb, refl, sym, ap, subst, ◌∙◌, arith}
use Rattle.std.specs.Prelude.{option_map, slice_index}
use Rattle.std.specs.Option.{option_and_then}
use Rattle.std.specs.List.{slice_get}
use Rattle.std.proofs.lemmas.List.FromFn.{length-map-range_with_len, get_or-map-range_with_len}
use Rattle.std.proofs.lemmas.Bool.{eqb-true}
use Rattle.std.proofs.lemmas.Option.{slice_get_within, same_Some, none-some, get_or_from_slice_get}
use Rattle.ft_types.specs.Blocks.{pieces_of}
use Rattle.ft_segments.specs.Packing.{id_at}
use Rattle.ft_segments.specs.Walk.{PatternIds, IndexIds, SampleIds, InstrumentIds, SongIds, Placed, ids_of, walk, uses, is_it, pattern_uses, index_uses, sample_uses, instrument_uses, sample_walk, index_walk, instrument_walk, each_below, bodies_in, bodies_of_index, instruments_in, samples_in}
use Rattle.ft_shared.specs.declared.law.PlacedVersion.{PlacedVersion}
use Rattle.ft_shared.specs.declared.law.Account.{Account}
use Rattle.ft_shared.specs.History.{placed_at, root_and_pool}
use Rattle.ft_desk.specs.Parts.{Part, SongRoot, PatternRoot, PatternBody, InstrumentRoot, SampleRoot, SampleIndex, SampleBody, PlacedPart, BornPart, one_part, numbered, pattern_parts, index_parts, sample_parts, instrument_parts, song_parts, part_of, entry_of, born_in, part_born_at}
use Rattle.ft_desk.specs.Laws.{SegmentsAreParts, PartsDiffer, EntriesDiffer}
use Rattle.ft_desk.proofs.Numbered.{Each, each_of_both, each_numbered, found_is, times, times_of_both, times_numbered, named_is_found, found_is_named}

-- ---- the segment of a part

abbrev sample_ids : SongIds → ℕ → ℕ → Option SampleIds
sample_ids ids i s = option_and_then (λ (x : InstrumentIds). slice_get x.samples s) (slice_get ids.instruments (i - 1))

abbrev index_ids : SongIds → ℕ → ℕ → ℕ → Option IndexIds
index_ids ids i s k = option_and_then (λ (x : SampleIds). slice_get x.indexes k) (sample_ids ids i s)

abbrev segment_of : SongIds → Part → Option ℕ
segment_of ids SongRoot = Some ids.root
segment_of ids (PatternRoot p) = option_map (λ (q : PatternIds). q.root) (slice_get ids.patterns p)
segment_of ids (PatternBody p b) = option_and_then (λ (q : PatternIds). slice_get q.bodies b) (slice_get ids.patterns p)
segment_of ids (InstrumentRoot i) = option_map (λ (x : InstrumentIds). x.root) (slice_get ids.instruments (i - 1))
segment_of ids (SampleRoot i s) = option_map (λ (x : SampleIds). x.root) (sample_ids ids i s)
segment_of ids (SampleIndex i s k) = option_map (λ (x : IndexIds). x.root) (index_ids ids i s k)
segment_of ids (SampleBody i s b) = option_and_then (λ (x : IndexIds). slice_get x.bodies (b % 1024)) (index_ids ids i s (b / 1024))

abbrev IsAt : SongIds → PlacedPart → Type 0
IsAt ids x = segment_of ids x.part ≡ Some x.segment

-- each index names at most 1,024 bodies
abbrev AreNarrow : SongIds → Type 0
AreNarrow ids = (i s k : ℕ) (x : IndexIds) → index_ids ids i s k ≡ Some x → length x.bodies ≤ 1024

patterns_at : (ids : SongIds) (p : ℕ) (q : PatternIds) → slice_get ids.patterns p ≡ Some q → Each (IsAt ids) (pattern_parts p q)
patterns_at ids p q is = (
  ap (option_map (λ (q : PatternIds). q.root)) is,
  each_numbered (IsAt ids) (λ b body. one_part body (PatternBody p b)) 0 q.bodies
      (λ k m body at e. (
        let same : m ≡ k = omega arith in
            ap (option_and_then (λ (q : PatternIds). slice_get q.bodies m)) is ∙ (ap (slice_get q.bodies) same ∙ at),
        tt,
      )),
)

indexes_at : (ids : SongIds) → AreNarrow ids → (i s k : ℕ) (x : IndexIds) → index_ids ids i s k ≡ Some x → Each (IsAt ids) (index_parts i s k x)
indexes_at ids narrow i s k x is = (
  ap (option_map (λ (x : IndexIds). x.root)) is,
  each_numbered (IsAt ids) (λ j body. one_part body (SampleBody i s (1024 * k + j))) 0 x.bodies
      (λ j m body at e. (
        let few = narrow i s k x is in
            let within = slice_get_within x.bodies j body at in
            let index : (1024 * k + m) / 1024 ≡ k = omega arith in
            let place : (1024 * k + m) % 1024 ≡ j = omega arith in
            ap (λ (n : ℕ). option_and_then (λ (y : IndexIds). slice_get y.bodies ((1024 * k + m) % 1024)) (index_ids ids i s n)) index
            ∙ (ap (option_and_then (λ (y : IndexIds). slice_get y.bodies ((1024 * k + m) % 1024))) is ∙ (ap (slice_get x.bodies) place ∙ at)),
        tt,
      )),
)

samples_at : (ids : SongIds) → AreNarrow ids → (i s : ℕ) (x : SampleIds) → sample_ids ids i s ≡ Some x → Each (IsAt ids) (sample_parts i s x)
samples_at ids narrow i s x is = (
  ap (option_map (λ (x : SampleIds). x.root)) is,
  each_numbered (IsAt ids) (index_parts i s) 0 x.indexes
      (λ k m y at e.
      let same : m ≡ k = omega arith in
      indexes_at ids narrow i s m y
      (ap (option_and_then (λ (x : SampleIds). slice_get x.indexes m)) is ∙ (ap (slice_get x.indexes) same ∙ at))),
)

instruments_at : (ids : SongIds) → AreNarrow ids → (i : ℕ) (x : InstrumentIds) → slice_get ids.instruments (i - 1) ≡ Some x
    → Each (IsAt ids) (instrument_parts i x)
instruments_at ids narrow i x is = (
  ap (option_map (λ (x : InstrumentIds). x.root)) is,
  each_numbered (IsAt ids) (sample_parts i) 0 x.samples
      (λ s m y at e.
      let same : m ≡ s = omega arith in
      samples_at ids narrow i m y
      (ap (option_and_then (λ (x : InstrumentIds). slice_get x.samples m)) is ∙ (ap (slice_get x.samples) same ∙ at))),
)

all_at : (ids : SongIds) → AreNarrow ids → Each (IsAt ids) (song_parts ids)
all_at ids narrow = (
  refl,
  each_of_both (IsAt ids) (numbered pattern_parts 0 ids.patterns) (numbered instrument_parts 1 ids.instruments)
      (each_numbered (IsAt ids) pattern_parts 0 ids.patterns
      (λ k m q at e. let same : m ≡ k = omega arith in patterns_at ids m q (ap (slice_get ids.patterns) same ∙ at)))
      (each_numbered (IsAt ids) instrument_parts 1 ids.instruments
      (λ k m x at e. let same : m - 1 ≡ k = omega arith in instruments_at ids narrow m x (ap (slice_get ids.instruments) same ∙ at))),
)

-- ---- the songs of versions

below_is : {A : Type 0} → (n : ℕ) (f : ℕ → A) (k : ℕ) (x : A) → slice_get (each_below n f) k ≡ Some x → f k ≡ x
below_is n f k x is =
    let len = length-map-range_with_len f 0 n in
    let lt = slice_get_within (each_below n f) k x is in
    sym (get_or-map-range_with_len f 0 n k k x (omega arith) (omega arith)) ∙ get_or_from_slice_get (each_below n f) k x x is

-- what is there of an optional value that is looked into
some_then : {A B : Type 0} → (f : A → Option B) (o : Option A) (y : B) → option_and_then f o ≡ Some y
    → (x : A) × (o ≡ Some x) × (f x ≡ Some y)
some_then f None y is = absurd (none-some y is)
some_then f (Some x) y is = (x, refl, is)

narrow : (placed : Placed) → AreNarrow (ids_of placed)
unfolding walk sample_walk
narrow placed i s k index is =
    let p = placed.pool in
    let a = some_then (λ (x : SampleIds). slice_get x.indexes k) (sample_ids (ids_of placed) i s) index is in
    let sample = a.0 in
    let b = some_then (λ (x : InstrumentIds). slice_get x.samples s) (slice_get (ids_of placed).instruments (i - 1)) sample a.1 in
    let instrument = b.0 in
    let root = id_at p placed.root 104 (i - 1) in
    let one : instrument_walk p root ≡ instrument
    = below_is (instruments_in p placed.root) (λ n. instrument_walk p (id_at p placed.root 104 n)) (i - 1) instrument b.1 in
    let there : slice_get (instrument_walk p root).samples s ≡ Some sample = ap (λ (x : InstrumentIds). slice_get x.samples s) one ∙ b.2 in
    let two : sample_walk p (id_at p root 30 s) ≡ sample
    = below_is (samples_in p root) (λ n. sample_walk p (id_at p root 30 n)) s sample there in
    let from = id_at p root 30 s in
    let here : slice_get (sample_walk p from).indexes k ≡ Some index = ap (λ (x : SampleIds). slice_get x.indexes k) two ∙ a.2 in
    let bodies = bodies_in p from in
    let three : index_walk p (bodies_of_index bodies k) (id_at p from 16 k) ≡ index
    = below_is (pieces_of bodies 1024) (λ n. index_walk p (bodies_of_index bodies n) (id_at p from 16 n)) k index here in
    let long = length-map-range_with_len (λ j. id_at p (id_at p from 16 k) 0 j) 0 (bodies_of_index bodies k) in
    let same : length (index_walk p (bodies_of_index bodies k) (id_at p from 16 k)).bodies ≡ length index.bodies
    = ap (λ (x : IndexIds). length x.bodies) three in
    omega arith

pub parts_differ : PartsDiffer
unfolding part_of
parts_differ placed one other part is at =
    let ids = ids_of placed in
    let a : segment_of ids part ≡ Some one = found_is (IsAt ids) (song_parts ids) one part (all_at ids (narrow placed)) is in
    let b : segment_of ids part ≡ Some other = found_is (IsAt ids) (song_parts ids) other part (all_at ids (narrow placed)) at in
    same_Some one other (sym a ∙ b)

-- ---- all segments are parts

pattern_times : (segment p : ℕ) (q : PatternIds) → times segment (pattern_parts p q) ≡ pattern_uses segment q
pattern_times segment p q =
    let e = times_numbered segment (λ b body. one_part body (PatternBody p b)) (is_it segment) 0 q.bodies (λ m x. omega arith) in omega arith

index_times : (segment i s k : ℕ) (x : IndexIds) → times segment (index_parts i s k x) ≡ index_uses segment x
index_times segment i s k x =
    let e = times_numbered segment (λ j body. one_part body (SampleBody i s (1024 * k + j))) (is_it segment) 0 x.bodies (λ m y. omega arith) in
    omega arith

sample_times : (segment i s : ℕ) (x : SampleIds) → times segment (sample_parts i s x) ≡ sample_uses segment x
sample_times segment i s x =
    let e = times_numbered segment (index_parts i s) (index_uses segment) 0 x.indexes (λ m y. index_times segment i s m y) in omega arith

instrument_times : (segment i : ℕ) (x : InstrumentIds) → times segment (instrument_parts i x) ≡ instrument_uses segment x
instrument_times segment i x =
    let e = times_numbered segment (sample_parts i) (sample_uses segment) 0 x.samples (λ m y. sample_times segment i m y) in omega arith

song_times : (segment : ℕ) (ids : SongIds) → times segment (song_parts ids) ≡ uses segment ids
song_times segment ids =
    let a = times_of_both segment (numbered pattern_parts 0 ids.patterns) (numbered instrument_parts 1 ids.instruments) in
    let b = times_numbered segment pattern_parts (pattern_uses segment) 0 ids.patterns (λ m q. pattern_times segment m q) in
    let c = times_numbered segment instrument_parts (instrument_uses segment) 1 ids.instruments (λ m x. instrument_times segment m x) in
    omega arith

pub segments_are_parts : SegmentsAreParts
unfolding part_of
segments_are_parts placed segment =
    let e = song_times segment (ids_of placed) in (
      λ of. named_is_found (song_parts (ids_of placed)) segment (omega arith),
      λ some. let n = found_is_named (song_parts (ids_of placed)) segment some in omega arith,
    )

-- ---- the list of parts

-- a version of a history by its number has this number
numbered_so : (history : List PlacedVersion) (version : ℕ) (placed : PlacedVersion) → placed_at history version ≡ Some placed
    → placed.version ≡ version
numbered_so [] version placed is = absurd (none-some placed is)
numbered_so (first ∷ history) version placed is = at (eqb first.version version) refl is (λ f. numbered_so history version placed f)
  where
    at : (b : Bool) → eqb first.version version ≡ b → cond b (Some first) (placed_at history version) ≡ Some placed
        → (placed_at history version ≡ Some placed → placed.version ≡ version) → placed.version ≡ version
    at true e f rest = subst (λ (p : PlacedVersion). p.version ≡ version) (same_Some first placed f) (eqb-true first.version version e)
    at false e f rest = rest f

some_map : (version : ℕ) (o : Option Part) (entry : BornPart) → part_born_at version o ≡ Some entry
    → (version ≡ entry.birth) × (o ≡ Some entry.part)
some_map version None entry is = absurd (none-some entry is)
some_map version (Some part) entry is =
    let e = same_Some (record { part = part; birth = version }) entry is in
    (ap (λ (x : BornPart). x.birth) e, ap (λ (x : BornPart). Some x.part) e)

-- an entry is of a version of the history, of its birth
born : (account : Account) (segment : ℕ) (entry : BornPart) → entry_of account segment ≡ Some entry
    → (placed : PlacedVersion) × (placed_at account.history entry.birth ≡ Some placed)
    × (part_of (ids_of (root_and_pool placed)) segment ≡ Some entry.part)
born account segment entry is =
    let version = slice_index account.filled segment in
    at (placed_at account.history version) (λ placed e. numbered_so account.history version placed e) refl is
  where
    at : (o : Option PlacedVersion)
        → ((placed : PlacedVersion) → placed_at account.history (slice_index account.filled segment) ≡ Some placed
        → placed.version ≡ slice_index account.filled segment)
        → placed_at account.history (slice_index account.filled segment) ≡ o → born_in o segment ≡ Some entry
        → (placed : PlacedVersion) × (placed_at account.history entry.birth ≡ Some placed)
        × (part_of (ids_of (root_and_pool placed)) segment ≡ Some entry.part)
    at None number e f = absurd (none-some entry f)
    at (Some placed) number e f =
        let g = some_map placed.version (part_of (ids_of (root_and_pool placed)) segment) entry f in
        (placed, ap (placed_at account.history) (sym g.0 ∙ number placed e) ∙ e, g.1)

pub entries_differ : EntriesDiffer
entries_differ account one other entry is at =
    let a = born account one entry is in
    let b = born account other entry at in
    let same : a.0 ≡ b.0 = same_Some a.0 b.0 (sym a.1 ∙ b.1) in
    let there : part_of (ids_of (root_and_pool a.0)) other ≡ Some entry.part
    = ap (λ (p : PlacedVersion). part_of (ids_of (root_and_pool p)) other) same ∙ b.2 in
    parts_differ (root_and_pool a.0) one other entry.part a.2 there
