-- The walk over words that stand for a song finds the ids by which they stand.
use Rattle.std.proofs.Common.{◌≡◌, ℕ, zero, suc, ◌+◌, ◌*◌, ◌/◌, ◌%◌, ◌<◌, ◌≤◌, List, [], ◌∷◌, Some, map, get_or, length, refl, sym, ap, subst, ◌∙◌, arith}
use Rattle.std.specs.List.{slice_get}
use Rattle.std.proofs.lemmas.Nat.{mul-le}
use Rattle.std.proofs.lemmas.List.FromFn.{fill_by_all}
use Rattle.std.proofs.lemmas.Option.{slice_get_within, get_or_from_slice_get, slice_get-get_or, none-some, same_Some}
use Rattle.ft_types.specs.declared.module.Module.{Module}
use Rattle.ft_types.specs.declared.pattern.Pattern.{Pattern}
use Rattle.ft_types.specs.declared.instrument.Instrument.{Instrument}
use Rattle.ft_types.specs.declared.sample.Sample.{Sample}
use Rattle.ft_types.specs.Valid.{IsValid, IsValidPattern, IsValidInstrument, IsValidSample}
use Rattle.ft_types.specs.Blocks.{pieces_of, bodies_of}
use Rattle.ft_segments.specs.Packing.{digit, ids_word, word_at, id_at}
use Rattle.ft_segments.specs.Walk.{PatternIds, IndexIds, SampleIds, InstrumentIds, SongIds, IsSound, each_below, pattern_uses, index_uses, sample_uses, instrument_uses, walk, pattern_walk, index_walk, sample_walk, instrument_walk, channels_in, patterns_in, instruments_in, rows_in, samples_in, bodies_in, bodies_of_index}
use Rattle.ft_image.specs.Shown.{ShowsParts, ShowsPattern, ShowsIndex, ShowsSample, ShowsInstrument}
use Rattle.ft_image.proofs.Lists.{stored, part_of_sum}
use Rattle.ft_image.proofs.Packed.{digit-packed}
use Rattle.ft_image.proofs.Walked.{pattern_root_of, pattern_body_of, of_sample, instrument_root_of, sample_root_of, of_index, index_root_of, index_body_of}
use Rattle.ft_image.proofs.Found.{head_back, counts_back}
use Rattle.ft_image.proofs.Instruments.{count_read}
use Rattle.ft_image.proofs.Samples.{lengths_back}

-- ---- ids of 16 bits

abbrev AreSmall : List ℕ → Type 0
AreSmall ids = (k : ℕ) → get_or ids k 0 < 65536

small : (ids : List ℕ) → ((k s : ℕ) → slice_get ids k ≡ Some s → s < 65536) → AreSmall ids
small [] low k = omega arith
small (s ∷ ids) low zero = low 0 s refl
small (s ∷ ids) low (suc k) = small ids (λ j t is. low (suc j) t is) k

small_roots : {X : Type 0} → (root : X → ℕ) (parts : List X) → ((k : ℕ) (x : X) → slice_get parts k ≡ Some x → root x < 65536)
    → AreSmall (map root parts)
small_roots root [] low k = omega arith
small_roots root (x ∷ parts) low zero = low 0 x refl
small_roots root (x ∷ parts) low (suc k) = small_roots root parts (λ j y is. low (suc j) y is) k

pub root_at : {X : Type 0} → (root : X → ℕ) (parts : List X) (k : ℕ) (x : X) → slice_get parts k ≡ Some x
    → get_or (map root parts) k 0 ≡ root x
root_at root [] k x is = absurd (none-some x is)
root_at root (y ∷ parts) zero x is = ap root (same_Some y x is)
root_at root (y ∷ parts) (suc k) x is = root_at root parts k x is

id_read : (pool ids : List ℕ) (segment first i : ℕ) → AreSmall ids → word_at pool segment (first + i / 4) ≡ ids_word ids (i / 4)
    → id_at pool segment first i ≡ get_or ids i 0
unfolding id_at ids_word
id_read pool ids segment first i are stands =
    let same : i / 4 * 4 + i % 4 ≡ i = omega arith in
    ap (λ (w : ℕ). digit 65536 w (i % 4)) stands
    ∙ digit-packed 65536 4 (λ j. get_or ids (i / 4 * 4 + j) 0) (i % 4) (λ j. are (i / 4 * 4 + j)) (omega arith)
    ∙ ap (λ (n : ℕ). get_or ids n 0) same

-- a list of which each is what a function gives of its place
each_is : {X : Type 0} → (xs : List X) (n : ℕ) (f : ℕ → X) (d : X) → length xs ≡ n
    → ((k : ℕ) (x : X) → slice_get xs k ≡ Some x → x ≡ f k) → xs ≡ each_below n f
each_is xs n f d len all =
    fill_by_all f xs n d len (λ k lt. all k (get_or xs k d) (slice_get-get_or xs k d (omega arith)))

-- ---- parts

pattern_walks : (pool : List ℕ) (channels : ℕ) (x : Pattern) (q : PatternIds) → channels ≤ 32 → x.rows ≤ 256
    → ((s : ℕ) → 1 ≤ pattern_uses s q → s < 65536) → ShowsPattern pool channels x q → pattern_walk pool channels q.root ≡ q
pattern_walks pool channels x q c r low shown =
    let few = mul-le x.rows channels 256 32 r c in
    let n = pieces_of (rows_in pool q.root * channels) 256 in
    let count : length q.bodies ≡ n = shown.count ∙ ap (λ (rows : ℕ). pieces_of (rows * channels) 256) (sym shown.rows) in
    let are = small q.bodies (λ k s is. low s (pattern_body_of s k q is)) in
    let bodies : q.bodies ≡ each_below n (λ b. id_at pool q.root 1 b)
    = each_is q.bodies n (λ b. id_at pool q.root 1 b) 0 count
    (λ k s is.
    let lt = slice_get_within q.bodies k s is in
    let few_bodies : length q.bodies ≤ 32 = omega (arith, shown.count) in
    sym (id_read pool q.bodies q.root 1 k are (shown.bodies (k / 4) (omega arith)) ∙ get_or_from_slice_get q.bodies k s 0 is)) in
    ap (λ (bs : List ℕ). record { root = q.root; bodies = bs }) (sym bodies)

index_walks : (pool : List ℕ) (x : Sample) (k count : ℕ) (q : IndexIds) → count ≡ bodies_of_index (bodies_of x) k
    → ((s : ℕ) → 1 ≤ index_uses s q → s < 65536) → ShowsIndex pool x k q → q ≡ index_walk pool count q.root
index_walks pool x k count q is low shown =
    let are = small q.bodies (λ j s e. low s (index_body_of s j q e)) in
    let bodies : q.bodies ≡ each_below count (λ j. id_at pool q.root 0 j)
    = each_is q.bodies count (λ j. id_at pool q.root 0 j) 0 (shown.count ∙ sym is)
    (λ j s e.
    let lt = slice_get_within q.bodies j s e in
    let few : j < 1024 = omega (arith, shown.count) in
    let word : word_at pool q.root (0 + j / 4) ≡ ids_word q.bodies (j / 4)
    = ap (λ (n : ℕ). word_at pool q.root n) (omega arith) ∙ shown.bodies (j / 4) (omega arith) in
    sym (id_read pool q.bodies q.root 0 j are word ∙ get_or_from_slice_get q.bodies j s 0 e)) in
    ap (λ (bs : List ℕ). record { root = q.root; bodies = bs }) bodies

no_index : IndexIds
no_index = record { root = 0; bodies = [] }

sample_walks : (pool : List ℕ) (x : Sample) (q : SampleIds) → IsValidSample x
    → ((s : ℕ) → 1 ≤ sample_uses s q → s < 65536) → ShowsSample pool x q → sample_walk pool q.root ≡ q
unfolding sample_walk
sample_walks pool x q valid low shown =
    let frames = (lengths_back x (word_at pool q.root 0) valid shown.lengths).0 in
    let bodies : bodies_in pool q.root ≡ bodies_of x = ap (λ (n : ℕ). pieces_of n 1024) frames in
    let n = pieces_of (bodies_in pool q.root) 1024 in
    let count : length q.indexes ≡ n = shown.count ∙ ap (λ (b : ℕ). pieces_of b 1024) (sym bodies) in
    let few = valid.few_frames in
    let f : ℕ → IndexIds = λ k. index_walk pool (bodies_of_index (bodies_in pool q.root) k) (id_at pool q.root 16 k) in
    let are = small_roots (λ (i : IndexIds). i.root) q.indexes
    (λ k i is. low i.root (of_index i.root k q i is (index_root_of i.root i refl))) in
    let all : q.indexes ≡ each_below n f
    = each_is q.indexes n f no_index count
    (λ k i is.
    let lt = slice_get_within q.indexes k i is in
    let four : k < 4 = omega (arith, shown.count) in
    let word : word_at pool q.root (16 + k / 4) ≡ ids_word (map (λ (i : IndexIds). i.root) q.indexes) (k / 4)
    = ap (λ (j : ℕ). word_at pool q.root j) (omega arith) ∙ shown.indexes
    ∙ ap (λ (j : ℕ). ids_word (map (λ (i : IndexIds). i.root) q.indexes) j) (omega arith) in
    let id : id_at pool q.root 16 k ≡ i.root
    = id_read pool (map (λ (i : IndexIds). i.root) q.indexes) q.root 16 k are word ∙ root_at (λ (i : IndexIds). i.root) q.indexes k i is in
    index_walks pool x k (bodies_of_index (bodies_in pool q.root) k) i (ap (λ (b : ℕ). bodies_of_index b k) bodies)
    (λ s one. low s (of_index s k q i is one)) (shown.each k i is)
    ∙ ap (λ (r : ℕ). index_walk pool (bodies_of_index (bodies_in pool q.root) k) r) (sym id)) in
    ap (λ (is : List IndexIds). record { root = q.root; indexes = is }) (sym all)

no_sample : SampleIds
no_sample = record { root = 0; indexes = [] }

instrument_walks : (pool : List ℕ) (x : Instrument) (q : InstrumentIds) → IsValidInstrument x
    → ((s : ℕ) → 1 ≤ instrument_uses s q → s < 65536) → ShowsInstrument pool x q → instrument_walk pool q.root ≡ q
instrument_walks pool x q valid low shown =
    let few = valid.few_samples in
    let counted = count_read x (word_at pool q.root 0) 0 valid shown.counts (omega arith) in
    let n = samples_in pool q.root in
    let count : length q.samples ≡ n = shown.each.count ∙ sym counted in
    let f : ℕ → SampleIds = λ k. sample_walk pool (id_at pool q.root 30 k) in
    let are = small_roots (λ (i : SampleIds). i.root) q.samples
    (λ k i is. low i.root (of_sample i.root k q i is (sample_root_of i.root i refl))) in
    let all : q.samples ≡ each_below n f
    = each_is q.samples n f no_sample count
    (λ k i is.
    let lt = slice_get_within q.samples k i is in
    let here : k < length x.samples = omega (arith, shown.each.count) in
    let one = stored x.samples k here in
    let sample : IsValidSample one.0
    = subst IsValidSample (get_or_from_slice_get x.samples k one.0 one.0 one.1) (valid.samples k one.0 here) in
    let id : id_at pool q.root 30 k ≡ i.root
    = id_read pool (map (λ (i : SampleIds). i.root) q.samples) q.root 30 k are (shown.samples (k / 4) (omega arith))
    ∙ root_at (λ (i : SampleIds). i.root) q.samples k i is in
    sym (sample_walks pool one.0 i sample (λ s used. low s (of_sample s k q i is used)) (shown.each.each k one.0 i one.1 is))
    ∙ ap (λ (r : ℕ). sample_walk pool r) (sym id)) in
    ap (λ (is : List SampleIds). record { root = q.root; samples = is }) (sym all)

-- ---- the song

no_pattern : PatternIds
no_pattern = record { root = 0; bodies = [] }

no_instrument : InstrumentIds
no_instrument = record { root = 0; samples = [] }

pub walks : (pool : List ℕ) (m : Module) (ids : SongIds) (segments : ℕ) → IsValid m → segments ≤ 65536 → IsSound segments ids
    → ShowsParts pool m ids → walk pool ids.root ≡ ids
unfolding walk
walks pool m ids segments valid few sound stands =
    let head = head_back m (word_at pool ids.root 0) valid stands.root.head in
    let counts = counts_back m (word_at pool ids.root 1) valid stands.root.counts in
    let channels : channels_in pool ids.root ≡ m.channels = omega (arith, head.2) in
    let few_patterns = valid.few_patterns in
    let few_instruments = valid.few_instruments in
    let n = patterns_in pool ids.root in
    let patterns_count : length ids.patterns ≡ n = stands.patterns.count ∙ sym counts.0 in
    let of_pattern : (k s : ℕ) (q : PatternIds) → slice_get ids.patterns k ≡ Some q → 1 ≤ pattern_uses s q → s < 65536
    = λ k s q is one.
    let part = part_of_sum (pattern_uses s) ids.patterns k q is in
    let low = sound.within s (omega arith) in omega arith in
    let f : ℕ → PatternIds = λ k. pattern_walk pool (channels_in pool ids.root) (id_at pool ids.root 40 k) in
    let pattern_ids = small_roots (λ (i : PatternIds). i.root) ids.patterns
    (λ k i is. of_pattern k i.root i is (pattern_root_of i.root i refl)) in
    let patterns : ids.patterns ≡ each_below n f
    = each_is ids.patterns n f no_pattern patterns_count
    (λ k i is.
    let lt = slice_get_within ids.patterns k i is in
    let here : k < length m.patterns = omega (arith, stands.patterns.count) in
    let one = stored m.patterns k here in
    let pattern : IsValidPattern m.channels one.0
    = subst (IsValidPattern m.channels) (get_or_from_slice_get m.patterns k one.0 one.0 one.1) (valid.patterns k one.0 here) in
    let id : id_at pool ids.root 40 k ≡ i.root
    = id_read pool (map (λ (i : PatternIds). i.root) ids.patterns) ids.root 40 k pattern_ids (stands.root.patterns (k / 4) (omega arith))
    ∙ root_at (λ (i : PatternIds). i.root) ids.patterns k i is in
    sym (pattern_walks pool m.channels one.0 i valid.few_channels pattern.few_rows (λ s used. of_pattern k s i is used)
    (stands.patterns.each k one.0 i one.1 is))
    ∙ ap (λ (c : ℕ). pattern_walk pool c i.root) (sym channels)
    ∙ ap (λ (r : ℕ). pattern_walk pool (channels_in pool ids.root) r) (sym id)) in
    let l = instruments_in pool ids.root in
    let instruments_count : length ids.instruments ≡ l = stands.instruments.count ∙ sym counts.1 in
    let of_instrument : (k s : ℕ) (q : InstrumentIds) → slice_get ids.instruments k ≡ Some q → 1 ≤ instrument_uses s q → s < 65536
    = λ k s q is one.
    let part = part_of_sum (instrument_uses s) ids.instruments k q is in
    let low = sound.within s (omega arith) in omega arith in
    let g : ℕ → InstrumentIds = λ k. instrument_walk pool (id_at pool ids.root 104 k) in
    let instrument_ids = small_roots (λ (i : InstrumentIds). i.root) ids.instruments
    (λ k i is. of_instrument k i.root i is (instrument_root_of i.root i refl)) in
    let instruments : ids.instruments ≡ each_below l g
    = each_is ids.instruments l g no_instrument instruments_count
    (λ k i is.
    let lt = slice_get_within ids.instruments k i is in
    let here : k < length m.instruments = omega (arith, stands.instruments.count) in
    let one = stored m.instruments k here in
    let instrument : IsValidInstrument one.0
    = subst IsValidInstrument (get_or_from_slice_get m.instruments k one.0 one.0 one.1) (valid.instruments k one.0 here) in
    let id : id_at pool ids.root 104 k ≡ i.root
    = id_read pool (map (λ (i : InstrumentIds). i.root) ids.instruments) ids.root 104 k instrument_ids (stands.root.instruments (k / 4)
    (omega arith))
    ∙ root_at (λ (i : InstrumentIds). i.root) ids.instruments k i is in
    sym (instrument_walks pool one.0 i instrument (λ s used. of_instrument k s i is used) (stands.instruments.each k one.0 i one.1 is))
    ∙ ap (λ (r : ℕ). instrument_walk pool r) (sym id)) in
    ap (λ (ps : List PatternIds). record { root = ids.root; patterns = ps; instruments = each_below l g }) (sym patterns)
    ∙ ap (λ (is : List InstrumentIds). record { root = ids.root; patterns = ids.patterns; instruments = is }) (sym instruments)
