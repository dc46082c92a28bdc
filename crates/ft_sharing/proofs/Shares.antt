-- A song after an edit is shown by its parts, where those before it are and the fresh segments are written.
use Rattle.std.proofs.Common.{◌≡◌, ℕ, ◌+◌, ◌≤◌, List, [], length, drop, set, ap, sym, subst, ◌∙◌, arith}
use Rattle.std.specs.Prelude.{slice_get, slice_index}
use Rattle.std.proofs.lemmas.List.{length-drop}
use Rattle.std.proofs.lemmas.Option.{slice_get_within}
use Rattle.ft_types.specs.declared.module.Module.{Module}
use Rattle.ft_types.specs.declared.pattern.Pattern.{Pattern}
use Rattle.ft_types.specs.declared.instrument.Instrument.{Instrument}
use Rattle.ft_types.specs.declared.sample.Sample.{Sample}
use Rattle.ft_edits.specs.Lists.{without_last}
use Rattle.ft_segments.specs.Walk.{PatternIds, IndexIds, SampleIds, InstrumentIds, SongIds}
use Rattle.ft_changes.specs.declared.reach.Reach.{Reach}
use Rattle.ft_changes.specs.declared.reach.Reach.TheVariants as reaches
use Rattle.ft_changes.specs.Parts.{put}
use Rattle.ft_changes.specs.Ids.{bodies_if, samples_if, indexes_if, bodies_at, samples_of, indexes_at, with_samples_at, indexes_after, ids_after}
use Rattle.ft_changes.specs.Reaches.{needed}
use Rattle.ft_changes.specs.Reached.{HasPatterns, HasInstruments, IsReached, IsInstrumentReached, AreTheSame, AreWithoutLast, HaveSample, HaveFrames}
use Rattle.ft_image.specs.Shown.{Pairwise, ShowsPattern, ShowsSample, ShowsInstrument, ShowsParts}
use Rattle.ft_sharing.specs.Written.{AtPlace, RootIsWritten, InstrumentRootIsWritten, ReachIsWritten, RootAndBodyAreWritten, PatternIsWritten, SampleRootIsWritten, FramesAreWritten, RootAndSampleAreWritten}
use Rattle.ft_sharing.proofs.Pairs.{put_there, put_paired, last_gone, none_paired, paired_with}
use Rattle.ft_sharing.proofs.Roots.{pattern_shown, instrument_shown, root_shown}
use Rattle.ft_sharing.proofs.Parts.{cell_shown, sample_kept}
use Rattle.ft_sharing.proofs.Frames.{frames_shown}
use Rattle.ft_sharing.proofs.Fitting.{with_ids}

-- what was written of the part that was put
at_put : {A B : Type 0} (R : A → B → Type 0) (k : ℕ) (x : A) (y : B) (new xs : List A) (ys : List B) → new ≡ put k x xs
    → k ≤ length xs → k ≤ length ys → AtPlace k R new (put k y ys) → R x y
at_put R k x y new xs ys is le within written =
    written x y (ap (λ zs. slice_get zs k) is ∙ put_there xs k x le) (put_there ys k y within)

-- ---- the song, by its patterns or by its instruments

by_patterns : (pool : List ℕ) (old new : Module) (ids : SongIds) (now : List Pattern) (root : ℕ) (patterns : List PatternIds)
    → ShowsParts pool old ids → HasPatterns now old new
    → RootIsWritten pool new (record { root = root; patterns = patterns; instruments = ids.instruments })
    → Pairwise (ShowsPattern pool old.channels) now patterns
    → ShowsParts pool new (record { root = root; patterns = patterns; instruments = ids.instruments })
by_patterns pool old new ids now root patterns stands has written pairs = record {
  root = root_shown pool new (record { root = root; patterns = patterns; instruments = ids.instruments }) written;
  patterns =
      subst (λ (xs : List Pattern). Pairwise (ShowsPattern pool new.channels) xs patterns) (sym has.patterns)
      (subst (λ c. Pairwise (ShowsPattern pool c) now patterns) (sym has.channels) pairs);
  instruments =
      subst (λ (xs : List Instrument). Pairwise (ShowsInstrument pool) xs ids.instruments) (sym has.instruments) stands.instruments;
}

by_instruments : (pool : List ℕ) (old new : Module) (ids : SongIds) (now : List Instrument) (root : ℕ) (instruments : List InstrumentIds)
    → ShowsParts pool old ids → HasInstruments now old new
    → RootIsWritten pool new (record { root = root; patterns = ids.patterns; instruments = instruments })
    → Pairwise (ShowsInstrument pool) now instruments
    → ShowsParts pool new (record { root = root; patterns = ids.patterns; instruments = instruments })
by_instruments pool old new ids now root instruments stands has written pairs = record {
  root = root_shown pool new (record { root = root; patterns = ids.patterns; instruments = instruments }) written;
  patterns =
      subst (λ (xs : List Pattern). Pairwise (ShowsPattern pool new.channels) xs ids.patterns) (sym has.patterns)
      (subst (λ c. Pairwise (ShowsPattern pool c) old.patterns ids.patterns) (sym has.channels) stands.patterns);
  instruments = subst (λ (xs : List Instrument). Pairwise (ShowsInstrument pool) xs instruments) (sym has.instruments) pairs;
}

-- ---- patterns

cell_shares : (pool : List ℕ) (old new : Module) (ids : SongIds) (p b : ℕ) (fresh : List ℕ) → ShowsParts pool old ids
    → IsReached (reaches.Cell p b) old new
    → ReachIsWritten (reaches.Cell p b) pool new (ids_after (reaches.Cell p b) fresh ids)
    → ShowsParts pool new (ids_after (reaches.Cell p b) fresh ids)
cell_shares pool old new ids p b fresh stands reached written =
    let one = paired_with (ShowsPattern pool old.channels) old.patterns ids.patterns p reached.before stands.patterns reached.there in
    let le : p ≤ length old.patterns = omega (arith, slice_get_within old.patterns p reached.before reached.there) in
    let bodies = set (bodies_at ids p) b (slice_index fresh 2) in
    let q : PatternIds = record { root = slice_index fresh 1; bodies = bodies } in
    let part = at_put (RootAndBodyAreWritten pool b) p reached.after q new.patterns old.patterns ids.patterns reached.all.patterns le
    (omega (arith, le, stands.patterns.count)) written.1 in
    let shown = cell_shown pool old.channels b (slice_index fresh 1) (slice_index fresh 2) (bodies_at ids p) reached.before reached.after
    one.0 (ap bodies_if one.1) one.2 reached.change part in
    by_patterns pool old new ids (put p reached.after old.patterns) (slice_index fresh 0) (put p q ids.patterns) stands
    reached.all written.0
    (put_paired (ShowsPattern pool old.channels) old.patterns ids.patterns p reached.after q stands.patterns le shown)

whole_shares : (pool : List ℕ) (old new : Module) (ids : SongIds) (p n : ℕ) (fresh : List ℕ) → ShowsParts pool old ids
    → IsReached (reaches.Pattern p n) old new → length fresh ≡ 2 + n
    → ReachIsWritten (reaches.Pattern p n) pool new (ids_after (reaches.Pattern p n) fresh ids)
    → ShowsParts pool new (ids_after (reaches.Pattern p n) fresh ids)
whole_shares pool old new ids p n fresh stands reached count written =
    let q : PatternIds = record { root = slice_index fresh 1; bodies = drop 2 fresh } in
    let many : length (drop 2 fresh) ≡ n = omega (arith, length-drop 2 fresh, count) in
    let part = at_put (PatternIsWritten pool n) p reached.after q new.patterns old.patterns ids.patterns reached.all.patterns reached.there
    (omega (arith, reached.there, stands.patterns.count)) written.1 in
    let shown = pattern_shown pool old.channels reached.after q part.0 (many ∙ reached.count)
    (λ b lt. part.1 b (omega (arith, lt, many))) in
    by_patterns pool old new ids (put p reached.after old.patterns) (slice_index fresh 0) (put p q ids.patterns) stands
    reached.all written.0
    (put_paired (ShowsPattern pool old.channels) old.patterns ids.patterns p reached.after q stands.patterns reached.there shown)

-- ---- instruments

bare_shares : (pool : List ℕ) (old new : Module) (ids : SongIds) (at : ℕ) (fresh : List ℕ) → ShowsParts pool old ids
    → IsReached (reaches.Bare at) old new
    → ReachIsWritten (reaches.Bare at) pool new (ids_after (reaches.Bare at) fresh ids)
    → ShowsParts pool new (ids_after (reaches.Bare at) fresh ids)
bare_shares pool old new ids at fresh stands reached written =
    let q : InstrumentIds = record { root = slice_index fresh 1; samples = [] } in
    let part = at_put (InstrumentRootIsWritten pool) at reached.after q new.instruments old.instruments ids.instruments
    reached.all.instruments reached.there (omega (arith, reached.there, stands.instruments.count)) written.1 in
    let none : Pairwise (ShowsSample pool) reached.after.samples []
    = subst (λ (xs : List Sample). Pairwise (ShowsSample pool) xs []) (sym reached.none) (none_paired (ShowsSample pool)) in
    by_instruments pool old new ids (put at reached.after old.instruments) (slice_index fresh 0) (put at q ids.instruments) stands
    reached.all written.0
    (put_paired (ShowsInstrument pool) old.instruments ids.instruments at reached.after q stands.instruments reached.there
    (instrument_shown pool reached.after q part none))

-- an instrument that is there has these samples now
made_shares : (pool : List ℕ) (old new : Module) (ids : SongIds) (at : ℕ) (fresh : List ℕ) (Made : List Sample → List Sample → Type 0)
    (samples : List SampleIds) → ShowsParts pool old ids → (reached : IsInstrumentReached Made at old new)
    → RootIsWritten pool new (with_samples_at at samples fresh ids)
    → InstrumentRootIsWritten pool reached.after (record { root = slice_index fresh 1; samples = samples })
    → Pairwise (ShowsSample pool) reached.after.samples samples
    → ShowsParts pool new (with_samples_at at samples fresh ids)
made_shares pool old new ids at fresh Made samples stands reached root written pairs =
    let q : InstrumentIds = record { root = slice_index fresh 1; samples = samples } in
    let le : at ≤ length old.instruments = omega (arith, slice_get_within old.instruments at reached.before reached.there) in
    by_instruments pool old new ids (put at reached.after old.instruments) (slice_index fresh 0) (put at q ids.instruments) stands
    reached.all root
    (put_paired (ShowsInstrument pool) old.instruments ids.instruments at reached.after q stands.instruments le
    (instrument_shown pool reached.after q written pairs))

-- what was written of it
of_instrument : (pool : List ℕ) (old new : Module) (ids : SongIds) (at : ℕ) (fresh : List ℕ) (Made : List Sample → List Sample → Type 0)
    (samples : List SampleIds) (Written : Instrument → InstrumentIds → Type 0) → ShowsParts pool old ids
    → (reached : IsInstrumentReached Made at old new)
    → AtPlace at Written new.instruments (with_samples_at at samples fresh ids).instruments
    → Written reached.after (record { root = slice_index fresh 1; samples = samples })
of_instrument pool old new ids at fresh Made samples Written stands reached written =
    let le : at ≤ length old.instruments = omega (arith, slice_get_within old.instruments at reached.before reached.there) in
    at_put Written at reached.after (record { root = slice_index fresh 1; samples = samples }) new.instruments old.instruments
    ids.instruments reached.all.instruments le (omega (arith, le, stands.instruments.count)) written

-- the samples that it had
had : (pool : List ℕ) (old new : Module) (ids : SongIds) (at : ℕ) (Made : List Sample → List Sample → Type 0)
    → ShowsParts pool old ids → (reached : IsInstrumentReached Made at old new)
    → Pairwise (ShowsSample pool) reached.before.samples (samples_of ids at)
had pool old new ids at Made stands reached =
    let one = with_ids pool old new ids at Made stands reached in
    subst (λ (ys : List SampleIds). Pairwise (ShowsSample pool) reached.before.samples ys) (sym (ap samples_if one.1)) one.2.each

root_shares : (pool : List ℕ) (old new : Module) (ids : SongIds) (at : ℕ) (fresh : List ℕ) → ShowsParts pool old ids
    → IsReached (reaches.Instrument at) old new
    → ReachIsWritten (reaches.Instrument at) pool new (ids_after (reaches.Instrument at) fresh ids)
    → ShowsParts pool new (ids_after (reaches.Instrument at) fresh ids)
root_shares pool old new ids at fresh stands reached written =
    let samples = samples_of ids at in
    let part = of_instrument pool old new ids at fresh AreTheSame samples (InstrumentRootIsWritten pool) stands reached written.1 in
    made_shares pool old new ids at fresh AreTheSame samples stands reached written.0 part
    (subst (λ (xs : List Sample). Pairwise (ShowsSample pool) xs samples) (sym reached.made)
    (had pool old new ids at AreTheSame stands reached))

last_shares : (pool : List ℕ) (old new : Module) (ids : SongIds) (at : ℕ) (fresh : List ℕ) → ShowsParts pool old ids
    → IsReached (reaches.LastSample at) old new
    → ReachIsWritten (reaches.LastSample at) pool new (ids_after (reaches.LastSample at) fresh ids)
    → ShowsParts pool new (ids_after (reaches.LastSample at) fresh ids)
last_shares pool old new ids at fresh stands reached written =
    let samples = without_last (samples_of ids at) in
    let part = of_instrument pool old new ids at fresh AreWithoutLast samples (InstrumentRootIsWritten pool) stands reached written.1 in
    made_shares pool old new ids at fresh AreWithoutLast samples stands reached written.0 part
    (subst (λ (xs : List Sample). Pairwise (ShowsSample pool) xs samples) (sym reached.made)
    (last_gone (ShowsSample pool) reached.before.samples (samples_of ids at) (had pool old new ids at AreWithoutLast stands reached)))

sample_shares : (pool : List ℕ) (old new : Module) (ids : SongIds) (at s : ℕ) (fresh : List ℕ) → ShowsParts pool old ids
    → IsReached (reaches.Sample at s) old new
    → ReachIsWritten (reaches.Sample at s) pool new (ids_after (reaches.Sample at s) fresh ids)
    → ShowsParts pool new (ids_after (reaches.Sample at s) fresh ids)
sample_shares pool old new ids at s fresh stands reached written =
    let made = reached.made in
    let y : SampleIds = record { root = slice_index fresh 2; indexes = indexes_at ids at s } in
    let samples = put s y (samples_of ids at) in
    let part = of_instrument pool old new ids at fresh (HaveSample s) samples (RootAndSampleAreWritten pool s (SampleRootIsWritten pool))
    stands reached written.1 in
    let pairs = had pool old new ids at (HaveSample s) stands reached in
    let root = at_put (SampleRootIsWritten pool) s made.after y reached.after.samples reached.before.samples (samples_of ids at) made.all
    made.there (omega (arith, made.there, pairs.count)) part.1 in
    let shown = sample_kept pool s (slice_index fresh 2) reached.before.samples (samples_of ids at) made.after pairs made.frames root in
    made_shares pool old new ids at fresh (HaveSample s) samples stands reached written.0 part.0
    (subst (λ (xs : List Sample). Pairwise (ShowsSample pool) xs samples) (sym made.all)
    (put_paired (ShowsSample pool) reached.before.samples (samples_of ids at) s made.after y pairs made.there shown))

frames_share : (pool : List ℕ) (old new : Module) (ids : SongIds) (at s first last gone : ℕ) (fresh : List ℕ) → ShowsParts pool old ids
    → IsReached (reaches.Frames at s first last gone) old new → length fresh ≡ needed (reaches.Frames at s first last gone)
    → ReachIsWritten (reaches.Frames at s first last gone) pool new (ids_after (reaches.Frames at s first last gone) fresh ids)
    → ShowsParts pool new (ids_after (reaches.Frames at s first last gone) fresh ids)
frames_share pool old new ids at s first last gone fresh stands reached count written =
    let made = reached.made in
    let Made = HaveFrames s first last gone in
    let after : List IndexIds → SampleIds
    = λ indexes. record { root = slice_index fresh 2; indexes = indexes_after first last gone fresh indexes } in
    let y = after (indexes_at ids at s) in
    let samples = put s y (samples_of ids at) in
    let part = of_instrument pool old new ids at fresh Made samples (RootAndSampleAreWritten pool s (FramesAreWritten pool first last))
    stands reached written.1 in
    let pairs = had pool old new ids at Made stands reached in
    let le : s ≤ length reached.before.samples = omega (arith, slice_get_within reached.before.samples s made.before made.there) in
    let frames = at_put (FramesAreWritten pool first last) s made.after y reached.after.samples reached.before.samples (samples_of ids at)
    made.all le (omega (arith, le, pairs.count)) part.1 in
    let one = paired_with (ShowsSample pool) reached.before.samples (samples_of ids at) s made.before pairs made.there in
    let is : indexes_at ids at s ≡ one.0.indexes = ap indexes_if one.1 in
    let shown : ShowsSample pool made.after y
    = subst (λ indexes. ShowsSample pool made.after (after indexes)) (sym is)
    (frames_shown pool fresh made.before made.after one.0 first last gone one.2 made.change count (slice_index fresh 2)
    (subst (λ indexes. FramesAreWritten pool first last made.after (after indexes)) is frames)) in
    made_shares pool old new ids at fresh Made samples stands reached written.0 part.0
    (subst (λ (xs : List Sample). Pairwise (ShowsSample pool) xs samples) (sym made.all)
    (put_paired (ShowsSample pool) reached.before.samples (samples_of ids at) s made.after y pairs le shown))

-- ---- by how far the edit reached

pub parts_share : (pool : List ℕ) (old new : Module) (ids : SongIds) (reach : Reach) (fresh : List ℕ) → ShowsParts pool old ids
    → IsReached reach old new → length fresh ≡ needed reach → ReachIsWritten reach pool new (ids_after reach fresh ids)
    → ShowsParts pool new (ids_after reach fresh ids)
parts_share pool old new ids reaches.Song fresh stands reached count written =
    by_patterns pool old new ids old.patterns (slice_index fresh 0) ids.patterns stands reached written stands.patterns
parts_share pool old new ids reaches.LastPattern fresh stands reached count written =
    by_patterns pool old new ids (without_last old.patterns) (slice_index fresh 0) (without_last ids.patterns) stands reached written
    (last_gone (ShowsPattern pool old.channels) old.patterns ids.patterns stands.patterns)
parts_share pool old new ids (reaches.Cell p b) fresh stands reached count written =
    cell_shares pool old new ids p b fresh stands reached written
parts_share pool old new ids (reaches.Pattern p n) fresh stands reached count written =
    whole_shares pool old new ids p n fresh stands reached count written
parts_share pool old new ids (reaches.Instrument at) fresh stands reached count written =
    root_shares pool old new ids at fresh stands reached written
parts_share pool old new ids (reaches.Bare at) fresh stands reached count written =
    bare_shares pool old new ids at fresh stands reached written
parts_share pool old new ids (reaches.LastSample at) fresh stands reached count written =
    last_shares pool old new ids at fresh stands reached written
parts_share pool old new ids (reaches.Sample at s) fresh stands reached count written =
    sample_shares pool old new ids at s fresh stands reached written
parts_share pool old new ids (reaches.Frames at s first last gone) fresh stands reached count written =
    frames_share pool old new ids at s first last gone fresh stands reached count written
