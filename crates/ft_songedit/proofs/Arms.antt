-- The words of the instrument that an edit reached, by how far it reached.
use Rattle.std.proofs.Common.{◌≡◌, ℕ, ◌<◌, ◌≤◌, List, [], All, Some, length, map, ap, sym, subst, ◌∙◌, arith}
use Rattle.std.specs.Prelude.{slice_get, slice_index}
use Rattle.std.proofs.lemmas.Option.{slice_get_within, get_or_from_slice_get, same_Some, none-some}
use Rattle.ft_types.specs.declared.module.Module.{Module}
use Rattle.ft_types.specs.declared.instrument.Instrument.{Instrument}
use Rattle.ft_types.specs.declared.sample.Sample.{Sample}
use Rattle.ft_types.specs.declared.edit.Edit.{Edit}
use Rattle.ft_types.specs.Valid.{IsValid, IsValidInstrument}
use Rattle.ft_edits.specs.Lists.{without_last}
use Rattle.ft_edits.specs.Instruments.{zero_instrument}
use Rattle.ft_edits.specs.Samples.{without_sample}
use Rattle.ft_edits.specs.Changes.{instrument_changed}
use Rattle.ft_segments.specs.Walk.{SampleIds, InstrumentIds, SongIds}
use Rattle.ft_changes.specs.declared.reach.Reach.{Reach}
use Rattle.ft_changes.specs.declared.reach.Reach.TheVariants as reaches
use Rattle.ft_changes.specs.Reached.{IsReached}
use Rattle.ft_changes.specs.Parts.{put}
use Rattle.ft_changes.specs.Ids.{samples_if, samples_of, with_samples_at, ids_after}
use Rattle.ft_changes.specs.Fits.{IsThere, TakesFresh}
use Rattle.ft_sharing.specs.Written.{AtPlace, sample_roots}
use Rattle.ft_roots.specs.RootWords.{HasInstrumentWords}
use Rattle.ft_roots.specs.PartEdits.{ChangesInstrumentAlone}
use Rattle.ft_songedit.specs.Instruments.{instrument_place, HasWordsOf, HasStored}
use Rattle.ft_songedit.proofs.Roots.{map_put, map_last, put_length}
use Rattle.ft_songedit.proofs.Reached.{put_here, same_some, SamplesAlone, WhatBecomes}

pub valid_at : (m : Module) (at : ℕ) (x : Instrument) → IsValid m → slice_get m.instruments at ≡ Some x → IsValidInstrument x
valid_at m at x valid there =
    subst IsValidInstrument (get_or_from_slice_get m.instruments at x x there)
    (valid.instruments at x (slice_get_within m.instruments at x there))

-- the reach and the place are known
pub at_reach : (reach known : Reach) (a at : ℕ) (old new : List ℕ) (m next : Module) (fresh : List ℕ) (ids : SongIds)
    → reach ≡ known → instrument_place reach ≡ Some at → instrument_place known ≡ Some a
    → AtPlace at (HasStored old) m.instruments ids.instruments
    → (AtPlace a (HasStored old) m.instruments ids.instruments
    → AtPlace a (HasWordsOf new) next.instruments (ids_after known fresh ids).instruments)
    → AtPlace at (HasWordsOf new) next.instruments (ids_after reach fresh ids).instruments
at_reach reach known a at old new m next fresh ids is place here stored made =
    let e : a ≡ at = same_Some a at (sym here ∙ ap instrument_place (sym is) ∙ place) in
    subst (λ (r : Reach). AtPlace at (HasWordsOf new) next.instruments (ids_after r fresh ids).instruments) (sym is)
    (subst (λ n. AtPlace n (HasWordsOf new) next.instruments (ids_after known fresh ids).instruments) e
    (made (subst (λ n. AtPlace n (HasStored old) m.instruments ids.instruments) (sym e) stored)))

-- an instrument with these samples, where it was put
roots_put : (at : ℕ) (samples : List SampleIds) (fresh : List ℕ) (ids : SongIds) (q : InstrumentIds)
    → at ≤ length ids.instruments
    → slice_get (with_samples_at at samples fresh ids).instruments at ≡ Some q
    → sample_roots q ≡ map (λ (z : SampleIds). z.root) samples
roots_put at samples fresh ids q le found =
    let new : InstrumentIds = record { root = slice_index fresh 1; samples = samples } in
    ap sample_roots (same_some _ q new found (put_here ids.instruments at new le))

both : (new : List ℕ) (x y : Instrument) (is ns : List ℕ) → y ≡ x → ns ≡ is
    → HasInstrumentWords new x is → HasInstrumentWords new y ns
both new x y is ns a b has =
    subst (λ (z : Instrument). HasInstrumentWords new z ns) (sym a) (subst (λ zs. HasInstrumentWords new x zs) (sym b) has)

pub instrument_arm : (old new : List ℕ) (m next : Module) (e : Edit) (fresh : List ℕ) (ids : SongIds) (at : ℕ)
    → IsValid m → WhatBecomes (reaches.Instrument at) m e next → IsReached (reaches.Instrument at) m next
    → TakesFresh (reaches.Instrument at) fresh ids
    → ((x : Instrument) (is : List ℕ) → ChangesInstrumentAlone e → IsValidInstrument x
    → HasInstrumentWords old x is → HasInstrumentWords new (instrument_changed e x) is)
    → AtPlace at (HasStored old) m.instruments ids.instruments
    → AtPlace at (HasWordsOf new) next.instruments (ids_after (reaches.Instrument at) fresh ids).instruments
instrument_arm old new m next e fresh ids at valid becomes reached takes change stored y q ny nq =
    let i = takes.there.instrument in
    let x = reached.before in
    let s = stored x i reached.there takes.there.there in
    let within = slice_get_within ids.instruments at i takes.there.there in
    let roots = roots_put at (samples_of ids at) fresh ids q (omega (arith, within)) nq
    ∙ ap (λ o. map (λ (z : SampleIds). z.root) (samples_if o)) takes.there.there in
    both new (instrument_changed e x) y (sample_roots i) (sample_roots q)
    (same_some _ y (instrument_changed e x) ny (becomes.1 x reached.there)) roots
    (change x (sample_roots i) becomes.0 (valid_at m at x valid reached.there) s.words_of)

pub bare_arm : (old new : List ℕ) (m next : Module) (e : Edit) (fresh : List ℕ) (ids : SongIds) (at : ℕ)
    → WhatBecomes (reaches.Bare at) m e next → TakesFresh (reaches.Bare at) fresh ids
    → HasInstrumentWords new zero_instrument []
    → AtPlace at (HasStored old) m.instruments ids.instruments
    → AtPlace at (HasWordsOf new) next.instruments (ids_after (reaches.Bare at) fresh ids).instruments
bare_arm old new m next e fresh ids at becomes takes bare stored y q ny nq =
    both new zero_instrument y [] (sample_roots q) (becomes y ny) (roots_put at [] fresh ids q takes.there nq) bare

pub last_arm : (old new : List ℕ) (m next : Module) (e : Edit) (fresh : List ℕ) (ids : SongIds) (at : ℕ)
    → IsValid m → WhatBecomes (reaches.LastSample at) m e next → IsReached (reaches.LastSample at) m next
    → TakesFresh (reaches.LastSample at) fresh ids
    → ((x : Instrument) (is : List ℕ) → length x.samples ≤ 16 → length is ≡ length x.samples → All (λ n. n < 65536) is
    → HasInstrumentWords old x is → HasInstrumentWords new (without_sample x) (without_last is))
    → AtPlace at (HasStored old) m.instruments ids.instruments
    → AtPlace at (HasWordsOf new) next.instruments (ids_after (reaches.LastSample at) fresh ids).instruments
last_arm old new m next e fresh ids at valid becomes reached takes less stored y q ny nq =
    let i = takes.there.instrument in
    let x = reached.before in
    let s = stored x i reached.there takes.there.there in
    let within = slice_get_within ids.instruments at i takes.there.there in
    let roots = roots_put at (without_last (samples_of ids at)) fresh ids q (omega (arith, within)) nq
    ∙ ap (λ o. map (λ (z : SampleIds). z.root) (without_last (samples_if o))) takes.there.there
    ∙ map_last (λ (z : SampleIds). z.root) i.samples in
    both new (without_sample x) y (without_last (sample_roots i)) (sample_roots q)
    (same_some _ y (without_sample x) ny (becomes x reached.there)) roots
    (less x (sample_roots i) (valid_at m at x valid reached.there).few_samples s.roots_count s.small s.words_of)

-- what putting the root of a sample does
abbrev pub PutsSample : List ℕ → List ℕ → ℕ → List ℕ → Type 0
PutsSample old new s fresh =
    (x : Instrument) (a : Sample) (samples : List Sample) (is : List ℕ) → s < 16 → 3 ≤ length fresh
    → length x.samples ≤ 16 → s ≤ length x.samples → length is ≡ length x.samples → All (λ n. n < 65536) is
    → samples ≡ put s a x.samples → HasInstrumentWords old x is
    → HasInstrumentWords new (record x { samples = samples }) (put s (slice_index fresh 2) is)

pub sample_arm : (old new : List ℕ) (m next : Module) (fresh : List ℕ) (ids : SongIds) (at s : ℕ) (x after : Instrument)
    (i : InstrumentIds) (a : Sample) (z : SampleIds)
    → IsValid m → IsValid next → slice_get m.instruments at ≡ Some x → slice_get ids.instruments at ≡ Some i
    → next.instruments ≡ put at after m.instruments → after.samples ≡ put s a x.samples → s ≤ length x.samples
    → SamplesAlone at m next → z.root ≡ slice_index fresh 2 → 3 ≤ length fresh → PutsSample old new s fresh
    → AtPlace at (HasStored old) m.instruments ids.instruments
    → AtPlace at (HasWordsOf new) next.instruments (with_samples_at at (put s z (samples_of ids at)) fresh ids).instruments
sample_arm old new m next fresh ids at s x after i a z valid valid2 there there2 all samples le alone root three puts stored y q ny nq =
    let st = stored x i there there2 in
    let within = slice_get_within ids.instruments at i there2 in
    let within2 = slice_get_within m.instruments at x there in
    let ye : y ≡ after =
    same_some _ y after ny (ap (λ xs. slice_get xs at) all ∙ put_here m.instruments at after (omega (arith, within2))) in
    let ys : y.samples ≡ put s a x.samples = ap (λ (w : Instrument). w.samples) ye ∙ samples in
    let few = (valid_at next at y valid2 ny).few_samples in
    let long = put_length s a x.samples le in
    let same = ap length ys in
    let roots = roots_put at (put s z (samples_of ids at)) fresh ids q (omega (arith, within)) nq
    ∙ ap (λ o. map (λ (w : SampleIds). w.root) (put s z (samples_if o))) there2
    ∙ map_put (λ (w : SampleIds). w.root) s z i.samples
    ∙ ap (λ r. put s r (sample_roots i)) root in
    both new (record x { samples = y.samples }) y (put s (slice_index fresh 2) (sample_roots i)) (sample_roots q)
    (alone x y there ny) roots
    (puts x a y.samples (sample_roots i) (omega (arith, long, same, few)) three (valid_at m at x valid there).few_samples
    le st.roots_count st.small ys st.words_of)

-- ---- the second of the fresh segments is the root of the instrument

root_put : (at place : ℕ) (samples : List SampleIds) (fresh : List ℕ) (ids : SongIds) (q : InstrumentIds)
    → Some at ≡ Some place → at ≤ length ids.instruments
    → slice_get (with_samples_at at samples fresh ids).instruments place ≡ Some q → q.root ≡ slice_index fresh 1
root_put at place samples fresh ids q here le found =
    let new : InstrumentIds = record { root = slice_index fresh 1; samples = samples } in
    let e : at ≡ place = same_Some at place here in
    let at_it = subst (λ n. slice_get (with_samples_at at samples fresh ids).instruments n ≡ Some q) (sym e) found in
    ap (λ (z : InstrumentIds). z.root) (same_some _ q new at_it (put_here ids.instruments at new le))

pub second_is_root : (reach : Reach) (fresh : List ℕ) (ids : SongIds) (place : ℕ) (q : InstrumentIds) → IsThere reach ids
    → instrument_place reach ≡ Some place → slice_get (ids_after reach fresh ids).instruments place ≡ Some q
    → q.root ≡ slice_index fresh 1
second_is_root reaches.Song fresh ids place q there here found = absurd (none-some place here)
second_is_root reaches.LastPattern fresh ids place q there here found = absurd (none-some place here)
second_is_root (reaches.Cell p b) fresh ids place q there here found = absurd (none-some place here)
second_is_root (reaches.Pattern p b) fresh ids place q there here found = absurd (none-some place here)
second_is_root (reaches.Instrument at) fresh ids place q there here found =
    let within = slice_get_within ids.instruments at there.instrument there.there in
    root_put at place _ fresh ids q here (omega (arith, within)) found
second_is_root (reaches.Bare at) fresh ids place q there here found =
    root_put at place _ fresh ids q here there found
second_is_root (reaches.LastSample at) fresh ids place q there here found =
    let within = slice_get_within ids.instruments at there.instrument there.there in
    root_put at place _ fresh ids q here (omega (arith, within)) found
second_is_root (reaches.Sample at s) fresh ids place q there here found =
    let within = slice_get_within ids.instruments at there.instrument there.there in
    root_put at place _ fresh ids q here (omega (arith, within)) found
second_is_root (reaches.Frames at s first last gone) fresh ids place q there here found =
    let within = slice_get_within ids.instruments at there.instrument there.there in
    root_put at place _ fresh ids q here (omega (arith, within)) found
