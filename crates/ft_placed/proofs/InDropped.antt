-- The segments that an edit drops, one by one.
use Rattle.std.proofs.Common.{◌≡◌, ℕ, ◌+◌, ◌≤◌, [], Option, Some, length, refl, sym, ap, ◌∙◌, arith}
use Rattle.std.specs.List.{slice_get}
use Rattle.ft_types.specs.declared.module.Module.{Module}
use Rattle.ft_segments.specs.Walk.{SampleIds, InstrumentIds, SongIds, Placed, ids_of}
use Rattle.ft_changes.specs.declared.reach.Reach.{Reach}
use Rattle.ft_changes.specs.declared.reach.Reach.TheVariants as reaches
use Rattle.ft_changes.specs.Dropped.{dropped, instrument_root_of, root_and_stretch, root_and_sample}
use Rattle.ft_changes.specs.Fits.{HoldsInstrument, HasStretch}
use Rattle.ft_changes.specs.Ids.{samples_if}
use Rattle.ft_changes.specs.Parts.{segments_if}
use Rattle.ft_image.specs.Shown.{Shows}
use Rattle.ft_placed.specs.Roots.{instrument_root_in, IsSampleOf}
use Rattle.ft_placed.proofs.OfSamples.{few_indexes}
use Rattle.ft_placed.proofs.InOrder.{behind_first}
use Rattle.ft_placed.proofs.InInstruments.{instrument_first}

pub dropped_first : (reach : Reach) (ids : SongIds) → Some ids.root ≡ slice_get (dropped reach ids) 0
dropped_first reaches.Song ids = refl
dropped_first reaches.LastPattern ids = refl
dropped_first (reaches.Cell p b) ids = refl
dropped_first (reaches.Pattern p n) ids = refl
dropped_first (reaches.Instrument at) ids = refl
dropped_first (reaches.Bare at) ids = refl
dropped_first (reaches.LastSample at) ids = refl
dropped_first (reaches.Sample at s) ids = refl
dropped_first (reaches.Frames at s first last gone) ids = refl

pub root_alone : (ids : SongIds) (at k : ℕ) → k ≡ 0
    → instrument_root_in ids at ≡ slice_get (dropped (reaches.Instrument at) ids) (1 + k)
root_alone ids at k is =
    instrument_first (λ (y : InstrumentIds). []) ids at k is
    ∙ sym (behind_first ids.root (segments_if instrument_root_of (slice_get ids.instruments at)) (1 + k) k refl)

-- the sample of the stretch
pub the_sample : (at s first last gone : ℕ) (ids : SongIds) → (has : HoldsInstrument at (HasStretch s first last gone) ids)
    → IsSampleOf ids has.holds.sample
the_sample at s first last gone ids has = record {
  at = at;
  number = s;
  there = ap (λ (o : Option InstrumentIds). slice_get (samples_if o) s) has.there ∙ has.holds.there;
}

pub frames_length : (p : Placed) (m : Module) (at s first last gone n : ℕ) → Shows p m
    → (has : HoldsInstrument at (HasStretch s first last gone) (ids_of p))
    → (length has.holds.sample.indexes ≤ 4 → n ≡ length (root_and_stretch first gone has.holds.sample))
    → 1 + (1 + n) ≡ length (dropped (reaches.Frames at s first last gone) (ids_of p))
frames_length p m at s first last gone n shows has is =
    let few = few_indexes p m has.holds.sample shows (the_sample at s first last gone (ids_of p) has) in
    let many = is few in
    let rest = λ (y : InstrumentIds). root_and_sample (root_and_stretch first gone) s y in
    let all = ap (λ (o : Option InstrumentIds). length (segments_if (root_and_sample (root_and_stretch first gone) s) o)) has.there in
    let here = ap (λ (o : Option SampleIds). length (segments_if (root_and_stretch first gone) o)) has.holds.there in
    omega (arith, many, all, here)
