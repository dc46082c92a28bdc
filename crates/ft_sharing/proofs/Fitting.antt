-- The segments of a shown song have the parts that an edit reaches.
use Rattle.std.proofs.Common.{◌≡◌, ℕ, List, Some, arith}
use Rattle.std.specs.Prelude.{slice_get}
use Rattle.ft_types.specs.declared.module.Module.{Module}
use Rattle.ft_types.specs.declared.sample.Sample.{Sample}
use Rattle.ft_segments.specs.Walk.{InstrumentIds, SongIds, ids_of}
use Rattle.ft_changes.specs.declared.reach.Reach.{Reach}
use Rattle.ft_changes.specs.declared.reach.Reach.TheVariants as reaches
use Rattle.ft_changes.specs.Reached.{IsReached, IsInstrumentReached}
use Rattle.ft_changes.specs.Fits.{IsThere}
use Rattle.ft_image.specs.Shown.{ShowsPattern, ShowsSample, ShowsInstrument, ShowsParts}
use Rattle.ft_sharing.specs.Laws.{ReachedFits}
use Rattle.ft_sharing.proofs.Pairs.{paired_with}
use Rattle.ft_sharing.proofs.Frames.{stretch_there}

-- the instrument that was there has ids
pub with_ids : (pool : List ℕ) (old new : Module) (ids : SongIds) (at : ℕ) (Made : List Sample → List Sample → Type 0)
    → ShowsParts pool old ids → (reached : IsInstrumentReached Made at old new)
    → (q : InstrumentIds) × (slice_get ids.instruments at ≡ Some q) × ShowsInstrument pool reached.before q
with_ids pool old new ids at Made stands reached =
    paired_with (ShowsInstrument pool) old.instruments ids.instruments at reached.before stands.instruments reached.there

pub is_there : (pool : List ℕ) (old new : Module) (ids : SongIds) (reach : Reach) → ShowsParts pool old ids → IsReached reach old new
    → IsThere reach ids
is_there pool old new ids reaches.Song stands reached = tt
is_there pool old new ids reaches.LastPattern stands reached = tt
is_there pool old new ids (reaches.Cell p b) stands reached =
    let one = paired_with (ShowsPattern pool old.channels) old.patterns ids.patterns p reached.before stands.patterns reached.there in
    record {
      pattern = one.0;
      there = one.1;
      below = omega (arith, one.2.count, reached.change.there);
    }
is_there pool old new ids (reaches.Pattern p n) stands reached = omega (arith, stands.patterns.count, reached.there)
is_there pool old new ids (reaches.Instrument at) stands reached =
    let one = with_ids pool old new ids at _ stands reached in record { instrument = one.0; there = one.1; holds = tt }
is_there pool old new ids (reaches.Bare at) stands reached = omega (arith, stands.instruments.count, reached.there)
is_there pool old new ids (reaches.LastSample at) stands reached =
    let one = with_ids pool old new ids at _ stands reached in record { instrument = one.0; there = one.1; holds = tt }
is_there pool old new ids (reaches.Sample at s) stands reached =
    let one = with_ids pool old new ids at _ stands reached in
    record {
      instrument = one.0;
      there = one.1;
      holds = omega (arith, one.2.each.count, reached.made.there);
    }
is_there pool old new ids (reaches.Frames at s first last gone) stands reached =
    let one = with_ids pool old new ids at _ stands reached in
    let made = reached.made in
    let sample = paired_with (ShowsSample pool) reached.before.samples one.0.samples s made.before one.2.each made.there in
    record {
      instrument = one.0;
      there = one.1;
      holds = record {
        sample = sample.0;
        there = sample.1;
        stretch = stretch_there pool made.before made.after sample.0 first last gone sample.2 made.change;
      };
    }

pub reached_fits : ReachedFits
reached_fits placed old new reach fresh shows reached count = record {
  there = is_there placed.pool old new (ids_of placed) reach shows.stands reached;
  count = count;
}
