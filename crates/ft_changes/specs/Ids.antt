-- The segments of a song after an edit that filled fresh ones. The fresh are used in this order: the
-- song root; the root of the pattern or of the instrument; the pattern's bodies, or the sample root,
-- then its indexes, then its bodies.
use Rattle.std.specs.Prelude.{ℕ, ◌+◌, ◌-◌, ◌/◌, List, [], Option, None, Some, take, drop, set, slice_get, slice_index}
use Rattle.ft_types.specs.Blocks.{pieces_of}
use Rattle.ft_edits.specs.Lists.{with_stretch, without_last}
use Rattle.ft_segments.specs.Walk.{PatternIds, IndexIds, SampleIds, InstrumentIds, SongIds}
use Rattle.ft_changes.specs.declared.reach.Reach.{Reach}
use Rattle.ft_changes.specs.declared.reach.Reach.TheVariants.{Song, LastPattern, Cell, Pattern, Instrument, Bare, LastSample, Sample, Frames}
use Rattle.ft_changes.specs.Parts.{put, index_roots, body_ids, grouped}

-- the parts of parts that may be missing
abbrev pub bodies_if : Option PatternIds → List ℕ
bodies_if None = []
bodies_if (Some pattern) = pattern.bodies

abbrev pub samples_if : Option InstrumentIds → List SampleIds
samples_if None = []
samples_if (Some instrument) = instrument.samples

abbrev pub indexes_if : Option SampleIds → List IndexIds
indexes_if None = []
indexes_if (Some sample) = sample.indexes

abbrev pub bodies_at : SongIds → ℕ → List ℕ
bodies_at ids p = bodies_if (slice_get ids.patterns p)

-- the samples of an instrument, and the indexes of one of them; both from 0
abbrev pub samples_of : SongIds → ℕ → List SampleIds
samples_of ids at = samples_if (slice_get ids.instruments at)

abbrev pub indexes_at : SongIds → ℕ → ℕ → List IndexIds
indexes_at ids at s = indexes_if (slice_get (samples_of ids at) s)

-- the fresh segments for indexes and for bodies
abbrev pub index_count : ℕ → ℕ → ℕ
index_count first last = pieces_of last 1024 - first / 1024

abbrev pub fresh_indexes : ℕ → ℕ → List ℕ → List ℕ
fresh_indexes first last fresh = take (index_count first last) (drop 3 fresh)

abbrev pub fresh_bodies : ℕ → ℕ → List ℕ → List ℕ
fresh_bodies first last fresh = drop (3 + index_count first last) fresh

-- the indexes of a sample whose bodies from one up to another became fresh ones
abbrev pub indexes_after : ℕ → ℕ → ℕ → List ℕ → List IndexIds → List IndexIds
indexes_after first last gone fresh indexes =
    grouped
    (with_stretch (first / 1024) (pieces_of gone 1024) (λ roots. fresh_indexes first last fresh)
    (index_roots (record { root = 0; indexes = indexes })))
    (with_stretch first gone (λ bodies. fresh_bodies first last fresh)
    (body_ids (record { root = 0; indexes = indexes })))

-- an instrument with these samples, in the song
abbrev pub with_samples_at : ℕ → List SampleIds → List ℕ → SongIds → SongIds
with_samples_at at samples fresh ids = record {
  root = slice_index fresh 0;
  patterns = ids.patterns;
  instruments = put at (record { root = slice_index fresh 1; samples = samples }) ids.instruments;
}

-- a pattern with these bodies
abbrev pub with_bodies_at : ℕ → List ℕ → List ℕ → SongIds → SongIds
with_bodies_at p bodies fresh ids = record {
  root = slice_index fresh 0;
  patterns = put p (record { root = slice_index fresh 1; bodies = bodies }) ids.patterns;
  instruments = ids.instruments;
}

abbrev pub ids_after : Reach → List ℕ → SongIds → SongIds
ids_after Song fresh ids = record ids { root = slice_index fresh 0 }
ids_after LastPattern fresh ids =
    record ids { root = slice_index fresh 0; patterns = without_last ids.patterns }
ids_after (Cell p b) fresh ids =
    with_bodies_at p (set (bodies_at ids p) b (slice_index fresh 2)) fresh ids
ids_after (Pattern p bodies) fresh ids = with_bodies_at p (drop 2 fresh) fresh ids
ids_after (Instrument at) fresh ids = with_samples_at at (samples_of ids at) fresh ids
ids_after (Bare at) fresh ids = with_samples_at at [] fresh ids
ids_after (LastSample at) fresh ids =
    with_samples_at at (without_last (samples_of ids at)) fresh ids
ids_after (Sample at s) fresh ids =
    with_samples_at at
    (put s (record { root = slice_index fresh 2; indexes = indexes_at ids at s })
    (samples_of ids at)) fresh ids
ids_after (Frames at s first last gone) fresh ids =
    with_samples_at at
    (put s
    (record {
      root = slice_index fresh 2;
      indexes = indexes_after first last gone fresh (indexes_at ids at s);
    })
    (samples_of ids at)) fresh ids
