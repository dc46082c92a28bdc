-- The parts of a song, and for which part and version each segment of a pool was last filled.
use Rattle.std.specs.Prelude.{ℕ, ◌+◌, ◌*◌, ◌==◌, if◌then◌else◌, List, [], ◌∷◌, ◌++◌, slice_index, Option, Some, None, option_map}
use Rattle.ft_segments.specs.Walk.{PatternIds, IndexIds, SampleIds, InstrumentIds, SongIds, each_below, ids_of}
use Rattle.ft_shared.specs.declared.law.PlacedVersion.{PlacedVersion}
use Rattle.ft_shared.specs.declared.law.Account.{Account}
use Rattle.ft_shared.specs.History.{placed_at, root_and_pool}

-- a part of a song, by its kind and its numbers. Instruments count from 1, all else from 0
pub data Part : Type 0 where
  SongRoot : Part
  PatternRoot : (pattern : ℕ) → Part
  PatternBody : (pattern body : ℕ) → Part
  InstrumentRoot : (instrument : ℕ) → Part
  SampleRoot : (instrument sample : ℕ) → Part
  SampleIndex : (instrument sample index : ℕ) → Part
  SampleBody : (instrument sample body : ℕ) → Part

-- ---- the part that a segment is

-- a segment, and the part of a song that it is
pub record PlacedPart : Type 0 where
  pub segment : ℕ
  pub part : Part

abbrev pub one_part : ℕ → Part → List PlacedPart
one_part segment part = record { segment = segment; part = part } ∷ []

-- the parts of each of a list by its number, which counts on from the first one's
abbrev pub numbered : {A : Type 0} → (ℕ → A → List PlacedPart) → ℕ → List A → List PlacedPart
numbered parts n [] = []
numbered parts n (x ∷ xs) = parts n x ++ numbered parts (n + 1) xs

abbrev pub pattern_parts : ℕ → PatternIds → List PlacedPart
pattern_parts p ids =
    one_part ids.root (PatternRoot p)
    ++ numbered (λ b body. one_part body (PatternBody p b)) 0 ids.bodies

-- body j of index k is body 1,024 k + j of the sample
abbrev pub index_parts : ℕ → ℕ → ℕ → IndexIds → List PlacedPart
index_parts i s k ids =
    one_part ids.root (SampleIndex i s k)
    ++ numbered (λ j body. one_part body (SampleBody i s (1024 * k + j))) 0 ids.bodies

abbrev pub sample_parts : ℕ → ℕ → SampleIds → List PlacedPart
sample_parts i s ids =
    one_part ids.root (SampleRoot i s) ++ numbered (index_parts i s) 0 ids.indexes

abbrev pub instrument_parts : ℕ → InstrumentIds → List PlacedPart
instrument_parts i ids =
    one_part ids.root (InstrumentRoot i) ++ numbered (sample_parts i) 0 ids.samples

-- each segment that ids name, with its part
abbrev pub song_parts : SongIds → List PlacedPart
song_parts ids =
    one_part ids.root SongRoot
    ++ numbered pattern_parts 0 ids.patterns
    ++ numbered instrument_parts 1 ids.instruments

abbrev pub part_in : List PlacedPart → ℕ → Option Part
part_in [] segment = None
part_in (x ∷ xs) segment = if x.segment == segment then Some x.part else part_in xs segment

-- the part that a segment is by these ids, if they name it
unfoldable pub part_of : SongIds → ℕ → Option Part
part_of ids segment = part_in (song_parts ids) segment

-- ---- the desk's list of parts

-- a part, and the version for which its segment was filled
pub record BornPart : Type 0 where
  pub part : Part
  pub birth : ℕ

abbrev pub part_born_at : ℕ → Option Part → Option BornPart
part_born_at version part = option_map (λ part. record { part = part; birth = version }) part

abbrev pub born_in : Option PlacedVersion → ℕ → Option BornPart
born_in None segment = None
born_in (Some placed) segment =
    part_born_at placed.version (part_of (ids_of (root_and_pool placed)) segment)

-- What a segment was last filled for: the part that it is of the version for which it was filled,
-- and that version. There is none where it is of no such version
abbrev pub entry_of : Account → ℕ → Option BornPart
entry_of account segment =
    born_in (placed_at account.history (slice_index account.filled segment)) segment

-- the list of a desk that was just opened on a song that is laid by these ids
abbrev pub opening_parts : ℕ → ℕ → SongIds → List (Option BornPart)
opening_parts segments version ids =
    each_below segments (λ segment. part_born_at version (part_of ids segment))
