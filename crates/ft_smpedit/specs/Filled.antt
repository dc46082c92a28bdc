-- The words of the indexes and bodies that an edit of frames fills.
use Rattle.std.specs.Prelude.{◌≡◌, ◌≢◌, ℕ, ◌+◌, ◌-◌, ◌*◌, ◌/◌, ◌<◌, ◌≤◌, nat_lt, if◌then◌else◌, List, Some, ℤ, length, take, drop, slice_get, slice_index}
use Rattle.ft_types.specs.declared.module.Module.{Module}
use Rattle.ft_types.specs.declared.instrument.Instrument.{Instrument}
use Rattle.ft_types.specs.declared.sample.Sample.{Sample}
use Rattle.ft_types.specs.declared.edit.Edit.{Edit}
use Rattle.ft_types.specs.Blocks.{pieces_of}
use Rattle.ft_segments.specs.Packing.{ids_word}
use Rattle.ft_segments.specs.Walk.{IndexIds, SampleIds, InstrumentIds, SongIds, Placed, ids_of}
use Rattle.ft_changes.specs.Ids.{index_count}
use Rattle.ft_changes.specs.Fits.{IsStretch}
use Rattle.ft_changes.specs.Parts.{body_ids}
use Rattle.ft_image.specs.Values.{frames_word}
use Rattle.ft_image.specs.Shown.{Shows}
use Rattle.ft_image.specs.Read.{MayShowAll, IsRootOf}
use Rattle.ft_placed.specs.Roots.{IsSampleOf}
use Rattle.ft_sharing.specs.Laws.{IsRefilled}
use Rattle.ft_sharing.specs.Written.{AtPlace, IndexIsWritten, FramesBodyIsWritten}
use Rattle.ft_smpedit.specs.declared.slots.BodyRange.{BodyRange}
use Rattle.ft_smpedit.specs.Sources.{HasNamedFrames}

-- the view may show a version with this sample at a root, and an edit refills bodies of it: its ids
-- were these, and are these with the fresh ones
pub record Refills {V : Type 0} (may_show : V → Placed → ℕ → Type 0) (view : V) (placed : Placed)
    (root : ℕ) (edit : Edit) (range : BodyRange) (fresh : List ℕ) (sample : Sample)
    (old new : SampleIds) : Type 0 where
  pub song : Module
  pub may : MayShowAll may_show view placed
  pub shows : Shows placed song
  pub of : IsRootOf placed song root sample
  pub ids : IsSampleOf (ids_of placed) old
  pub named : old.root ≡ root
  pub frames : HasNamedFrames (length sample.frames) edit
  pub stretch : IsStretch range.first range.last range.gone old
  pub refilled : IsRefilled range.first range.last range.gone fresh old new
  pub count : length fresh
      ≡ 3 + index_count range.first range.last + (range.last - range.first)
  pub few : range.last ≤ 3840

-- how many indexes are filled
abbrev pub indexes_filled : BodyRange → ℕ
indexes_filled range = index_count range.first range.last

-- the word of an index that names 1,024 bodies from a number of thousands on
abbrev pub index_word : List ℕ → ℕ → ℕ → ℕ
index_word bodies k place = ids_word (take 1024 (drop (1024 * k) bodies)) place

-- the word of a fresh segment by its place among the fresh: from 3 on the indexes, then the bodies
abbrev pub slot_word : BodyRange → List ℤ → List ℕ → ℕ → ℕ → ℕ
slot_word range frames bodies slot place =
    if nat_lt (slot - 3) (indexes_filled range)
    then index_word bodies (range.first / 1024 + (slot - 3)) place
    else frames_word frames ((range.first + (slot - 3 - indexes_filled range)) * 256 + place)

-- none of the fresh segments that are filled is this one
abbrev pub IsNoSlot : List ℕ → ℕ → Type 0
IsNoSlot fresh segment =
    (slot : ℕ) → 3 ≤ slot → slot < length fresh → segment ≢ slice_index fresh slot

-- the indexes and bodies that the edit fills have their words
pub record AreFilled (pool : List ℕ) (range : BodyRange) (sample : Sample) (ids : SampleIds)
    : Type 0 where
  pub indexes : (k : ℕ) (index : IndexIds) → range.first / 1024 ≤ k
      → k < pieces_of range.last 1024 → slice_get ids.indexes k ≡ Some index
      → IndexIsWritten pool index
  pub bodies : (body : ℕ) → range.first ≤ body → body < range.last
      → FramesBodyIsWritten pool sample (slice_index (body_ids ids) body) body

-- what holds of the sample at a place of an instrument at a place, and of its segments
abbrev pub AreFilledAt : ℕ → ℕ → (Sample → SampleIds → Type 0) → Module → SongIds → Type 0
AreFilledAt at s AreThere song ids =
    AtPlace at
    (λ (instrument : Instrument) (segments : InstrumentIds).
    AtPlace s AreThere instrument.samples segments.samples)
    song.instruments ids.instruments
