-- What contracts see of a desk, and what holds of every desk.
use Rattle.std.specs.Prelude.{◌≡◌, ◌↔◌, ℕ, ◌+◌, ◌-◌, ◌<◌, ◌≤◌, List, [], ◌∷◌, ◌++◌, length, replicate, slice_index, slice_index_or, true, false, Option, Some, IsSomeAnd}
use Rattle.ft_types.specs.declared.module.Module.{Module}
use Rattle.ft_types.specs.declared.journal.Entry.{Entry}
use Rattle.ft_types.specs.Journals.{JournalState}
use Rattle.ft_types.specs.Blocks.{blocks_of}
use Rattle.ft_edits.specs.Versions.{IsLawful, IsCommitted, module_at}
use Rattle.ft_segments.specs.Walk.{IsOf, each_below, ids_of, walk}
use Rattle.ft_shared.specs.declared.law.Account.{Account}
use Rattle.ft_shared.specs.declared.law.PlacedVersion.{PlacedVersion}
use Rattle.ft_shared.specs.Account.{pool_of}
use Rattle.ft_shared.specs.History.{placed_at, root_and_pool, HasVersion}
use Rattle.ft_shared.specs.Pass.{RegisterId, WriterState, opening_writer}
use Rattle.ft_shared.specs.Segments.{IsAsPlaced, IsUnwritten}
use Rattle.ft_retire.specs.Births.{BirthsState}
use Rattle.ft_retire.specs.Lives.{never, lives_at, born_at as life_from}
use Rattle.ft_desk.specs.Parts.{BornPart, part_of, entry_of}
use Rattle.ft_image.specs.Laid.{song_laid}
use Rattle.ft_image.specs.Passes.{IsAmong}
use Rattle.ft_image.specs.Shown.{Shows}

-- the writer's pass of a register, what was committed and refused, the birth and death of each
-- segment of the pool, for how many segments the list of those that a commit fills has room, and the
-- song and the version with which the desk was opened
pub record DeskState : Type 0 where
  pub writer : WriterState
  pub journal : JournalState
  pub births : BirthsState
  pub room : ℕ
  pub opening : Module
  pub first : ℕ

abbrev pub desk_of : WriterState → JournalState → BirthsState → ℕ → Module → ℕ → DeskState
desk_of writer journal births room opening first = record {
  writer = writer;
  journal = journal;
  births = births;
  room = room;
  opening = opening;
  first = first;
}

-- the births of a pool that was just opened: that many segments live from its version on
abbrev pub opening_births : ℕ → ℕ → ℕ → BirthsState
opening_births segments live version = record {
  lives = replicate live (life_from version) ++ replicate (segments - live) never;
  marks = replicate segments false;
  looked = 0;
}

-- the list of parts: what each segment of the pool was last filled for
abbrev pub born_parts : DeskState → List (Option BornPart)
born_parts desk = each_below desk.writer.register.sizes.segments (entry_of desk.writer.account)

-- The segment's entry is the part that it is of the version, and the version for which it was last
-- filled
abbrev pub IsEntryOf : Account → PlacedVersion → ℕ → Type 0
IsEntryOf account placed segment = IsSomeAnd (entry_of account segment) (λ entry.
    (part_of (ids_of (root_and_pool placed)) segment ≡ Some entry.part)
    × (entry.birth ≡ slice_index account.filled segment))

-- Births fit a version: the segments of the pool that live at it are its segments
abbrev pub AreBornFor : DeskState → ℕ → PlacedVersion → Type 0
AreBornFor desk version placed =
    (segment : ℕ) → segment < desk.writer.register.sizes.segments
    → lives_at (slice_index_or desk.births.lives segment never) version ≡ true
    ↔ IsOf (root_and_pool placed) segment

-- What commits need was reserved: a life for each segment of the pool, and room for a list of all
pub record IsReserved (desk : DeskState) : Type 0 where
  pub lives : length desk.births.lives ≡ desk.writer.register.sizes.segments
  pub marks : length desk.births.marks ≡ desk.writer.register.sizes.segments
  pub room : desk.writer.register.sizes.segments ≤ desk.room

-- the version that entries lead to: the last one's, or the opening version where there is none
abbrev pub last_version : ℕ → List Entry → ℕ
last_version version [] = version
last_version version (entry ∷ entries) = last_version entry.version entries

-- the song at a version
abbrev pub desk_song : DeskState → ℕ → Module
desk_song desk version = module_at desk.opening desk.journal.entries version

-- The version lies in the pool and shows the desk's song at its number, which has the register's
-- channels
pub record IsVersionShown (desk : DeskState) (version : ℕ) (placed : PlacedVersion) : Type 0 where
  pub among : IsAmong desk.writer.register.sizes.segments (root_and_pool placed)
  pub shows : Shows (root_and_pool placed) (desk_song desk version)
  pub channels : (desk_song desk version).channels ≡ desk.writer.register.sizes.channels

pub record IsDesk (desk : DeskState) : Type 0 where
  -- the writer's pass knows the sizes of its register, and which of its slots is current
  pub sizes : desk.writer.account.sizes ≡ desk.writer.register.sizes
  pub inside : desk.writer.account.slot < desk.writer.register.sizes.readers + 2
  -- each batch of the journal makes a song of the one before, and the versions count on
  pub lawful : IsLawful desk.opening desk.first desk.journal.entries
  -- the current version is the last that was committed
  pub current : desk.writer.account.version ≡ last_version desk.first desk.journal.entries
  -- the versions of the history are those that were committed
  pub committed : (version : ℕ) → HasVersion desk.writer.account.history version
      ↔ IsCommitted desk.first desk.journal.entries version
  -- and each of them shows the song at it
  pub shown : (version : ℕ) (placed : PlacedVersion)
      → placed_at desk.writer.account.history version ≡ Some placed
      → IsVersionShown desk version placed
  -- the current version is in the words last written
  pub written : IsUnwritten desk.writer.account desk.writer.account.version
  -- a segment that was not written since a version was placed has the entry of that version: so has
  -- each segment that a version or a pin holds
  pub entries : (version : ℕ) (placed : PlacedVersion) (segment : ℕ)
      → placed_at desk.writer.account.history version ≡ Some placed
      → IsOf (root_and_pool placed) segment → IsAsPlaced desk.writer.account placed segment
      → IsEntryOf desk.writer.account placed segment
  -- births fit each version that was not written since
  pub born : (version : ℕ) (placed : PlacedVersion)
      → placed_at desk.writer.account.history version ≡ Some placed
      → IsUnwritten desk.writer.account version → AreBornFor desk version placed
  pub reserved : IsReserved desk

-- A desk that was just opened on a song: its register's pool has the song, laid from segment 0 on,
-- as the first version, nothing was committed or refused, and what commits need was reserved
pub record IsOpened (register : RegisterId) (song : Module) (version : ℕ) (desk : DeskState)
    : Type 0 where
  pub words : List ℕ
  pub writer : desk.writer
      ≡ opening_writer register version 0 (pool_of register.sizes.segments words)
  pub laid : walk (pool_of register.sizes.segments words) 0 ≡ song_laid song
  pub entries : desk.journal.entries ≡ []
  pub refusals : desk.journal.refusals ≡ []
  pub births : desk.births ≡ opening_births register.sizes.segments (blocks_of song) version
  pub room : desk.room ≡ register.sizes.segments
  pub opening : desk.opening ≡ song
  pub first : desk.first ≡ version
