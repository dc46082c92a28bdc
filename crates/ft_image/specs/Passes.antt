-- What views over the passes of a register may show, and what a read leaves of a pass.
use Rattle.std.specs.Prelude.{◌≡◌, ℕ, ◌+◌, ◌<◌, List, ◌++◌, length, Some}
use Rattle.ft_segments.specs.Walk.{Placed, IsOf, SameWords}
use Rattle.ft_segments.specs.Pins.{PinHolds}
use Rattle.ft_shared.specs.declared.law.TakenVersion.{TakenVersion}
use Rattle.ft_shared.specs.declared.law.PlacedVersion.{PlacedVersion}
use Rattle.ft_shared.specs.declared.law.WordRead.{WordRead}
use Rattle.ft_shared.specs.declared.law.WordStep.{WordStep}
use Rattle.ft_shared.specs.declared.law.Pin.{Pin}
use Rattle.ft_shared.specs.declared.law.Notes.{Notes}
use Rattle.ft_shared.specs.Counts.{pin_of}
use Rattle.ft_shared.specs.History.{placed_at, root_and_pool, Agrees}
use Rattle.ft_shared.specs.Pass.{ReaderState, WriterState}

-- ---- what may be shown

-- all segments of a version are among that many
abbrev pub IsAmong : ℕ → Placed → Type 0
IsAmong segments placed = (segment : ℕ) → IsOf placed segment → segment < segments

-- a history that agrees with the notes has this version by its number
pub record IsAgreed (notes : Notes) (number : ℕ) (placed : Placed) : Type 0 where
  pub history : List PlacedVersion
  pub agrees : Agrees history notes
  pub version : PlacedVersion
  pub found : placed_at history number ≡ Some version
  pub is : root_and_pool version ≡ placed

-- a history that agrees with the notes has this version as the one that is held
pub record IsHeldVersion (notes : Notes) (placed : Placed) : Type 0 where
  pub taken : TakenVersion
  pub held : notes.held ≡ Some taken
  pub agreed : IsAgreed notes taken.version placed

-- a history that agrees with the notes has this version as the one from which the pin of the
-- channel was set, and there the pin holds the segment
pub record IsPinnedVersion (notes : Notes) (channel : ℕ) (placed : Placed) (segment : ℕ) : Type 0
  where
    pub pin : Pin
    pub stands : pin_of notes channel ≡ Some pin
    pub agreed : IsAgreed notes pin.version placed
    pub holds : PinHolds placed pin.root segment

-- by the version that a pass holds: its segments, all of which are the pool's
abbrev pub MayShowHeld : ReaderState → Placed → ℕ → Type 0
MayShowHeld pass placed segment =
    IsAmong pass.register.sizes.segments placed
    × IsHeldVersion pass.notes placed × IsOf placed segment

-- by the pin of a channel: the segments that it holds of a version whose segments are the pool's
abbrev pub MayShowPinned : ReaderState → ℕ → Placed → ℕ → Type 0
MayShowPinned pass channel placed segment =
    IsAmong pass.register.sizes.segments placed
    × IsPinnedVersion pass.notes channel placed segment

-- the words of all segments of a version are those last written
abbrev pub StandsWritten : WriterState → Placed → Type 0
StandsWritten pass placed =
    (segment : ℕ) → IsOf placed segment → SameWords placed.pool pass.account.pool segment

-- by the words last written: the segments of a version that is in them
abbrev pub MayShowWritten : WriterState → Placed → ℕ → Type 0
MayShowWritten pass placed segment =
    IsAmong pass.register.sizes.segments placed
    × StandsWritten pass placed × IsOf placed segment

-- ---- what a read leaves

-- notes with more reads and steps after those so far
abbrev pub after_reads : Notes → List WordRead → List WordStep → Notes
after_reads notes reads steps =
    record notes { reads = notes.reads ++ reads; steps = notes.steps ++ steps }

-- a reader's pass has noted more reads and made more steps, and all else of it is as it was
pub record HasReadOn (old new : ReaderState) : Type 0 where
  pub reads : List WordRead
  pub steps : List WordStep
  pub is : new ≡ record old { notes = after_reads old.notes reads steps }

-- the count rose by as many as the steps that a reader's pass made
abbrev pub AreCounted : ReaderState → ReaderState → ℕ → ℕ → Type 0
AreCounted old new count more =
    length new.notes.steps + count ≡ length old.notes.steps + more

-- the writer's pass has made more steps, and all else of it is as it was
pub record HasMadeSteps (old new : WriterState) : Type 0 where
  pub steps : List WordStep
  pub is : new ≡ record old {
    account = record old.account { steps = old.account.steps ++ steps };
  }
