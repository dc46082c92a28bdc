-- What holds of edits, whatever the song is.
use Rattle.std.specs.Prelude.{◌≡◌, ◌≤◌, ◌⊎◌, ℕ, None, Ok, All, List}
use Rattle.ft_types.specs.declared.module.Module.{Module}
use Rattle.ft_types.specs.declared.edit.Edit.{Edit}
use Rattle.ft_types.specs.declared.journal.Entry.{Entry}
use Rattle.ft_types.specs.Valid.{IsValid}
use Rattle.ft_edits.specs.Faults.{fault_of}
use Rattle.ft_edits.specs.Groups.{group_of}
use Rattle.ft_edits.specs.declared.group.Group.TheVariants.{Patterns, Instruments, Samples, Frames}
use Rattle.ft_edits.specs.Patterns.{with_pattern}
use Rattle.ft_edits.specs.Instruments.{with_instrument}
use Rattle.ft_edits.specs.Samples.{with_sample}
use Rattle.ft_edits.specs.Changes.{pattern_number, instrument_number, sample_number, pattern_changed, instrument_changed, sample_changed}
use Rattle.ft_edits.specs.Edited.{edited}
use Rattle.ft_edits.specs.Apply.{apply, apply_batch}
use Rattle.ft_edits.specs.Versions.{module_at}
use Rattle.ft_edits.specs.Given.{HoldsFields}
use Rattle.ft_edits.specs.Allowed.{Allows}

-- an edit of a valid song that isn't refused gives a valid song
abbrev pub EditedIsValid : Type 0
EditedIsValid =
    (song : Module) (edit : Edit) → IsValid song → HoldsFields edit → fault_of song edit ≡ None
    → IsValid (edited song edit)

-- an edit that isn't refused names what is there
abbrev pub AllowedIsThere : Type 0
AllowedIsThere = (song : Module) (edit : Edit) → fault_of song edit ≡ None → Allows song edit

-- so does `apply`
abbrev pub AppliedIsValid : Type 0
AppliedIsValid =
    (song next : Module) (edit : Edit) → IsValid song → HoldsFields edit → apply song edit ≡ Ok next
    → IsValid next

-- and a batch
abbrev pub BatchIsValid : Type 0
BatchIsValid =
    (song next : Module) (batch : List Edit) → IsValid song → All HoldsFields batch
    → apply_batch song batch ≡ Ok next → IsValid next

-- and each version of a journal
abbrev pub VersionsAreValid : Type 0
VersionsAreValid = (song : Module) (entries : List Entry) (version : ℕ) → IsValid song
    → All (λ (entry : Entry). All HoldsFields entry.batch) entries
    → IsValid (module_at song entries version)

-- an edit of a pattern changes the pattern that it names, and leaves all else
abbrev pub ChangesPattern : Type 0
ChangesPattern = (song : Module) (edit : Edit) → group_of edit ≡ Patterns
    → edited song edit ≡ with_pattern (pattern_number edit) (pattern_changed song edit) song

-- an edit that names an instrument changes that one; a new instrument has no number in it
abbrev pub ChangesInstrument : Type 0
ChangesInstrument = (song : Module) (edit : Edit) → group_of edit ≡ Instruments
    → 1 ≤ instrument_number edit
    → edited song edit ≡ with_instrument (instrument_number edit) (instrument_changed edit) song

-- an edit of samples changes the samples of the instrument that it names, or the sample
abbrev pub ChangesSamples : Type 0
ChangesSamples = (song : Module) (edit : Edit) → group_of edit ≡ Samples
    → (edited song edit
    ≡ with_instrument (instrument_number edit) (instrument_changed edit) song)
    ⊎ (edited song edit
    ≡ with_sample (instrument_number edit) (sample_number edit) (sample_changed edit) song)

-- an edit of frames changes the sample that it names
abbrev pub ChangesFrames : Type 0
ChangesFrames = (song : Module) (edit : Edit) → group_of edit ≡ Frames
    → edited song edit
    ≡ with_sample (instrument_number edit) (sample_number edit) (sample_changed edit) song
