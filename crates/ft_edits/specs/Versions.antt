-- Lawful journals, and the song at a version over one.
use Rattle.std.specs.Prelude.{◌≡◌, ℕ, ◌+◌, ◌⊎◌, List, [], ◌∷◌, Result, Ok, Err, nat_le, if◌then◌else◌}
use Rattle.ft_types.specs.declared.module.Module.{Module}
use Rattle.ft_types.specs.declared.journal.Entry.{Entry}
use Rattle.ft_edits.specs.Apply.{BatchRefusal, apply_batch}

-- the versions count on by one, and each batch applied to the song before it gives a song
abbrev pub IsLawful : Module → ℕ → List Entry → Type 0
IsLawful song version [] = Unit {0}
IsLawful song version (entry ∷ entries) =
    (entry.version ≡ version + 1)
    × ((next : Module) × (apply_batch song entry.batch ≡ Ok next)
    × IsLawful next (version + 1) entries)

-- what a batch leaves; one that is refused leaves the song as it was
abbrev pub left_by : Module → Result Module BatchRefusal → Module
left_by song (Ok next) = next
left_by song (Err refusal) = song

-- the song after all entries of at most this version
abbrev pub module_at : Module → List Entry → ℕ → Module
module_at song [] version = song
module_at song (entry ∷ entries) version =
    if nat_le entry.version version
    then module_at (left_by song (apply_batch song entry.batch)) entries version
    else module_at song entries version

-- a version is committed where it is the first, or an entry's
abbrev pub IsEntrys : ℕ → List Entry → Type 0
IsEntrys version [] = ⊥
IsEntrys version (entry ∷ entries) = (entry.version ≡ version) ⊎ IsEntrys version entries

abbrev pub IsCommitted : ℕ → List Entry → ℕ → Type 0
IsCommitted opening entries version = (version ≡ opening) ⊎ IsEntrys version entries
