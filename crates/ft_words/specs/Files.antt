-- Which files words name.
use Rattle.std.specs.Prelude.{◌≡◌, List, [], ◌∷◌, Option, Some, None, String, string_bytes, codes, map}
use Rattle.std.specs.declared.alloc.Global.{Global}
use Rattle.clap.specs.Words.{App, Text, fault_of, first_of, matches_of}
use Rattle.ft_words.specs.Commands.{copy_app, gen_app, import_app, step_app}
use Rattle.ft_words.specs.Refused.{verb_named}
use Rattle.ft_words.specs.declared.files.FileNames.{FileNames}
use Rattle.ft_words.specs.declared.verb.Verb.{Verb}
use Rattle.ft_words.specs.declared.verb.Verb.TheVariants as verb

-- the list is the one text of an argument in `clap`'s matches
abbrev pub IsNamed : App → List Text → Text → List (String Global) → Type 0
IsNamed app others id texts =
    (t : Text) × (first_of id (matches_of app others) ≡ Some t) × (map string_bytes texts ≡ t ∷ [])

-- `step SONG WAV LEDGER`
pub record NamesStep (others : List Text) (files : FileNames) : Type 0 where
  pub taken : fault_of step_app others ≡ []
  pub song : IsNamed step_app others (codes "song") files.song
  pub wav : IsNamed step_app others (codes "wav") files.wav
  pub ledger : IsNamed step_app others (codes "ledger") files.ledger
  pub scripts : files.scripts ≡ []

-- `copy SONG OUT`: OUT takes the place of the WAV file
pub record NamesCopy (others : List Text) (files : FileNames) : Type 0 where
  pub taken : fault_of copy_app others ≡ []
  pub song : IsNamed copy_app others (codes "song") files.song
  pub wav : IsNamed copy_app others (codes "out") files.wav
  pub ledger : files.ledger ≡ []
  pub scripts : files.scripts ≡ []

-- `gen NUMBER OUT`: OUT takes the place of the WAV file
pub record NamesGen (others : List Text) (files : FileNames) : Type 0 where
  pub taken : fault_of gen_app others ≡ []
  pub song : files.song ≡ []
  pub wav : IsNamed gen_app others (codes "out") files.wav
  pub ledger : files.ledger ≡ []
  pub scripts : files.scripts ≡ []

-- `import MOD OUT`: MOD takes the place of the song, and OUT that of the WAV file
pub record NamesImport (others : List Text) (files : FileNames) : Type 0 where
  pub taken : fault_of import_app others ≡ []
  pub song : IsNamed import_app others (codes "mod") files.song
  pub wav : IsNamed import_app others (codes "out") files.wav
  pub ledger : files.ledger ≡ []
  pub scripts : files.scripts ≡ []

-- the files of a command, by the words behind it
abbrev pub NamesOf : Option Verb → List Text → FileNames → Type 0
NamesOf None others files = ⊥
NamesOf (Some verb.Step) others files = NamesStep others files
NamesOf (Some verb.Copy) others files = NamesCopy others files
NamesOf (Some verb.Gen) others files = NamesGen others files
NamesOf (Some verb.Import) others files = NamesImport others files

-- the files are those that the words name
abbrev pub AreNamedBy : List Text → FileNames → Type 0
AreNamedBy [] files = ⊥
AreNamedBy (word ∷ others) files = NamesOf (verb_named word) others files
