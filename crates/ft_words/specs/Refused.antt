-- Which words are no command.
use Rattle.std.specs.Prelude.{◌≡◌, ◌≢◌, ◌⊎◌, ⊤, List, [], ◌∷◌, Option, Some, None, bytes_eq, codes, if◌then◌else◌}
use Rattle.clap.specs.Words.{App, IsParsedFrom, Text, app_of, fault_of, found_of, matches_of, rows_of}
use Rattle.clap.specs.declared.builder.command.Command.{Command}
use Rattle.clap.specs.declared.parser.matches.ArgMatches.{ArgMatches}
use Rattle.ft_words.specs.Commands.{app_of_verb}
use Rattle.ft_words.specs.declared.fault.NamesFault.{NamesFault}
use Rattle.ft_words.specs.declared.fault.NamesFault.TheVariants as fault
use Rattle.ft_words.specs.declared.verb.Verb.{Verb}
use Rattle.ft_words.specs.declared.verb.Verb.TheVariants as verb

-- the command that a word names
abbrev pub verb_named : Text → Option Verb
verb_named word = if bytes_eq word (codes "step") then Some verb.Step
    else (if bytes_eq word (codes "copy") then Some verb.Copy
    else (if bytes_eq word (codes "gen") then Some verb.Gen
    else (if bytes_eq word (codes "import") then Some verb.Import else None)))

-- `clap` finds fault with the words behind the command
abbrev pub FindsFault : Option Verb → List Text → Type 0
FindsFault None others = ⊤
FindsFault (Some verb) others = fault_of (app_of_verb verb) others ≢ []

-- the first word is no command, or `clap` finds fault with the others
abbrev pub IsRefused : List Text → Type 0
IsRefused [] = ⊤
IsRefused (word ∷ others) = FindsFault (verb_named word) others

-- the first word is no command, or there is none
abbrev pub IsNoCommand : List Text → Type 0
IsNoCommand [] = ⊤
IsNoCommand (word ∷ others) = verb_named word ≡ None

-- what `clap` gives of words without fault
abbrev pub AreMatches : App → List Text → ArgMatches → Type 0
AreMatches app words m =
    (fault_of app words ≡ []) × (rows_of (found_of m) ≡ matches_of app words)

-- why `clap` gives nothing
abbrev pub IsWhy : App → List Text → NamesFault → Type 0
IsWhy app words f = (f ≡ fault.NoMemory) ⊎ ((f ≡ fault.Usage) × (fault_of app words ≢ []))

-- `clap` parsed the words for a command of this shape
abbrev pub IsParseOf : App → ArgMatches → Type 0
IsParseOf app m = (c : Command) × (app_of c ≡ app) × IsParsedFrom c m
