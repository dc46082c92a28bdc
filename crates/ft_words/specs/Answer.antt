-- What words ask for.
use Rattle.std.specs.Prelude.{◌≡◌, ◌≤◌, ℕ, List, [], ◌∷◌, Option, Some, codes}
use Rattle.std.specs.Str.Parse.{IsNumeral, digits_value, without_leading_plus}
use Rattle.ft_types.specs.Limits.{lowest_rate, highest_rate}
use Rattle.clap.specs.Words.{App, Text, fault_of, matches_of, one_of}
use Rattle.ft_words.specs.Commands.{copy_app, gen_app, import_app, step_app}
use Rattle.ft_words.specs.Refused.{verb_named}
use Rattle.ft_words.specs.declared.answer.Asked.{Asked}
use Rattle.ft_words.specs.declared.answer.Asked.TheVariants as ask
use Rattle.ft_words.specs.declared.answer.Step.{Step}
use Rattle.ft_words.specs.declared.verb.Verb.{Verb}
use Rattle.ft_words.specs.declared.verb.Verb.TheVariants as verb

-- the text is a numeral in decimal digits, where a plus may come first, and n is its number
abbrev pub IsNumeralOf : Text → ℕ → Type 0
IsNumeralOf t n = IsNumeral 10 (without_leading_plus t)
    × (n ≡ digits_value 10 (without_leading_plus t))

-- n is the number of the value of an argument in `clap`'s matches: `one_of` is the text that `clap`
-- hands to the reader of numbers
abbrev pub IsNumberOf : App → List Text → Text → ℕ → Type 0
IsNumberOf app others id n =
    (t : Text) × (one_of id (matches_of app others) ≡ Some t) × IsNumeralOf t n

-- `step`, with the rate, the length and the segments that the words name
pub record AsksStep (others : List Text) (step : Step) : Type 0 where
  pub taken : fault_of step_app others ≡ []
  pub rate : IsNumberOf step_app others (codes "rate") step.rate
  pub low_rate : lowest_rate ≤ step.rate
  pub high_rate : step.rate ≤ highest_rate
  pub seconds : IsNumberOf step_app others (codes "seconds") step.seconds
  pub some_seconds : 1 ≤ step.seconds
  pub few_seconds : step.seconds ≤ 1200
  pub segments : IsNumberOf step_app others (codes "segments") step.segments
  pub some_segments : 64 ≤ step.segments
  pub few_segments : step.segments ≤ 65535

-- `gen`, with the number that the words name
pub record AsksGen (others : List Text) (n : ℕ) : Type 0 where
  pub taken : fault_of gen_app others ≡ []
  pub number : IsNumberOf gen_app others (codes "number") n

-- what a command asks for, by the words behind it
abbrev pub AsksOf : Option Verb → List Text → Asked → Type 0
AsksOf (Some verb.Step) others (ask.Step step) = AsksStep others step
AsksOf (Some verb.Copy) others ask.Copy = fault_of copy_app others ≡ []
AsksOf (Some verb.Gen) others (ask.Gen number) = AsksGen others number
AsksOf (Some verb.Import) others ask.Import = fault_of import_app others ≡ []
AsksOf _ others _ = ⊥

-- this is what the words ask for
abbrev pub IsAskedBy : List Text → Asked → Type 0
IsAskedBy [] a = ⊥
IsAskedBy (word ∷ others) a = AsksOf (verb_named word) others a
