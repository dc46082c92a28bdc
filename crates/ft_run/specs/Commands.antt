-- What the words of a command line ask for.
use Rattle.std.specs.Prelude.{◌≤◌, map, string_bytes, ℕ, List, String}
use Rattle.std.specs.declared.alloc.Global.{Global}
use Rattle.ft_types.specs.Limits.{lowest_rate, highest_rate}
use Rattle.ft_words.specs.declared.answer.Step.{Step}
use Rattle.ft_words.specs.declared.answer.Asked.TheVariants as ask
use Rattle.ft_words.specs.Answer.{IsAskedBy}

-- the words of a command line as texts
abbrev pub texts : List (String Global) → List (List ℕ)
texts words = map string_bytes words

abbrev pub AskForStep : List (List ℕ) → Type 0
AskForStep words = (step : Step) × IsAskedBy words (ask.Step step)

abbrev pub AskForCopy : List (List ℕ) → Type 0
AskForCopy words = IsAskedBy words ask.Copy

abbrev pub AskForGen : List (List ℕ) → Type 0
AskForGen words = (number : ℕ) × IsAskedBy words (ask.Gen number)

abbrev pub AskForImport : List (List ℕ) → Type 0
AskForImport words = IsAskedBy words ask.Import

-- the rate and the seconds with which a song can be played
pub record IsPlayable (step : Step) : Type 0 where
  pub low_rate : lowest_rate ≤ step.rate
  pub high_rate : step.rate ≤ highest_rate
  pub some_seconds : 1 ≤ step.seconds
  pub few_seconds : step.seconds ≤ 1200
