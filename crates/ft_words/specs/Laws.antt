-- What holds of words and what they ask for.
use Rattle.std.specs.Prelude.{◌≡◌, List}
use Rattle.clap.specs.Words.{Text}
use Rattle.ft_words.specs.Answer.{IsAskedBy}
use Rattle.ft_words.specs.declared.answer.Asked.{Asked}

-- words ask for one thing
abbrev pub AskForOne : Type 0
AskForOne = (words : List Text) (a b : Asked) → IsAskedBy words a → IsAskedBy words b → a ≡ b
