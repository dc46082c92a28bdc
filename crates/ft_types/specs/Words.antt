-- The words of frames that a channel asked for.
use Rattle.std.specs.Prelude.{ℕ, List, [], ◌∷◌, Option, None, Some}
use Rattle.ft_types.specs.declared.words.Words.{Words}

-- a word, and the one before it, where there are any
abbrev pub last_words : Option ℕ → Option ℕ → List ℕ
last_words None older = []
last_words (Some newest) None = newest ∷ []
last_words (Some newest) (Some older) = newest ∷ older ∷ []

abbrev pub words_in : Words → List ℕ
words_in words = last_words words.newest words.older
