-- How a line is read: word by word from the left, up to the first word that is wrong.
use Rattle.std.specs.Prelude.{ℕ, ◌+◌, ◌==◌, Bool, List, length, take, drop, Option, Some, None, Ok, Err, if◌then◌else◌}
use Rattle.ft_lines.specs.Sequence.{ReadingOf, give, ◌>>=◌}
use Rattle.std.specs.List.{prefix_len, position_or_len}

-- a place in a line: how many bytes are before it, and those from there on
pub record LinePlace : Type 0 where
  pub at : ℕ
  pub left : List ℕ

-- a value and the place behind it, or where the first word begins that is wrong
abbrev pub Reading : Type 0 → Type 0
Reading A = ReadingOf LinePlace ℕ A

-- ---- words

-- how many spaces come first
unfoldable pub spaces : List ℕ → ℕ
spaces bytes = prefix_len (λ b. b == 32) bytes

-- how many bytes come before the first space
unfoldable pub word_length : List ℕ → ℕ
word_length bytes = position_or_len (λ b. b == 32) bytes

-- the place n bytes on
abbrev pub beyond : ℕ → LinePlace → LinePlace
beyond n p = record { at = p.at + n; left = drop n p.left }

-- the place behind the spaces here
abbrev pub behind_spaces : LinePlace → LinePlace
behind_spaces p = beyond (spaces p.left) p

-- nothing but spaces is left
abbrev pub is_over : LinePlace → Bool
is_over p = length (behind_spaces p).left == 0

-- the word at this place
abbrev pub first_word : LinePlace → List ℕ
first_word p = take (word_length p.left) p.left

-- the next word, with its place; where there is none, the line ends too early
unfoldable pub next_word : Reading (ℕ × List ℕ)
next_word p =
    let start = behind_spaces p in
    if is_over p then Err start.at
    else Ok ((start.at, first_word start), beyond (word_length start.left) start)

-- a value, or that the word at this place is wrong
abbrev pub or_wrong : {A : Type 0} → ℕ → Option A → Reading A
or_wrong at (Some x) = give x
or_wrong at None = λ p. Err at

-- the next word, seen as a value; it is wrong where it has none
abbrev pub word : {A : Type 0} → (List ℕ → Option A) → Reading A
word value = do
  found ← next_word
  or_wrong found.0 (value found.1)
