-- What a line of a script says.
use Rattle.std.specs.Prelude.{◌≡◌, ◌≤◌, ◌⊎◌, IsTrue, ℕ, zero, suc, ◌==◌, ◌||◌, Bool, false, List, [], ◌∷◌, ◌++◌, length, nat_lt, bytes_eq, codes, Option, Some, None, Result, Ok, Err, if◌then◌else◌}
use Rattle.std.specs.List.{All}
use Rattle.ft_types.specs.declared.edit.Edit.{Edit}
use Rattle.ft_lines.specs.Sequence.{give, ◌>>=◌}
use Rattle.ft_lines.specs.Reading.{LinePlace, Reading, word, is_over, behind_spaces}
use Rattle.ft_lines.specs.Edits.{u32, edit_reading}

-- a word that has to be this one
abbrev pub this_word : List ℕ → List ℕ → Option (List ℕ)
this_word wanted w = if bytes_eq w wanted then Some w else None

-- nothing but spaces follows; a further word is too many
abbrev pub end_of_line : {A : Type 0} → A → Reading A
end_of_line x p = if is_over p then Ok (x, p) else Err (behind_spaces p).at

-- another edit, behind a `;`
unfoldable pub another_reading : Reading Edit
another_reading = do
  separator ← word (this_word (codes ";"))
  edit_reading

-- at most that many more edits
unfoldable pub others_reading : ℕ → Reading (List Edit)
others_reading zero p = end_of_line [] p
others_reading (suc more) p = if is_over p then Ok ([], p) else (do
  edit ← another_reading
  others ← others_reading more
  give (edit ∷ others)) p

-- others, behind edits that are read
abbrev pub edits_behind : List Edit → Reading (List Edit) → Reading (List Edit)
edits_behind first reading = do
  others ← reading
  give (first ++ others)

-- an edit, and at most that many more
unfoldable pub edits_reading : ℕ → Reading (List Edit)
edits_reading more = do
  edit ← edit_reading
  others ← others_reading more
  give (edit ∷ others)

-- a time where the first word was `at`, and else none, with nothing read
abbrev pub time_if : LinePlace → Result (List ℕ × LinePlace) ℕ → Result (Option ℕ × LinePlace) ℕ
time_if p (Ok read) = (do
  time ← u32
  give (Some time)) read.1
time_if p (Err at) = Ok (None, p)

unfoldable pub time_reading : Reading (Option ℕ)
time_reading p = time_if p (word (this_word (codes "at")) p)

-- a time or none, and edits
unfoldable pub timed_reading : ℕ → Reading (Option ℕ × List Edit)
timed_reading more = do
  time ← time_reading
  edits ← edits_reading more
  give (time, edits)

abbrev pub begins_with_hash : List ℕ → Bool
begins_with_hash [] = false
begins_with_hash (b ∷ rest) = b == 35

abbrev pub value_only : {A : Type 0} → Result (A × LinePlace) ℕ → Result (Option A) ℕ
value_only (Ok read) = Ok (Some read.0)
value_only (Err at) = Err at

abbrev pub line_start : List ℕ → LinePlace
line_start line = record { at = 0; left = line }

-- the place to read from; none in a blank line and in a comment, and a fault in too long a line
unfoldable pub beginning : List ℕ → Result (Option LinePlace) ℕ
beginning line =
    if nat_lt 4096 (length line) then Err 4096
    else if begins_with_hash line || is_over (line_start line) then Ok None
    else Ok (Some (line_start line))

abbrev pub read_from : ℕ → Result (Option LinePlace) ℕ → Result (Option (Option ℕ × List Edit)) ℕ
read_from more (Ok None) = Ok None
read_from more (Ok (Some p)) = value_only (timed_reading more p)
read_from more (Err at) = Err at

-- a line that says nothing: a comment, or no bytes but spaces
pub record IsSkipped (line : List ℕ) : Type 0 where
  pub short : length line ≤ 4096
  pub quiet : IsTrue (begins_with_hash line) ⊎ All (λ b. b ≡ 32) line

-- one edit and at most that many more, none in a blank line or a comment, or where the first wrong
-- word is: where words are missing it is the length of the line, in too long a line 4,096
abbrev pub line_of : ℕ → List ℕ → Result (Option (Option ℕ × List Edit)) ℕ
line_of more line = read_from more (beginning line)
