-- What the calls of a view cost at most, in steps of the words in which a song may lie.
use Rattle.std.specs.Prelude.{ℕ, ◌+◌, ◌-◌, ◌*◌, ◌/◌, ◌==◌, ◌||◌, Bool, false, List, [], ◌∷◌, if◌then◌else◌}

abbrev pub head_bound : ℕ
head_bound = 1

abbrev pub order_bound : ℕ
order_bound = 1

abbrev pub rows_bound : ℕ
rows_bound = 3

abbrev pub cell_bound : ℕ
cell_bound = 6

abbrev pub envelope_bound : ℕ
envelope_bound = 10

abbrev pub shape_bound : ℕ
shape_bound = 4

abbrev pub start_bound : ℕ
start_bound = 10

abbrev pub stop_bound : ℕ
stop_bound = 1

abbrev pub frame_bound : ℕ
frame_bound = 3

-- ---- kept words of frames

-- a word has four frames
abbrev pub word_of : ℕ → ℕ
word_of place = place / 4

-- and 256 words in a body
abbrev pub body_of : ℕ → ℕ
body_of word = word / 256

-- the last two words that were asked for, the newest first, once this one is asked for too
abbrev pub asked : ℕ → List ℕ → List ℕ
asked word [] = word ∷ []
asked word (newest ∷ older) = if word == newest then newest ∷ older else word ∷ newest ∷ []

abbrev pub is_kept : ℕ → List ℕ → Bool
is_kept word [] = false
is_kept word (other ∷ words) = (word == other) || is_kept word words

-- in the body of a kept word
abbrev pub is_near : ℕ → List ℕ → Bool
is_near word [] = false
is_near word (other ∷ words) = (body_of word == body_of other) || is_near word words

-- a frame in a kept word costs nothing, and one in another word of a kept word's body one step
unfoldable pub frame_cost : ℕ → List ℕ → ℕ
frame_cost word words =
    if is_kept word words then 0 else (if is_near word words then 1 else frame_bound)

-- ---- runs of frames

-- the word of the last of that many frames, of which there is one at least, from a place on
abbrev pub last_word : ℕ → ℕ → ℕ
last_word first many = word_of (first + many - 1)

-- the last two words that were asked for, once all words from one to another are asked for in turn
abbrev pub asked_all : ℕ → ℕ → List ℕ → List ℕ
asked_all from to words = if to == from then asked to words else to ∷ (to - 1) ∷ []

-- The first of these words costs what it costs by itself, each other one a step, and two more where
-- it begins a body
unfoldable pub run_cost : ℕ → ℕ → List ℕ → ℕ
run_cost from to words = frame_cost from words + (to - from) + 2 * (body_of to - body_of from)
