-- Numbers side by side in words, and words in the segments of a pool.
use Rattle.std.specs.Prelude.{ℕ, zero, suc, ◌+◌, ◌*◌, ◌/◌, ◌%◌, List, slice_index}

-- n numbers below a base in one word, the first in the lowest place
abbrev pub packed : ℕ → ℕ → (ℕ → ℕ) → ℕ
packed base zero number = 0
packed base (suc n) number = number 0 + base * packed base n (λ i. number (suc i))

-- a number of a word by its place, from the lowest
abbrev pub digit : ℕ → ℕ → ℕ → ℕ
digit base word zero = word % base
digit base word (suc place) = digit base (word / base) place

-- word k of a row of bytes, eight a word; behind the last byte come zeros
unfoldable pub bytes_word : List ℕ → ℕ → ℕ
bytes_word bytes k = packed 256 8 (λ i. slice_index bytes (k * 8 + i))

-- word k of a row of ids, four a word; behind the last id come zeros
unfoldable pub ids_word : List ℕ → ℕ → ℕ
ids_word ids k = packed 65536 4 (λ i. slice_index ids (k * 4 + i))

-- a word of a segment by its place, 0 to 255; a pool has 256 words for each segment, from segment 0
-- on
abbrev pub word_at : List ℕ → ℕ → ℕ → ℕ
word_at pool segment place = slice_index pool (segment * 256 + place)

-- an id of a row of ids that begins at the word `first` of a segment
unfoldable pub id_at : List ℕ → ℕ → ℕ → ℕ → ℕ
id_at pool segment first i = digit 65536 (word_at pool segment (first + i / 4)) (i % 4)
