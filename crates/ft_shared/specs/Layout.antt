-- Where the words of the table lie, and the four numbers in the word CURRENT.
use Rattle.std.specs.Prelude.{ℕ, ◌+◌, ◌*◌, ◌/◌, ◌%◌}
use Rattle.ft_shared.specs.declared.law.Sizes.{Sizes}

-- the word CURRENT
abbrev pub current_at : ℕ
current_at = 0

-- the leavers of a slot; behind CURRENT lie those of each of readers + 2 slots
abbrev pub leavers_at : ℕ → ℕ
leavers_at slot = slot + 1

-- then comes a pin word for each reader and channel
abbrev pub pins_at : Sizes → ℕ
pins_at sizes = sizes.readers + 3

-- the pin word of a reader and a channel
abbrev pub pin_at : Sizes → ℕ → ℕ → ℕ
pin_at sizes reader channel = pins_at sizes + (reader * sizes.channels + channel)

-- and then come 256 words for each segment
abbrev pub pool_at : Sizes → ℕ
pool_at sizes = sizes.readers + 3 + sizes.readers * sizes.channels

-- a word of a segment by its place, 0 to 255
abbrev pub segment_at : Sizes → ℕ → ℕ → ℕ
segment_at sizes segment at = pool_at sizes + (segment * 256 + at)

abbrev pub word_count : Sizes → ℕ
word_count sizes = pool_at sizes + 256 * sizes.segments

-- CURRENT: the version in bits 32 to 63, the slot in 24 to 31, the root segment in 8 to 23, the
-- count in 0 to 7
abbrev pub current_word : ℕ → ℕ → ℕ → ℕ → ℕ
current_word version slot root count = version * 4294967296 + slot * 16777216 + root * 256 + count

abbrev pub version_in : ℕ → ℕ
version_in word = word / 4294967296

abbrev pub slot_in : ℕ → ℕ
slot_in word = word / 16777216 % 256

abbrev pub root_in : ℕ → ℕ
root_in word = word / 256 % 65536

abbrev pub count_in : ℕ → ℕ
count_in word = word % 256
