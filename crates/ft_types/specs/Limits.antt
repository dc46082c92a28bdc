-- The limits of songs and of play, each in one place.
use Rattle.std.specs.Prelude.{ℕ}

-- ---- how many there are at most

abbrev pub most_channels : ℕ
most_channels = 32

abbrev pub most_orders : ℕ
most_orders = 256

abbrev pub most_patterns : ℕ
most_patterns = 256

-- of a pattern
abbrev pub most_rows : ℕ
most_rows = 256

abbrev pub most_instruments : ℕ
most_instruments = 128

-- of an instrument
abbrev pub most_samples : ℕ
most_samples = 16

-- of a sample
abbrev pub most_frames : ℕ
most_frames = 3932160

-- ---- play

-- frames a second
abbrev pub lowest_rate : ℕ
lowest_rate = 8000

abbrev pub highest_rate : ℕ
highest_rate = 48000

-- the frames of the longest tick: two and a half of the highest rate over the lowest BPM
abbrev pub longest_tick : ℕ
longest_tick = 3750

-- the numbers that are set aside for a tick: two for each of its frames, and a frame to spare
abbrev pub room_of_tick : ℕ
room_of_tick = 7502

-- the lowest note that a voice plays; periods above are brought down to it
abbrev pub highest_period : ℕ
highest_period = 31999
