-- The values of a song as words of 64 bits, number beside number from the lowest bits up.
use Rattle.std.specs.Prelude.{ℕ, ◌+◌, ◌*◌, Bool, if◌then◌else◌, ℤ, pos, List, [], ◌∷◌, length, slice_index_or}
use Rattle.std.specs.Int.{w8, w16, cast_unsigned}
use Rattle.ft_types.specs.declared.module.Module.{Module}
use Rattle.ft_types.specs.declared.pattern.Cell.{Cell}
use Rattle.ft_types.specs.declared.instrument.Instrument.{Instrument}
use Rattle.ft_types.specs.declared.instrument.Point.{Point}
use Rattle.ft_types.specs.declared.sample.Sample.{Sample}
use Rattle.ft_segments.specs.Packing.{packed}

-- a flag takes one bit
abbrev pub bit : Bool → ℕ
bit flag = if flag then 1 else 0

-- ---- of a song root

-- length 0..15, restart 16..31, channels 32..39, linear 40, tempo 48..55, BPM 56..63
unfoldable pub head_word : Module → ℕ
head_word song =
    length song.orders
    + 65536 * (song.restart
    + 65536 * (song.channels
    + 256 * (bit song.linear
    + 256 * (song.tempo
    + 256 * song.bpm))))

-- patterns 0..15, instruments 16..31
unfoldable pub counts_word : Module → ℕ
counts_word song = length song.patterns + 65536 * length song.instruments

-- ---- of a body of cells

-- five bytes: note, instrument, volume, effect, parameter
unfoldable pub cell_word : Cell → ℕ
cell_word cell =
    cell.note
    + 256 * (cell.instrument
    + 256 * (cell.volume
    + 256 * (cell.effect
    + 256 * cell.parameter)))

-- ---- of an instrument root

-- seven bytes: samples, both counts of points, and the automatic vibrato
abbrev pub count_bytes : Instrument → List ℕ
count_bytes instrument =
    length instrument.samples
    ∷ instrument.volume.count
    ∷ instrument.panning.count
    ∷ instrument.vibrato.kind
    ∷ instrument.vibrato.sweep
    ∷ instrument.vibrato.depth
    ∷ instrument.vibrato.rate
    ∷ []

-- eight bytes: sustain, loop start, loop end and flags of both envelopes
abbrev pub envelope_bytes : Instrument → List ℕ
envelope_bytes instrument =
    instrument.volume.sustain
    ∷ instrument.volume.loop_start
    ∷ instrument.volume.loop_end
    ∷ instrument.volume.flags
    ∷ instrument.panning.sustain
    ∷ instrument.panning.loop_start
    ∷ instrument.panning.loop_end
    ∷ instrument.panning.flags
    ∷ []

abbrev pub no_point : Point
no_point = record { x = 0; y = 0 }

abbrev pub listed_point : List Point → ℕ → Point
listed_point points k = slice_index_or points k no_point

-- two points of 16 bits: x, y, x, y
unfoldable pub points_word : List Point → ℕ → ℕ
points_word points k =
    (listed_point points (2 * k)).x
    + 65536 * ((listed_point points (2 * k)).y
    + 65536 * ((listed_point points (2 * k + 1)).x
    + 65536 * (listed_point points (2 * k + 1)).y))

-- ---- of a sample root

-- frames 0..31, loop start 32..63
unfoldable pub lengths_word : Sample → ℕ
lengths_word sample = length sample.frames + 4294967296 * sample.loop_start

-- loop length 0..31, loop kind 32..39, wide 40, volume 48..55, panning 56..63
unfoldable pub loop_word : Sample → ℕ
loop_word sample =
    sample.loop_len
    + 4294967296 * (sample.loop_kind
    + 256 * (bit sample.wide
    + 256 * (sample.volume
    + 256 * sample.panning)))

-- two bytes in two's complement: finetune, relative note
unfoldable pub tuning_word : Sample → ℕ
tuning_word sample = cast_unsigned w8 sample.finetune + 256 * cast_unsigned w8 sample.relative

-- ---- of a body of frames

-- word k of a row of frames: four in two's complement of 16 bits
unfoldable pub frames_word : List ℤ → ℕ → ℕ
frames_word frames k =
    packed 65536 4 (λ i. cast_unsigned w16 (slice_index_or frames (k * 4 + i) (pos 0)))
