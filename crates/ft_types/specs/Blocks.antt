-- How many blocks a module takes: the song, each pattern, each instrument and each sample take one
-- of their own, and cells and frames lie in blocks of a fixed number of them. A sample names its
-- blocks of frames through indexes.
use Rattle.std.specs.Prelude.{ℕ, ◌+◌, ◌-◌, ◌*◌, ◌/◌, length, sum_by}
use Rattle.ft_types.specs.declared.module.Module.{Module}
use Rattle.ft_types.specs.declared.pattern.Pattern.{Pattern}
use Rattle.ft_types.specs.declared.instrument.Instrument.{Instrument}
use Rattle.ft_types.specs.declared.sample.Sample.{Sample}

-- that many parts in pieces of at most that size: the quotient, rounded up
abbrev pub pieces_of : ℕ → ℕ → ℕ
pieces_of count size = (count + (size - 1)) / size

-- one, and one for every 256 cells begun
abbrev pub pattern_blocks : ℕ → Pattern → ℕ
pattern_blocks channels pattern = 1 + pieces_of (pattern.rows * channels) 256

-- a block of frames for every 1,024 begun
abbrev pub bodies_of : Sample → ℕ
bodies_of sample = pieces_of (length sample.frames) 1024

-- an index for every 1,024 blocks of frames begun
abbrev pub indexes_of : Sample → ℕ
indexes_of sample = pieces_of (bodies_of sample) 1024

-- one, its blocks of frames, and their indexes
abbrev pub sample_blocks : Sample → ℕ
sample_blocks sample = 1 + bodies_of sample + indexes_of sample

-- one, and those of its samples
abbrev pub instrument_blocks : Instrument → ℕ
instrument_blocks instrument = 1 + sum_by sample_blocks instrument.samples

-- one, and those of all patterns and instruments
abbrev pub blocks_of : Module → ℕ
blocks_of song =
    1 + sum_by (pattern_blocks song.channels) song.patterns
    + sum_by instrument_blocks song.instruments
