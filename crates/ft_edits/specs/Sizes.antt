-- The sizes of a song that the causes of an edit ask for.
use Rattle.std.specs.Prelude.{ℕ, length}
use Rattle.ft_types.specs.declared.module.Module.{Module}
use Rattle.ft_edits.specs.declared.sizes.SongSizes.{SongSizes}
use Rattle.ft_edits.specs.declared.sizes.SampleSizes.{SampleSizes}
use Rattle.ft_edits.specs.Faults.{samples_at, frames_at, wide_at}

abbrev pub song_sizes : Module → SongSizes
song_sizes song = record {
  channels = song.channels;
  orders = length song.orders;
  patterns = length song.patterns;
  instruments = length song.instruments;
}

-- of a sample, from 0, of an instrument, from 1; all are 0 where it isn't there
abbrev pub sample_sizes : Module → ℕ → ℕ → SampleSizes
sample_sizes song i s = record {
  samples = samples_at song i;
  frames = frames_at song i s;
  wide = wide_at song i s;
}
