-- Where the segments of a song are laid: one after the other, from segment 0 on.
use Rattle.std.specs.Prelude.{◌≡◌, ℕ, ◌+◌, ◌-◌, ◌*◌, ◌<◌, ◌≤◌, ◌==◌, nat_lt, if◌then◌else◌, List, [], ◌∷◌, sum_by}
use Rattle.std.specs.List.{range_with_len}
use Rattle.ft_types.specs.declared.module.Module.{Module}
use Rattle.ft_types.specs.declared.pattern.Pattern.{Pattern}
use Rattle.ft_types.specs.declared.instrument.Instrument.{Instrument}
use Rattle.ft_types.specs.declared.sample.Sample.{Sample}
use Rattle.ft_types.specs.Blocks.{pieces_of, pattern_blocks, bodies_of, indexes_of, sample_blocks, instrument_blocks}
use Rattle.ft_segments.specs.Packing.{bytes_word, ids_word, word_at}
use Rattle.ft_segments.specs.Walk.{PatternIds, IndexIds, SampleIds, InstrumentIds, SongIds, each_below, bodies_of_index}
use Rattle.ft_image.specs.Values.{head_word, counts_word, count_bytes, envelope_bytes, points_word, lengths_word, loop_word, tuning_word}

-- the ids of parts that are laid one after the other, each from the segment behind the one before
abbrev pub laid : {X Y : Type 0} → (X → ℕ) → (ℕ → X → Y) → ℕ → List X → List Y
laid size ids from [] = []
laid size ids from (x ∷ xs) = ids from x ∷ laid size ids (from + size x) xs

-- a pattern's root, then its bodies
abbrev pub pattern_laid : ℕ → ℕ → Pattern → PatternIds
pattern_laid channels from pattern = record {
  root = from;
  bodies = range_with_len (from + 1) (pieces_of (pattern.rows * channels) 256);
}

-- index k of that many, which names the bodies behind the last index
abbrev pub index_laid : ℕ → ℕ → ℕ → ℕ → IndexIds
index_laid from indexes bodies k = record {
  root = from + k;
  bodies = range_with_len (from + indexes + 1024 * k) (bodies_of_index bodies k);
}

-- a sample's root, then its indexes, then its bodies
abbrev pub sample_laid : ℕ → Sample → SampleIds
sample_laid from sample = record {
  root = from;
  indexes = each_below (indexes_of sample)
      (index_laid (from + 1) (indexes_of sample) (bodies_of sample));
}

-- an instrument's root, then its samples
abbrev pub instrument_laid : ℕ → Instrument → InstrumentIds
instrument_laid from instrument = record {
  root = from;
  samples = laid sample_blocks sample_laid (from + 1) instrument.samples;
}

-- the first segment behind the patterns
abbrev pub behind_patterns : Module → ℕ
behind_patterns song = 1 + sum_by (pattern_blocks song.channels) song.patterns

-- the song root, then the patterns, then the instruments
abbrev pub song_laid : Module → SongIds
song_laid song = record {
  root = 0;
  patterns = laid (pattern_blocks song.channels) (pattern_laid song.channels) 1 song.patterns;
  instruments = laid instrument_blocks instrument_laid (behind_patterns song) song.instruments;
}

-- two pools have the same words in the segments from one up to another
abbrev pub Keeps : ℕ → ℕ → List ℕ → List ℕ → Type 0
Keeps low high old new =
    (segment place : ℕ) → low ≤ segment → segment < high → place < 256
    → word_at new segment place ≡ word_at old segment place

-- ---- what is written into roots, by the place of the word

abbrev pub pattern_root_word : Pattern → List ℕ → ℕ → ℕ
pattern_root_word pattern bodies place =
    if place == 0 then pattern.rows
    else (if nat_lt place 9 then ids_word bodies (place - 1) else 0)

abbrev pub sample_root_word : Sample → List ℕ → ℕ → ℕ
sample_root_word sample indexes place =
    if place == 0 then lengths_word sample
    else (if place == 1 then loop_word sample
    else (if place == 2 then tuning_word sample
    else (if nat_lt place 6 then bytes_word sample.name (place - 3)
    else (if place == 16 then ids_word indexes 0 else 0))))

abbrev pub instrument_root_word : Instrument → List ℕ → ℕ → ℕ
instrument_root_word instrument samples place =
    if place == 0 then bytes_word (count_bytes instrument) 0
    else (if place == 1 then bytes_word (envelope_bytes instrument) 0
    else (if place == 2 then instrument.fadeout
    else (if nat_lt place 6 then bytes_word instrument.name (place - 3)
    else (if nat_lt place 18 then bytes_word instrument.map (place - 6)
    else (if nat_lt place 24 then points_word instrument.volume.points (place - 18)
    else (if nat_lt place 30 then points_word instrument.panning.points (place - 24)
    else (if nat_lt place 34 then ids_word samples (place - 30) else 0)))))))

abbrev pub song_root_word : Module → List ℕ → List ℕ → ℕ → ℕ
song_root_word song patterns instruments place =
    if place == 0 then head_word song
    else (if place == 1 then counts_word song
    else (if nat_lt place 5 then bytes_word song.name (place - 2)
    else (if nat_lt place 8 then bytes_word song.tracker (place - 5)
    else (if nat_lt place 40 then bytes_word song.orders (place - 8)
    else (if nat_lt place 104 then ids_word patterns (place - 40)
    else (if nat_lt place 136 then ids_word instruments (place - 104) else 0))))))
