-- A walk reads nothing of a pool but its words.
use Rattle.std.proofs.Common.{◌≡◌, ◌+◌, ◌*◌, ◌/◌, ◌%◌, ℕ, List}
use Rattle.ft_segments.specs.Packing.{digit, word_at, id_at}
use Rattle.ft_segments.specs.Walk.{PatternIds, IndexIds, SampleIds, InstrumentIds, SongIds, each_below, bodies_of_index, sample_walk, walk}
use Rattle.ft_types.specs.Blocks.{pieces_of}

-- the walk over words that are given by their places
abbrev Words : Type 0
Words = ℕ → ℕ → ℕ

abbrev id_of : Words → ℕ → ℕ → ℕ → ℕ
id_of word segment first i = digit 65536 (word segment (first + i / 4)) (i % 4)

abbrev pattern_of : Words → ℕ → ℕ → PatternIds
pattern_of word channels root = record {
  root = root;
  bodies = each_below (pieces_of (word root 0 * channels) 256) (λ b. id_of word root 1 b);
}

abbrev index_of : Words → ℕ → ℕ → IndexIds
index_of word count root = record { root = root; bodies = each_below count (λ j. id_of word root 0 j) }

abbrev bodies_of : Words → ℕ → ℕ
bodies_of word root = pieces_of (digit 4294967296 (word root 0) 0) 1024

abbrev sample_of : Words → ℕ → SampleIds
sample_of word root = record {
  root = root;
  indexes = each_below (pieces_of (bodies_of word root) 1024)
      (λ k. index_of word (bodies_of_index (bodies_of word root) k) (id_of word root 16 k));
}

abbrev instrument_of : Words → ℕ → InstrumentIds
instrument_of word root = record {
  root = root;
  samples = each_below (digit 256 (word root 0) 0) (λ s. sample_of word (id_of word root 30 s));
}

abbrev song_of : Words → ℕ → SongIds
song_of word root = record {
  root = root;
  patterns = each_below (digit 65536 (word root 1) 0)
      (λ p. pattern_of word (digit 256 (word root 0) 4) (id_of word root 40 p));
  instruments = each_below (digit 65536 (word root 1) 1) (λ i. instrument_of word (id_of word root 104 i));
}

pub walk-same : (old new : List ℕ) (root : ℕ) → ((segment at : ℕ) → word_at new segment at ≡ word_at old segment at)
    → walk new root ≡ walk old root
unfolding walk sample_walk id_at
walk-same old new root same = λ i. song_of (λ s p. same s p i) root
