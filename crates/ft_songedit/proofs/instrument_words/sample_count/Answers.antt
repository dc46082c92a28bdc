use Rattle.std.proofs.Common.{◌≡◌, ◌+◌, ◌*◌, ◌%◌, ◌≤◌, ℕ, length, ap, ◌∙◌, arith}
use Rattle.ft_segments.specs.Packing as packing
use Rattle.ft_types.specs.declared.instrument.Instrument.{Instrument}
use Rattle.ft_image.specs.Values.{count_bytes}
use Rattle.ft_songedit.proofs.instrument_words.sample_count.Goals as goal

low_of : (n rest : ℕ) → n ≤ 16 → (n + 256 * rest) % 256 ≡ n
low_of n rest le = omega (arith, le)

count_of : (word : ℕ) (x : Instrument) → length x.samples ≤ 16 → word ≡ packing.bytes_word (count_bytes x) 0
    → word % 256 ≡ length x.samples
unfolding packing.bytes_word
count_of word x le is = ap (λ n. n % 256) is ∙ low_of (length x.samples) _ le

pub returns : goal.returns
returns c = λ x ids le has. count_of _ x le has.counts
