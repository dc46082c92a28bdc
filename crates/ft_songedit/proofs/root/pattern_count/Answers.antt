use Rattle.std.proofs.Common.{◌≡◌, ◌+◌, ◌*◌, ◌%◌, ◌≤◌, ℕ, arith}
use Rattle.std.specs.Prelude.{length}
use Rattle.ft_image.specs.Values as values
use Rattle.ft_songedit.proofs.root.pattern_count.Goals as goal

count_of : (word patterns instruments : ℕ) → patterns ≤ 256 → word ≡ patterns + 65536 * instruments → word % 65536 ≡ patterns
count_of word patterns instruments few is = omega (arith, few, is)

pub returns : goal.returns
unfolding values.counts_word
returns c = λ m ps is valid has. count_of _ (length m.patterns) (length m.instruments) valid.few_patterns has.counts
