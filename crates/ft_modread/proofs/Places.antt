-- Where the data of samples begins.
use Rattle.std.proofs.Common.{◌≡◌, ℕ, suc, ◌+◌, ◌*◌, List, refl, ap, arith}
use Rattle.ft_modread.specs.declared.layout.TheConstants.{PATTERNS_AT, PATTERN}
use Rattle.ft_modread.specs.Samples.{data_bytes}
use Rattle.ft_modread.specs.Songs.{pattern_count_in, data_place, header_in}

pub place_first : (file : List ℕ) → data_place file 0 ≡ PATTERNS_AT + PATTERN * pattern_count_in file
unfolding data_place
place_first file = refl

pub place_more : (file : List ℕ) (i : ℕ) → data_place file (i + 1) ≡ data_place file i + data_bytes (header_in file i)
unfolding data_place
place_more file i = let next : i + 1 ≡ suc i = omega arith in ap (data_place file) next
