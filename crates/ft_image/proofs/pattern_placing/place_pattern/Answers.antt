use Rattle.std.proofs.Common.{◌≡◌, ◌+◌, ◌-◌, ◌*◌, ◌<◌, ◌≤◌, ℕ, get_or, ap, refl, ◌∙◌, arith, ne_eqb, lt-ltb, le-ltb}
use Rattle.std.specs.List.{range_with_len}
use Rattle.std.proofs.lemmas.List.FromFn.{length-range_with_len}
use Rattle.ft_types.specs.Blocks.{pieces_of}
use Rattle.ft_types.specs.declared.pattern.Cell.{Cell}
use Rattle.ft_types.specs.Views.{empty_cell}
use Rattle.ft_segments.specs.Packing.{ids_word, word_at}
use Rattle.ft_image.specs.Values.{cell_word}
use Rattle.ft_image.specs.Laid.{pattern_root_word}
use Rattle.ft_types.specs.declared.pattern.Pattern.{Pattern}
use Rattle.std.specs.Prelude.{List}
use Rattle.ft_image.proofs.Stays.{body_at}
use Rattle.ft_image.proofs.pattern_placing.place_pattern.Goals as goal

in_ids : (x : Pattern) (ids : List ℕ) (k : ℕ) → k < 8 → pattern_root_word x ids (1 + k) ≡ ids_word ids k
in_ids x ids k lt =
    let less : 1 + k - 1 ≡ k = omega arith in
    rw (ne_eqb (1 + k) 0 (omega arith), lt-ltb (1 + k) 9 (omega arith), less) refl

behind : (x : Pattern) (ids : List ℕ) (k : ℕ) → 9 ≤ k → pattern_root_word x ids k ≡ 0
behind x ids k ge = rw (ne_eqb k 0 (omega arith), le-ltb k 9 ge) refl

pub returns-clause-shown : goal.returns-clause-shown
returns-clause-shown c =
    let x = c.args.pattern.now in
    let from = c.args.from in
    let new = c.place_cells.new.words in
    let n = pieces_of (x.rows * c.args.channels) 256 in
    let cells : c.from.result * c.from-2.result ≡ x.rows * c.args.channels = rw (c.from.ensures, c.from-2.ensures) refl in
    let count : c.div_ceil-count.result ≡ n = omega (arith, c.div_ceil-count.ensures, cells) in
    let root : (j : ℕ) → j < 256 → word_at new from j ≡ pattern_root_word x (range_with_len (from + 1) n) j
    = λ j lt.
    c.place_cells.ensures.kept from j (omega arith) (omega arith) lt ∙ c.fill.ensures.filled j lt
    ∙ ap (λ (k : ℕ). pattern_root_word x (range_with_len (from + 1) k) j) count in
    record {
      count = length-range_with_len (from + 1) n;
      rows = root 0 (omega arith);
      bodies = λ k lt. root (1 + k) (omega arith) ∙ in_ids x (range_with_len (from + 1) n) k lt;
      others = λ k ge lt. root k lt ∙ behind x (range_with_len (from + 1) n) k ge;
      cells = λ b j lt l.
          let here : b < n = omega (arith, length-range_with_len (from + 1) n) in
          body_at new (from + 1) n b j here
          ∙ c.place_cells.ensures.filled b j (omega arith) l
          ∙ ap (λ (all : List Cell). cell_word (get_or all (b * 256 + j) empty_cell)) c.as_slice.ensures;
    }
