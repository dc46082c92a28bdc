use Rattle.std.proofs.Common.{◌≡◌, ◌+◌, ◌*◌, ℕ, ℤ, List, length, ap, refl, ◌∙◌, arith}
use Rattle.std.specs.List.{range_with_len}
use Rattle.ft_types.specs.Blocks.{bodies_of, indexes_of}
use Rattle.ft_segments.specs.Packing.{word_at}
use Rattle.ft_image.specs.Values.{frames_word}
use Rattle.ft_image.specs.Laid.{sample_root_word}
use Rattle.ft_image.proofs.Roots.{sample_filled}
use Rattle.ft_image.proofs.sample_placing.place_sample.Goals as goal

pub returns-clause-shown : goal.returns-clause-shown
returns-clause-shown c =
    let x = c.args.sample.now in
    let n = c.args.from in
    let new = c.place_frames.new.words in
    let frames = c.as_slice-frames.ensures in
    let long = ap length frames in
    let bodies : c.div_ceil-bodies.result ≡ bodies_of x = omega (arith, c.div_ceil-bodies.ensures, long) in
    let indexes : c.div_ceil-indexes.result ≡ indexes_of x = omega (arith, c.div_ceil-indexes.ensures, bodies) in
    sample_filled new n x
    (λ j lt.
    c.place_frames.ensures.kept n j (omega arith) (omega arith) lt
    ∙ c.place_indexes.ensures.kept n j (omega arith) (omega arith) lt
    ∙ c.fill.ensures.filled j lt
    ∙ ap (λ (k : ℕ). sample_root_word x (range_with_len (n + 1) k) j) indexes)
    (λ k j lt l.
    c.place_frames.ensures.kept (n + 1 + k) j (omega arith) (omega arith) l
    ∙ c.place_indexes.ensures.filled k j (omega arith) l
    ∙ rw (indexes, bodies) refl)
    (λ b j lt l.
    let at : n + 1 + indexes_of x + b ≡ n + 1 + c.div_ceil-indexes.result + b = omega arith in
    ap (λ (s : ℕ). word_at new s j) at
    ∙ c.place_frames.ensures.filled b j (omega arith) l
    ∙ ap (λ (all : List ℤ). frames_word all (b * 256 + j)) frames)
