use Rattle.std.proofs.Common.{◌≡◌, ◌*◌, ℕ, List, length, drop, sym, subst, arith}
use Rattle.ft_types.specs.Blocks.{blocks_of}
use Rattle.ft_segments.specs.Walk.{walk}
use Rattle.ft_image.specs.Shown.{Shows}
use Rattle.ft_image.specs.Laid.{song_laid}
use Rattle.ft_image.proofs.Whole.{laid_shows, laid_walks, written}
use Rattle.ft_image.proofs.image.place.Goals as goal

pub returns-clause-shows : goal.returns-clause-shows
returns-clause-shows c =
    let m = c.args.m.now in
    let words = c.place_song.new.words in
    let long : length words ≡ 256 * blocks_of m
    = omega (arith, c.place_song.auto.words, c.as_mut_slice.ensures.len, c.in_ok-words.ensures.len, c.blocks-2.ensures) in
    let all : c.in_ok-words.words.len ≡ length words = omega (arith, c.in_ok-words.ensures.len, c.blocks-2.ensures) in
    subst (λ (pool : List ℕ). Shows (record { root = 0; pool = pool }) m)
    (sym (written c.in_ok-words.words.len words (drop (length words) c.in_ok-words.words.items) all))
    (laid_shows words m c.requires.valid c.requires.few long c.place_song.ensures)

pub returns-clause-laid : goal.returns-clause-laid
returns-clause-laid c =
    let m = c.args.m.now in
    let words = c.place_song.new.words in
    let long : length words ≡ 256 * blocks_of m
    = omega (arith, c.place_song.auto.words, c.as_mut_slice.ensures.len, c.in_ok-words.ensures.len, c.blocks-2.ensures) in
    let all : c.in_ok-words.words.len ≡ length words = omega (arith, c.in_ok-words.ensures.len, c.blocks-2.ensures) in
    subst (λ (pool : List ℕ). walk pool 0 ≡ song_laid m)
    (sym (written c.in_ok-words.words.len words (drop (length words) c.in_ok-words.words.items) all))
    (laid_walks words m c.requires.valid c.requires.few c.place_song.ensures)
