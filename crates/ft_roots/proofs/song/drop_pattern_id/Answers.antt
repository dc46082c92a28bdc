use Rattle.std.proofs.Common.{◌≡◌, ◌+◌, ◌-◌, ◌/◌, ◌%◌, ◌*◌, ◌<◌, ℕ, List, ap, sym, subst, ◌∙◌, arith}
use Rattle.std.specs.Prelude.{slice_index, set}
use Rattle.ft_edits.specs.Lists.{without_last}
use Rattle.ft_image.specs.Changed.{IsOneChanged}
use Rattle.ft_roots.specs.RootWords.{HasSongWords}
use Rattle.ft_roots.proofs.Songs.{last_is_one, pattern_put}
use Rattle.ft_roots.proofs.song.drop_pattern_id.Goals as goal

pub returns : goal.returns
returns c = λ m ps is few le has.
    let p = c.args.count - 1 in
    let words : List ℕ = c.args.words.now in
    let new = without_last ps in
    let one = last_is_one p ps (omega (arith, le, c.requires.0)) in
    let e = c.from-at.ensures in
    let same : p / 4 * 4 + p % 4 ≡ p = omega arith in
    let low : p < 256 = omega (arith, c.requires.0, c.requires.1) in
    let word =
    c.with_id.ensures ps new (p / 4) few (subst (λ n. IsOneChanged n 0 ps new) (sym same) one)
    (ap (λ n. slice_index words (40 + n)) e ∙ has.pattern_ids (p / 4) (omega (arith, low))) in
    subst (λ n. HasSongWords (set words (40 + n) c.with_id.result) m new is) (sym e)
    (pattern_put c.other_words_stay.ensures.ids words m ps new is p 0 c.with_id.result c.told-words low one word has)
