use Rattle.std.proofs.Common.{◌≡◌, ◌+◌, ◌/◌, ◌%◌, ◌*◌, ℕ, List, ap, sym, subst, ◌∙◌, arith}
use Rattle.std.specs.Prelude.{slice_index, set}
use Rattle.ft_changes.specs.Parts.{put}
use Rattle.ft_image.specs.Changed.{IsOneChanged}
use Rattle.ft_roots.specs.RootWords.{HasSongWords}
use Rattle.ft_roots.proofs.Songs.{put_is_one, instrument_put}
use Rattle.ft_roots.proofs.song.put_instrument_id.Goals as goal

pub returns : goal.returns
returns c = λ m ps is few le has.
    let p = c.args.instrument in
    let words : List ℕ = c.args.words.now in
    let new = put p c.args.id is in
    let one = put_is_one p c.args.id is le in
    let e = c.from-at.ensures in
    let same : p / 4 * 4 + p % 4 ≡ p = omega arith in
    let word =
    c.with_id.ensures is new (p / 4) few (subst (λ n. IsOneChanged n c.args.id is new) (sym same) one)
    (ap (λ n. slice_index words (104 + n)) e ∙ has.instrument_ids (p / 4) (omega (arith, c.requires))) in
    subst (λ n. HasSongWords (set words (104 + n) c.with_id.result) m ps new) (sym e)
    (instrument_put c.other_words_stay.ensures.ids words m ps is new p c.args.id c.with_id.result c.told-words c.requires one word has)
