use Rattle.std.proofs.Common.{◌≡◌, ◌+◌, ◌<◌, ℕ, set, length, ◌∙◌, arith}
use Rattle.std.proofs.lemmas.List.{length-set}
use Rattle.std.proofs.lemmas.List.Elements.{All-set}
use Rattle.ft_roots.proofs.Places.{set_first}
use Rattle.ft_roots.proofs.instrument.with_four_bytes.Goals as goal

pub returns : goal.returns
returns c = λ row are long is.
    let at = c.args.first in
    let low = λ (n : ℕ). n < 256 in
    let one = set row at c.args.a in
    let two = set one (at + 1) c.args.b in
    let three = set two (at + 2) c.args.c in
    let one_long : length one ≡ length row = length-set row at c.args.a in
    let two_long : length two ≡ length row = length-set one (at + 1) c.args.b ∙ one_long in
    let three_long : length three ≡ length row = length-set two (at + 2) c.args.c ∙ two_long in
    let one_low = All-set low row at c.args.a c.ranges.a.fits are in
    let two_low = All-set low one (at + 1) c.args.b c.ranges.b.fits one_low in
    let three_low = All-set low two (at + 2) c.args.c c.ranges.c.fits two_low in
    c.with_byte.ensures three (set three (at + 3) c.args.d) 0 three_low (set_first (at + 3) c.args.d three (omega arith))
    (c.with_byte-three.ensures two three 0 two_low (set_first (at + 2) c.args.c two (omega arith))
    (c.with_byte-two.ensures one two 0 one_low (set_first (at + 1) c.args.b one (omega arith))
    (c.with_byte-one.ensures row one 0 are (set_first at c.args.a row (omega arith)) is)))
