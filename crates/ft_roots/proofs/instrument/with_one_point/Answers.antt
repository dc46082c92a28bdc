use Rattle.std.proofs.Common.{◌+◌, ◌*◌, ◌<◌, ℕ, set, ◌∙◌, subst, arith}
use Rattle.std.proofs.lemmas.List.{length-set}
use Rattle.std.proofs.lemmas.List.Elements.{All-set}
use Rattle.ft_image.specs.Changed.{IsOneChanged}
use Rattle.ft_roots.proofs.Instruments.{four_of, four_low, point_row, point_set}
use Rattle.ft_roots.proofs.Places.{set_changed}
use Rattle.ft_roots.proofs.instrument.with_one_point.Goals as goal

pub returns : goal.returns
returns c = λ points j long are lt is.
    let k = c.args.k in
    let row = four_of points j in
    let one = set row (2 * k) c.args.x in
    let two = set one (2 * k + 1) c.args.y in
    let low = four_low points j are in
    let first : IsOneChanged (0 * 4 + 2 * k) c.args.x row one =
    subst (λ (n : ℕ). IsOneChanged n c.args.x row one) (omega arith) (set_changed (2 * k) c.args.x row (omega (arith, c.requires))) in
    let second : IsOneChanged (0 * 4 + (2 * k + 1)) c.args.y one two =
    subst (λ (n : ℕ). IsOneChanged n c.args.y one two) (omega arith)
    (set_changed (2 * k + 1) c.args.y one (omega (arith, length-set row (2 * k) c.args.x, c.requires))) in
    c.with_id-2.ensures one two 0 (All-set (λ (n : ℕ). n < 65536) row (2 * k) c.args.x c.ranges.x.fits low) second
    (c.with_id.ensures row one 0 low first (is ∙ point_row points j))
    ∙ point_set points j k c.args.x c.args.y (omega (arith, long, lt)) c.requires
