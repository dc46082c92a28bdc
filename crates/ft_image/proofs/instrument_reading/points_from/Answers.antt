use Rattle.std.proofs.Common.{◌<◌, ◌/◌, ◌∙◌, get_or, arith}
use Rattle.std.proofs.lemmas.List.{ext_get_or}
use Rattle.ft_image.specs.Values.{no_point}
use Rattle.ft_image.proofs.Instruments.{point_back}
use Rattle.ft_image.proofs.instrument_reading.points_from.Goals as goal

pub returns : goal.returns
returns c = λ points twelve valid words.
    let made = c.loop-k.invariant in
    ext_get_or no_point c.loop-k.points points (omega (arith, made.twelve))
    (λ j lt.
    let low : j < 12 = omega (arith, made.twelve) in
    made.made j (omega arith) ∙ point_back points (get_or c.args.words.now (j / 2) 0) j twelve valid low (words (j / 2) (omega arith)))
