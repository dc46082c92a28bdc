use Rattle.std.proofs.Common.{◌∙◌, ◌/◌, refl, pos, get_or}
use Rattle.std.specs.Int.{w16}
use Rattle.ft_image.proofs.Samples.{frame_fits, frame_read, signed_back}
use Rattle.ft_image.proofs.sample_reading.frame_in.Goals as goal

pub returns : goal.returns
returns c = λ x valid word.
    let place = c.args.place in
    let frame = frame_read x c.args.word (place / 4) place valid word refl in
    signed_back w16 (get_or x.frames place (pos 0)) c.cast_signed.result c.quarter.result (frame_fits x place valid)
    (c.quarter.ensures ∙ frame) c.cast_signed.ensures
