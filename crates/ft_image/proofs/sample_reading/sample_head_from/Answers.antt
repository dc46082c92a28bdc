use Rattle.std.proofs.Common.{◌∙◌, ℕ, ap}
use Rattle.std.specs.Int.{w8, cast_signed}
use Rattle.ft_image.proofs.Samples.{head_read}
use Rattle.ft_image.proofs.sample_reading.sample_head_from.Goals as goal

pub returns : goal.returns
returns c = λ x valid lengths loops tuning.
    head_read x c.args.lengths c.args.loops c.args.tuning c.cast_signed.result c.cast_signed-2.result valid lengths loops tuning
    (c.cast_signed.ensures ∙ ap (λ (n : ℕ). cast_signed w8 n) c.byte.ensures)
    (c.cast_signed-2.ensures ∙ ap (λ (n : ℕ). cast_signed w8 n) c.byte-2.ensures)
