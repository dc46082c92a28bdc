use Rattle.std.proofs.Common.{refl}
use Rattle.ft_image.proofs.Instruments.{envelope_read}
use Rattle.ft_image.proofs.instrument_reading.envelope_from.Goals as goal

pub returns : goal.returns
returns c = λ x valid counts places points.
    let read = envelope_read x c.args.counts c.args.places c.args.which c.requires valid counts places in
    rw (
      points,
      c.byte.ensures,
      c.byte-2.ensures,
      c.byte-3.ensures,
      c.byte-4.ensures,
      c.byte-5.ensures,
      read.0,
      read.1,
      read.2,
      read.3,
      read.4,
    ) refl
