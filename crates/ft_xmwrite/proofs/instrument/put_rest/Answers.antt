use Rattle.std.proofs.Common.{◌++◌, List, replicate, ap, ◌∙◌}
use Rattle.std.specs.List.{flat_map}
use Rattle.ft_types.specs.declared.sample.Sample.{Sample}
use Rattle.ft_format.specs.declared.instrument.Extra.{Extra}
use Rattle.ft_format.specs.declared.layout.TheConstants.{UNUSED}
use Rattle.ft_format.specs.Instrument.{extra_text}
use Rattle.ft_format.specs.Canon.{sample_header_bytes, sample_data, extra_of}
use Rattle.ft_xmwrite.proofs.Pieces.{four}
use Rattle.ft_xmwrite.proofs.instrument.put_rest.Goals as goal

pub returns : goal.returns
returns c =
    let instrument = c.args.instrument.now in
    let old = c.args.bytes.now.items in
    let headed = c.put_zeros.new.bytes.items in
    four c.put_samples_data.result old c.put_extra.new.bytes.items headed c.put_sample_headers.new.bytes.items
    c.put_samples_data.new.bytes.items
    (extra_text (extra_of instrument)) (replicate UNUSED 0) (flat_map sample_header_bytes instrument.samples)
    (flat_map sample_data instrument.samples)
    (c.in_ok-put_extra.ensures ∙ ap (λ (extra : Extra). old ++ extra_text extra) c.extra_of.ensures)
    c.in_ok-put_zeros.ensures
    (c.in_ok-put_sample_headers.ensures
    ∙ ap (λ (samples : List Sample). headed ++ flat_map sample_header_bytes samples) c.as_slice-samples.ensures)
    (rw c.as_slice-samples.ensures at c.put_samples_data.ensures)
