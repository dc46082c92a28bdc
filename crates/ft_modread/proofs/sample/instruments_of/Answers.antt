use Rattle.std.proofs.Common.{◌≡◌, ◌∙◌, sym, ap, arith, rules}
use Rattle.ft_modread.specs.Samples.{data_bytes}
use Rattle.ft_modread.specs.Songs.{instrument_in, header_in}
use Rattle.ft_modread.proofs.Each.{each_none, pushed}
use Rattle.ft_modread.proofs.Places.{place_more}
use Rattle.ft_modread.proofs.sample.instruments_of.Goals as goal

pub loop-i-init : goal.loop-i-init
loop-i-init c = record {
  items = c.in_ok-instruments.ensures.items ∙ sym (each_none (instrument_in c.args.file.now));
  place = c.requires.place;
  near = omega (arith, c.requires.near);
  len = search rules;
  room = search rules;
}

pub loop-i-preserved : goal.loop-i-preserved
loop-i-preserved c =
    let size : c.data_bytes.result ≡ data_bytes (header_in c.args.file.now c.loop-i.i) =
    c.data_bytes.ensures.value ∙ ap data_bytes c.header_at.ensures.value in
    let next = place_more c.args.file.now c.loop-i.i in
    record {
      items = pushed c.loop-i.i (instrument_in c.args.file.now) c.loop-i.instruments.items c.push_reserved.new.self.items
          c.in_ok-instrument_at.field-0 c.push_reserved.ensures.items c.loop-i.invariant.items c.in_ok-instrument_at.ensures;
      place = omega (arith, size, next, c.loop-i.invariant.place);
      near = omega (arith, c.data_bytes.ensures.small, c.loop-i.invariant.near);
      len = search rules;
      room = search rules;
    }
