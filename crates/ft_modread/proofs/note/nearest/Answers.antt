use Rattle.std.proofs.Common.{◌≡◌, ◌-◌, ◌∙◌, ap, arith}
use Rattle.ft_modread.specs.Notes.{nearest_of}
use Rattle.ft_modread.proofs.Nearest.{nearest_more, nearer_low}
use Rattle.ft_modread.proofs.note.nearest.Goals as goal

pub loop-k-preserved : goal.loop-k-preserved
loop-k-preserved c = record {
  value = c.nearer-found.ensures.value
      ∙ nearest_more c.args.period c.loop-k.found c.loop-k.k c.loop-k.auto.k c.loop-k.invariant.value;
  low = omega (arith, c.nearer-found.ensures.value, nearer_low c.args.period c.loop-k.found c.loop-k.k c.loop-k.invariant.low);
}

pub returns-clause-value : goal.returns-clause-value
returns-clause-value c =
    let last : c.loop-k.k - 1 ≡ 35 = omega arith in
    c.loop-k.invariant.value ∙ ap (nearest_of c.args.period) last
