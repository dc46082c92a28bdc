use Rattle.std.proofs.Common.{◌∙◌}
use Rattle.std.proofs.lemmas.List.{take_rest}
use Rattle.ft_outer.proofs.Taken.{goes_on}
use Rattle.ft_outer.proofs.putting.put_all.Goals as goal

pub loop-rest-preserved : goal.loop-rest-preserved
loop-rest-preserved g c = (
  rw (take_rest c.loop-rest.rest.now c.in-Ok.count)
      (goes_on _ _ _ c.args.bytes.now c.loop-rest.rest.now c.in-Ok.count c.loop-rest.invariant.0 c.in-Ok.ensures.bytes),
  c.in-Ok.ensures.cause.kept ∙ c.loop-rest.invariant.1,
)
