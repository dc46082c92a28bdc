use Rattle.std.proofs.Common.{◌∙◌, ap, take, arith, Ok}
use Rattle.std.proofs.lemmas.List.{length-set, take_more_set, take_all}
use Rattle.std.proofs.lemmas.Result.{err_from_is_err_and}
use Rattle.ft_xmread.specs.Instrument.{point_spelled_at, points_at}
use Rattle.ft_xmread.proofs.Loop.{goes_on, fails_on, is_done}
use Rattle.ft_xmread.proofs.envelopes.read_points.Goals as goal

pub returns-in_err-points : goal.returns-in_err-points
returns-in_err-points c =
    let p = err_from_is_err_and c.from_residual.result c.from_residual.ensures.1 in
    rw (p.1, p.2)
    (fails_on (λ _. point_spelled_at) c.in_err-points.field-0.0 (take c.loop-k.k c.loop-k.points) 12 c.loop-k.k
    c.loop-k.reader (points_at c.args.reader.now) c.loop-k-test.true c.in_err-points.ensures
    c.loop-k.invariant.so_far)

pub loop-k-preserved : goal.loop-k-preserved
loop-k-preserved c = record {
  whole = omega (arith, c.loop-k.invariant.whole, length-set c.loop-k.points c.loop-k.k c.in_ok-points.field-0);
  so_far = rw
      (take_more_set c.loop-k.points c.loop-k.k c.in_ok-points.field-0
      (omega (arith, c.loop-k.invariant.whole, c.loop-k-test.true)))
      (goes_on (λ _. point_spelled_at) (take c.loop-k.k c.loop-k.points) 12 c.loop-k.k c.loop-k.reader c.in_ok-points.field-0
      c.read_point.new.reader (points_at c.args.reader.now) c.loop-k-test.true c.in_ok-points.ensures c.loop-k.invariant.so_far);
}

pub returns : goal.returns
returns c =
    is_done (λ _. point_spelled_at) (take c.loop-k.k c.loop-k.points) 12 c.loop-k.k c.loop-k.reader
    (points_at c.args.reader.now) c.loop-k-test.false c.loop-k.invariant.so_far
    ∙ ap (λ points. Ok (points, c.loop-k.reader))
    (take_all c.loop-k.k c.loop-k.points (omega (arith, c.loop-k.invariant.whole, c.loop-k-test.false)))
