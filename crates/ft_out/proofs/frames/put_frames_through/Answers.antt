use Rattle.std.proofs.Common.{arith, take, drop, ◌∙◌}
use Rattle.std.proofs.lemmas.List.{take_rest}
use Rattle.std.proofs.lemmas.Result.{err_from_is_err_and}
use Rattle.ft_out.specs.Wav.{sound_bytes}
use Rattle.ft_out.proofs.Sound.{sound_bytes-piece}
use Rattle.ft_out.proofs.frames.put_frames_through.Goals as goal

pub returns-in_err-put_piece-clause-front : goal.returns-in_err-put_piece-clause-front
returns-in_err-put_piece-clause-front g c =
    let rest = c.loop-rest.rest.now in
    let n = c.min-count.result in
    let so_far = rw (sound_bytes-piece rest n) at c.loop-rest.invariant.0 in
    rw (err_from_is_err_and c.from_residual.result c.from_residual.ensures.1).1
    (c.taking_law.ensures.front _ _ _ (sound_bytes c.args.out.now) (sound_bytes (take n rest))
    (sound_bytes (drop n rest)) so_far c.in_err-put_piece.ensures.front)

pub loop-rest-preserved : goal.loop-rest-preserved
loop-rest-preserved g c =
    let rest = c.loop-rest.rest.now in
    let n = c.min-count.result in
    let so_far = rw (sound_bytes-piece rest n) at c.loop-rest.invariant.0 in (
      rw (take_rest rest n)
          (c.taking_law.ensures.next _ _ _ (sound_bytes c.args.out.now) (sound_bytes (take n rest)) (sound_bytes (drop n rest)) so_far c.in_ok-put_piece.ensures.whole),
      c.in_ok-put_piece.ensures.cause.kept ∙ c.loop-rest.invariant.1,
      search arith,
    )
