use Rattle.std.proofs.Common.{rules, ◌<◌, ◌+◌, ℕ, ℤ, pos, length, subst, arith}
use Rattle.std.specs.Int.{w16}
use Rattle.std.specs.Prelude.{FitsSigned}
use Rattle.ft_player.specs.Runs.{IsFrameIn}
use Rattle.ft_player.proofs.Unpacked.{more, as_written}
use Rattle.ft_player.proofs.run.unpack_part.Goals as goal

pub loop-frame-preserved : goal.loop-frame-preserved
loop-frame-preserved c =
    let a = c.args in
    let i = c.loop-frame.frame-index in
    let within : i < length c.loop-frame.out = omega arith in
    let fits : FitsSigned w16 c.frame_at.result = search rules in
    record {
      next = omega arith;
      frames =
          more (λ (k : ℕ) (z : ℤ). IsFrameIn a.wide a.word (a.place + k) z) c.loop-frame.out i _ (pos 0) within
          c.loop-frame.invariant.frames
          (as_written a.wide a.word (a.place + i) c.frame_at.result fits
          (subst (λ (p : ℕ). IsFrameIn a.wide a.word p c.frame_at.result) c.loop-frame.invariant.next c.frame_at.ensures));
    }
