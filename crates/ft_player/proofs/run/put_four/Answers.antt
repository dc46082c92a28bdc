use Rattle.std.proofs.Common.{rules, ◌+◌}
use Rattle.std.specs.Int.{w16}
use Rattle.std.specs.Prelude.{FitsSigned}
use Rattle.ft_player.proofs.Unpacked.{as_written, four_put}
use Rattle.ft_player.proofs.run.put_four.Goals as goal

pub returns : goal.returns
returns c =
    let a = c.args in
    let f0 : FitsSigned w16 c.frame_at.result = search rules in
    let f1 : FitsSigned w16 c.frame_at-2.result = search rules in
    let f2 : FitsSigned w16 c.frame_at-3.result = search rules in
    let f3 : FitsSigned w16 c.frame_at-4.result = search rules in
    four_put a.wide a.word a.place a.at a.out.now _ _ _ _ c.requires.room
    (as_written a.wide a.word a.place c.frame_at.result f0 c.frame_at.ensures)
    (as_written a.wide a.word (a.place + 1) c.frame_at-2.result f1 c.frame_at-2.ensures)
    (as_written a.wide a.word (a.place + 2) c.frame_at-3.result f2 c.frame_at-3.ensures)
    (as_written a.wide a.word (a.place + 3) c.frame_at-4.result f3 c.frame_at-4.ensures)
