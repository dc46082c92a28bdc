use Rattle.std.proofs.Common.{None, List, Option, get_or, ap, sym, subst, ◌∙◌}
use Rattle.std.proofs.lemmas.List.{get_or-set_same}
use Rattle.ft_player.specs.declared.seat.Seat.{Seat}
use Rattle.ft_player.specs.Seats.{IsSeated}
use Rattle.ft_player.proofs.Refills.{written, found}
use Rattle.ft_player.proofs.run.run_of.Goals as goal

pub returns-clause-seated : goal.returns-clause-seated
returns-clause-seated g c = λ songs stands here.
    let seats = c.args.seats.now.items in
    let channel = c.args.channel in
    let is = written seats c.as_mut_slice.result.now c.from.result channel c.run_one.new.seat c.as_mut_slice.ensures.value c.from.ensures in
    let at = ap (λ (l : List (Option Seat)). get_or l channel None) is
    ∙ get_or-set_same seats channel c.run_one.new.seat None c.requires.channel in
    subst (IsSeated songs) (sym at) (c.run_one.ensures.seated songs stands
    (subst (IsSeated songs)
    (sym (found seats c.as_mut_slice.result.now c.from.result channel _ None
    c.as_mut_slice.ensures.value c.from.ensures c.requires.channel))
    here))
