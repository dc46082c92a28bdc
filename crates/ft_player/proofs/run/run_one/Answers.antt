use Rattle.std.proofs.Common.{Some, ap, sym, subst, ◌∙◌}
use Rattle.std.proofs.lemmas.Option.{same_Some}
use Rattle.ft_player.specs.declared.seat.Seat.{Seat}
use Rattle.ft_player.specs.Seats.{reworded, IsSeatOf}
use Rattle.ft_player.proofs.run.run_one.Goals as goal

pub returns-clause-seated : goal.returns-clause-seated
returns-clause-seated g c = λ songs stands here seat e.
    subst (IsSeatOf songs) (same_Some c.run_seat.new.seat seat e)
    (c.run_seat.ensures.asked.seated songs stands (here c.in-Some.found c.in-Some.is))

pub returns-clause-rest : goal.returns-clause-rest
returns-clause-rest g c = (
  c.run_seat.new.seat.words,
  ap (λ (seat : Seat). Some seat) c.run_seat.ensures.asked.rest ∙ sym (ap (reworded c.run_seat.new.seat.words) c.in-Some.is),
)
