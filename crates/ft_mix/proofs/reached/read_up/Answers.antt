use Rattle.std.proofs.Common.{[], length, get_or, arith}
use Rattle.ft_mix.proofs.Costs.{run_most}
use Rattle.ft_mix.proofs.reached.read_up.Goals as goal

pub returns-clause-cost : goal.returns-clause-cost
returns-clause-cost g c =
    let most = run_most c.args.place (length c.args.values.now)
    (get_or (g.V.SongView.words c.args.view.now) c.args.channel []) in
    let cost = c.frames.ensures.cost in
    omega arith
