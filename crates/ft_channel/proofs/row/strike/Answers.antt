use Rattle.ft_channel.proofs.Turning.{silent_became}
use Rattle.ft_channel.proofs.row.strike.Goals as goal

pub returns-then-is_silent-clause-changed : goal.returns-then-is_silent-clause-changed
returns-then-is_silent-clause-changed g c = λ w is.
    let silent = c.is_silent.ensures c.if-is_silent.true in (
      is,
      silent_became (g.V.SongView.shown c.args.view.now w) c.args.c c.args.cell c.args.ch.now silent.0 silent.1.0
          silent.1.1,
    )
