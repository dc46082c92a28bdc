use Rattle.ft_run.proofs.Mods.{mod_done, of_import}
use Rattle.ft_run.proofs.importing.import_song.Goals as goal

pub returns-in-Err-clause-kinds : goal.returns-in-Err-clause-kinds
returns-in-Err-clause-kinds g c =
    of_import c.read_module.result c.in-Err.status c.in-Err.is c.in-Err.ensures.kinds

pub returns-in-Err-clause-complete : goal.returns-in-Err-clause-complete
returns-in-Err-clause-complete g c = λ can sure written.
    let held = can.1 in
    mod_done c.in-Err.status c.in-Err.ensures.kinds (c.in-Err.ensures.only held.0 can.0 held.1 held.2)
    (λ failed. sure (c.in-Err.ensures.read.count.told failed))
