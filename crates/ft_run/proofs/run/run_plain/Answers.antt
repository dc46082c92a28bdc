use Rattle.ft_run.specs.Commands.{texts}
use Rattle.ft_run.proofs.Asked.{never_asked, usage_is}
use Rattle.ft_run.proofs.run.run_plain.Goals as goal

pub returns-in-Err-Usage-clause-complete : goal.returns-in-Err-Usage-clause-complete
returns-in-Err-Usage-clause-complete g c =
    λ what asked can song wav ledger.
    never_asked (texts c.args.words.now) what (c.in-Err-Usage.ensures.usage (usage_is c.in-Err-Usage.field-0 c.in-Err-Usage.field-0-is)) asked
