use Rattle.ft_image.proofs.Agreed.{written-shown, these-stand, filled-stands}
use Rattle.ft_image.proofs.pass_laws.a_written_version_may_be_shown.Goals as goal

pub returns-clause-all : goal.returns-clause-all
returns-clause-all c = written-shown

pub returns-clause-these : goal.returns-clause-these
returns-clause-these c = these-stand

pub returns-clause-filled : goal.returns-clause-filled
returns-clause-filled c = filled-stands
