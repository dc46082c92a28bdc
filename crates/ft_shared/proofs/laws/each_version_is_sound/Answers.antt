use Rattle.ft_shared.proofs.Segments.{placed_sound}
use Rattle.ft_shared.proofs.laws.each_version_is_sound.Goals as goal

pub returns-clause-history : goal.returns-clause-history
returns-clause-history c key state rule = rule.segments.sound

pub returns-clause-version : goal.returns-clause-version
returns-clause-version c = placed_sound
