use Rattle.ft_desk.proofs.Named.{parts_differ, entries_differ}
use Rattle.ft_desk.proofs.laws.different_segments_are_different_parts.Goals as goal

pub returns : goal.returns
returns c = record { parts = parts_differ; entries = entries_differ }
