use Rattle.ft_edits.proofs.Valid.{edited_valid, applied_valid, batch_valid, versions_valid}
use Rattle.ft_edits.proofs.laws.valid_stays_valid.Goals as goal

pub returns : goal.returns
returns c = record { edited = edited_valid; applied = applied_valid; batch = batch_valid; versions = versions_valid }
