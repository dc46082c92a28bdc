use Rattle.ft_xmread.proofs.FileLaws.{has_memory}
use Rattle.ft_xmread.proofs.laws.no_file_has_the_fault_of_memory.Goals as goal

pub returns : goal.returns
returns c = has_memory
