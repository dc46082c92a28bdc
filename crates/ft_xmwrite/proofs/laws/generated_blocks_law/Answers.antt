use Rattle.ft_xmwrite.proofs.Counted.{generated_blocks}
use Rattle.ft_xmwrite.proofs.laws.generated_blocks_law.Goals as goal

pub returns : goal.returns
returns c = generated_blocks
