use Rattle.ft_image.proofs.Samples.{root_used, sample_found}
use Rattle.ft_image.proofs.laws.a_shown_sample_is_of_its_version.Goals as goal

pub returns-clause-segment : goal.returns-clause-segment
returns-clause-segment c = λ p m root x shows of. (sample_found p m root x shows of).within root (root_used p root)

pub returns-clause-valid : goal.returns-clause-valid
returns-clause-valid c = λ p m root x shows of. (sample_found p m root x shows of).valid
