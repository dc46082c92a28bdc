use Rattle.ft_segments.proofs.Bare.{song-bare, sound-bare, sample-bare}
use Rattle.ft_segments.proofs.laws.a_bare_root_names_itself.Goals as goal

pub returns-clause-song : goal.returns-clause-song
returns-clause-song c = song-bare

pub returns-clause-sound : goal.returns-clause-sound
returns-clause-sound c = sound-bare

pub returns-clause-sample : goal.returns-clause-sample
returns-clause-sample c = sample-bare
