use Rattle.ft_shared.proofs.shared.Shared.pinned_word.Given as goal

abbrev pub ghosts-read_pinned : goal.ghosts-read_pinned
ghosts-read_pinned g a = record { channel = a.channel }
