use Rattle.ft_image.proofs.pass_laws.a_sound_version_is_among.Goals as goal

pub returns : goal.returns
returns c history segments number placed sound found =
    (c.each_version_is_sound.ensures.version history segments number placed sound found).within
