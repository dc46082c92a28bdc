-- The voices that are mixed.
use Rattle.std.specs.Prelude.{List, [], ◌∷◌, ◌++◌, option_to_list}
use Rattle.ft_types.specs.declared.voice.Voice.{Voice}
use Rattle.ft_replay.specs.State.{Lane}

-- the voices of lanes, in ascending order of channel
abbrev pub voices_of : List Lane → List Voice
voices_of [] = []
voices_of (lane ∷ lanes) = option_to_list lane.channel.voice ++ voices_of lanes
