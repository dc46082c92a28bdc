-- Numbers of parts that a song may have, and roots that its words name.
use Rattle.std.specs.Prelude.{ℕ, ◌<◌, List}
use Rattle.ft_types.specs.declared.module.Module.{Module}
use Rattle.ft_segments.specs.Walk.{SongIds}
use Rattle.ft_sharing.specs.Written.{pattern_roots, instrument_roots}
use Rattle.ft_roots.specs.RootWords.{HasSongWords}
use Rattle.ft_types.specs.Limits.{most_patterns, most_instruments}
use Rattle.ft_changes.specs.declared.reach.Reach.{Reach}
use Rattle.ft_changes.specs.declared.reach.Reach.TheVariants as reaches

-- the number of the pattern or of the instrument is one that a song may have
abbrev pub IsSmallReach : Reach → Type 0
IsSmallReach reaches.Song = Unit {0}
IsSmallReach reaches.LastPattern = Unit {0}
IsSmallReach (reaches.Cell p body) = p < most_patterns
IsSmallReach (reaches.Pattern p bodies) = p < most_patterns
IsSmallReach (reaches.Instrument at) = at < most_instruments
IsSmallReach (reaches.Bare at) = at < most_instruments
IsSmallReach (reaches.LastSample at) = at < most_instruments
IsSmallReach (reaches.Sample at s) = at < most_instruments
IsSmallReach (reaches.Frames at s first last gone) = at < most_instruments

-- words of a song root name these patterns and instruments
abbrev pub HasRootsOf : List ℕ → Module → SongIds → Type 0
HasRootsOf words song ids = HasSongWords words song (pattern_roots ids) (instrument_roots ids)
