-- The files of a command line, before they are opened.
use Rattle.std.specs.Prelude.{ℕ, List, [], ◌∷◌, Option, Some, None, String, string_bytes}
use Rattle.std.specs.declared.alloc.Global.{Global}
use Rattle.ft_outer.specs.Files.{FileSourceState, FileSinkState}

-- the first of some names, or an empty one
abbrev pub first_name : List (String Global) → List ℕ
first_name [] = []
first_name (name ∷ others) = string_bytes name

-- the file of a name as a source, not opened yet
abbrev pub closed_source : List ℕ → FileSourceState
closed_source path = record { path = path; file = None; faults = 0 }

-- the file of a name as a sink, not made yet
abbrev pub closed_sink : List ℕ → FileSinkState
closed_sink path = record { path = path; file = None; faults = 0 }

-- the sink of the first of some names, where there is one
abbrev pub closed_sink_of : List (String Global) → Option FileSinkState
closed_sink_of [] = None
closed_sink_of (name ∷ others) = Some (closed_sink (string_bytes name))
