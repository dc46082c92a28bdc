-- Files, and whatever else the system reads or writes for us, as values.
use Rattle.std.specs.Prelude.{ℕ, List, Option, Some, None}

-- a reader that is open
pub record OpenReaderState : Type 0 where
  -- the bytes that it has left, where its type says them
  pub left : Option (List ℕ)
  -- how many bytes it gave since it was opened
  pub given : ℕ

-- a writer that is open
pub record OpenWriterState : Type 0 where
  -- the bytes that it holds, where its type says them
  pub held : Option (List ℕ)
  -- how many bytes it took since it was opened
  pub taken : ℕ

-- a file as a source: no file before it is opened
pub record FileSourceState : Type 0 where
  -- its name
  pub path : List ℕ
  pub file : Option OpenReaderState
  -- how often it failed, opening included
  pub faults : ℕ

-- a file as a sink: no file before it is made
pub record FileSinkState : Type 0 where
  -- its name
  pub path : List ℕ
  pub file : Option OpenWriterState
  -- how often it failed, making it included
  pub faults : ℕ

-- a writer as a sink
pub record OutSinkState : Type 0 where
  pub writer : OpenWriterState
  -- how often it failed
  pub faults : ℕ

-- what is left of a file, where that is known
abbrev pub file_left : Option OpenReaderState → Option (List ℕ)
file_left None = None
file_left (Some reader) = reader.left

-- how many bytes a file gave
abbrev pub file_given : Option OpenReaderState → ℕ
file_given None = 0
file_given (Some reader) = reader.given

-- what a file holds, where that is known
abbrev pub file_held : Option OpenWriterState → Option (List ℕ)
file_held None = None
file_held (Some writer) = writer.held

-- how many bytes a file took
abbrev pub file_taken : Option OpenWriterState → ℕ
file_taken None = 0
file_taken (Some writer) = writer.taken
