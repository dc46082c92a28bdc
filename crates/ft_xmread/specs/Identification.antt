-- The identification at the front of a file, of 17 bytes. Its M may be small.
use Rattle.std.specs.Prelude.{ℕ, zero, suc, ◌+◌, List, Bool, Option, Some, None, Result, Ok, Err, ◌||◌, ◌&&◌, ◌==◌, slice_index, if◌then◌else◌}
use Rattle.ft_format.specs.declared.layout.TheConstants.{IDENTIFICATION, LETTER, SMALL}
use Rattle.ft_xmread.specs.declared.fault.XmFault.{XmFault}
use Rattle.ft_xmread.specs.declared.fault.XmFault.TheVariants.{NotXm}
use Rattle.ft_xmread.specs.Reader.{FileReading, ◌>>=◌, field_at}

-- the byte at this place is the identification's, or the small letter in the letter's place
abbrev pub stands : List ℕ → ℕ → Bool
stands file k = (slice_index file k == slice_index IDENTIFICATION k)
    || ((k == LETTER) && (slice_index file k == SMALL))

-- the first of n bytes from k on that differs
unfoldable pub wrong_from : ℕ → ℕ → List ℕ → Option ℕ
wrong_from k zero file = None
wrong_from k (suc n) file = if stands file k then wrong_from (suc k) n file else Some k

abbrev pub unless_wrong : {A : Type 0} → ℕ → Option ℕ → A → Result A XmFault
unless_wrong at (Some k) x = Err (NotXm (at + k))
unless_wrong at None x = Ok x

-- the letter is the one choice
unfoldable pub identification_at : FileReading ℕ
identification_at p = do
  piece ← field_at 17 p
  unless_wrong p.at (wrong_from 0 17 piece.0) (slice_index piece.0 LETTER, piece.1)
