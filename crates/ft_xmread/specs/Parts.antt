-- A part that is made of parts, one after the other, in `do` form: each is read where the one
-- before it ended, and the first fault is that of the whole.
use Rattle.ft_xmread.specs.Reader.{FileReading, and_then}

infixl 10 ◌>>=◌
abbrev pub ◌>>=◌ : {A B : Type 0} → FileReading A → (A → FileReading B) → FileReading B
one >>= whole = and_then one whole
