-- What a reader answers, against what it reads. Running out of memory alone is free.
use Rattle.std.specs.Prelude.{◌≡◌, ℕ, Option, Some, None, Result, Ok, Err}
use Rattle.ft_lines.specs.declared.fault.LineFault.{LineFault}
use Rattle.ft_lines.specs.declared.fault.LineFault.TheVariants.{Bad, NoMemory}
use Rattle.ft_lines.specs.Sequence.{ReadsBy}
use Rattle.ft_lines.specs.Reading.{LinePlace}

-- the fault of a reading
abbrev pub Fails : {Y : Type 0} → LineFault → Result Y ℕ → Type 0
Fails NoMemory read = Unit {0}
Fails (Bad at) read = read ≡ Err at

-- what was answered at a place is this reading, which goes on at the next place
abbrev pub Reads : {X Y : Type 0} → (X → Y) → Result X LineFault → LinePlace
    → Result (Y × LinePlace) ℕ → Type 0
Reads view answer next read = ReadsBy Fails view answer next read

-- what was answered of a line is what the line says
abbrev pub Tells : {X Y : Type 0} → (X → Y) → Result (Option X) LineFault
    → Result (Option Y) ℕ → Type 0
Tells view (Ok None) said = said ≡ Ok None
Tells view (Ok (Some x)) said = said ≡ Ok (Some (view x))
Tells view (Err fault) said = Fails fault said

-- none was answered exactly where this holds
abbrev pub NoneExactly : {X : Type 0} → Type 0 → Result (Option X) LineFault → Type 0
NoneExactly P (Ok None) = P
NoneExactly P (Ok (Some x)) = P → ⊥
NoneExactly P (Err fault) = P → ⊥

-- out of memory is answered only of a line that is read: not of one that is too long or says nothing
abbrev pub IsKnown : LineFault → Result (Option LinePlace) ℕ → Type 0
IsKnown (Bad at) beginning = Unit {0}
IsKnown NoMemory beginning = (p : LinePlace) × (beginning ≡ Ok (Some p))
