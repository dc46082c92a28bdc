-- What is wrong with a part behind the identification is never the identification's fault, and
-- never running out of memory.
use Rattle.std.proofs.Common.{◌≡◌, ℕ, zero, suc, ◌+◌, ◌-◌, ◌%◌, Bool, true, false, cond, List, [], ◌∷◌, Result, Ok, Err, refl, ap, subst}
use Rattle.std.specs.Prelude.{nat_eq, nat_lt}
use Rattle.ft_format.specs.Pattern.{has}
use Rattle.ft_format.specs.declared.sample.SampleHeader.{SampleHeader}
use Rattle.ft_xmread.specs.declared.fault.XmFault.{XmFault}
use Rattle.ft_xmread.specs.declared.fault.XmFault.TheVariants as faults
use Rattle.ft_xmread.specs.Reader.{FilePlace, FileReading, ◌>>=◌, field_at, number_at, and_then, checked, seen, times, byte_if, piece_at, in_piece, give}
use Rattle.ft_xmread.specs.Header.{titles_at, sizes_at, settings_at, header_at}
use Rattle.ft_xmread.specs.Pattern.{note_spelled_at, raw_cell_at, overrun, or_overrun, inside, cell_spelled_at, pattern_head_at, cells_spelled_at, pattern_at}
use Rattle.ft_xmread.specs.Sample.{sample_fields_at, sample_header_at}
use Rattle.ft_xmread.specs.Instrument.{head_at, sized_head_at, point_spelled_at, pair_at, turns_at, vibrato_at, shapes_at, envelopes_at, extra_at, samples_spelled_at, headers_and_samples_at, instrument_spelled_at}
use Rattle.ft_xmread.specs.File.{song_spelled_at, value_of}

abbrev pub IsPartFault : XmFault → Type 0
IsPartFault (faults.NotXm at) = ⊥
IsPartFault faults.NoMemory = ⊥
IsPartFault f = Unit {0}

abbrev pub fails : {A : Type 0} → XmFault → Result A XmFault
fails f = Err f

abbrev pub IsQuiet : {A : Type 0} → Result A XmFault → Type 0
IsQuiet {A = A} r = (f : XmFault) → r ≡ fails {A = A} f → IsPartFault f

abbrev Quiet : {A : Type 0} → FileReading A → Type 0
Quiet one = (p : FilePlace) → IsQuiet (one p)

pub same_fault : {A : Type 0} (d f : XmFault) → fails {A = A} d ≡ fails {A = A} f → d ≡ f
same_fault d f e = cc

pub value_quiet : {A B : Type 0} (r : Result (A × B) XmFault) (f : XmFault) → IsQuiet r → value_of r ≡ fails {A = A} f
    → IsPartFault f
value_quiet (Ok x) f quiet e = absurd cc
value_quiet {A = A} {B = B} (Err d) f quiet e =
    quiet f (ap (λ (g : XmFault). fails {A = A × B} g) (same_fault {A = A} d f e))

-- ---- the forms of parts

ok_quiet : {A : Type 0} (x : A) → IsQuiet {A = A} (Ok x)
ok_quiet x f e = absurd cc

err_quiet : {A : Type 0} (d : XmFault) → IsPartFault d → IsQuiet {A = A} (Err d)
err_quiet {A = A} d quiet f e = subst IsPartFault (same_fault {A = A} d f e) quiet

bind_quiet : {A B : Type 0} (r : Result A XmFault) (next : A → Result B XmFault) → IsQuiet r
    → ((x : A) → IsQuiet (next x)) → IsQuiet (r >>= next)
bind_quiet (Ok x) next quiet more f e = more x f e
bind_quiet {A = A} {B = B} (Err d) next quiet more f e =
    quiet f (ap (λ (g : XmFault). fails {A = A} g) (same_fault {A = B} d f e))

cond_quiet : {A : Type 0} (b : Bool) (r s : Result A XmFault) → IsQuiet r → IsQuiet s → IsQuiet (cond b r s)
cond_quiet true r s one other = one
cond_quiet false r s one other = other

field_quiet : (n : ℕ) → Quiet (field_at n)
unfolding field_at
field_quiet n p = cond_quiet _ _ _ (err_quiet (faults.Short p.at n) tt) (ok_quiet _)

number_quiet : (n : ℕ) → Quiet (number_at n)
unfolding number_at
number_quiet n p = bind_quiet (field_at n p) _ (field_quiet n p) (λ x. ok_quiet _)

give_quiet : {A : Type 0} (x : A) → Quiet (give x)
give_quiet x p = ok_quiet _

next_quiet : {A B : Type 0} (one : FileReading A) (whole : A → FileReading B) → Quiet one → ((a : A) → Quiet (whole a))
    → Quiet (and_then one whole)
next_quiet one whole quiet more p = bind_quiet (one p) _ (quiet p) (λ a. more a.0 a.1)

checked_quiet : {A : Type 0} (is_bad : A → Bool) (fault : ℕ → A → XmFault) (one : FileReading A)
    → ((at : ℕ) (x : A) → IsPartFault (fault at x)) → Quiet one → Quiet (checked is_bad fault one)
checked_quiet is_bad fault one faulty quiet p =
    bind_quiet (one p) _ (quiet p)
    (λ x. cond_quiet (is_bad x.0) _ _ (err_quiet (fault p.at x.0) (faulty p.at x.0)) (ok_quiet x))

seen_quiet : {A B : Type 0} (view : A → B) (one : FileReading A) → Quiet one → Quiet (seen view one)
seen_quiet view one quiet p = bind_quiet (one p) _ (quiet p) (λ x. ok_quiet _)

times_quiet : {A : Type 0} (one : ℕ → FileReading A) → ((k : ℕ) → Quiet (one k)) → (first n : ℕ) → Quiet (times one first n)
unfolding times
times_quiet one quiet first zero p = ok_quiet _
times_quiet one quiet first (suc n) p =
    bind_quiet (one first p) _ (quiet first p)
    (λ x. bind_quiet (times one (suc first) n x.1) _ (times_quiet one quiet (suc first) n x.1) (λ y. ok_quiet _))

piece_quiet : {A : Type 0} (n : ℕ) (one : FileReading A) → Quiet one → Quiet (in_piece n one)
unfolding piece_at
piece_quiet n one quiet p =
    bind_quiet (piece_at n p) _ (bind_quiet (field_at n p) _ (field_quiet n p) (λ f. ok_quiet _))
    (λ piece. bind_quiet (one piece.0) _ (quiet piece.0) (λ x. ok_quiet _))

byte_if_quiet : (b : Bool) → Quiet (byte_if b)
byte_if_quiet true p = number_quiet 1 p
byte_if_quiet false p = ok_quiet _

-- ---- the header

count_at_quiet : (most : ℕ) → Quiet (checked (nat_lt most) faults.Count (number_at 2))
count_at_quiet most = checked_quiet (nat_lt most) faults.Count (number_at 2) (λ at found. tt) (number_quiet 2)

titles_quiet : Quiet titles_at
unfolding titles_at
titles_quiet =
    next_quiet _ _ (field_quiet 20)
    (λ _. next_quiet _ _ (number_quiet 1) (λ _. next_quiet _ _ (field_quiet 20) (λ _. give_quiet _)))

sizes_quiet : Quiet sizes_at
unfolding sizes_at
sizes_quiet =
    next_quiet _ _ (checked_quiet _ _ _ (λ at version. tt) (number_quiet 2)) (λ _. next_quiet _ _
    (checked_quiet _ _ _ (λ at size. tt) (number_quiet 4))
    (λ _. next_quiet _ _ (count_at_quiet 256) (λ _. next_quiet _ _ (number_quiet 2) (λ _. next_quiet _ _ (checked_quiet _ _ _ (λ at channels. tt) (number_quiet 2)) (λ _. give_quiet _)))))

settings_quiet : Quiet settings_at
unfolding settings_at
settings_quiet =
    next_quiet _ _ (count_at_quiet 256) (λ _. next_quiet _ _ (count_at_quiet 128) (λ _. next_quiet _ _ (number_quiet 2)
    (λ _. next_quiet _ _ (number_quiet 2)
    (λ _. next_quiet _ _ (number_quiet 2) (λ _. give_quiet _)))))

header_quiet : Quiet header_at
unfolding header_at
header_quiet =
    next_quiet _ _ titles_quiet
    (λ _.
    next_quiet _ _ sizes_quiet
    (λ sizes.
    next_quiet _ _ settings_quiet (λ _. next_quiet _ _ (field_quiet (sizes.size - 20)) (λ _. give_quiet _))))

-- ---- patterns

overrun_quiet : (pattern at : ℕ) (f : XmFault) → IsPartFault f → IsPartFault (overrun pattern at f)
overrun_quiet pattern at (faults.NotXm place) quiet = quiet
overrun_quiet pattern at (faults.Version found) quiet = quiet
overrun_quiet pattern at (faults.Short place need) quiet = tt
overrun_quiet pattern at (faults.Count place found) quiet = quiet
overrun_quiet pattern at (faults.Packing number found) quiet = quiet
overrun_quiet pattern at (faults.CellOverrun number place) quiet = quiet
overrun_quiet pattern at (faults.Stereo instrument sample) quiet = quiet
overrun_quiet pattern at (faults.TooLong instrument sample frames) quiet = quiet
overrun_quiet pattern at faults.NoMemory quiet = quiet

or_overrun_quiet : {A : Type 0} (pattern at : ℕ) (r : Result A XmFault) → IsQuiet r → IsQuiet (or_overrun pattern at r)
or_overrun_quiet pattern at (Ok x) quiet = ok_quiet x
or_overrun_quiet pattern at (Err f) quiet = err_quiet (overrun pattern at f) (overrun_quiet pattern at f (quiet f refl))

inside_quiet : {A : Type 0} (pattern : ℕ) (one : FileReading A) → Quiet one → Quiet (inside pattern one)
inside_quiet pattern one quiet p = or_overrun_quiet pattern p.at (one p) (quiet p)

note_quiet : (first : ℕ) → Quiet (note_spelled_at first)
note_quiet first p = cond_quiet (nat_lt first 128) _ _ (ok_quiet _) (byte_if_quiet (nat_eq (first % 2) 1) p)

raw_cell_quiet : Quiet raw_cell_at
unfolding raw_cell_at
raw_cell_quiet =
    next_quiet _ _ (number_quiet 1) (λ first. next_quiet _ _ (note_quiet first) (λ _. next_quiet _ _
    (byte_if_quiet (has first 2)) (λ _. next_quiet _ _ (byte_if_quiet (has first 4))
    (λ _. next_quiet _ _ (byte_if_quiet (has first 8)) (λ _. next_quiet _ _ (byte_if_quiet (has first 16)) (λ _. give_quiet _))))))

cell_quiet : (pattern : ℕ) → Quiet (cell_spelled_at pattern)
unfolding cell_spelled_at
cell_quiet pattern = seen_quiet _ _ (inside_quiet pattern raw_cell_at raw_cell_quiet)

pattern_head_quiet : (number : ℕ) → Quiet (pattern_head_at number)
unfolding pattern_head_at
pattern_head_quiet number =
    next_quiet _ _ (checked_quiet _ _ _ (λ at size. tt) (number_quiet 4)) (λ _. next_quiet _ _
    (checked_quiet _ _ _ (λ at packing. tt) (number_quiet 1))
    (λ _. next_quiet _ _ (count_at_quiet 256) (λ _. next_quiet _ _ (number_quiet 2) (λ _. give_quiet _))))

cells_quiet : (number count packed : ℕ) → Quiet (cells_spelled_at number count packed)
unfolding cells_spelled_at
cells_quiet number count packed p = cond_quiet (nat_eq packed 0) _ _ (ok_quiet _)
    (piece_quiet packed (times (λ _. cell_spelled_at number) 0 count)
    (times_quiet (λ _. cell_spelled_at number) (λ _. cell_quiet number) 0 count) p)

pattern_quiet : (channels number : ℕ) → Quiet (pattern_at channels number)
unfolding pattern_at
pattern_quiet channels number =
    next_quiet _ _ (pattern_head_quiet number)
    (λ head.
    next_quiet _ _ (field_quiet (head.size - 9))
    (λ _. next_quiet _ _ (cells_quiet number _ head.packed) (λ _. give_quiet _)))

-- ---- samples

fields_quiet : Quiet sample_fields_at
unfolding sample_fields_at
fields_quiet =
    next_quiet _ _ (number_quiet 4) (λ _. next_quiet _ _ (number_quiet 4) (λ _. next_quiet _ _ (number_quiet 4) (λ _.
    next_quiet _ _ (number_quiet 1) (λ _. next_quiet _ _ (number_quiet 1)
    (λ _. next_quiet _ _ (number_quiet 1) (λ _. next_quiet _ _ (number_quiet 1) (λ _. next_quiet _ _ (number_quiet 1) (λ _. next_quiet _ _ (number_quiet 1) (λ _. next_quiet _ _ (field_quiet 22) (λ _. give_quiet _))))))))))

sample_header_quiet : (instrument number : ℕ) → Quiet (sample_header_at instrument number)
unfolding sample_header_at
sample_header_quiet instrument number =
    checked_quiet _ _ _ (λ at header. tt)
    (checked_quiet _ _ _ (λ at header. tt) (seen_quiet _ _ (piece_quiet 40 sample_fields_at fields_quiet)))

samples_quiet : (headers : List SampleHeader) → Quiet (samples_spelled_at headers)
unfolding samples_spelled_at
samples_quiet [] = give_quiet []
samples_quiet (header ∷ headers) =
    next_quiet _ _ (field_quiet header.length) (λ steps. next_quiet _ _ (samples_quiet headers) (λ _. give_quiet _))

headers_and_samples_quiet : (number count : ℕ) → Quiet (headers_and_samples_at number count)
unfolding headers_and_samples_at
headers_and_samples_quiet number count =
    next_quiet _ _ (times_quiet (sample_header_at number) (sample_header_quiet number) 0 count) samples_quiet

-- ---- instruments

head_quiet : Quiet sized_head_at
unfolding sized_head_at head_at
head_quiet = checked_quiet _ _ _ (λ at head. tt) (next_quiet _ _ (checked_quiet _ _ _ (λ at size. tt) (number_quiet 4))
    (λ _. next_quiet _ _ (field_quiet 22) (λ _. next_quiet _ _ (number_quiet 1) (λ _. next_quiet _ _ (count_at_quiet 16) (λ _. give_quiet _)))))

point_quiet : Quiet point_spelled_at
unfolding point_spelled_at
point_quiet = next_quiet _ _ (number_quiet 2) (λ _. next_quiet _ _ (number_quiet 2) (λ _. give_quiet _))

pair_quiet : Quiet pair_at
unfolding pair_at
pair_quiet = next_quiet _ _ (number_quiet 1) (λ _. next_quiet _ _ (number_quiet 1) (λ _. give_quiet _))

turns_quiet : Quiet turns_at
unfolding turns_at
turns_quiet =
    next_quiet _ _ (number_quiet 1)
    (λ _. next_quiet _ _ (number_quiet 1) (λ _. next_quiet _ _ (number_quiet 1) (λ _. give_quiet _)))

vibrato_quiet : Quiet vibrato_at
unfolding vibrato_at
vibrato_quiet =
    next_quiet _ _ (number_quiet 1)
    (λ _.
    next_quiet _ _ (number_quiet 1)
    (λ _. next_quiet _ _ (number_quiet 1) (λ _. next_quiet _ _ (number_quiet 1) (λ _. give_quiet _))))

shapes_quiet : Quiet shapes_at
unfolding shapes_at
shapes_quiet =
    next_quiet _ _ pair_quiet
    (λ _.
    next_quiet _ _ turns_quiet
    (λ _. next_quiet _ _ turns_quiet (λ _. next_quiet _ _ pair_quiet (λ _. give_quiet _))))

points_quiet : Quiet (times (λ _. point_spelled_at) 0 12)
points_quiet = times_quiet (λ _. point_spelled_at) (λ _. point_quiet) 0 12

envelopes_quiet : Quiet envelopes_at
unfolding envelopes_at
envelopes_quiet =
    next_quiet _ _ points_quiet
    (λ _. next_quiet _ _ points_quiet (λ _. next_quiet _ _ shapes_quiet (λ _. give_quiet _)))

extra_quiet : Quiet extra_at
unfolding extra_at
extra_quiet =
    next_quiet _ _ (number_quiet 4)
    (λ _.
    next_quiet _ _ (field_quiet 96)
    (λ _.
    next_quiet _ _ envelopes_quiet
    (λ _. next_quiet _ _ vibrato_quiet (λ _. next_quiet _ _ (number_quiet 2) (λ _. give_quiet _)))))

instrument_quiet : (number : ℕ) → Quiet (instrument_spelled_at number)
unfolding instrument_spelled_at
instrument_quiet number =
    next_quiet _ _ head_quiet (λ head p. cond_quiet (nat_eq head.samples 0) _ _
    (next_quiet _ _ (field_quiet (head.size - 29)) (λ _. give_quiet _) p)
    (next_quiet _ _ (piece_quiet (head.size - 29) extra_at extra_quiet) (λ _. next_quiet _ _ (headers_and_samples_quiet number head.samples) (λ _. give_quiet _)) p))

-- ---- the whole

pub song_quiet : Quiet song_spelled_at
unfolding song_spelled_at
song_quiet =
    next_quiet _ _ header_quiet (λ raw. next_quiet _ _
    (times_quiet (pattern_at raw.sizes.channels) (pattern_quiet raw.sizes.channels) 0 raw.settings.patterns)
    (λ _. next_quiet _ _ (times_quiet (λ k. instrument_spelled_at (k + 1)) (λ k. instrument_quiet (k + 1)) 0 raw.settings.instruments) (λ _. give_quiet _)))
