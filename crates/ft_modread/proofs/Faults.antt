-- The first fault among fields.
use Rattle.std.proofs.Common.{◌≡◌, ℕ, zero, suc, ◌+◌, ◌-◌, ◌<◌, ◌≤◌, true, false, List, [], ◌∷◌, ◌++◌, refl, sym, ap, subst, ◌∙◌, arith, Option, Some, None, Result, Ok, Err}
use Rattle.ft_modread.specs.declared.fault.ModFault.{ModFault}
use Rattle.ft_modread.specs.declared.fault.ModFault.TheVariants.{NotMod}
use Rattle.ft_modread.specs.declared.layout.TheConstants.{TITLE, HEADERS_AT, SAMPLES, HEADER, LENGTH_AT, RESTART_AT, ORDERS_AT, ORDERS, MOD_MARK, MARK_AT, PATTERNS_AT, PATTERN}
use Rattle.std.specs.Prelude.{◌==◌, ◌*◌, length, nat_lt, slice_index}
use Rattle.std.proofs.lemmas.Bool.Decides.{nat_tests}
use Rattle.std.proofs.Common.{Bool, cond}
use Rattle.ft_modread.specs.Layout.{file_part, each}
use Rattle.ft_modread.specs.ModFields.{Check, ModField, unchecked, checked_by, length_check, orders_check, mark_check, field_fault, or_later, fault_among, mark_from, head_fields, pattern_fields, first_mod_fault}
use Rattle.std.specs.Prelude.{OnOk}
use Rattle.ft_modread.specs.Answers.{Meets}
use Rattle.ft_modread.specs.Songs.{pattern_count_in}
use Rattle.ft_modread.proofs.Each.{each_more, each_none}

or_assoc : (a b c : Option ModFault) → or_later (or_later a b) c ≡ or_later a (or_later b c)
or_assoc None b c = refl
or_assoc (Some x) b c = refl

or_none : (a : Option ModFault) → or_later a None ≡ a
or_none None = refl
or_none (Some x) = refl

pub among_append : (file : List ℕ) (xs ys : List ModField)
    → fault_among file (xs ++ ys) ≡ or_later (fault_among file xs) (fault_among file ys)
unfolding fault_among
among_append file [] ys = refl
among_append file (x ∷ xs) ys =
    ap (or_later (field_fault file x)) (among_append file xs ys)
    ∙ sym (or_assoc (field_fault file x) (fault_among file xs) (fault_among file ys))

pub among_one : (file : List ℕ) (x : ModField) → fault_among file (x ∷ []) ≡ field_fault file x
unfolding fault_among
among_one file x = or_none (field_fault file x)

pub among_none : (file : List ℕ) (f : ℕ → ModField) → fault_among file (each 0 f) ≡ None
unfolding fault_among
among_none file f = ap (fault_among file) (each_none f)

pub among_more : (file : List ℕ) (n : ℕ) (f : ℕ → ModField)
    → fault_among file (each (n + 1) f) ≡ or_later (fault_among file (each n f)) (field_fault file (f n))
among_more file n f =
    ap (fault_among file) (each_more n f) ∙ among_append file (each n f) (f n ∷ [])
    ∙ ap (or_later (fault_among file (each n f))) (among_one file (f n))

-- a fault among the first stays the first
among_stays : (file : List ℕ) (n m : ℕ) (f : ℕ → ModField) (fault : ModFault)
    → fault_among file (each n f) ≡ Some fault → fault_among file (each (n + m) f) ≡ Some fault
among_stays file n zero f fault e = ap (λ (k : ℕ). fault_among file (each k f)) (let z : n + 0 ≡ n = omega arith in z) ∙ e
among_stays file n (suc m) f fault e =
    let next : n + suc m ≡ (n + m) + 1 = omega arith in
    ap (λ (k : ℕ). fault_among file (each k f)) next ∙ among_more file (n + m) f
    ∙ ap (λ (o : Option ModFault). or_later o (field_fault file (f (n + m)))) (among_stays file n m f fault e)

-- the first fault of fields of which those below k have none
pub among_first : (file : List ℕ) (n k : ℕ) (f : ℕ → ModField) (fault : ModFault) → k < n
    → fault_among file (each k f) ≡ None → field_fault file (f k) ≡ Some fault
    → fault_among file (each n f) ≡ Some fault
among_first file n k f fault lt none e =
    let more : fault_among file (each (k + 1) f) ≡ Some fault =
    among_more file k f ∙ ap (λ (o : Option ModFault). or_later o (field_fault file (f k))) none ∙ e in
    let whole : (k + 1) + (n - (k + 1)) ≡ n = omega (arith, lt) in
    subst (λ (m : ℕ). fault_among file (each m f) ≡ Some fault) whole
    (among_stays file (k + 1) (n - (k + 1)) f fault more)

pub among_next : (file : List ℕ) (k : ℕ) (f : ℕ → ModField) → fault_among file (each k f) ≡ None
    → field_fault file (f k) ≡ None → fault_among file (each (k + 1) f) ≡ None
among_next file k f none e =
    among_more file k f ∙ ap (λ (o : Option ModFault). or_later o (field_fault file (f k))) none ∙ e

-- ---- one after the other

pub or_skip : (a b o : Option ModFault) → a ≡ None → b ≡ o → or_later a b ≡ o
or_skip a b o none e = ap (λ (x : Option ModFault). or_later x b) none ∙ e

pub or_take : (a b : Option ModFault) (fault : ModFault) → a ≡ Some fault → or_later a b ≡ Some fault
or_take a b fault e = ap (λ (x : Option ModFault). or_later x b) e

-- a check is made of a field that is there
pub checked_there : (file : List ℕ) (at need : ℕ) (check : Check) → at + need ≤ length file
    → field_fault file (checked_by at need check) ≡ check (file_part at need file)
checked_there file at need check le =
    let there : nat_lt (length file) (at + need) ≡ false = grind (arith, nat_tests) in rw there refl

-- and none of one that is short
short_step : (b : Bool) (fault other : ModFault) (check : Option ModFault) → cond b (Some other) None ≡ Some fault
    → cond b (Some other) check ≡ Some fault
short_step true fault other check e = e
short_step false fault other check e = absurd cc

pub checked_short : (file : List ℕ) (at need : ℕ) (check : Check) (fault : ModFault)
    → field_fault file (unchecked at need) ≡ Some fault → field_fault file (checked_by at need check) ≡ Some fault
checked_short file at need check fault e =
    short_step (nat_lt (length file) (at + need)) fault _ (check (file_part at need file)) e

abbrev pub header_field : ℕ → ModField
header_field i = unchecked (HEADERS_AT + HEADER * i) HEADER

abbrev pub pattern_field : ℕ → ModField
pattern_field p = unchecked (PATTERNS_AT + PATTERN * p) PATTERN

-- the fields before the patterns, one after the other
pub head_split : (file : List ℕ) → fault_among file head_fields
    ≡ or_later (field_fault file (unchecked 0 TITLE))
    (or_later (fault_among file (each SAMPLES header_field))
    (or_later (field_fault file (checked_by LENGTH_AT 1 length_check))
    (or_later (field_fault file (unchecked RESTART_AT 1))
    (or_later (field_fault file (checked_by ORDERS_AT ORDERS orders_check))
    (field_fault file (checked_by MARK_AT 4 mark_check))))))
unfolding head_fields fault_among
head_split file =
    ap (or_later (field_fault file (unchecked 0 TITLE)))
    (among_append file (each SAMPLES header_field) _
    ∙ ap (or_later (fault_among file (each SAMPLES header_field)))
    (ap (λ (o : Option ModFault). or_later (field_fault file (checked_by LENGTH_AT 1 length_check))
    (or_later (field_fault file (unchecked RESTART_AT 1)) (or_later (field_fault file (checked_by ORDERS_AT ORDERS orders_check)) o)))
    (or_none (field_fault file (checked_by MARK_AT 4 mark_check)))))

pub first_split : (file : List ℕ) (count : ℕ) → count ≡ pattern_count_in file → first_mod_fault file
    ≡ or_later (fault_among file head_fields) (fault_among file (each count pattern_field))
unfolding first_mod_fault pattern_fields
first_split file count same =
    among_append file head_fields (each (pattern_count_in file) pattern_field)
    ∙ ap (λ (n : ℕ). or_later (fault_among file head_fields) (fault_among file (each n pattern_field))) (sym same)

-- what holds anyway holds where a result is Ok
pub on_ok_always : {A : Type 0} (r : Result A ModFault) (P : Type 0) → P → OnOk r P
on_ok_always (Ok x) P p = p
on_ok_always (Err e) P p = tt

-- what met a fault of a later part met that of the whole
pub meets_last : {A : Type 0} (r : Result A ModFault) (a b : Option ModFault) → a ≡ b → Meets r b → Meets r a
meets_last r a b e m = subst (Meets r) (sym e) m

-- ---- the mark

pub mark_differs : (bytes : List ℕ) (k : ℕ) → k < 4 → (slice_index bytes k == slice_index MOD_MARK k) ≡ false
    → mark_from k (4 - k) bytes ≡ Some (NotMod (MARK_AT + k))
unfolding mark_from
mark_differs bytes k lt e = let n : 4 - k ≡ suc (4 - (k + 1)) = omega arith in rw (n, e) refl

pub mark_agrees : (bytes : List ℕ) (k : ℕ) → k < 4 → (slice_index bytes k == slice_index MOD_MARK k) ≡ true
    → mark_from k (4 - k) bytes ≡ mark_from (k + 1) (4 - (k + 1)) bytes
unfolding mark_from
mark_agrees bytes k lt e =
    let n : 4 - k ≡ suc (4 - (k + 1)) = omega arith in
    let next : suc k ≡ k + 1 = omega arith in
    rw (n, e) (ap (λ (j : ℕ). mark_from j (4 - (k + 1)) bytes) next)

pub mark_stands : (bytes : List ℕ) (k : ℕ) → 4 ≤ k → mark_from k (4 - k) bytes ≡ None
unfolding mark_from
mark_stands bytes k le = let n : 4 - k ≡ 0 = omega arith in rw n refl
