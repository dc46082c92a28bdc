-- Bytes without a fault spell a module, and bytes that spell one have no fault.
use Rattle.std.proofs.Common.{◌≡◌, ℕ, zero, suc, ◌+◌, ◌-◌, ◌*◌, ◌<◌, ◌≤◌, Bool, true, false, cond, List, [], ◌∷◌, length, get_or, All, refl, sym, ap, subst, ◌∙◌, arith, Option, Some, None}
use Rattle.std.specs.Prelude.{nat_lt, ◌==◌, slice_index}
use Rattle.std.specs.List.{position, position_or_len}
use Rattle.std.proofs.lemmas.Bool.{ltb-false, le-ltb, eqb-true}
use Rattle.std.proofs.lemmas.List.Sums.{position_or_len_is, fails_before_first}
use Rattle.ft_types.specs.declared.module.Module.{Module}
use Rattle.ft_modread.specs.declared.fault.ModFault.{ModFault}
use Rattle.ft_modread.specs.declared.fault.ModFault.TheVariants as faults
use Rattle.ft_modread.specs.declared.layout.TheConstants.{TITLE, HEADERS_AT, SAMPLES, HEADER, LENGTH_AT, MOST_LENGTH, RESTART_AT, ORDERS_AT, ORDERS, MOST_ORDER, MOD_MARK, MARK_AT, PATTERNS_AT, PATTERN}
use Rattle.ft_modread.specs.Layout.{file_part, each}
use Rattle.ft_modread.specs.Songs.{all_orders, pattern_count_in, mod_song, SpellsMod}
use Rattle.ft_modread.specs.ModFields.{Check, ModField, unchecked, checked_by, anything, length_check, order_fault, orders_check, mark_from, mark_check, field_fault, or_later, fault_among, head_fields, first_mod_fault}
use Rattle.ft_modread.proofs.Faults.{header_field, pattern_field, head_split, first_split, or_skip, checked_there, among_none, among_more, among_next}
use Rattle.ft_modread.proofs.Parts.{length_part, at_part}
use Rattle.ft_modread.proofs.Valids.{some_patterns}

abbrev none : Option ModFault
none = None

abbrev some : ModFault → Option ModFault
some fault = Some fault

-- ---- no fault among several

record Neither (a b : Option ModFault) : Type 0 where
  one : a ≡ none
  other : b ≡ none

neither : (a b : Option ModFault) → or_later a b ≡ none → Neither a b
neither None b e = record { one = refl; other = e }
neither (Some x) b e = absurd cc

-- a field without a fault is there, and passes its check
record IsThere (file : List ℕ) (at need : ℕ) (check : Check) : Type 0 where
  there : at + need ≤ length file
  passes : check (file_part at need file) ≡ none

there_step : (b : Bool) (short : ModFault) (check : Option ModFault) → cond b (some short) check ≡ none → (b ≡ false) × (check ≡ none)
there_step true short check e = absurd cc
there_step false short check e = (refl, e)

is_there : (file : List ℕ) (at need : ℕ) (check : Check) → field_fault file (checked_by at need check) ≡ none
    → IsThere file at need check
is_there file at need check e =
    let step = there_step (nat_lt (length file) (at + need)) (faults.Short at need) (check (file_part at need file)) e in
    record { there = ltb-false (length file) (at + need) step.0; passes = step.1 }

-- ---- checks

length_step : (b : Bool) (fault : ModFault) → cond b (some fault) none ≡ none → b ≡ false
length_step true fault e = absurd cc
length_step false fault e = refl

order_step : (bytes : List ℕ) (o : Option ℕ) → order_fault bytes o ≡ none → o ≡ None
order_step bytes None e = refl
order_step bytes (Some k) e = absurd cc

abbrev some_number : ℕ → Option ℕ
some_number k = Some k

position_step : (b : Bool) (k : ℕ) → cond b (Some k) None ≡ None → b ≡ false
position_step true k e = let h : some_number k ≡ None = e in absurd cc
position_step false k e = refl

orders_low : (bytes : List ℕ) → position (nat_lt MOST_ORDER) bytes ≡ None → All (λ order. order ≤ MOST_ORDER) bytes
orders_low bytes e k d lt =
    let all : length bytes ≤ position_or_len (nat_lt MOST_ORDER) bytes =
    ltb-false _ _ (position_step (nat_lt (position_or_len (nat_lt MOST_ORDER) bytes) (length bytes)) _ e) in
    ltb-false MOST_ORDER (get_or bytes k d) (fails_before_first (nat_lt MOST_ORDER) bytes k d (omega (arith, all, lt)))

no_position : (bytes : List ℕ) → All (λ order. order ≤ MOST_ORDER) bytes → position (nat_lt MOST_ORDER) bytes ≡ None
no_position bytes all =
    let len : position_or_len (nat_lt MOST_ORDER) bytes ≡ length bytes =
    position_or_len_is (nat_lt MOST_ORDER) bytes (length bytes) 0 (omega arith)
    (λ k lt. le-ltb MOST_ORDER (get_or bytes k 0) (all k 0 lt)) (λ lt. absurd (omega (arith, lt))) in
    let test : nat_lt (position_or_len (nat_lt MOST_ORDER) bytes) (length bytes) ≡ false =
    le-ltb _ _ (omega (arith, len)) in
    rw test refl

mark_step : (bytes : List ℕ) (k : ℕ) (b : Bool) → (slice_index bytes k == slice_index MOD_MARK k) ≡ b
    → cond b (mark_from (suc k) (3 - k) bytes) (some (faults.NotMod (MARK_AT + k))) ≡ none
    → (b ≡ true) × (mark_from (suc k) (3 - k) bytes ≡ none)
mark_step bytes k true e h = (refl, h)
mark_step bytes k false e h = absurd cc

record MarkHolds (bytes : List ℕ) : Type 0 where
  first : slice_index bytes 0 ≡ 77
  second : slice_index bytes 1 ≡ 46
  third : slice_index bytes 2 ≡ 75
  fourth : slice_index bytes 3 ≡ 46

mark_holds : (bytes : List ℕ) → mark_from 0 4 bytes ≡ none → MarkHolds bytes
unfolding mark_from
mark_holds bytes e =
    let one = mark_step bytes 0 (slice_index bytes 0 == slice_index MOD_MARK 0) refl e in
    let two = mark_step bytes 1 (slice_index bytes 1 == slice_index MOD_MARK 1) refl one.1 in
    let three = mark_step bytes 2 (slice_index bytes 2 == slice_index MOD_MARK 2) refl two.1 in
    let four = mark_step bytes 3 (slice_index bytes 3 == slice_index MOD_MARK 3) refl three.1 in
    record {
      first = eqb-true _ _ one.0;
      second = eqb-true _ _ two.0;
      third = eqb-true _ _ three.0;
      fourth = eqb-true _ _ four.0;
    }

four_are : (bytes : List ℕ) → length bytes ≡ 4 → MarkHolds bytes → bytes ≡ MOD_MARK
four_are [] len h = absurd (omega (arith, len))
four_are (a ∷ []) len h = absurd (omega (arith, len))
four_are (a ∷ (b ∷ [])) len h = absurd (omega (arith, len))
four_are (a ∷ (b ∷ (c ∷ []))) len h = absurd (omega (arith, len))
four_are (a ∷ (b ∷ (c ∷ (d ∷ [])))) len h =
    let ha : a ≡ 77 = h.first in
    let hb : b ≡ 46 = h.second in
    let hc : c ≡ 75 = h.third in
    let hd : d ≡ 46 = h.fourth in cc
four_are (a ∷ (b ∷ (c ∷ (d ∷ (e ∷ rest))))) len h = absurd (omega (arith, len))

mark_none : mark_from 0 4 MOD_MARK ≡ none
unfolding mark_from
mark_none = refl

-- ---- no fault at all

last_there : (file : List ℕ) (n : ℕ) → fault_among file (each (n + 1) pattern_field) ≡ none
    → PATTERNS_AT + PATTERN * n + PATTERN ≤ length file
last_there file n e =
    let both = neither (fault_among file (each n pattern_field)) (field_fault file (pattern_field n))
    (sym (among_more file n pattern_field) ∙ e) in
    (is_there file (PATTERNS_AT + PATTERN * n) PATTERN anything both.other).there

patterns_there : (file : List ℕ) (n : ℕ) → 1 ≤ n → fault_among file (each n pattern_field) ≡ none
    → PATTERNS_AT + PATTERN * n ≤ length file
patterns_there file zero le e = absurd (omega arith)
patterns_there file (suc n) le e =
    let next : suc n ≡ n + 1 = omega arith in
    let last = last_there file n (sym (ap (λ (k : ℕ). fault_among file (each k pattern_field)) next) ∙ e) in
    omega (arith, last)

record HeadPasses (file : List ℕ) : Type 0 where
  length : IsThere file LENGTH_AT 1 length_check
  orders : IsThere file ORDERS_AT ORDERS orders_check
  mark : IsThere file MARK_AT 4 mark_check

head_passes : (file : List ℕ) → fault_among file head_fields ≡ none → HeadPasses file
head_passes file e =
    let title = neither _ _ (sym (head_split file) ∙ e) in
    let headers = neither _ _ title.other in
    let length = neither _ _ headers.other in
    let restart = neither _ _ length.other in
    let orders = neither _ _ restart.other in
    record {
      length = is_there file LENGTH_AT 1 length_check length.one;
      orders = is_there file ORDERS_AT ORDERS orders_check orders.one;
      mark = is_there file MARK_AT 4 mark_check orders.other;
    }

zero_below_one : 0 < 1
zero_below_one = omega arith

pub spelled : (file : List ℕ) → first_mod_fault file ≡ None → SpellsMod file (mod_song file)
spelled file e =
    let whole = neither (fault_among file head_fields) (fault_among file (each (pattern_count_in file) pattern_field))
    (sym (first_split file (pattern_count_in file) refl) ∙ e) in
    let head = head_passes file whole.one in
    record {
      whole = patterns_there file (pattern_count_in file) (some_patterns file) whole.other;
      length = subst (λ (n : ℕ). n ≤ MOST_LENGTH) (at_part LENGTH_AT 1 file 0 zero_below_one)
          (ltb-false MOST_LENGTH (slice_index (file_part LENGTH_AT 1 file) 0) (length_step _ _ head.length.passes));
      orders = orders_low (all_orders file) (order_step (all_orders file) _ head.orders.passes);
      mark = four_are (file_part MARK_AT 4 file) (length_part MARK_AT 4 file head.mark.there)
          (mark_holds (file_part MARK_AT 4 file) head.mark.passes);
      means = refl;
    }

-- ---- and back

unchecked_there : (file : List ℕ) (at need : ℕ) → at + need ≤ length file → field_fault file (unchecked at need) ≡ none
unchecked_there file at need le = checked_there file at need anything le

all_there : (file : List ℕ) (n : ℕ) (f : ℕ → ModField) → ((k : ℕ) → k < n → field_fault file (f k) ≡ none)
    → fault_among file (each n f) ≡ none
all_there file zero f h = among_none file f
all_there file (suc n) f h =
    let next : suc n ≡ n + 1 = omega arith in
    ap (λ (k : ℕ). fault_among file (each k f)) next
    ∙ among_next file n f (all_there file n f (λ k lt. h k (omega arith))) (h n (omega arith))

pub no_fault : (file : List ℕ) (song : Module) → SpellsMod file song → first_mod_fault file ≡ None
no_fault file song s =
    let some_pattern = some_patterns file in
    let long : 1084 ≤ length file = omega (arith, s.whole) in
    let low : slice_index (file_part LENGTH_AT 1 file) 0 ≤ MOST_LENGTH =
    subst (λ (n : ℕ). n ≤ MOST_LENGTH) (sym (at_part LENGTH_AT 1 file 0 (omega arith))) s.length in
    let length_none : length_check (file_part LENGTH_AT 1 file) ≡ none =
    rw (le-ltb MOST_LENGTH (slice_index (file_part LENGTH_AT 1 file) 0) low) refl in
    let orders_none : orders_check (file_part ORDERS_AT ORDERS file) ≡ none =
    ap (order_fault (all_orders file)) (no_position (all_orders file) s.orders) in
    let mark_is : mark_check (file_part MARK_AT 4 file) ≡ none = ap (mark_from 0 4) s.mark ∙ mark_none in
    first_split file (pattern_count_in file) refl
    ∙ or_skip _ _ _
    (head_split file
    ∙ or_skip _ _ _ (unchecked_there file 0 TITLE (omega (arith, long)))
    (or_skip _ _ _ (all_there file SAMPLES header_field (λ i lt. unchecked_there file (HEADERS_AT + HEADER * i) HEADER (omega (arith, long, lt))))
    (or_skip _ _ _ (checked_there file LENGTH_AT 1 length_check (omega (arith, long)) ∙ length_none)
    (or_skip _ _ _ (unchecked_there file RESTART_AT 1 (omega (arith, long)))
    (or_skip _ _ _ (checked_there file ORDERS_AT ORDERS orders_check (omega (arith, long)) ∙ orders_none)
    (checked_there file MARK_AT 4 mark_check (omega (arith, long)) ∙ mark_is))))))
    (all_there file (pattern_count_in file) pattern_field (λ p lt. unchecked_there file (PATTERNS_AT + PATTERN * p) PATTERN (omega (arith, s.whole, lt))))

-- ---- running out of memory is no fault of bytes

checks_memory : (bytes : List ℕ) (o : Option ℕ) → order_fault bytes o ≡ some faults.NoMemory → ⊥
checks_memory bytes None e = absurd cc
checks_memory bytes (Some k) e = absurd cc

abbrev NeverMemory : Option ModFault → Type 0
NeverMemory o = o ≡ some faults.NoMemory → ⊥

length_memory : (b : Bool) (at found : ℕ) → NeverMemory (cond b (some (faults.Count at found)) none)
length_memory true at found e = absurd cc
length_memory false at found e = absurd cc

mark_memory_step : (b : Bool) (later : Option ModFault) (at : ℕ) → NeverMemory later → NeverMemory (cond b later (some (faults.NotMod at)))
mark_memory_step true later at h e = h e
mark_memory_step false later at h e = absurd cc

mark_memory : (k n : ℕ) (bytes : List ℕ) → NeverMemory (mark_from k n bytes)
unfolding mark_from
mark_memory k zero bytes e = absurd cc
mark_memory k (suc n) bytes e = mark_memory_step (slice_index bytes k == slice_index MOD_MARK k) _ _ (mark_memory (suc k) n bytes) e

or_memory : (a b : Option ModFault) → NeverMemory a → NeverMemory b → NeverMemory (or_later a b)
or_memory None b ha hb e = hb e
or_memory (Some x) b ha hb e = ha e

field_memory_step : (b : Bool) (at need : ℕ) (check : Option ModFault) → NeverMemory check
    → NeverMemory (cond b (some (faults.Short at need)) check)
field_memory_step true at need check h e = absurd cc
field_memory_step false at need check h e = h e

field_memory : (file : List ℕ) (at need : ℕ) (check : Check) → ((bytes : List ℕ) → NeverMemory (check bytes))
    → NeverMemory (field_fault file (checked_by at need check))
field_memory file at need check h =
    field_memory_step (nat_lt (length file) (at + need)) at need (check (file_part at need file)) (h (file_part at need file))

no_memory : NeverMemory none
no_memory e = absurd cc

each_memory : (file : List ℕ) (n : ℕ) (f : ℕ → ModField) → ((k : ℕ) → NeverMemory (field_fault file (f k)))
    → NeverMemory (fault_among file (each n f))
each_memory file zero f h = subst NeverMemory (sym (among_none file f)) no_memory
each_memory file (suc n) f h =
    let next : suc n ≡ n + 1 = omega arith in
    subst NeverMemory (sym (ap (λ (k : ℕ). fault_among file (each k f)) next ∙ among_more file n f))
    (or_memory _ _ (each_memory file n f h) (h n))

anything_memory : (bytes : List ℕ) → NeverMemory (anything bytes)
anything_memory bytes = no_memory

pub never_memory : (file : List ℕ) → first_mod_fault file ≡ Some faults.NoMemory → ⊥
never_memory file =
    let unchecked_memory : (at need : ℕ) → NeverMemory (field_fault file (unchecked at need)) = λ at need. field_memory file at need anything anything_memory in
    subst NeverMemory (sym (first_split file (pattern_count_in file) refl))
    (or_memory _ _
    (subst NeverMemory (sym (head_split file))
    (or_memory _ _ (unchecked_memory 0 TITLE)
    (or_memory _ _ (each_memory file SAMPLES header_field (λ i. unchecked_memory (HEADERS_AT + HEADER * i) HEADER))
    (or_memory _ _ (field_memory file LENGTH_AT 1 length_check (λ bytes. length_memory (nat_lt MOST_LENGTH (slice_index bytes 0)) LENGTH_AT (slice_index bytes 0)))
    (or_memory _ _ (unchecked_memory RESTART_AT 1)
    (or_memory _ _ (field_memory file ORDERS_AT ORDERS orders_check (λ bytes. checks_memory bytes (position (nat_lt MOST_ORDER) bytes)))
    (field_memory file MARK_AT 4 mark_check (λ bytes. mark_memory 0 4 bytes))))))))
    (each_memory file (pattern_count_in file) pattern_field (λ p. unchecked_memory (PATTERNS_AT + PATTERN * p) PATTERN)))
