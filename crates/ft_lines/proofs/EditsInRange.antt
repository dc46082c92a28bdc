-- What a line says is in the ranges of the types.
use Rattle.std.proofs.Common.{◌≡◌, ℕ, zero, suc, ◌+◌, ◌^◌, ◌<◌, ◌≤◌, inl, inr, List, [], ◌∷◌, length, codes, Option, Some, None, Result, Ok, Err, ℤ, pos, refl, sym, ap, subst, ◌∙◌, arith}
use Rattle.std.specs.Prelude.{FitsSigned, IfSome, bytes_eq, option_map, map}
use Rattle.std.specs.Int.{w8, w16}
use Rattle.std.specs.List.{All}
use Rattle.std.proofs.lemmas.Bool.{cases_Bool, cond-true, cond-false}
use Rattle.std.proofs.lemmas.List.Elements.{All-nil, All-cons}
use Rattle.ft_types.specs.declared.edit.Edit.{Edit}
use Rattle.ft_types.specs.declared.edit_kind.EditKind.{EditKind}
use Rattle.ft_types.specs.declared.edit_kind.NumberType.{NumberType}
use Rattle.ft_types.specs.declared.edit_kind.NumberType.TheVariants.{U8, U16, U32, I8, I16}
use Rattle.ft_types.specs.declared.edit_kind.LastType.{LastType}
use Rattle.ft_types.specs.declared.edit_kind.LastType.TheVariants.{Nothing, Title, Name, Frames}
use Rattle.ft_types.specs.Valid.{IsBytes}
use Rattle.ft_types.specs.Signatures.{signature, every_kind, IsNaturalBelow, IsOfType, AreOfTypes}
use Rattle.ft_types.specs.Edits.{IsGivable}
use Rattle.ft_lines.specs.Values.{number_of, signed_of, name_of, frames_of}
use Rattle.ft_lines.specs.Sequence.{give, follow, ◌>>=◌}
use Rattle.ft_lines.specs.Reading.{LinePlace, Reading, or_wrong, next_word, word, is_over, behind_spaces}
use Rattle.ft_lines.specs.Edits.{u32, name_20, name_22, frames_argument, natural_word, number_word, numbers_reading, closing_reading, kind_reading, named_reading, readings, named, edit_reading}
use Rattle.ft_lines.specs.Lines.{this_word, another_reading, others_reading, edits_reading, time_if, time_reading, timed_reading, value_only, beginning, read_from, line_of}
use Rattle.ft_types.specs.EditParts.{InParts, edit_parts, edit_of, IsLastPart, AreGiven, FollowsTable, EditHasRanges}
use Rattle.ft_lines.specs.ReadRanges.{IsLineInRange}
use Rattle.ft_lines.proofs.WholeEdits.{are_kept, given_frames}
use Rattle.ft_lines.proofs.ValuesInRange.{number_within, signed_8, signed_16, name_is, frames_are}

-- what a reading gives is so, wherever it reads
pub record Gives {A : Type 0} (P : A → Type 0) (reading : Reading A) : Type 0 where
  pub each : (p q : LinePlace) (x : A) → reading p ≡ Ok (x, q) → P x

same_value : {A B : Type 0} (x y : A) (p q : B) → ◌≡◌ {A = Result (A × B) ℕ} (Ok (x, p)) (Ok (y, q)) → x ≡ y
same_value {A} {B} x y p q h =
    let e : ◌≡◌ {A = A × B} (x, p) (y, q) = cc in
    ap (λ r. r.0) e

gives_it : {A : Type 0} (P : A → Type 0) (x : A) → P x → Gives P (give x)
gives_it P x is = record { each = λ p q y h. subst P (same_value x y p q h) is }

then : {A B : Type 0} (P : A → Type 0) (Q : B → Type 0) (first : Reading A) (next : A → Reading B) → Gives P first
    → ((x : A) → P x → Gives Q (next x)) → Gives Q (first >>= next)
then {A} {B} P Q first next f n = record { each = λ p q y h. go p q y (first p) refl h } where
  go : (p q : LinePlace) (y : B) (r : Result (A × LinePlace) ℕ) → first p ≡ r → follow next r ≡ Ok (y, q) → Q y
  go p q y (Ok read) e h = (n read.0 (f.each p read.1 read.0 e)).each read.1 q y h
  go p q y (Err at) e h = absurd (cc)

-- ---- words

or_wrong_gives : {A : Type 0} (P : A → Type 0) (at : ℕ) (o : Option A) → ((x : A) → o ≡ Some x → P x) → Gives P (or_wrong at o)
or_wrong_gives P at (Some x) each = gives_it P x (each x refl)
or_wrong_gives P at None each = record { each = λ p q y h. absurd (cc) }

word_gives : {A : Type 0} (P : A → Type 0) (value : List ℕ → Option A) → ((w : List ℕ) (x : A) → value w ≡ Some x → P x)
    → Gives P (word value)
word_gives P value each = then (λ _. Unit {0}) P next_word (λ found. or_wrong found.0 (value found.1))
    (record { each = λ p q y h. tt }) (λ found t. or_wrong_gives P found.0 (value found.1) (each found.1))

number_gives : (most limit : ℕ) → most < limit → Gives (λ n. n < limit) (word (number_of most))
number_gives most limit within = word_gives (λ n. n < limit) (number_of most)
    (λ w n h. omega (arith, within, number_within most n w h))

u32_gives : Gives (λ n. n < 2 ^ 32) u32
unfolding u32
u32_gives = number_gives 4294967295 (2 ^ 32) (omega arith)

natural_gives : (most limit : ℕ) → limit ≡ most + 1 → Gives (IsNaturalBelow limit) (word (natural_word most))
natural_gives most limit e = word_gives (IsNaturalBelow limit) (natural_word most) (λ w z h. go w (number_of most w) refl z h) where
  go : (w : List ℕ) (o : Option ℕ) → number_of most w ≡ o → (z : ℤ) → option_map pos o ≡ Some z → IsNaturalBelow limit z
  go w None is z h = absurd (cc)
  go w (Some n) is z h =
      let same : pos n ≡ z = cc in
      subst (IsNaturalBelow limit) same (omega (arith, e, number_within most n w is))

number_type_gives : (t : NumberType) → Gives (IsOfType t) (word (number_word t))
number_type_gives U8 = natural_gives 255 (2 ^ 8) (omega arith)
number_type_gives U16 = natural_gives 65535 (2 ^ 16) (omega arith)
number_type_gives U32 = natural_gives 4294967295 (2 ^ 32) (omega arith)
number_type_gives I8 = word_gives (FitsSigned w8) (signed_of 127) signed_8
number_type_gives I16 = word_gives (FitsSigned w16) (signed_of 32767) signed_16

numbers_give : (ts : List NumberType) → Gives (AreOfTypes ts) (numbers_reading ts)
numbers_give [] = gives_it (AreOfTypes []) [] tt
numbers_give (t ∷ ts) = then (IsOfType t) (AreOfTypes (t ∷ ts)) (word (number_word t)) (λ n. numbers_reading ts >>= (λ ns. give (n ∷ ns)))
    (number_type_gives t) (λ n is. then (AreOfTypes ts) (AreOfTypes (t ∷ ts)) (numbers_reading ts) (λ ns. give (n ∷ ns)) (numbers_give ts)
    (λ ns are. gives_it (AreOfTypes (t ∷ ts)) (n ∷ ns) (is, are)))

-- a name and frames that can be given
abbrev IsClosing : LastType → (List ℕ × List ℤ) → Type 0
IsClosing t closing = IsLastPart t closing.0 closing.1 × AreGiven t closing.1

abbrev AreFrames : List ℤ → Type 0
AreFrames frames = (1 ≤ length frames) × (length frames ≤ 256) × All (FitsSigned w16) frames

closing_gives : (t : LastType) → Gives (IsClosing t) (closing_reading t)
unfolding name_20 name_22 frames_argument
closing_gives Nothing = gives_it (IsClosing Nothing) ([], []) ((refl, refl), tt)
closing_gives Title = then (IsBytes 20) (IsClosing Title) (word (name_of 20)) (λ name. give (name, []))
    (word_gives (IsBytes 20) (name_of 20) (name_is 20)) (λ name is. gives_it (IsClosing Title) (name, []) ((is, refl), tt))
closing_gives Name = then (IsBytes 22) (IsClosing Name) (word (name_of 22)) (λ name. give (name, []))
    (word_gives (IsBytes 22) (name_of 22) (name_is 22)) (λ name is. gives_it (IsClosing Name) (name, []) ((is, refl), tt))
closing_gives Frames = then AreFrames (IsClosing Frames) (word frames_of) (λ frames. give ([], frames))
    (word_gives AreFrames frames_of frames_are)
    (λ frames are. gives_it (IsClosing Frames) ([], frames) ((refl, are.2), (are.0, are.1)))

-- ---- edits

abbrev Good : Edit → Type 0
Good edit = EditHasRanges edit × IsGivable edit

parts_are_good : (p : InParts) → FollowsTable p → AreGiven (signature p.kind).last p.frames → Good (edit_of p)
parts_are_good p follows given =
    let same : p ≡ edit_parts (edit_of p) = sym (are_kept p follows) in (
      subst FollowsTable same follows,
      given_frames (edit_of p) (subst (λ q. AreGiven (signature q.kind).last q.frames) same given),
    )

kind_gives : (kind : EditKind) → Gives Good (kind_reading kind)
unfolding kind_reading
kind_gives kind =
    let made : List ℤ → (List ℕ × List ℤ) → Edit =
    λ ns c. edit_of (record { kind = kind; numbers = ns; name = c.0; frames = c.1 }) in
    then (AreOfTypes (signature kind).numbers) Good (numbers_reading (signature kind).numbers)
    (λ ns. closing_reading (signature kind).last >>= (λ c. give (made ns c))) (numbers_give (signature kind).numbers) (λ ns are.
    then (IsClosing (signature kind).last) Good (closing_reading (signature kind).last) (λ c. give (made ns c))
    (closing_gives (signature kind).last) (λ c is. gives_it Good (made ns c)
    (parts_are_good (record { kind = kind; numbers = ns; name = c.0; frames = c.1 }) (are, is.0) is.1)))

-- ---- an edit behind its name

abbrev RowsGive : List (List ℕ × Reading Edit) → Type 0
RowsGive [] = Unit {0}
RowsGive (row ∷ rows) = Gives Good row.1 × RowsGive rows

named_gives : (rows : List (List ℕ × Reading Edit)) → RowsGive rows → (w : List ℕ) (reading : Reading Edit)
    → named rows w ≡ Some reading → Gives Good reading
named_gives [] give w reading h = absurd (cc)
named_gives (row ∷ rows) give w reading h = elim (cases_Bool (bytes_eq w row.0)) [
  | inl so ↦
      let e : Some row.1 ≡ Some reading = sym (cond-true (bytes_eq w row.0) (Some row.1) (named rows w) so) ∙ h in
      let same : row.1 ≡ reading = cc in
      subst (Gives Good) same give.0
  | inr other ↦ named_gives rows give.1 w reading (sym (cond-false (bytes_eq w row.0) (Some row.1) (named rows w) other) ∙ h)
]

kinds_give : (ks : List EditKind) → RowsGive (map named_reading ks)
kinds_give [] = tt
kinds_give (k ∷ ks) = (kind_gives k, kinds_give ks)

rows_give : RowsGive readings
unfolding readings
rows_give = kinds_give every_kind

edit_gives : Gives Good edit_reading
unfolding edit_reading
edit_gives = then (Gives Good) Good (word (named readings)) (λ reading. reading)
    (word_gives (Gives Good) (named readings) (named_gives readings rows_give)) (λ reading gives. gives)

-- ---- lines

record AreGood (least most : ℕ) (edits : List Edit) : Type 0 where
  pub some : least ≤ length edits
  pub few : length edits ≤ most
  pub ranges : All EditHasRanges edits
  pub givable : All IsGivable edits

one_more : (least most : ℕ) (edit : Edit) (others : List Edit) → Good edit → AreGood least most others
    → AreGood (suc least) (suc most) (edit ∷ others)
one_more least most edit others good are = record {
  some = omega (arith, are.some);
  few = omega (arith, are.few);
  ranges = All-cons EditHasRanges edit others good.0 are.ranges;
  givable = All-cons IsGivable edit others good.1 are.givable;
}

no_edits : (most : ℕ) → AreGood 0 most []
no_edits most = record { some = omega arith; few = omega arith; ranges = All-nil EditHasRanges; givable = All-nil IsGivable }

another_gives : Gives Good another_reading
unfolding another_reading
another_gives = then (λ _. Unit {0}) Good (word (this_word (codes ";"))) (λ _. edit_reading)
    (record { each = λ p q y h. tt }) (λ _ t. edit_gives)

none_give : Gives (AreGood 0 0) (others_reading 0)
unfolding others_reading
none_give = record { each = each } where
  each : (p q : LinePlace) (edits : List Edit) → others_reading 0 p ≡ Ok (edits, q) → AreGood 0 0 edits
  each p q edits h =
      let none : Result (List Edit × LinePlace) ℕ = Ok ([], p) in
      let wrong : Result (List Edit × LinePlace) ℕ = Err (behind_spaces p).at in
      elim (cases_Bool (is_over p)) [
        | inl so ↦ subst (AreGood 0 0) (same_value [] edits p q (sym (cond-true (is_over p) none wrong so) ∙ h)) (no_edits 0)
        | inr left ↦ absurd (cc (cond-false (is_over p) none wrong left, h))
      ]

abbrev further : Reading (List Edit) → Reading (List Edit)
further others = another_reading >>= (λ edit. others >>= (λ more. give (edit ∷ more)))

further_gives : (most : ℕ) (others : Reading (List Edit)) → Gives (AreGood 0 most) others → Gives (AreGood 1 (suc most)) (further others)
further_gives most others give_good = then Good (AreGood 1 (suc most)) another_reading (λ edit. others >>= (λ more. give (edit ∷ more)))
    another_gives (λ edit good. then (AreGood 0 most) (AreGood 1 (suc most)) others (λ more. give (edit ∷ more)) give_good
    (λ more are. gives_it (AreGood 1 (suc most)) (edit ∷ more) (one_more 0 most edit more good are)))

more_give : (more : ℕ) → Gives (AreGood 0 more) (others_reading more) → Gives (AreGood 0 (suc more)) (others_reading (suc more))
unfolding others_reading
more_give more give_good = record { each = each } where
  each : (p q : LinePlace) (edits : List Edit) → others_reading (suc more) p ≡ Ok (edits, q) → AreGood 0 (suc more) edits
  each p q edits h = elim (cases_Bool (is_over p)) [
    | inl so ↦ subst (AreGood 0 (suc more))
        (same_value [] edits p q (sym (cond-true (is_over p) (Ok ([], p)) (further (others_reading more) p) so) ∙ h)) (no_edits (suc more))
    | inr left ↦
        let are = (further_gives more (others_reading more) give_good).each p q edits
        (sym (cond-false (is_over p) (Ok ([], p)) (further (others_reading more) p) left) ∙ h) in
        record { some = omega arith; few = are.few; ranges = are.ranges; givable = are.givable }
  ]

others_give : (more : ℕ) → Gives (AreGood 0 more) (others_reading more)
others_give zero = none_give
others_give (suc more) = more_give more (others_give more)

edits_give : (more : ℕ) → Gives (AreGood 1 (suc more)) (edits_reading more)
unfolding edits_reading
edits_give more = then Good (AreGood 1 (suc more)) edit_reading (λ edit. others_reading more >>= (λ others. give (edit ∷ others)))
    edit_gives (λ edit good. then (AreGood 0 more) (AreGood 1 (suc more)) (others_reading more) (λ others. give (edit ∷ others))
    (others_give more)
    (λ others are. gives_it (AreGood 1 (suc more)) (edit ∷ others) (one_more 0 more edit others good are)))

abbrev IsTime : Option ℕ → Type 0
IsTime time = IfSome time (λ t. t < 2 ^ 32)

time_gives : Gives IsTime time_reading
unfolding time_reading
time_gives = record { each = λ p q time h. go p q time (word (this_word (codes "at")) p) h } where
  some_time : Gives IsTime (u32 >>= (λ t. give (Some t)))
  some_time = then (λ n. n < 2 ^ 32) IsTime u32 (λ t. give (Some t)) u32_gives (λ t small. gives_it IsTime (Some t) small)

  go : (p q : LinePlace) (time : Option ℕ) (r : Result (List ℕ × LinePlace) ℕ) → time_if p r ≡ Ok (time, q) → IsTime time
  go p q time (Ok read) h = some_time.each read.1 q time h
  go p q time (Err at) h = subst IsTime (same_value None time p q h) tt

abbrev IsTimed : ℕ → Option ℕ × List Edit → Type 0
IsTimed most timed = IsTime timed.0 × AreGood 1 most timed.1

timed_gives : (more : ℕ) → Gives (IsTimed (suc more)) (timed_reading more)
unfolding timed_reading
timed_gives more = then IsTime (IsTimed (suc more)) time_reading (λ time. edits_reading more >>= (λ edits. give (time, edits)))
    time_gives (λ time is. then (AreGood 1 (suc more)) (IsTimed (suc more)) (edits_reading more) (λ edits. give (time, edits))
    (edits_give more)
    (λ edits are. gives_it (IsTimed (suc more)) (time, edits) (is, are)))

value_is : (r : Result ((Option ℕ × List Edit) × LinePlace) ℕ) (x : Option ℕ × List Edit) → value_only r ≡ Ok (Some x)
    → (q : LinePlace) × (r ≡ Ok (x, q))
value_is (Ok read) x h = let same : read.0 ≡ x = cc in (read.1, ap (λ y. Ok (y, read.1)) same)
value_is (Err at) x h = absurd (cc)

pub lines_are_in_range : (more : ℕ) (line : List ℕ) (time : Option ℕ) (edits : List Edit)
    → line_of more line ≡ Ok (Some (time, edits)) → IsLineInRange (more + 1) time edits
lines_are_in_range more line time edits h = go (beginning line) h where
  go : (r : Result (Option LinePlace) ℕ) → read_from more r ≡ Ok (Some (time, edits)) → IsLineInRange (more + 1) time edits
  go (Ok None) k = absurd (cc)
  go (Err at) k = absurd (cc)
  go (Ok (Some p)) k =
      let read = value_is (timed_reading more p) (time, edits) k in
      let is = (timed_gives more).each p read.0 (time, edits) read.1 in
      let are = is.1 in
      record { time = is.0; some = are.some; few = omega (arith, are.few); ranges = are.ranges; givable = are.givable }
