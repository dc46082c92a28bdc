-- A cell of a pattern is another.
use Rattle.std.proofs.Common.{◌≡◌, ◌≢◌, ℕ, ◌+◌, ◌*◌, ◌/◌, ◌%◌, ◌<◌, Bool, true, false, List, ◌∷◌, Option, Some, None, length, set, get_or, refl, ap, sym, subst, ◌∙◌, arith, inl, inr, ne_eqb, eq-eqb}
use Rattle.std.specs.Prelude.{◌==◌, if◌then◌else◌, nat_lt}
use Rattle.std.specs.List.{slice_get}
use Rattle.std.proofs.lemmas.Bool.{cases_eq}
use Rattle.std.proofs.lemmas.Bool.Decides.{nat_tests}
use Rattle.std.proofs.lemmas.Nat.{mul-add-lt}
use Rattle.std.proofs.Math.Nat.{mul_comm}
use Rattle.std.proofs.lemmas.Grind.{get_or-set_at}
use Rattle.std.proofs.lemmas.List.{get_or-set_other}
use Rattle.std.proofs.lemmas.Option.{same_Some, slice_get_within}
use Rattle.ft_types.specs.declared.module.Module.{Module}
use Rattle.ft_types.specs.declared.pattern.Pattern.{Pattern}
use Rattle.ft_types.specs.declared.pattern.Cell.{Cell}
use Rattle.ft_types.specs.declared.edit.Edit.TheVariants as edits
use Rattle.ft_types.specs.declared.edit_fault.EditFault.{EditFault}
use Rattle.ft_types.specs.Blocks.{pieces_of}
use Rattle.ft_types.specs.Valid.{IsValidPattern}
use Rattle.ft_types.specs.Views.{empty_cell, rows_at}
use Rattle.ft_edits.specs.Faults.{unless, first_cause, fault_of}
use Rattle.ft_edits.specs.Patterns.{with_cell, with_pattern}
use Rattle.ft_segments.specs.Walk.{PatternIds, Placed, ids_of}
use Rattle.ft_changes.specs.declared.reach.Reach.{Reach}
use Rattle.ft_changes.specs.declared.reach.Reach.TheVariants as reaches
use Rattle.ft_changes.specs.Ids.{bodies_at}
use Rattle.ft_changes.specs.Parts.{put}
use Rattle.ft_image.specs.Shown.{Shows}
use Rattle.ft_image.specs.Values as values
use Rattle.ft_sharing.specs.Written.{AtPlace, RootAndBodyAreWritten}
use Rattle.ft_songedit.proofs.Stored.{is_stored, stored, rows_are, bodies_are}
use Rattle.ft_songedit.proofs.Placing.{put_there, changed_there}

-- a number of a cell is in its body
pub number_in : (channels : ℕ) (x : Pattern) (n : ℕ) → IsValidPattern channels x → n < length x.cells
    → n / 256 < pieces_of (x.rows * channels) 256
number_in channels x n valid lt = let e = valid.whole in omega (arith, e, lt)

-- the words of the body
pub cell_put : (cells : List Cell) (n place : ℕ) (cell : Cell) (word : ℕ) → n < length cells → place < 256
    → word ≡ values.cell_word (get_or cells (n / 256 * 256 + place) empty_cell)
    → (if place == n % 256 then values.cell_word cell else word)
    ≡ values.cell_word (get_or (set cells n cell) (n / 256 * 256 + place) empty_cell)
cell_put cells n place cell word within lt is = elim (cases_eq place (n % 256)) [
  | inl same ↦
      let here : n / 256 * 256 + place ≡ n = omega (arith, same) in
      rw (eq-eqb place (n % 256) same)
      (ap (λ (c : Cell). values.cell_word c) (sym (get_or-set_at cells n (n / 256 * 256 + place) cell empty_cell here within)))
  | inr ne ↦
      let away : n / 256 * 256 + place ≢ n = λ e. ne (omega (arith, e, lt)) in
      rw (ne_eqb place (n % 256) ne)
      (is ∙ ap (λ (c : Cell). values.cell_word c) (sym (get_or-set_other cells n (n / 256 * 256 + place) cell empty_cell away)))
]

-- ---- an edit that isn't refused

pub passed : (test : Bool) (fault : EditFault) (causes : List (Option EditFault))
    → first_cause (unless test fault ∷ causes) ≡ None → (test ≡ true) × (first_cause causes ≡ None)
passed true fault causes none = (refl, none)
passed false fault causes none = absurd cc

pub low : (a b : ℕ) → nat_lt a b ≡ true → a < b
low a b holds = grind (arith, nat_tests)

-- the cell that is set is there
pub record IsCellThere (m : Module) (p r c : ℕ) : Type 0 where
  pub pattern : p < length m.patterns
  pub row : r < rows_at m p
  pub channel : c < m.channels

pub cell_there : (m : Module) (p r c n i v e a : ℕ) → fault_of m (edits.Cell p r c n i v e a) ≡ None → IsCellThere m p r c
cell_there m p r c n i v e a none =
    let s = passed (nat_lt p (length m.patterns)) _ _ none in
    let t = passed (nat_lt r (rows_at m p)) _ _ s.1 in
    let u = passed (nat_lt c m.channels) _ _ t.1 in
    record {
      pattern = low p (length m.patterns) s.0;
      row = low r (rows_at m p) t.0;
      channel = low c m.channels u.0;
    }

pub number_there : (m : Module) (p r c : ℕ) (x : Pattern) → IsCellThere m p r c → slice_get m.patterns p ≡ Some x
    → IsValidPattern m.channels x → r * m.channels + c < length x.cells
number_there m p r c x is there valid =
    let rows = rows_are m p x there in
    let row : r < x.rows = omega (arith, rows, is.row) in
    let lt = mul-add-lt r m.channels c x.rows row is.channel in
    let same : m.channels * x.rows ≡ x.rows * m.channels = mul_comm m.channels x.rows in
    omega (arith, lt, same, valid.whole)

-- ---- the pattern and its segments, after the edit

-- what one cell's writing must give
abbrev pub CellIsWritten : List ℕ → List ℕ → Placed → Module → ℕ → ℕ → Cell → Type 0
CellIsWritten pool fresh p m k n cell =
    (x : Pattern) (ids : PatternIds) → slice_get m.patterns k ≡ Some x → n < length x.cells
    → slice_get (ids_of p).patterns k ≡ Some ids
    → RootAndBodyAreWritten pool (n / 256) (record x { cells = set x.cells n cell })
    (record { root = get_or fresh 1 0; bodies = set ids.bodies (n / 256) (get_or fresh 2 0) })

at_place : (pool fresh : List ℕ) (p : Placed) (m : Module) (k r c b n : ℕ) (cell : Cell) → Shows p m
    → IsCellThere m k r c → n ≡ r * m.channels + c → n / 256 ≡ b → CellIsWritten pool fresh p m k n cell
    → AtPlace k (RootAndBodyAreWritten pool b) (with_pattern k (with_cell m.channels r c cell) m).patterns
    (put k (record { root = get_or fresh 1 0; bodies = set (bodies_at (ids_of p) k) b (get_or fresh 2 0) }) (ids_of p).patterns)
at_place pool fresh p m k r c b n cell shows is number body written =
    λ x y atx aty.
    let one = stored m.patterns k is.pattern in
    let it = is_stored p m k one.0 shows one.1 in
    let ids : PatternIds = it.ids in
    let within = slice_get_within (ids_of p).patterns k ids it.named in
    let made : Pattern = with_cell m.channels r c cell one.0 in
    let next : PatternIds = record { root = get_or fresh 1 0; bodies = set (bodies_at (ids_of p) k) b (get_or fresh 2 0) } in
    let ex : made ≡ x = same_Some made x (sym (changed_there k (with_cell m.channels r c cell) m.patterns one.0 one.1) ∙ atx) in
    let ey : next ≡ y = same_Some next y (sym (put_there k next (ids_of p).patterns (omega (arith, within))) ∙ aty) in
    let there = number_there m k r c one.0 is one.1 it.valid in
    let w = written one.0 ids one.1 (subst (λ i. i < length one.0.cells) (sym number) there) it.named in
    let named : bodies_at (ids_of p) k ≡ ids.bodies = bodies_are p m k one.0 it in
    let w2 = subst (λ (i : ℕ). RootAndBodyAreWritten pool (n / 256) (record { rows = one.0.rows; cells = set one.0.cells i cell })
    (record { root = get_or fresh 1 0; bodies = set ids.bodies (n / 256) (get_or fresh 2 0) })) number w in
    let w3 = subst (λ (i : ℕ). RootAndBodyAreWritten pool i made
    (record { root = get_or fresh 1 0; bodies = set ids.bodies i (get_or fresh 2 0) })) body w2 in
    let w4 = subst (λ (is : List ℕ). RootAndBodyAreWritten pool b made
    (record { root = get_or fresh 1 0; bodies = set is b (get_or fresh 2 0) })) (sym named) w3 in
    subst (λ (y : PatternIds). RootAndBodyAreWritten pool b x y) ey
    (subst (λ (x : Pattern). RootAndBodyAreWritten pool b x next) ex w4)

same_reach : (p q k b : ℕ) → ◌≡◌ {A = Reach} (reaches.Cell p q) (reaches.Cell k b) → (p ≡ k) × (q ≡ b)
same_reach p q k b is = (cc, cc)

pub reached_cell : (pool fresh : List ℕ) (p : Placed) (m : Module) (q r c k b n : ℕ) (cell : Cell) → Shows p m
    → IsCellThere m q r c → n ≡ r * m.channels + c → ◌≡◌ {A = Reach} (reaches.Cell q ((r * m.channels + c) / 256)) (reaches.Cell k b)
    → CellIsWritten pool fresh p m q n cell
    → AtPlace k (RootAndBodyAreWritten pool b) (with_pattern q (with_cell m.channels r c cell) m).patterns
    (put k (record { root = get_or fresh 1 0; bodies = set (bodies_at (ids_of p) k) b (get_or fresh 2 0) }) (ids_of p).patterns)
reached_cell pool fresh p m q r c k b n cell shows is number reach written =
    let same = same_reach q ((r * m.channels + c) / 256) k b reach in
    let body : n / 256 ≡ b = ap (λ i. i / 256) number ∙ same.1 in
    subst (λ (i : ℕ). AtPlace i (RootAndBodyAreWritten pool b) (with_pattern q (with_cell m.channels r c cell) m).patterns
    (put i (record { root = get_or fresh 1 0; bodies = set (bodies_at (ids_of p) i) b (get_or fresh 2 0) }) (ids_of p).patterns)) same.0
    (at_place pool fresh p m q r c b n cell shows is number body written)
