-- The pattern after an edit, and its segments.
use Rattle.std.proofs.Common.{◌≡◌, ℕ, zero, suc, ◌+◌, ◌*◌, ◌≤◌, ◌&&◌, Bool, true, false, List, [], ◌∷◌, ◌++◌, Some, None, length, take, replicate, refl, ap, sym, subst, ◌∙◌, arith}
use Rattle.std.specs.Prelude.{All, nat_le}
use Rattle.std.specs.List.{slice_get}
use Rattle.std.proofs.lemmas.Bool.Decides.{nat_tests}
use Rattle.std.proofs.lemmas.Nat.{mul-le}
use Rattle.std.proofs.lemmas.Option.{same_Some}
use Rattle.ft_types.specs.declared.module.Module.{Module}
use Rattle.ft_types.specs.declared.pattern.Pattern.{Pattern}
use Rattle.ft_types.specs.declared.pattern.Cell.{Cell}
use Rattle.ft_types.specs.declared.edit.Edit.TheVariants as edits
use Rattle.ft_types.specs.Valid.{IsValid}
use Rattle.ft_types.specs.Views.{empty_cell}
use Rattle.ft_edits.specs.Edited.{edited}
use Rattle.ft_edits.specs.Faults.{fault_of}
use Rattle.ft_edits.specs.Patterns.{with_pattern}
use Rattle.ft_cells.specs.Buffers.{pattern_in}
use Rattle.ft_segments.specs.Walk.{PatternIds}
use Rattle.ft_changes.specs.declared.reach.Reach.{Reach}
use Rattle.ft_changes.specs.declared.reach.Reach.TheVariants as reaches
use Rattle.ft_changes.specs.Reached.{IsPatternReached}
use Rattle.ft_changes.specs.Reaches.{reach_of}
use Rattle.ft_changes.specs.Parts.{put}
use Rattle.ft_sharing.specs.Written.{AtPlace, PatternIsWritten}
use Rattle.ft_songedit.proofs.CellPut.{passed}
use Rattle.ft_songedit.proofs.Placing.{put_there, changed_there}

-- an edit that changes a stored pattern
pub changed_made : (m new : Module) (k : ℕ) (change : Pattern → Pattern) (x : Pattern) → new ≡ with_pattern k change m
    → slice_get m.patterns k ≡ Some x → slice_get new.patterns k ≡ Some (change x)
changed_made m new k change x is there =
    ap (λ (n : Module). slice_get n.patterns k) is ∙ changed_there k change m.patterns x there

-- ---- a new pattern

pushed : {X : Type 0} (xs : List X) (x : X) → slice_get (xs ++ x ∷ []) (length xs) ≡ Some x
pushed [] x = refl
pushed (y ∷ xs) x = pushed xs x

all_empty : (k : ℕ) (cells : List Cell) → All (λ c. c ≡ empty_cell) cells → k ≤ length cells → replicate k empty_cell ≡ take k cells
all_empty zero cells all le = refl
all_empty (suc k) [] all le = absurd (omega (arith, le))
all_empty (suc k) (c ∷ cells) all le =
    ap (λ d. d ∷ replicate k empty_cell) (sym (all 0 c (omega arith)))
    ∙ ap (λ xs. c ∷ xs) (all_empty k cells (λ j d lt. all (suc j) d (omega (arith, lt))) (omega (arith, le)))

both : (a b : Bool) → (a && b) ≡ true → b ≡ true
both true b is = is
both false b is = absurd cc

most : (a b : ℕ) → nat_le a b ≡ true → a ≤ b
most a b holds = grind (arith, nat_tests)

few_rows : (m : Module) (n : ℕ) → fault_of m (edits.Newpat n) ≡ None → n ≤ 256
few_rows m n none =
    let s = passed (nat_le (length m.patterns + 1) 256) _ _ none in
    let t = passed (nat_le 1 n && nat_le n 256) _ _ s.1 in
    most n 256 (both (nat_le 1 n) (nat_le n 256) t.0)

new_number : (n q k b : ℕ) → ◌≡◌ {A = Reach} (reaches.Pattern n q) (reaches.Pattern k b) → n ≡ k
new_number n q k b is = cc

abbrev made : ℕ → List Cell → Pattern
made r xs = record { rows = r; cells = xs }

pub new_made : (m : Module) (n k b rows channels : ℕ) (cells : List Cell) → IsValid m → fault_of m (edits.Newpat n) ≡ None
    → reach_of m (edits.Newpat n) ≡ reaches.Pattern k b → channels ≡ m.channels → length cells ≡ 8192
    → All (λ c. c ≡ empty_cell) cells → (n * channels ≤ 8192 → rows ≡ n)
    → slice_get (edited m (edits.Newpat n)).patterns k ≡ Some (pattern_in rows channels cells)
new_made m n k b rows channels cells valid none reach wide long empty whole =
    let few = mul-le n m.channels 256 32 (few_rows m n none) valid.few_channels in
    let count : n * channels ≡ n * m.channels = ap (λ c. n * c) wide in
    let same = whole (omega (arith, few, count)) in
    let size : n * m.channels ≡ rows * channels = rw (same, wide) refl in
    let number = new_number (length m.patterns) _ k b reach in
    ap (λ i. slice_get (edited m (edits.Newpat n)).patterns i) (sym number)
    ∙ pushed m.patterns (made n (replicate (n * m.channels) empty_cell))
    ∙ ap (λ r. Some (made r (replicate (n * m.channels) empty_cell))) (sym same)
    ∙ ap (λ i. Some (made rows (replicate i empty_cell))) size
    ∙ ap (λ xs. Some (made rows xs)) (all_empty (rows * channels) cells empty (omega (arith, size, few, long)))

-- ---- in the song after the edit

pub few_bodies : (m new : Module) (k b rows channels : ℕ) (cells : List Cell) → IsPatternReached k b m new → channels ≡ m.channels
    → slice_get new.patterns k ≡ Some (pattern_in rows channels cells) → rows * channels ≤ 8192 → b ≤ 32
few_bodies m new k b rows channels cells reached wide there low =
    let x : Pattern = pattern_in rows channels cells in
    let after = ap (λ ps. slice_get ps k) reached.all.patterns ∙ put_there k reached.after m.patterns reached.there in
    let same : x ≡ reached.after = same_Some x reached.after (sym there ∙ after) in
    let size : reached.after.rows * m.channels ≡ rows * channels = rw (wide, sym same) refl in
    omega (arith, size, low, reached.count)

pub pattern_at_place : (pool : List ℕ) (ids : List PatternIds) (new : Module) (k b : ℕ) (x : Pattern) (next : PatternIds)
    → k ≤ length ids → slice_get new.patterns k ≡ Some x → PatternIsWritten pool b x next
    → AtPlace k (PatternIsWritten pool b) new.patterns (put k next ids)
pattern_at_place pool ids new k b x next le there written =
    λ y z aty atz.
    let ey : x ≡ y = same_Some x y (sym there ∙ aty) in
    let ez : next ≡ z = same_Some next z (sym (put_there k next ids le) ∙ atz) in
    subst (λ (z : PatternIds). PatternIsWritten pool b y z) ez
    (subst (λ (y : Pattern). PatternIsWritten pool b y next) ey written)
