-- Which edits write a pattern whole.
use Rattle.std.proofs.Common.{◌≡◌, ℕ, ◌<◌, ◌==◌, cond, Bool, true, false, List, [], ◌∷◌, Option, None, length, refl}
use Rattle.std.specs.Prelude.{nat_lt}
use Rattle.ft_types.specs.declared.module.Module.{Module}
use Rattle.ft_types.specs.declared.edit.Edit.{Edit}
use Rattle.ft_types.specs.declared.edit.Edit.TheVariants as edits
use Rattle.ft_types.specs.declared.edit_fault.EditFault.{EditFault}
use Rattle.ft_edits.specs.declared.group.Group.TheVariants as groups
use Rattle.ft_edits.specs.Groups.{group_of}
use Rattle.ft_edits.specs.Changes.{pattern_number}
use Rattle.ft_edits.specs.Faults.{first_cause, fault_of, missing_pattern}
use Rattle.ft_cells.specs.Buffers.{IsSource}
use Rattle.ft_changes.specs.declared.reach.Reach.{Reach}
use Rattle.ft_changes.specs.declared.reach.Reach.TheVariants as reaches
use Rattle.ft_changes.specs.Reaches.{reach_of, frames_between}
use Rattle.ft_songedit.proofs.CellPut.{passed, low}

-- an edit of a stored pattern that isn't a copy
pub record IsOfStored (m : Module) (e : Edit) (k : ℕ) : Type 0 where
  pub group : group_of e ≡ groups.Patterns
  pub number : pattern_number e ≡ k
  pub there : pattern_number e < length m.patterns
  pub source : IsSource m e []

there_first : (m : Module) (p : ℕ) (causes : List (Option EditFault)) → first_cause (missing_pattern m p ∷ causes) ≡ None
    → p < length m.patterns
there_first m p causes none = low p (length m.patterns) (passed (nat_lt p (length m.patterns)) _ causes none).0

number_is : (p q k b : ℕ) → ◌≡◌ {A = Reach} (reaches.Pattern p q) (reaches.Pattern k b) → p ≡ k
number_is p q k b is = cc

one_of : (t : Bool) (i s f g h k b : ℕ) → ◌≡◌ {A = Reach} (cond t (reaches.Sample i s) (reaches.Frames i s f g h)) (reaches.Pattern k b) → ⊥
one_of true i s f g h k b is = absurd cc
one_of false i s f g h k b is = absurd cc

no_frames : (i s from to k b : ℕ) → ◌≡◌ {A = Reach} (frames_between i s from to) (reaches.Pattern k b) → ⊥
no_frames i s from to k b is = one_of (from == to) _ _ _ _ _ k b is

pub of_stored : (m : Module) (e : Edit) (k b : ℕ) → fault_of m e ≡ None → reach_of m e ≡ reaches.Pattern k b
    → ((p r c h w q r2 c2 : ℕ) → e ≡ edits.Copy p r c h w q r2 c2 → ⊥) → ((n : ℕ) → e ≡ edits.Newpat n → ⊥) → IsOfStored m e k
of_stored m (edits.Cell p r c n i v f a) k b none reach copy new = absurd cc
of_stored m (edits.Rows p n) k b none reach copy new =
    record { group = refl; number = number_is p _ k b reach; there = there_first m p _ none; source = tt }
of_stored m (edits.Insrow p r) k b none reach copy new =
    record { group = refl; number = number_is p _ k b reach; there = there_first m p _ none; source = tt }
of_stored m (edits.Delrow p r) k b none reach copy new =
    record { group = refl; number = number_is p _ k b reach; there = there_first m p _ none; source = tt }
of_stored m (edits.Clear p r c h w) k b none reach copy new =
    record { group = refl; number = number_is p _ k b reach; there = there_first m p _ none; source = tt }
of_stored m (edits.Transpose p r c h w d) k b none reach copy new =
    record { group = refl; number = number_is p _ k b reach; there = there_first m p _ none; source = tt }
of_stored m (edits.Copy p r c h w q r2 c2) k b none reach copy new = absurd (copy p r c h w q r2 c2 refl)
of_stored m (edits.Order at p) k b none reach copy new = absurd cc
of_stored m (edits.Insorder at p) k b none reach copy new = absurd cc
of_stored m (edits.Delorder at) k b none reach copy new = absurd cc
of_stored m (edits.Restart at) k b none reach copy new = absurd cc
of_stored m (edits.Tempo n) k b none reach copy new = absurd cc
of_stored m (edits.Bpm n) k b none reach copy new = absurd cc
of_stored m (edits.Title name) k b none reach copy new = absurd cc
of_stored m (edits.Newpat n) k b none reach copy new = absurd (new n refl)
of_stored m edits.Delpat k b none reach copy new = absurd cc
of_stored m edits.Newins k b none reach copy new = absurd cc
of_stored m (edits.Clearins i) k b none reach copy new = absurd cc
of_stored m (edits.Insname i name) k b none reach copy new = absurd cc
of_stored m (edits.Map i n j) k b none reach copy new = absurd cc
of_stored m (edits.Env i w count sus ls le flags) k b none reach copy new = absurd cc
of_stored m (edits.Point i w j x y) k b none reach copy new = absurd cc
of_stored m (edits.Vib i kind sweep depth rate) k b none reach copy new = absurd cc
of_stored m (edits.Fade i n) k b none reach copy new = absurd cc
of_stored m (edits.Newsmp i) k b none reach copy new = absurd cc
of_stored m (edits.Delsmp i) k b none reach copy new = absurd cc
of_stored m (edits.Smpname i s name) k b none reach copy new = absurd cc
of_stored m (edits.Smp i s vol fine rel pan) k b none reach copy new = absurd cc
of_stored m (edits.Loop i s kind start len) k b none reach copy new = absurd cc
of_stored m (edits.Cut i s from to) k b none reach copy new = absurd cc
of_stored m (edits.Paste i s at frames) k b none reach copy new = absurd cc
of_stored m (edits.Reverse i s from to) k b none reach copy new = absurd (no_frames i s from to k b reach)
of_stored m (edits.Scale i s from to n d) k b none reach copy new = absurd (no_frames i s from to k b reach)
of_stored m (edits.Bits i s bits) k b none reach copy new = absurd cc
