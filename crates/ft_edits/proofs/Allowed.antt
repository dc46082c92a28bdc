-- An edit that isn't refused names what is there.
use Rattle.std.proofs.Common.{◌≡◌, ℕ, ◌+◌, ◌-◌, ◌<◌, List, [], ◌∷◌, Option, None, length, pos, arith}
use Rattle.std.specs.Prelude.{nat_lt, nat_le, ◌&&◌}
use Rattle.ft_types.specs.declared.module.Module.{Module}
use Rattle.ft_types.specs.declared.edit.Edit.TheVariants as edits
use Rattle.ft_types.specs.declared.edit_fault.EditFault.{EditFault}
use Rattle.ft_types.specs.declared.edit_fault.EditFault.TheVariants.{NoPattern, NoRow, NoChannel, Range, Cut}
use Rattle.ft_types.specs.Views.{rows_at}
use Rattle.ft_edits.specs.Faults.{unless, first_cause, block_of, sampled, framed, missing_pattern, missing_row, missing_channel, missing_sample, samples_at, frames_at, out_of_range}
use Rattle.ft_edits.specs.Allowed.{HasBlock, HasFrames}
use Rattle.ft_edits.specs.Laws.{AllowedIsThere}
use Rattle.ft_edits.proofs.Causes.{passed, passed_all, both, low, most, ranged}

row_there : (song : Module) (p r : ℕ) → first_cause (missing_pattern song p ∷ missing_row song p r ∷ []) ≡ None → r < rows_at song p
row_there song p r none =
    let s = passed (nat_lt p (length song.patterns)) (NoPattern p) (missing_row song p r ∷ []) none in
    let t = passed (nat_lt r (rows_at song p)) (NoRow r (rows_at song p)) [] s.1 in
    low r (rows_at song p) t.0

block_there : (song : Module) (p r c h w : ℕ) → first_cause (block_of song p r c h w) ≡ None → HasBlock song p r c h w
block_there song p r c h w none =
    let row : Option EditFault = missing_row song p (r + h - 1) in
    let channel : Option EditFault = missing_channel song (c + w - 1) in
    let size : Option EditFault = unless (nat_lt 0 h && nat_lt 0 w) (Range 3 (pos 0)) in
    let s = passed (nat_lt p (length song.patterns)) (NoPattern p) (size ∷ row ∷ channel ∷ []) none in
    let t = passed (nat_lt 0 h && nat_lt 0 w) (Range 3 (pos 0)) (row ∷ channel ∷ []) s.1 in
    let u = passed (nat_lt (r + h - 1) (rows_at song p)) (NoRow (r + h - 1) (rows_at song p)) (channel ∷ []) t.1 in
    let v = passed (nat_lt (c + w - 1) song.channels) (NoChannel (c + w - 1)) [] u.1 in
    let some = both (nat_lt 0 h) (nat_lt 0 w) t.0 in
    let rows = low 0 h some.0 in
    let channels = low 0 w some.1 in
    let last = low (r + h - 1) (rows_at song p) u.0 in
    let end = low (c + w - 1) song.channels v.0 in
    (low p (length song.patterns) s.0, omega (arith, rows, last), omega (arith, channels, end))

sample_rest : (song : Module) (i s : ℕ) (causes : List (Option EditFault)) → first_cause (sampled song i s causes) ≡ None
    → first_cause causes ≡ None
sample_rest song i s causes none =
    let a = passed (nat_lt 0 i && nat_le i (length song.instruments)) _ (missing_sample song i s ∷ causes) none in
    let b = passed (nat_lt s (samples_at song i)) _ causes a.1 in
    b.1

some_instrument : (song : Module) (i s : ℕ) (causes : List (Option EditFault))
    → first_cause (sampled song i s causes) ≡ None → 0 < i
some_instrument song i s causes none =
    let a = passed (nat_lt 0 i && nat_le i (length song.instruments)) _ (missing_sample song i s ∷ causes) none in
    low 0 i (both (nat_lt 0 i) (nat_le i (length song.instruments)) a.0).0

frames_there : (song : Module) (i s from to : ℕ) (causes : List (Option EditFault))
    → first_cause (framed song i s from to causes) ≡ None
    → HasFrames song i s from to × (first_cause causes ≡ None)
frames_there song i s from to causes none =
    let rest =
    sample_rest song i s
    (unless (nat_le from to && nat_le to (frames_at song i s)) (Cut from to (frames_at song i s)) ∷ causes) none in
    let p = passed (nat_le from to && nat_le to (frames_at song i s)) (Cut from to (frames_at song i s)) causes rest in
    let b = both (nat_le from to) (nat_le to (frames_at song i s)) p.0 in
    let some =
    some_instrument song i s
    (unless (nat_le from to && nat_le to (frames_at song i s)) (Cut from to (frames_at song i s)) ∷ causes) none in
    ((some, most from to b.0, most to (frames_at song i s) b.1), p.1)

pub allowed : AllowedIsThere
allowed song (edits.Insrow p r) none = row_there song p r none
allowed song (edits.Delrow p r) none = row_there song p r none
allowed song (edits.Clear p r c h w) none = block_there song p r c h w none
allowed song (edits.Transpose p r c h w d) none = block_there song p r c h w none
allowed song (edits.Copy p r c h w q r2 c2) none =
    let b = passed_all (block_of song p r c h w) (block_of song q r2 c2 h w) none in
    (block_there song p r c h w b.0, block_there song q r2 c2 h w b.1)
allowed song (edits.Insorder position p) none =
    let s = passed (nat_lt position (length song.orders + 1)) _ _ none in
    let below = low position (length song.orders + 1) s.0 in
    omega (arith, below)
allowed song (edits.Delorder position) none =
    let s = passed (nat_lt position (length song.orders)) _ _ none in
    low position (length song.orders) s.0
allowed song (edits.Map i n k) none =
    let h =
    ranged 7 0 95 n (out_of_range 13 0 15 k ∷ []) (sample_rest song i 0 (out_of_range 7 0 95 n ∷ out_of_range 13 0 15 k ∷ []) none) in
    h.1
allowed song (edits.Point i w k x y) none =
    let rest : List (Option EditFault) = out_of_range 7 0 11 k ∷ out_of_range 9 0 64 y ∷ [] in
    let a = ranged 18 0 1 w rest (sample_rest song i 0 (out_of_range 18 0 1 w ∷ rest) none) in
    let b = ranged 7 0 11 k (out_of_range 9 0 64 y ∷ []) a.2 in b.1
allowed song (edits.Cut i s from to) none = (frames_there song i s from to [] none).0
allowed song (edits.Paste i s at frames) none = (frames_there song i s at at _ none).0
allowed song (edits.Reverse i s from to) none = (frames_there song i s from to [] none).0
allowed song (edits.Scale i s from to n d) none =
    let h = frames_there song i s from to (unless (nat_lt 0 d) (Range 14 (pos 0)) ∷ []) none in
    (h.0, low 0 d (passed (nat_lt 0 d) (Range 14 (pos 0)) [] h.1).0)
allowed song (edits.Smpname i s name) none = some_instrument song i s _ none
allowed song (edits.Smp i s vol fine rel pan) none = some_instrument song i s _ none
allowed song (edits.Loop i s kind start len) none = some_instrument song i s _ none
allowed song (edits.Bits i s b) none = some_instrument song i s _ none
allowed song _ none = tt
