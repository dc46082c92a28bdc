-- An edit of a valid song fills few segments, and what it reaches is there.
use Rattle.std.proofs.Common.{◌≡◌, ◌⊎◌, ℕ, ◌+◌, ◌-◌, ◌*◌, ◌/◌, ◌≤◌, List, length, replicate, zero, suc, [], ◌∷◌, Some, refl, ap, sym, subst, ◌∙◌, arith, inl, inr}
use Rattle.std.specs.Prelude.{slice_get, slice_index_or}
use Rattle.std.proofs.lemmas.List.{length-replicate}
use Rattle.std.proofs.lemmas.Option.{slice_get_within, get_or_from_slice_get}
use Rattle.std.proofs.Math.Nat.{mul-le-mul}
use Rattle.ft_types.specs.declared.module.Module.{Module}
use Rattle.ft_types.specs.declared.pattern.Pattern.{Pattern}
use Rattle.ft_types.specs.declared.instrument.Instrument.{Instrument}
use Rattle.ft_types.specs.declared.sample.Sample.{Sample}
use Rattle.ft_types.specs.Blocks.{pieces_of, bodies_of}
use Rattle.ft_types.specs.Valid.{IsValid, IsValidPattern, IsValidInstrument, IsValidSample}
use Rattle.ft_segments.specs.Walk.{Placed, ids_of}
use Rattle.ft_changes.specs.declared.reach.Reach.{Reach}
use Rattle.ft_changes.specs.declared.reach.Reach.TheVariants as reaches
use Rattle.ft_changes.specs.Parts.{put}
use Rattle.ft_changes.specs.Reaches.{needed}
use Rattle.ft_changes.specs.Reached.{IsReached}
use Rattle.ft_changes.specs.Fits.{IsThere}
use Rattle.ft_image.specs.Shown.{Shows}
use Rattle.ft_sharing.specs.Laws.{ReachedFits}

pub is_there : ReachedFits → (p : Placed) (m n : Module) (reach : Reach) → Shows p m → IsReached reach m n → IsThere reach (ids_of p)
is_there law p m n reach shows reached =
    (law p m n reach (replicate (needed reach) 0) shows reached (length-replicate (needed reach) 0)).there

got_put : {X : Type 0} (k : ℕ) (x : X) (xs : List X) → k ≤ length xs → slice_get (put k x xs) k ≡ Some x
got_put zero x [] le = refl
got_put zero x (y ∷ xs) le = refl
got_put (suc k) x [] le = absurd (omega (arith, le))
got_put (suc k) x (y ∷ xs) le = got_put k x xs (omega (arith, le))

-- a sample of a valid song is short
short : (n : Module) (at : ℕ) (x : Instrument) (q : Sample) (s : ℕ) → IsValid n → slice_get n.instruments at ≡ Some x
    → slice_get x.samples s ≡ Some q → length q.frames ≤ 3932160
short n at x q s valid found there =
    let e : slice_index_or n.instruments at x ≡ x = get_or_from_slice_get n.instruments at x x found in
    let one : IsValidInstrument x =
    subst (λ (z : Instrument). IsValidInstrument z) e (valid.instruments at x (slice_get_within n.instruments at x found)) in
    let f : slice_index_or x.samples s q ≡ q = get_or_from_slice_get x.samples s q q there in
    let two : IsValidSample q = subst (λ (z : Sample). IsValidSample z) f (one.samples s q (slice_get_within x.samples s q there)) in
    two.few_frames

-- a pattern of a valid song has at most 32 bodies
few_bodies : (n : Module) (p : ℕ) (x : Pattern) → IsValid n → slice_get n.patterns p ≡ Some x → pieces_of (x.rows * n.channels) 256 ≤ 32
few_bodies n p x valid found =
    let lt = slice_get_within n.patterns p x found in
    let e : slice_index_or n.patterns p x ≡ x = get_or_from_slice_get n.patterns p x x found in
    let one : IsValidPattern n.channels x = subst (λ (q : Pattern). IsValidPattern n.channels q) e (valid.patterns p x lt) in
    let cells : x.rows * n.channels ≤ 256 * 32 = mul-le-mul one.few_rows valid.few_channels in
    omega (arith, cells)

need_frames : (first last gone old new : ℕ) → gone ≤ old → new + gone ≡ old + last → (last ≡ gone) ⊎ (gone ≡ old)
    → old ≤ 100000 → new ≤ 100000 → 3 + (pieces_of last 1024 - first / 1024) + (last - first) ≤ 4294967295
need_frames first last gone old new within count (inl same) a b = omega (arith, within, same, a)
need_frames first last gone old new within count (inr same) a b = omega (arith, within, count, same, b)

pub need_small : (reach : Reach) (m n : Module) → IsValid m → IsValid n → IsReached reach m n → needed reach ≤ 4294967295
need_small reaches.Song m n v w reached = omega arith
need_small reaches.LastPattern m n v w reached = omega arith
need_small (reaches.Cell p b) m n v w reached = omega arith
need_small (reaches.Pattern p b) m n v w reached =
    let found : slice_get n.patterns p ≡ Some reached.after =
    ap (λ xs. slice_get xs p) reached.all.patterns ∙ got_put p reached.after m.patterns reached.there in
    let few = few_bodies n p reached.after w found in
    let e : b ≡ pieces_of (reached.after.rows * n.channels) 256 =
    reached.count ∙ ap (λ k. pieces_of (reached.after.rows * k) 256) (sym reached.all.channels) in
    omega (arith, few, e)
need_small (reaches.Instrument at) m n v w reached = omega arith
need_small (reaches.Bare at) m n v w reached = omega arith
need_small (reaches.LastSample at) m n v w reached = omega arith
need_small (reaches.Sample at s) m n v w reached = omega arith
need_small (reaches.Frames at s first last gone) m n v w reached =
    let x = reached.before in
    let y = reached.after in
    let change = reached.made.change in
    let old = short m at x reached.made.before s v reached.there reached.made.there in
    let there : slice_get n.instruments at ≡ Some y =
    ap (λ xs. slice_get xs at) reached.all.instruments
    ∙ got_put at y m.instruments (let lt = slice_get_within m.instruments at x reached.there in omega (arith, lt)) in
    let sample : slice_get y.samples s ≡ Some reached.made.after =
    ap (λ xs. slice_get xs s) reached.made.all
    ∙ got_put s reached.made.after x.samples (let lt = slice_get_within x.samples s reached.made.before reached.made.there in omega (arith, lt)) in
    let new = short n at y reached.made.after s w there sample in
    need_frames first last gone (bodies_of reached.made.before) (bodies_of reached.made.after) change.within change.count change.all
    (omega (arith, old)) (omega (arith, new))
