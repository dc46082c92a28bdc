-- What may be filled stays so while segments are filled.
use Rattle.std.proofs.Common.{◌≡◌, ◌≢◌, inl, inr, ℕ, ◌+◌, ◌*◌, ◌<◌, ◌≤◌, List, set, Some, refl, sym, ap, subst, ◌∙◌, arith, get_or-set_other, length-set, eq-eqb, cond, Bool}
use Rattle.ft_segments.specs.Packing.{digit}
use Rattle.ft_segments.specs.Laws.{SampleStays}
use Rattle.ft_segments.specs.Walk.{Placed, SameWords, frames_in, is_it, sample_uses, sample_walk}
use Rattle.ft_shared.specs.declared.law.Account.{Account}
use Rattle.ft_shared.specs.Account.{Found, IsPinAnswer, after_fill}
use Rattle.ft_shared.specs.Pass.{WriterState}
use Rattle.ft_image.specs.Passes.{HasMadeSteps}
use Rattle.ft_image.specs.Drafts.{AreShortPins, IsFillable, MayShowDrafted, HasFilled}

-- a sample's root names itself
root-named : (pool : List ℕ) (root : ℕ) → 1 ≤ sample_uses root (sample_walk pool root)
unfolding sample_walk
root-named pool root =
    let e : is_it root root ≡ 1 = ap (λ (b : Bool). cond b 1 0) (eq-eqb root root refl) in omega arith

-- words of other segments stay
others-stay : (pool : List ℕ) (seg at w s : ℕ) → at < 256 → s ≢ seg → SameWords pool (set pool (seg * 256 + at) w) s
others-stay pool seg at w s low ne place lt =
    let apart : s * 256 + place ≢ seg * 256 + at = λ e. ne (omega arith) in
    get_or-set_other pool (seg * 256 + at) (s * 256 + place) w 0 apart

-- nothing else is found where a segment is filled that the scan didn't find
module _ (stays : SampleStays) (a : Account) (seg at w : ℕ) (low : at < 256) (apart : Found a seg → ⊥) (short : AreShortPins a) where
  walk-stays : (reader channel root : ℕ) → IsPinAnswer a reader channel (Some root)
      → sample_walk (after_fill a seg at w).pool root ≡ sample_walk a.pool root
  walk-stays reader channel root answer = stays a.pool (after_fill a seg at w).pool root (short reader channel root answer)
      (λ s named. others-stay a.pool seg at w s low (λ e. apart (subst (Found a) e (inr (inr (reader, channel, root, answer, named))))))

  frames-stay : (reader channel root : ℕ) → IsPinAnswer a reader channel (Some root)
      → frames_in (after_fill a seg at w).pool root ≡ frames_in a.pool root
  frames-stay reader channel root answer = ap (λ (n : ℕ). digit 4294967296 n 0)
      (others-stay a.pool seg at w root low
      (λ e. apart (subst (Found a) e (inr (inr (reader, channel, root, answer, root-named a.pool root))))) 0 (omega arith))

  found-before : (s : ℕ) → Found (after_fill a seg at w) s → Found a s
  found-before s (inl now) = inl now
  found-before s (inr (inl answered)) = inr (inl answered)
  found-before s (inr (inr (reader, channel, root, answer, named))) = inr (inr (
    reader,
    channel,
    root,
    answer,
    subst (λ ids. 1 ≤ sample_uses s ids) (walk-stays reader channel root answer) named,
  ))

  short-after : AreShortPins (after_fill a seg at w)
  short-after reader channel root answer =
      let e = frames-stay reader channel root answer in let l = short reader channel root answer in omega arith

pub fillable-after : SampleStays → (pass : WriterState) (seg at w : ℕ) → at < 256 → IsFillable pass seg → (s : ℕ) → IsFillable pass s
    → IsFillable (record pass { account = after_fill pass.account seg at w }) s
fillable-after stays pass seg at w low may s (inside, long, fill, short) = (
  inside,
  length-set pass.account.pool (seg * 256 + at) w ∙ long,
  (fill.0, λ found. fill.1 (found-before stays pass.account seg at w low may.2.1 short s found)),
  short-after stays pass.account seg at w low may.2.1 short,
)

pub drafted-before : SampleStays → (pass : WriterState) (seg at w : ℕ) → at < 256 → IsFillable pass seg → (p : Placed) (s : ℕ)
    → MayShowDrafted (record pass { account = after_fill pass.account seg at w }) p s → MayShowDrafted pass p s
drafted-before stays pass seg at w low may p s ((among, stands, of), none) = (
  (
    among,
    λ t used place lt.
        let other : t ≢ seg = λ e. none t used (subst (λ n. IsFillable (record pass { account = after_fill pass.account seg at w }) n) (sym e)
        (fillable-after stays pass seg at w low may seg may)) in
        sym (others-stay pass.account.pool seg at w t low other place lt) ∙ stands t used place lt,
    of,
  ),
  λ t used fill. none t used (fillable-after stays pass seg at w low may t fill),
)

pub filled-on : (old new : WriterState) (seg at w : ℕ) → new ≡ record old { account = after_fill old.account seg at w } → HasFilled old new
filled-on old new seg at w e = record {
  pool = (after_fill old.account seg at w).pool;
  filled = (after_fill old.account seg at w).filled;
  steps = (after_fill old.account seg at w).steps;
  is = e;
}

pub fills_nothing : (pass : WriterState) → HasFilled pass pass
fills_nothing pass = record { pool = pass.account.pool; filled = pass.account.filled; steps = pass.account.steps; is = refl }

pub fills_through : (a b c : WriterState) → HasFilled a b → HasFilled b c → HasFilled a c
fills_through a b c e f = record {
  pool = f.pool;
  filled = f.filled;
  steps = f.steps;
  is = f.is ∙ ap (λ (x : WriterState). record x { account = record x.account { pool = f.pool; filled = f.filled; steps = f.steps } }) e.is;
}

pub steps_fill : (a b : WriterState) → HasMadeSteps a b → HasFilled a b
steps_fill a b e = record { pool = a.account.pool; filled = a.account.filled; steps = _; is = e.is }

pub steps_words : (a b : WriterState) → HasMadeSteps a b → b.account.pool ≡ a.account.pool
steps_words a b e = ap (λ (x : WriterState). x.account.pool) e.is

pub steps_may : (a b : WriterState) (s : ℕ) → HasMadeSteps a b → IsFillable a s → IsFillable b s
steps_may a b s e may = subst (λ (x : WriterState). IsFillable x s) (sym e.is) may

pub steps_before : (a b : WriterState) (p : Placed) (s : ℕ) → HasMadeSteps a b → MayShowDrafted b p s → MayShowDrafted a p s
steps_before a b p s e shown = subst (λ (x : WriterState). MayShowDrafted x p s) e.is shown
