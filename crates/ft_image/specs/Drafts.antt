-- What the writer's pass shows while it fills segments for the next version, and what fills leave.
use Rattle.std.specs.Prelude.{◌≡◌, ℕ, ◌*◌, ◌<◌, ◌≤◌, List, length, Some}
use Rattle.ft_segments.specs.Walk.{Placed, IsOf, frames_in}
use Rattle.ft_shared.specs.declared.law.Account.{Account}
use Rattle.ft_shared.specs.declared.law.WordStep.{WordStep}
use Rattle.ft_shared.specs.Account.{IsPinAnswer, MayFill}
use Rattle.ft_shared.specs.Pass.{WriterState}
use Rattle.ft_image.specs.Passes.{MayShowWritten}

-- Each pinned root that the scan answered has no more frames than a sample may have
abbrev pub AreShortPins : Account → Type 0
AreShortPins account = (reader channel root : ℕ)
    → IsPinAnswer account reader channel (Some root) → frames_in account.pool root ≤ 3932160

-- The segment is one of the pool, which has 256 words for each, and a whole scan did not find it
abbrev pub IsFillable : WriterState → ℕ → Type 0
IsFillable pass segment =
    (segment < pass.register.sizes.segments)
    × (length pass.account.pool ≡ 256 * pass.register.sizes.segments)
    × MayFill pass.register.sizes pass.account segment
    × AreShortPins pass.account

-- by the words last written: the segments of a version that is in them, none of which may be filled
abbrev pub MayShowDrafted : WriterState → Placed → ℕ → Type 0
MayShowDrafted pass placed segment =
    MayShowWritten pass placed segment
    × ((other : ℕ) → IsOf placed other → IsFillable pass other → ⊥)

-- words of the pool were filled, and steps made; all else of the writer's pass is as it was
pub record HasFilled (old new : WriterState) : Type 0 where
  pub pool : List ℕ
  pub filled : List ℕ
  pub steps : List WordStep
  pub is : new ≡ record old {
    account = record old.account { pool = pool; filled = filled; steps = steps };
  }
