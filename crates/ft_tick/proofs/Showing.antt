-- What a call makes of the state, by what the view may show.
use Rattle.std.proofs.Common.{ℕ, refl, subst}
use Rattle.ft_types.specs.declared.module.Module.{Module}
use Rattle.ft_types.specs.Views.{Shown}
use Rattle.ft_replay.specs.State.{SequentialState}
use Rattle.ft_replay.specs.Calls.{Makes, MakesShown}
use Rattle.ft_replay.specs.Standing.{Made}

pub makes_shown : {V W : Type 0}
    → (shows : V → W → Type 0) (shown : V → W → Shown) (rule : ℕ → Module → SequentialState → SequentialState)
    (view view_after : V)
    (state state_after : Shown → SequentialState) → Makes shows shown rule view view_after state state_after
    → MakesShown shows shown rule view view_after state state_after
makes_shown shows shown rule view view_after state state_after makes after may =
    let w = may.0 in
    let made = makes w may.1 in
    let before = shown view w in (
      before,
      (w, made.0, refl),
      subst (λ (s : Shown). Made rule before s (state before) (state_after s)) may.2 made.1,
    )
