use Rattle.std.proofs.Common.{◌≡◌, ℕ, zero, suc, List, ◌∷◌, Option, None, Bool, false, map, replicate, is_some, refl, ap, ◌∙◌, arith}
use Rattle.ft_types.specs.declared.kept.Kept.{Kept}
use Rattle.ft_types.specs.Views.{Owned}
use Rattle.ft_types.specs.ModuleViews.{owned_in, shown_of}
use Rattle.ft_types.proofs.module_view.ModuleView.new.Goals as goal

-- nothing is kept for that many channels
owned_none : (version n : ℕ) → map (owned_in version) (replicate n None) ≡ replicate n None
owned_none version zero = refl
owned_none version (suc n) = ap (λ (l : List (Option Owned)). None ∷ l) (owned_none version n)

held_none : (n : ℕ) → map (is_some {T = Kept}) (replicate n None) ≡ replicate n false
held_none zero = refl
held_none (suc n) = ap (λ (l : List Bool). false ∷ l) (held_none n)

pub returns-clause-shown : goal.returns-clause-shown
returns-clause-shown c = λ version.
    let many : c.loop.counter ≡ c.args.song.now.channels = omega arith in
    ap (λ (kept : List (Option Kept)). shown_of version c.args.song.now kept)
    (c.loop.invariant ∙ ap (λ (n : ℕ). replicate n None) many)
    ∙ ap (λ (kept : List (Option Owned)). record { version = version; song = c.args.song.now; kept = kept })
    (owned_none version c.args.song.now.channels)

pub returns-clause-holds : goal.returns-clause-holds
returns-clause-holds c =
    let many : c.loop.counter ≡ c.args.song.now.channels = omega arith in
    ap (map (is_some {T = Kept})) (c.loop.invariant ∙ ap (λ (n : ℕ). replicate n None) many)
    ∙ held_none c.args.song.now.channels
