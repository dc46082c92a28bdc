use Rattle.std.proofs.Common.{rules, ◌≡◌, ◌≤◌, ◌<◌, ◌+◌, ◌*◌, ◌∙◌, ℕ, ℤ, pos, List, length, get_or, set, length-set, ap, sym, arith}
use Rattle.std.specs.Int.{w16, w32}
use Rattle.std.specs.Prelude.{FitsSigned}
use Rattle.std.proofs.lemmas.Int.{to_z-of_z}
use Rattle.ft_replay.specs.Sound.{value_at}
use Rattle.ft_mix.proofs.Stored.{more}
use Rattle.ft_mix.proofs.values.walk_four.Goals as goal

-- four more items of a list are written
four_more : {A : Type 0} (P : ℕ → A → Type 0) (xs : List A) (k : ℕ) (a b c e d : A) → k + 4 ≤ length xs
    → ((j : ℕ) → j < k → P j (get_or xs j d)) → P k a → P (k + 1) b → P (k + 2) c → P (k + 3) e
    → (j : ℕ) → j < k + 4 → P j (get_or (set (set (set (set xs k a) (k + 1) b) (k + 2) c) (k + 3) e) j d)
four_more P xs k a b c e d room before first second third fourth j lt =
    let one = set xs k a in
    let two = set one (k + 1) b in
    let three = set two (k + 2) c in
    let l1 = length-set xs k a in
    let l2 = length-set one (k + 1) b in
    let l3 = length-set two (k + 2) c in
    more P three (k + 3) e d (omega (arith, room, l1, l2, l3))
    (λ j lt. more P two (k + 2) c d (omega (arith, room, l1, l2))
    (λ j lt. more P one (k + 1) b d (omega (arith, room, l1))
    (λ j lt. more P xs k a d (omega (arith, room)) before first j (omega (arith, lt)))
    second j (omega (arith, lt)))
    third j (omega (arith, lt)))
    fourth j (omega (arith, lt))

-- a value that is written back
pub returns-clause-range : goal.returns-clause-range
returns-clause-range c = λ before.
    four_more (λ (j : ℕ) (x : ℤ). FitsSigned w16 x) c.args.values.now c.args.k _ _ _ _ (pos 0) c.requires.room before
    (search rules) (search rules) (search rules) (search rules)

pub returns-clause-values : goal.returns-clause-values
returns-clause-values c = λ head owned at position are on before.
    let place = c.args.place in
    let step = c.args.step in
    let k = c.args.k in
    let v : ℕ → ℤ = value_at head owned in
    four_more (λ (j : ℕ) (x : ℤ). x ≡ value_at head owned (position + j * step)) c.args.values.now k _ _ _ _ (pos 0)
    c.requires.room before
    (to_z-of_z w32 _ (search rules) ∙ c.value_between.ensures.value head owned at are ∙ ap v (sym on))
    (to_z-of_z w32 _ (search rules) ∙ c.value_between-2.ensures.value head owned at are ∙ ap v (grind (arith, on)))
    (to_z-of_z w32 _ (search rules) ∙ c.value_between-3.ensures.value head owned at are ∙ ap v (grind (arith, on)))
    (to_z-of_z w32 _ (search rules) ∙ c.value_between-4.ensures.value head owned at are ∙ ap v (grind (arith, on)))
