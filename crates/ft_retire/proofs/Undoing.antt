-- Laws of births and deaths that are taken back.
use Rattle.std.proofs.Common.{◌≡◌, ℕ, zero, suc, List, [], ◌∷◌, map, get_or, refl}
use Rattle.ft_retire.specs.declared.life.Life.{Life}
use Rattle.ft_retire.specs.Lives.{never, undone}

pub undone_at : (version : ℕ) (lives : List Life) (k : ℕ)
    → get_or (map (undone version) lives) k never ≡ undone version (get_or lives k never)
undone_at version [] k = refl
undone_at version (life ∷ lives) zero = refl
undone_at version (life ∷ lives) (suc k) = undone_at version lives k
