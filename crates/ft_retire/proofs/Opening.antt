-- The lives of a pool that is opened.
use Rattle.std.proofs.Common.{◌≡◌, ◌≤◌, ◌-◌, ◌++◌, ◌∙◌, ℕ, List, length, replicate, drop, ap, arith}
use Rattle.std.proofs.lemmas.List.{length-append, length-replicate, drop-replicate}
use Rattle.ft_retire.specs.declared.life.Life.{Life}

pub first_and_others : (live first n : ℕ) (born other : Life) (new lent old : List Life)
    → first ≡ live → new ≡ replicate first born ++ drop first lent → lent ≡ old
    → old ≡ replicate n other
    → new ≡ replicate live born ++ replicate (n - live) other
first_and_others live first n born other new lent old same e through begun =
    e ∙ ap (λ (k : ℕ). replicate k born ++ drop k lent) same
    ∙ ap (λ (l : List Life). replicate live born ++ drop live l) (through ∙ begun)
    ∙ ap (λ (l : List Life). replicate live born ++ l) (drop-replicate live n other)

pub opened_many : (live n : ℕ) (born other : Life) (lives : List Life) → live ≤ n
    → lives ≡ replicate live born ++ replicate (n - live) other
    → length lives ≡ n
opened_many live n born other lives le e =
    omega (arith, ap length e, length-append (replicate live born) (replicate (n - live) other), length-replicate live born, length-replicate (n - live) other)
