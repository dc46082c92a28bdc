-- The marks after all that a scan answered was kept.
use Rattle.std.proofs.Common.{◌≡◌, ◌↔◌, ◌⊎◌, inl, inr, ◌<◌, ℕ, zero, suc, Bool, true, false, List, [], ◌∷◌, Option, Some, None, length, replicate, get_or, refl, sym, ap, subst, ◌∙◌, ⊎_elim, arith}
use Rattle.std.specs.Prelude.{Contains, slice_index_or}
use Rattle.std.proofs.lemmas.List.{length-replicate, get_or-replicate}
use Rattle.ft_shared.specs.Account.{IsAnswered}
use Rattle.ft_retire.specs.declared.life.Life.{Life}
use Rattle.ft_retire.specs.Lives.{never, lives_at}
use Rattle.ft_retire.specs.Marks.{keep_living}
use Rattle.ft_retire.specs.Laws.{LivingAreMarked}
use Rattle.ft_desk.specs.Laws.{keep_answers, MarkedIsFound, UnmarkedIsNotFound}
use Rattle.ft_desk.proofs.Surveyed.{living_of}

cons_at : {A : Type 0} (x : A) (xs : List A) (y : A) (k : ℕ) → k < length (x ∷ xs) → slice_index_or (x ∷ xs) k y ≡ y
    → (x ≡ y) ⊎ Contains xs y
cons_at x xs y zero lt e = inl e
cons_at x xs y (suc k) lt e = inr (k, omega arith, e)

cons_there : {A : Type 0} (x : A) (xs : List A) (y : A) → Contains xs y → Contains (x ∷ xs) y
cons_there x xs y h = let lt = h.1 in (suc h.0, omega arith, h.2)

kept_many : (version : ℕ) (lives : List Life) (marks : List Bool) → length (keep_living version lives marks) ≡ length marks
kept_many version [] marks = refl
kept_many version (life ∷ lives) [] = refl
kept_many version (life ∷ lives) (mark ∷ marks) = ap suc (kept_many version lives marks)

answers_many : (lives : List Life) (answers : List (Option ℕ)) (marks : List Bool)
    → length (keep_answers lives answers marks) ≡ length marks
answers_many lives [] marks = refl
answers_many lives (None ∷ answers) marks = answers_many lives answers marks
answers_many lives (Some version ∷ answers) marks =
    answers_many lives answers (keep_living version lives marks) ∙ kept_many version lives marks

-- the segment lives at a version that was answered
abbrev pub LivesInAnswer : List Life → List (Option ℕ) → ℕ → Type 0
LivesInAnswer lives answers s = (version : ℕ) × Contains answers (Some version) × (lives_at (get_or lives s never) version ≡ true)

answers_mark : LivingAreMarked → (lives : List Life) (answers : List (Option ℕ)) (marks : List Bool) (s : ℕ)
    → length lives ≡ length marks → s < length marks
    → get_or (keep_answers lives answers marks) s true ≡ true ↔ ((get_or marks s true ≡ true) ⊎ LivesInAnswer lives answers s)
answers_mark law lives [] marks s even lt =
    ((λ m. inl m), (λ either. ⊎_elim (λ m. m) (λ l. absurd (let no = l.1.1 in omega arith)) either))
answers_mark law lives (None ∷ answers) marks s even lt =
    let rest = answers_mark law lives answers marks s even lt in (
      (λ m. ⊎_elim (λ o. inl o) (λ l. inr (l.0, cons_there None answers (Some l.0) l.1, l.2)) (rest.0 m)),
      (λ either. rest.1 (⊎_elim (λ o. inl o)
          (λ l. ⊎_elim (λ e. absurd cc) (λ h. inr (l.0, h, l.2))
          (cons_at None answers (Some l.0) l.1.0 l.1.1 l.1.2)) either)),
    )
answers_mark law lives (Some version ∷ answers) marks s even lt =
    let many = kept_many version lives marks in
    let rest = answers_mark law lives answers (keep_living version lives marks) s (omega arith) (omega arith) in
    let here = law version lives marks s even lt in (
      (λ m. ⊎_elim
          (λ o. ⊎_elim (λ old. inl old) (λ l. inr (version, (0, omega arith, refl), l)) (here.0 o))
          (λ l. inr (l.0, cons_there (Some version) answers (Some l.0) l.1, l.2)) (rest.0 m)),
      (λ either. rest.1 (⊎_elim (λ old. inl (here.1 (inl old)))
          (λ l. ⊎_elim
          (λ (e : Some version ≡ Some l.0). inl (here.1 (inr (subst (λ (v : ℕ). lives_at (get_or lives s never) v ≡ true)
          (let same : l.0 ≡ version = cc in same) l.2))))
          (λ h. inr (l.0, h, l.2))
          (cons_at (Some version) answers (Some l.0) l.1.0 l.1.1 l.1.2)) either)),
    )

pub marked_is_found : LivingAreMarked → MarkedIsFound
marked_is_found law segments account births kept new fit held known current even is pins s lt =
    let blank = length-replicate segments false in
    let kept_long : length kept.marks ≡ segments
    = ap (λ (m : List Bool). length m) is ∙ (answers_many births.lives account.scan (replicate segments false) ∙ blank) in
    let marked = pins.marked s (omega arith) in
    let answered = answers_mark law births.lives account.scan (replicate segments false) s (omega arith) (omega arith) in
    let same : get_or kept.marks s true ≡ get_or (keep_answers births.lives account.scan (replicate segments false)) s true
    = ap (λ (m : List Bool). get_or m s true) is in
    let none : get_or (replicate segments false) s true ≡ false = get_or-replicate segments s false true lt in
    let of = λ (v : ℕ) (a : IsAnswered account v). living_of segments account births v fit (known v a) (held.answered v a) s lt in (
      (λ m. ⊎_elim
          (λ o. ⊎_elim (λ blanked. absurd (let no : true ≡ false = sym blanked ∙ none in cc))
          (λ l. inr (inl (l.0, l.1, (of l.0 l.1).0 l.2))) (answered.0 (sym same ∙ o)))
          (λ p. inr (inr p)) (marked.0 m)),
      (λ found. marked.1 (⊎_elim
          (λ o. inl (same ∙ answered.1 (inr (account.version, current, (of account.version current).1 o))))
          (λ either. ⊎_elim (λ n. inl (same ∙ answered.1 (inr (n.0, n.1, (of n.0 n.1).1 n.2)))) (λ p. inr p) either)
          found)),
    )

pub unmarked_is_not_found : UnmarkedIsNotFound
unmarked_is_not_found account births s marked least found =
    let is = (marked s least.within).1 found in
    let no : true ≡ false = sym is ∙ least.unmarked in
    let bottom : ⊥ = cc in bottom
