-- Marks follow what a scan answers.
use Rattle.std.proofs.Common.{◌≡◌, ◌↔◌, ◌⊎◌, inl, inr, ◌<◌, ◌≤◌, ℕ, true, List, [], ◌∷◌, ◌++◌, Option, Some, None, length, get_or, refl, sym, ap, subst, ◌∙◌, ⊎_elim, arith}
use Rattle.std.specs.Prelude.{Contains, IsSome, IsSomeAnd}
use Rattle.std.proofs.lemmas.List.Elements.{Contains-append_left, Contains-push, Contains-push_cases}
use Rattle.ft_segments.specs.Walk.{IsOf, sample_walk, sample_uses}
use Rattle.ft_shared.specs.declared.law.PinAnswer.{PinAnswer}
use Rattle.ft_shared.specs.declared.law.WordStep.{WordStep}
use Rattle.ft_shared.specs.declared.law.PlacedVersion.{PlacedVersion}
use Rattle.ft_shared.specs.declared.law.Account.{Account}
use Rattle.ft_shared.specs.Account.{next_slot, answer_of, after_scan, IsAnswered, pinned_root, pin_answer, after_pin_scan, IsPinMet}
use Rattle.ft_shared.specs.History.{placed_at, root_and_pool, IsOfVersion, HasVersion}
use Rattle.ft_shared.specs.Pass.{WriterState}
use Rattle.ft_shared.specs.Segments.{IsUnwritten}
use Rattle.ft_retire.specs.Births.{BirthsState}
use Rattle.ft_retire.specs.Lives.{never, lives_at}
use Rattle.ft_retire.specs.Marks.{keep_living}
use Rattle.ft_retire.specs.Laws.{LivingAreMarked}
use Rattle.ft_desk.specs.Survey.{HasMarked, HasSeenPins, AreBirthsFit, AreMarksOf, IsMarked}

some_of : {A : Type 0} (o : Option A) → IsSome o → (x : A) × (o ≡ Some x)
some_of None some = absurd cc
some_of (Some x) some = (x, refl)

pub none_of : {A : Type 0} (o : Option A) → ((x : A) → o ≡ Some x → ⊥) → o ≡ None
none_of None not = refl
none_of (Some x) not = absurd (not x refl)

-- one answer more
answered_more : (xs : List (Option ℕ)) (answer : Option ℕ) (v : ℕ)
    → Contains (xs ++ answer ∷ []) (Some v) ↔ (Contains xs (Some v) ⊎ (answer ≡ Some v))
answered_more xs answer v = (
  (λ h. Contains-push_cases xs answer (Some v) h),
  (λ either. ⊎_elim (λ h. Contains-append_left xs (answer ∷ []) (Some v) h)
      (λ is. subst (λ (o : Option ℕ). Contains (xs ++ o ∷ []) (Some v)) (sym is) (Contains-push xs (Some v))) either),
)

-- no version was answered: the marks stay
pub marks_after_none : (segments : ℕ) (a : Account) (gone : ℕ) (births : BirthsState) → AreMarksOf segments a births
    → answer_of a (next_slot a) gone ≡ None → AreMarksOf segments (after_scan a gone) births
marks_after_none segments a gone births marks none = record {
  many = marks.many;
  marked = λ s lt. (
    (λ m. ⊎_elim (λ n. inl (n.0, (answered_more a.scan (answer_of a (next_slot a) gone) n.0).1 (inl n.1), n.2)) (λ n. inr n)
        ((marks.marked s lt).0 m)),
    (λ named. (marks.marked s lt).1 (⊎_elim
        (λ n. ⊎_elim (λ old. inl (n.0, old, n.2)) (λ is. absurd (let e = sym none ∙ is in cc))
        ((answered_more a.scan (answer_of a (next_slot a) gone) n.0).0 n.1))
        (λ n. inr n) named)),
  );
}

-- a version was answered, and its segments were marked
pub marks_after_version : (segments : ℕ) (a : Account) (gone v : ℕ) (births new : BirthsState) → AreMarksOf segments a births
    → answer_of a (next_slot a) gone ≡ Some v → length new.marks ≡ length births.marks
    → ((s : ℕ) → s < segments → IsMarked new s ↔ (IsMarked births s ⊎ IsOfVersion a.history v s))
    → AreMarksOf segments (after_scan a gone) new
marks_after_version segments a gone v births new marks is many more = record {
  many = many ∙ marks.many;
  marked = λ s lt.
      let here = answered_more a.scan (answer_of a (next_slot a) gone) in (
        (λ m. ⊎_elim
            (λ old. ⊎_elim (λ n. inl (n.0, (here n.0).1 (inl n.1), n.2)) (λ n. inr n) ((marks.marked s lt).0 old))
            (λ of. inl (v, (here v).1 (inr is), of))
            ((more s lt).0 m)),
        (λ named. (more s lt).1 (⊎_elim
            (λ n. ⊎_elim (λ old. inl ((marks.marked s lt).1 (inl (n.0, old, n.2))))
            (λ it. inr (subst (λ (o : ℕ). IsOfVersion a.history o s) (let e = sym it ∙ is in cc) n.2))
            ((here n.0).0 n.1))
            (λ n. inl ((marks.marked s lt).1 (inr n))) named)),
      );
}

-- births that fit say of which version a segment is
pub living_of : (segments : ℕ) (a : Account) (births : BirthsState) (v : ℕ) → AreBirthsFit segments a births
    → HasVersion a.history v → IsUnwritten a v → (s : ℕ) → s < segments
    → (lives_at (get_or births.lives s never) v ≡ true) ↔ IsOfVersion a.history v s
living_of segments a births v fit known unwritten s lt =
    let found = some_of (placed_at a.history v) known in
    let lives = fit v found.0 found.1 unwritten s lt in (
      (λ l. subst (λ (o : Option PlacedVersion). IsSomeAnd o (λ placed. IsOf (root_and_pool placed) s)) (sym found.1) (lives.0 l)),
      (λ of. lives.1 (subst (λ (o : Option PlacedVersion). IsSomeAnd o (λ placed. IsOf (root_and_pool placed) s)) found.1 of)),
    )

-- births that fit mark the segments of a version
pub living_is_of : LivingAreMarked → (segments : ℕ) (a : Account) (births new : BirthsState) (v : ℕ) → AreBirthsFit segments a births
    → HasVersion a.history v → IsUnwritten a v → length births.lives ≡ length births.marks → length births.marks ≡ segments
    → new.marks ≡ keep_living v births.lives births.marks
    → (s : ℕ) → s < segments → IsMarked new s ↔ (IsMarked births s ⊎ IsOfVersion a.history v s)
living_is_of law segments a births new v fit known unwritten even many is s lt =
    let lives = living_of segments a births v fit known unwritten s lt in
    let kept = law v births.lives births.marks s even (omega arith) in
    let same : get_or new.marks s true ≡ get_or (keep_living v births.lives births.marks) s true
    = ap (λ (m : List _). get_or m s true) is in (
      (λ m. ⊎_elim (λ old. inl old) (λ l. inr (lives.0 l)) (kept.0 (sym same ∙ m))),
      (λ either. same ∙ kept.1 (⊎_elim (λ old. inl old) (λ of. inr (lives.1 of)) either)),
    )

pub now_answered : (a : Account) (gone v : ℕ) → answer_of a (next_slot a) gone ≡ Some v → IsAnswered (after_scan a gone) v
now_answered a gone v is = (answered_more a.scan (answer_of a (next_slot a) gone) v).1 (inr is)

-- ---- pins

-- no root was answered: the marks stay
pub marks_after_no_root : (segments : ℕ) (a : Account) (reader channel word : ℕ) (births : BirthsState) → AreMarksOf segments a births
    → pinned_root word ≡ None → AreMarksOf segments (after_pin_scan a reader channel word) births
marks_after_no_root segments a reader channel word births marks none = record {
  many = marks.many;
  marked = λ s lt. (
    (λ m. ⊎_elim (λ n. inl n)
        (λ n. inr (
          n.0,
          n.1,
          n.2,
          Contains-append_left a.pin_scan (pin_answer reader channel (pinned_root word) ∷ [])
              (pin_answer n.0 n.1 (Some n.2)) n.3,
          n.4,
        ))
        ((marks.marked s lt).0 m)),
    (λ named. (marks.marked s lt).1 (⊎_elim (λ n. inl n)
        (λ n. ⊎_elim (λ old. inr (n.0, n.1, n.2, old, n.4))
        (λ it. absurd (let e = sym none ∙ ap (λ (x : PinAnswer). x.root) it in cc))
        (Contains-push_cases a.pin_scan (pin_answer reader channel (pinned_root word)) (pin_answer n.0 n.1 (Some n.2)) n.3))
        named)),
  );
}

-- a root was answered, and what it names was marked
pub marks_after_root : (segments : ℕ) (a : Account) (reader channel word root : ℕ) (steps : List WordStep) (births new : BirthsState)
    → AreMarksOf segments a births → pinned_root word ≡ Some root
    → HasMarked births new (λ s. 1 ≤ sample_uses s (sample_walk a.pool root))
    → AreMarksOf segments (record (after_pin_scan a reader channel word) { steps = steps }) new
marks_after_root segments a reader channel word root steps births new marks is more = record {
  many = more.many ∙ marks.many;
  marked = λ s lt.
      let old = marks.marked s lt in
      let here = more.marked s (let e = marks.many in omega arith) in (
        (λ m. ⊎_elim
            (λ o. ⊎_elim (λ n. inl n)
            (λ n. inr (
              n.0,
              n.1,
              n.2,
              Contains-append_left a.pin_scan (pin_answer reader channel (pinned_root word) ∷ [])
                  (pin_answer n.0 n.1 (Some n.2)) n.3,
              n.4,
            )) (old.0 o))
            (λ u. inr (
              reader,
              channel,
              root,
              subst (λ (o : Option ℕ). Contains (a.pin_scan ++ pin_answer reader channel o ∷ [])
                  (pin_answer reader channel (Some root))) (sym is) (Contains-push a.pin_scan (pin_answer reader channel (Some root))),
              u,
            ))
            (here.0 m)),
        (λ named. here.1 (⊎_elim (λ n. inl (old.1 (inl n)))
            (λ n. ⊎_elim (λ before. inl (old.1 (inr (n.0, n.1, n.2, before, n.4))))
            (λ it. inr (subst (λ (r : ℕ). 1 ≤ sample_uses s (sample_walk a.pool r))
            (let e = sym (ap (λ (x : PinAnswer). x.root) it) ∙ is in cc) n.4))
            (Contains-push_cases a.pin_scan (pin_answer reader channel (pinned_root word)) (pin_answer n.0 n.1 (Some n.2)) n.3))
            named)),
      );
}

pub pin_is_met : (a : Account) (reader channel word : ℕ) → IsPinMet (after_pin_scan a reader channel word) reader channel
pin_is_met a reader channel word = (pinned_root word, Contains-push a.pin_scan (pin_answer reader channel (pinned_root word)))

pub pins_stay_met : (a : Account) (reader channel word r c : ℕ) → IsPinMet a r c → IsPinMet (after_pin_scan a reader channel word) r c
pins_stay_met a reader channel word r c met =
    (met.0, Contains-append_left a.pin_scan (pin_answer reader channel (pinned_root word) ∷ []) (pin_answer r c met.0) met.1)

pub seen_nothing : (pass : WriterState) → HasSeenPins pass pass
seen_nothing pass = record { pins = pass.account.pin_scan; pinned = pass.account.pinned; steps = pass.account.steps; is = refl }

pub seen_through : (one next last : WriterState) → HasSeenPins one next → HasSeenPins next last → HasSeenPins one last
seen_through one next last e f = record {
  pins = f.pins;
  pinned = f.pinned;
  steps = f.steps;
  is = f.is ∙ ap (λ (w : WriterState). record w {
    account = record w.account { pin_scan = f.pins; pinned = f.pinned; steps = f.steps };
  }) e.is;
}
