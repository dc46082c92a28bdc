-- What follows a wrong line changes nothing.
use Rattle.std.proofs.Common.{◌≡◌, ℕ, suc, ◌+◌, ◌<◌, ◌≤◌, ◌==◌, ◌≢◌, ◌⊎◌, inl, inr, true, false, not, All, append_assoc, List, [], ◌∷◌, ◌++◌, length, Option, Some, None, Result, Ok, Err, refl, sym, ap, subst, ◌∙◌, arith}
use Rattle.std.proofs.lemmas.Bool.{cond_both, cond-false, ne_eqb}
use Rattle.std.proofs.lemmas.Bool.{and_from}
use Rattle.std.proofs.lemmas.List.Elements.{All-head, All-tail}
use Rattle.ft_text.specs.Record.{LedgerAccount}
use Rattle.ft_text.specs.Ledger.{joined_lines}
use Rattle.ft_text.specs.LedgerWords.{said, head, play, entry, refusal, tick, hand, saved, end}
use Rattle.ft_text.specs.LedgerExact.{AreLines, WrongLineSettles}
use Rattle.ft_text.proofs.Cuts.{some_part}
use Rattle.ft_text.proofs.SplitsBack.{split, split_at, avoids}
use Rattle.ft_lines.specs.Sequence.{read_value, follow, ◌>>=◌}
use Rattle.ft_text.specs.LedgerReading.{lines_of, ledger, ledger_of, LedgerPlace, LinesReading, line_number, one_line, line_at, line_or_wrong, lines_from, while_some, also, many, maybe_line, none_or, is_end, over}
use Rattle.ft_text.proofs.LedgerPartsBack.{at_place, some_behind}

-- a fault is answered behind the place, and a reading goes on from there
abbrev pub GoesOn : {A : Type 0} → ℕ → Result (A × LedgerPlace) ℕ → Type 0
GoesOn at (Ok read) = at ≤ (read.1).at
GoesOn at (Err m) = line_number at ≤ m

-- at a place from which there are k lines to the end of those that are shared
abbrev pub IsSettled : {A : Type 0} → ℕ → List (List ℕ) → List (List ℕ) → Result (A × LedgerPlace) ℕ → Result (A × LedgerPlace) ℕ → Type 0
IsSettled {A} k suf other (Ok read) r =
    ((mid : List (List ℕ)) × (read.1 ≡ at_place (read.1).at (mid ++ suf)) × ((read.1).at + length mid ≡ k)
    × (r ≡ Ok (read.0, at_place (read.1).at (mid ++ other))))
    ⊎ (k ≤ (read.1).at)
IsSettled {A} k suf other (Err m) r = m ≡ k → r ≡ Err k

pub record Settles {A : Type 0} (reading : LinesReading A) : Type 0 where
  pub on : (p : LedgerPlace) → GoesOn p.at (reading p)
  pub same : (k : ℕ) → k < 4294967295 → (suf other : List (List ℕ)) → (length suf == 0) ≡ false → (length other == 0) ≡ false
      → (at : ℕ) (pre : List (List ℕ)) → at + length pre ≡ k
      → IsSettled k suf other (reading (at_place at (pre ++ suf))) (reading (at_place at (pre ++ other)))

-- ---- one reading after the other

both_settle : {A B : Type 0} (first : LinesReading A) (next : A → LinesReading B) → Settles first → ((x : A) → Settles (next x))
    → Settles (first >>= next)
both_settle {A} {B} first next f n = record { on = on; same = same } where
  on_from : (at : ℕ) (r : Result (A × LedgerPlace) ℕ) → GoesOn at r → GoesOn at (follow next r)
  on_from at (Err m) h = h
  on_from at (Ok read) h = further at read.1 h (next read.0 read.1) ((n read.0).on read.1) where
    further : (at : ℕ) (q : LedgerPlace) → at ≤ q.at → (r : Result (B × LedgerPlace) ℕ) → GoesOn q.at r → GoesOn at r
    further at q le (Ok read) h = omega arith
    further at q le (Err m) h = omega arith

  on : (p : LedgerPlace) → GoesOn p.at (follow next (first p))
  on p = on_from p.at (first p) (f.on p)

  late : (k : ℕ) → k < 4294967295 → (q : LedgerPlace) → k ≤ q.at → (suf other : List (List ℕ)) (r s : Result (B × LedgerPlace) ℕ)
      → GoesOn q.at r
      → IsSettled k suf other r s
  late k small q le suf other (Ok read) s h = inr (omega arith)
  late k small q le suf other (Err m) s h = λ e. absurd (omega arith)

  step : (k : ℕ) → k < 4294967295 → (suf other : List (List ℕ)) → (length suf == 0) ≡ false → (length other == 0) ≡ false
      → (r s : Result (A × LedgerPlace) ℕ) → IsSettled k suf other r s → IsSettled k suf other (follow next r) (follow next s)
  step k small suf other some more (Err m) s h = λ e. ap (follow next) (h e)
  step k small suf other some more (Ok read) s (inr le) =
      late k small read.1 le suf other (next read.0 read.1) (follow next s) ((n read.0).on read.1)
  step k small suf other some more (Ok read) s (inl h) =
      let q = read.1 in
      let there = (n read.0).same k small suf other some more q.at h.0 h.2 in
      let first_is : next read.0 (at_place q.at (h.0 ++ suf)) ≡ next read.0 q = ap (next read.0) (sym h.1) in
      let second_is : next read.0 (at_place q.at (h.0 ++ other)) ≡ follow next s = ap (follow next) (sym h.3) in
      subst (λ t. IsSettled k suf other (next read.0 q) t) second_is
      (subst (λ t. IsSettled k suf other t (next read.0 (at_place q.at (h.0 ++ other)))) first_is there)

  same : (k : ℕ) → k < 4294967295 → (suf other : List (List ℕ)) → (length suf == 0) ≡ false → (length other == 0) ≡ false
      → (at : ℕ) (pre : List (List ℕ)) → at + length pre ≡ k
      → IsSettled k suf other (follow next (first (at_place at (pre ++ suf)))) (follow next (first (at_place at (pre ++ other))))
  same k small suf other some more at pre here =
      step k small suf other some more (first (at_place at (pre ++ suf))) (first (at_place at (pre ++ other)))
      (f.same k small suf other some more at pre here)

-- ---- one line

one_goes_on : {A : Type 0} (value : List ℕ → Option A) (p : LedgerPlace) → GoesOn p.at (one_line value p)
unfolding one_line
one_goes_on {A} value p = go p.left where
  line_go : (rest : List (List ℕ)) (o : Option A) → GoesOn p.at (line_or_wrong p.at rest o)
  line_go rest None = omega arith
  line_go rest (Some x) = omega arith

  go : (left : List (List ℕ)) → GoesOn p.at (line_at value p.at left)
  go [] = omega arith
  go (line ∷ rest) = cond_both (length rest == 0) (Err (line_number p.at)) (line_or_wrong p.at rest (value line)) (GoesOn p.at)
      (λ so. omega arith) (λ more. line_go rest (value line))

one_settles : {A : Type 0} (value : List ℕ → Option A) → Settles (one_line value)
unfolding one_line
one_settles {A} value = record { on = one_goes_on value; same = same } where
  last : (k : ℕ) → k < 4294967295 → (suf other : List (List ℕ)) (at : ℕ) → at ≡ k → (left : List (List ℕ)) (s : Result (A × LedgerPlace) ℕ)
      → IsSettled k suf other (line_at value at left) s
  last k small suf other at here [] s = λ e. absurd (omega arith)
  last k small suf other at here (line ∷ rest) s =
      cond_both (length rest == 0) (Err (line_number at)) (line_or_wrong at rest (value line)) (λ r. IsSettled k suf other r s)
      (λ so. λ e. absurd (omega arith)) (λ more. go (value line)) where
        go : (o : Option A) → IsSettled k suf other (line_or_wrong at rest o) s
        go None = λ e. absurd (omega arith)
        go (Some x) = inr (omega arith)

  inner : (k : ℕ) (suf other : List (List ℕ)) (at : ℕ) (pre : List (List ℕ)) → at + suc (length pre) ≡ k → (o : Option A)
      → IsSettled k suf other (line_or_wrong at (pre ++ suf) o) (line_or_wrong at (pre ++ other) o)
  inner k suf other at pre here None = λ e. ap Err e
  inner k suf other at pre here (Some x) = inl (pre, refl, (omega arith), refl)

  same : (k : ℕ) → k < 4294967295 → (suf other : List (List ℕ)) → (length suf == 0) ≡ false → (length other == 0) ≡ false
      → (at : ℕ) (pre : List (List ℕ)) → at + length pre ≡ k
      → IsSettled k suf other (line_at value at (pre ++ suf)) (line_at value at (pre ++ other))
  same k small suf other some more at [] here = last k small suf other at (omega arith) suf (line_at value at other)
  same k small suf other some more at (line ∷ pre) here =
      let a : line_or_wrong at (pre ++ suf) (value line) ≡ line_at value at (line ∷ (pre ++ suf)) =
      sym (cond-false (length (pre ++ suf) == 0) (Err (line_number at)) _ (some_behind pre suf some)) in
      let b : line_or_wrong at (pre ++ other) (value line) ≡ line_at value at (line ∷ (pre ++ other)) =
      sym (cond-false (length (pre ++ other) == 0) (Err (line_number at)) _ (some_behind pre other more)) in
      subst (λ t. IsSettled k suf other (line_at value at (line ∷ (pre ++ suf))) t) b
      (subst (λ t. IsSettled k suf other t (line_or_wrong at (pre ++ other) (value line))) a
      (inner k suf other at pre (omega arith) (value line)))

-- ---- several lines

-- what is read stops at one of the shared lines, the same one, or takes all of them
abbrev Shared : {A : Type 0} → List (List ℕ) → List (List ℕ) → List (List ℕ) → List A × List (List ℕ) → List A × List (List ℕ) → Type 0
Shared suf other pre t s =
    ((mid : List (List ℕ)) × (t.1 ≡ mid ++ suf) × (length t.0 + length mid ≡ length pre) × (s ≡ (t.0, mid ++ other)))
    ⊎ (length pre ≤ length t.0)

shared_step : {A : Type 0} (suf other pre : List (List ℕ)) (line : List ℕ) (a b : A → List A × List (List ℕ))
    → ((x : A) → Shared suf other pre (a x) (b x)) → (o : Option A)
    → Shared suf other (line ∷ pre) (while_some (line ∷ (pre ++ suf)) o a) (while_some (line ∷ (pre ++ other)) o b)
shared_step suf other pre line a b rest None = inl (line ∷ pre, refl, omega arith, refl)
shared_step suf other pre line a b rest (Some x) = elim (rest x) [
  | inl h ↦ inl (h.0, h.1, omega (arith, h.2), ap (also x) h.3)
  | inr le ↦ inr (omega (arith, le))
]

lines_shared : {S A : Type 0} (value : S → List ℕ → Option A) (moved : S → A → S) (suf other : List (List ℕ))
    → (length suf == 0) ≡ false → (length other == 0) ≡ false → (pre : List (List ℕ)) (state : S)
    → Shared suf other pre (lines_from value moved state (pre ++ suf)) (lines_from value moved state (pre ++ other))
unfolding lines_from
lines_shared value moved suf other some more [] state = inr (omega arith)
lines_shared {S} {A} value moved suf other some more (line ∷ pre) state =
    let a : A → List A × List (List ℕ) = λ x. lines_from value moved (moved state x) (pre ++ suf) in
    let b : A → List A × List (List ℕ) = λ x. lines_from value moved (moved state x) (pre ++ other) in
    let left = line ∷ (pre ++ suf) in
    let left2 = line ∷ (pre ++ other) in
    let first : while_some left (value state line) a ≡ lines_from value moved state left =
    sym (cond-false (length (pre ++ suf) == 0) ([], left) (while_some left (value state line) a) (some_behind pre suf some)) in
    let second : while_some left2 (value state line) b ≡ lines_from value moved state left2 =
    sym (cond-false (length (pre ++ other) == 0) ([], left2) (while_some left2 (value state line) b) (some_behind pre other more)) in
    subst (λ s. Shared suf other (line ∷ pre) (lines_from value moved state left) s) second
    (subst (λ t. Shared suf other (line ∷ pre) t (while_some left2 (value state line) b)) first
    (shared_step suf other pre line a b (λ x. lines_shared value moved suf other some more pre (moved state x)) (value state line)))

many_of : {A : Type 0} → ℕ → List A × List (List ℕ) → Result (List A × LedgerPlace) ℕ
many_of at read = Ok (read.0, record { at = at + length read.0; left = read.1 })

many_settled : {A : Type 0} (k at : ℕ) (suf other pre : List (List ℕ)) (t s : List A × List (List ℕ)) → at + length pre ≡ k
    → Shared suf other pre t s → IsSettled k suf other (many_of at t) (many_of at s)
unfolding many_of
many_settled k at suf other pre t s here (inl h) =
    inl (h.0, ap (at_place (at + length t.0)) h.1, omega (arith, h.2), ap (λ r. Ok (r.0, at_place (at + length r.0) r.1)) h.3)
many_settled k at suf other pre t s here (inr le) = inr (omega (arith, le))

many_settles : {S A : Type 0} (value : S → List ℕ → Option A) (moved : S → A → S) (state : S) → Settles (many value moved state)
unfolding many many_of
many_settles value moved state = record {
  on = λ p. omega arith;
  same = λ k small suf other some more at pre here.
      many_settled k at suf other pre (lines_from value moved state (pre ++ suf)) (lines_from value moved state (pre ++ other)) here
      (lines_shared value moved suf other some more pre state);
}

-- ---- a line that may be missing

maybe_settles : {A : Type 0} (value : List ℕ → Option A) → Settles (maybe_line value)
unfolding maybe_line one_line
maybe_settles {A} value = record { on = λ p. on p (one_line value p) (one_goes_on value p); same = same } where
  on : (p : LedgerPlace) (r : Result (A × LedgerPlace) ℕ) → GoesOn p.at r → GoesOn p.at (none_or p r)
  on p (Ok read) h = h
  on p (Err m) h = omega arith

  last : (k : ℕ) (suf other : List (List ℕ)) (p : LedgerPlace) → p.at ≡ k
      → (r : Result (A × LedgerPlace) ℕ) (s : Result (Option A × LedgerPlace) ℕ)
      → GoesOn p.at r → IsSettled k suf other (none_or p r) s
  last k suf other p here (Ok read) s h = inr (omega arith)
  last k suf other p here (Err m) s h = inr (omega arith)

  inner : (k : ℕ) (suf other : List (List ℕ)) (at : ℕ) (line : List ℕ) (pre : List (List ℕ)) → at + suc (length pre) ≡ k → (o : Option A)
      → IsSettled k suf other (none_or (at_place at (line ∷ (pre ++ suf))) (line_or_wrong at (pre ++ suf) o))
      (none_or (at_place at (line ∷ (pre ++ other))) (line_or_wrong at (pre ++ other) o))
  inner k suf other at line pre here None = inl (line ∷ pre, refl, omega arith, refl)
  inner k suf other at line pre here (Some x) = inl (pre, refl, omega arith, refl)

  same : (k : ℕ) → k < 4294967295 → (suf other : List (List ℕ)) → (length suf == 0) ≡ false → (length other == 0) ≡ false
      → (at : ℕ) (pre : List (List ℕ)) → at + length pre ≡ k
      → IsSettled k suf other (none_or (at_place at (pre ++ suf)) (line_at value at (pre ++ suf)))
      (none_or (at_place at (pre ++ other)) (line_at value at (pre ++ other)))
  same k small suf other some more at [] here =
      last k suf other (at_place at suf) (omega arith) (line_at value at suf) (none_or (at_place at other) (line_at value at other))
      (one_goes_on value (at_place at suf))
  same k small suf other some more at (line ∷ pre) here =
      let p = at_place at (line ∷ (pre ++ suf)) in
      let q = at_place at (line ∷ (pre ++ other)) in
      let a : none_or p (line_or_wrong at (pre ++ suf) (value line)) ≡ none_or p (line_at value at (line ∷ (pre ++ suf))) =
      ap (none_or p) (sym (cond-false (length (pre ++ suf) == 0) (Err (line_number at)) _ (some_behind pre suf some))) in
      let b : none_or q (line_or_wrong at (pre ++ other) (value line)) ≡ none_or q (line_at value at (line ∷ (pre ++ other))) =
      ap (none_or q) (sym (cond-false (length (pre ++ other) == 0) (Err (line_number at)) _ (some_behind pre other more))) in
      subst (λ t. IsSettled k suf other (none_or p (line_at value at (line ∷ (pre ++ suf)))) t) b
      (subst (λ t. IsSettled k suf other t (none_or q (line_or_wrong at (pre ++ other) (value line)))) a
      (inner k suf other at line pre (omega arith) (value line)))

-- ---- the end

not_the_end : (line : List ℕ) (rest : List (List ℕ)) → (length rest == 0) ≡ false → is_end (line ∷ rest) ≡ false
not_the_end [] [] some = absurd (cc)
not_the_end [] (part ∷ rest) some = refl
not_the_end (b ∷ line) rest some = refl

over_settles : {A : Type 0} (x : A) → Settles (over x)
unfolding over
over_settles {A} x = record { on = on; same = same } where
  on : (p : LedgerPlace) → GoesOn p.at (over x p)
  on p = cond_both (is_end p.left) (Ok (x, p)) (Err (line_number p.at)) (GoesOn p.at) (λ so. omega arith) (λ more. omega arith)

  same : (k : ℕ) → k < 4294967295 → (suf other : List (List ℕ)) → (length suf == 0) ≡ false → (length other == 0) ≡ false
      → (at : ℕ) (pre : List (List ℕ)) → at + length pre ≡ k
      → IsSettled k suf other (over x (at_place at (pre ++ suf))) (over x (at_place at (pre ++ other)))
  same k small suf other some more at [] here =
      cond_both (is_end suf) (Ok (x, at_place at suf)) (Err (line_number at)) (λ r. IsSettled k suf other r (over x (at_place at other)))
      (λ so. inr (omega arith)) (λ no. λ e. absurd (omega arith))
  same k small suf other some more at (line ∷ pre) here =
      let wrong : Result (A × LedgerPlace) ℕ = Err (line_number at) in
      let a : wrong ≡ over x (at_place at (line ∷ (pre ++ suf))) =
      sym (cond-false (is_end (line ∷ (pre ++ suf))) (Ok (x, at_place at (line ∷ (pre ++ suf)))) wrong
      (not_the_end line (pre ++ suf) (some_behind pre suf some))) in
      let b : wrong ≡ over x (at_place at (line ∷ (pre ++ other))) =
      sym (cond-false (is_end (line ∷ (pre ++ other))) (Ok (x, at_place at (line ∷ (pre ++ other)))) wrong
      (not_the_end line (pre ++ other) (some_behind pre other more))) in
      let both : IsSettled k suf other wrong wrong = λ e. ap Err e in
      subst (λ t. IsSettled k suf other (over x (at_place at (line ∷ (pre ++ suf)))) t) b
      (subst (λ t. IsSettled k suf other t wrong) a both)

-- ---- a whole ledger

ledger_settles : Settles ledger
unfolding ledger
ledger_settles =
    both_settle (one_line (said head)) _ (one_settles (said head)) (λ form.
    both_settle (one_line (said play)) _ (one_settles (said play)) (λ run.
    both_settle (lines_of (said (entry form))) _ (many_settles {S = ℕ} (λ s. said (entry form)) (λ s x. s) 0) (λ entries.
    both_settle (lines_of (said (refusal form))) _ (many_settles {S = ℕ} (λ s. said (refusal form)) (λ s x. s) 0) (λ refusals.
    both_settle (many (λ n. said (tick n)) (λ n x. suc n) 0) _ (many_settles (λ n. said (tick n)) (λ n x. suc n) 0) (λ ticks.
    both_settle (many (λ least. said (hand least)) (λ least end. end.hand + 1) 0) _
    (many_settles (λ least. said (hand least)) (λ least end. end.hand + 1) 0) (λ hands.
    both_settle (maybe_line (said (saved form))) _ (maybe_settles (said (saved form))) (λ song.
    both_settle (one_line (said (end form (length ticks)))) _ (one_settles (said (end form (length ticks)))) (λ status.
    over_settles (record {
      run = record run { status = status };
      entries = entries;
      refusals = refusals;
      ticks = ticks;
      hands = hands;
      saved = song;
    })))))))))

settled_fault : {A : Type 0} (k : ℕ) (suf other : List (List ℕ)) (r s : Result (A × LedgerPlace) ℕ) → IsSettled k suf other r s → r ≡ Err k
    → s ≡ Err k
settled_fault k suf other (Ok read) s h e = absurd (cc)
settled_fault k suf other (Err m) s h e = let same : m ≡ k = cc in h same

pub fault_is : (r : Result (LedgerAccount × LedgerPlace) ℕ) (k : ℕ) → read_value r ≡ Err k → r ≡ Err k
fault_is (Ok read) k h = absurd (cc)
fault_is (Err m) k h = let same : m ≡ k = cc in ap Err same

clean_line : (line : List ℕ) → All (λ b. b ≢ 10) line → avoids 10 line ≡ true
clean_line [] all = refl
clean_line (b ∷ line) all =
    let Other : ℕ → Type 0 = λ b. b ≢ 10 in
    and_from (not (b == 10)) (avoids 10 line) (ap not (ne_eqb b 10 (All-head Other b line all)))
    (clean_line line (All-tail Other b line all))

split_front : (lines : List (List ℕ)) (rest : List ℕ) → AreLines lines → split 10 (joined_lines lines ++ rest) ≡ lines ++ split 10 rest
split_front [] rest are = refl
split_front (line ∷ lines) rest are =
    let IsLine : List ℕ → Type 0 = λ line. All (λ b. b ≢ 10) line in
    ap (split 10) (append_assoc (line ++ 10 ∷ []) (joined_lines lines) rest ∙ append_assoc line (10 ∷ []) (joined_lines lines ++ rest))
    ∙ split_at 10 line (joined_lines lines ++ rest) (clean_line line (All-head IsLine line lines are))
    ∙ ap (λ parts. line ∷ parts) (split_front lines rest (All-tail IsLine line lines are))

pub wrong_line_settles : WrongLineSettles
unfolding ledger_of
wrong_line_settles lines rest other are small wrong =
    let k = length lines in
    let suf = split 10 rest in
    let suf2 = split 10 other in
    let counted : 0 + k ≡ k = omega arith in
    let here : ledger (at_place 0 (lines ++ suf)) ≡ Err k =
    ap (λ left. ledger (at_place 0 left)) (sym (split_front lines rest are))
    ∙ fault_is (ledger (at_place 0 (split 10 (joined_lines lines ++ rest)))) k wrong in
    let there : ledger (at_place 0 (lines ++ suf2)) ≡ Err k =
    settled_fault k suf suf2 (ledger (at_place 0 (lines ++ suf))) (ledger (at_place 0 (lines ++ suf2)))
    (ledger_settles.same k small suf suf2 (some_part 10 rest) (some_part 10 other) 0 lines counted) here in
    ap (λ left. read_value (ledger (at_place 0 left))) (split_front lines other are) ∙ ap read_value there
