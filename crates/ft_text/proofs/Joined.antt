-- Lines put one after the other.
use Rattle.std.proofs.Common.{◌≡◌, ℕ, zero, suc, ◌+◌, ◌<◌, List, [], ◌∷◌, ◌++◌, Some, None, length, get_or, take, map, All, refl, sym, subst, ap, ◌∙◌, arith, append_assoc, add-one, codes}
use Rattle.std.specs.List.{slice_get}
use Rattle.std.specs.Fmt.{digits}
use Rattle.std.proofs.lemmas.List.{take_more, map-append, flat_map_more, append-nil}
use Rattle.std.proofs.lemmas.List.Elements.{All-more}
use Rattle.std.proofs.lemmas.List.Concat.{flat_map-append}
use Rattle.std.proofs.lemmas.Option.{slice_get_within, get_or_from_slice_get}
use Rattle.ft_types.specs.declared.tick_report.TickReport.{TickReport}
use Rattle.ft_text.specs.Ledger.{ended, joined_lines, head_line, tick_line, tick_lines}

-- one more line, of the element at i
pub item_line_more : {X : Type 0} (line : X → List ℕ) (all : List X) (i : ℕ) (d : X) (old before after : List ℕ)
    → i < length all
    → before ≡ old ++ joined_lines (map line (take i all))
    → after ≡ before ++ ended (line (get_or all i d))
    → after ≡ old ++ joined_lines (map line (take (i + 1) all))
item_line_more line all i d old before after inside first step =
    let x = get_or all i d in
    let lines : map line (take (i + 1) all) ≡ map line (take i all) ++ line x ∷ [] =
    ap (map line) (take_more all i d inside) ∙ map-append line (take i all) (x ∷ []) in
    step ∙ ap (λ t. t ++ ended (line x)) first ∙ flat_map_more ended old (map line (take i all)) (line x)
    ∙ sym (ap (λ ls. old ++ joined_lines ls) lines)

pub line_more : {X : Type 0} (line : X → List ℕ) (all : List X) (i : ℕ) (x : X) (old before after : List ℕ)
    → Some x ≡ slice_get all i
    → before ≡ old ++ joined_lines (map line (take i all))
    → after ≡ before ++ ended (line x)
    → after ≡ old ++ joined_lines (map line (take (i + 1) all))
line_more line all i x old before after found first step =
    item_line_more line all i x old before after (slice_get_within all i x (sym found)) first
    (step ∙ ap (λ y. before ++ ended (line y)) (sym (get_or_from_slice_get all i x x (sym found))))

-- what holds of those that were passed, with one more
pub all_more : {X : Type 0} (P : X → Type 0) (all : List X) (i : ℕ) (x : X) → Some x ≡ slice_get all i
    → All P (take i all) → P x → All P (take (i + 1) all)
all_more P all i x found passed is =
    All-more P all i x (slice_get_within all i x (sym found)) passed (subst P (sym (get_or_from_slice_get all i x x (sym found))) is)

-- there is nothing only past the end
pub not_past : {X : Type 0} (all : List X) (i : ℕ) → None ≡ slice_get all i → i < length all → ⊥
not_past [] i none inside = absurd (omega arith)
not_past (x ∷ all) zero none inside = cc
not_past (x ∷ all) (suc i) none inside = not_past all i none (omega arith)

-- one more tick
pub tick_more : (n : ℕ) (ticks : List TickReport) (i : ℕ) (d : TickReport) → i < length ticks
    → joined_lines (tick_lines n (take (suc i) ticks)) ≡ joined_lines (tick_lines n (take i ticks))
    ++ ended (tick_line (n + i) (get_or ticks i d))
tick_more n [] i d inside = absurd (omega arith)
tick_more n (tick ∷ ticks) zero d inside =
    let same : n + 0 ≡ n = omega arith in
    append-nil (ended (tick_line n tick)) ∙ sym (ap (λ k. ended (tick_line k tick)) same)
tick_more n (tick ∷ ticks) (suc i) d inside =
    let within : i < length ticks = omega arith in
    let same : suc n + i ≡ n + suc i = omega arith in
    ap (λ t. ended (tick_line n tick) ++ t) (tick_more (suc n) ticks i d within)
    ∙ sym (append_assoc (ended (tick_line n tick)) (joined_lines (tick_lines (suc n) (take i ticks)))
    (ended (tick_line (suc n + i) (get_or ticks i d))))
    ∙ ap (λ k. (ended (tick_line n tick) ++ joined_lines (tick_lines (suc n) (take i ticks))) ++ ended (tick_line k (get_or ticks i d)))
    same

-- one more line of a tick
pub tick_line_more : (ticks : List TickReport) (i : ℕ) (d : TickReport) (old before after : List ℕ) → i < length ticks
    → before ≡ old ++ joined_lines (tick_lines 0 (take i ticks))
    → after ≡ before ++ ended (tick_line i (get_or ticks i d))
    → after ≡ old ++ joined_lines (tick_lines 0 (take (i + 1) ticks))
tick_line_more ticks i d old before after inside first step =
    let counted : 0 + i ≡ i = omega arith in
    let line = ended (tick_line i (get_or ticks i d)) in
    let here = joined_lines (tick_lines 0 (take i ticks)) in
    let more : joined_lines (tick_lines 0 (take (suc i) ticks)) ≡ here ++ line =
    tick_more 0 ticks i d inside ∙ ap (λ k. here ++ ended (tick_line k (get_or ticks i d))) counted in
    step ∙ ap (λ t. t ++ line) first ∙ append_assoc old here line ∙ sym (ap (λ t. old ++ t) more)
    ∙ sym (ap (λ k. old ++ joined_lines (tick_lines 0 (take k ticks))) (add-one i))

-- one more part
pub part_more : (front part : List (List ℕ)) (t u : List ℕ) → t ≡ joined_lines front → u ≡ t ++ joined_lines part
    → u ≡ joined_lines (front ++ part)
part_more front part t u here step = step ∙ ap (λ x. x ++ joined_lines part) here ∙ sym (flat_map-append ended front part)

-- parts put together
pub parts : (first second : List ℕ) (a b c d e : List (List ℕ)) (last t0 t1 t2 t3 t4 t5 t6 t7 : List ℕ)
    → t0 ≡ ended first → t1 ≡ t0 ++ ended second → t2 ≡ t1 ++ joined_lines a → t3 ≡ t2 ++ joined_lines b → t4 ≡ t3 ++ joined_lines c
    → t5 ≡ t4 ++ joined_lines d → t6 ≡ t5 ++ joined_lines e → t7 ≡ t6 ++ ended last
    → t7 ≡ joined_lines ((first ∷ second ∷ []) ++ a ++ b ++ c ++ d ++ e ++ (last ∷ []))
parts first second a b c d e last t0 t1 t2 t3 t4 t5 t6 t7 e0 e1 e2 e3 e4 e5 e6 e7 =
    let head : t1 ≡ joined_lines (first ∷ second ∷ []) =
    e1 ∙ ap (λ t. t ++ ended second) e0 ∙ sym (ap (λ t. ended first ++ t) (append-nil (ended second))) in
    let f2 = (first ∷ second ∷ []) ++ a in
    let f3 = f2 ++ b in
    let f4 = f3 ++ c in
    let f5 = f4 ++ d in
    let f6 = f5 ++ e in
    let l2 : t2 ≡ joined_lines f2 = part_more (first ∷ second ∷ []) a t1 t2 head e2 in
    let l3 : t3 ≡ joined_lines f3 = part_more f2 b t2 t3 l2 e3 in
    let l4 : t4 ≡ joined_lines f4 = part_more f3 c t3 t4 l3 e4 in
    let l5 : t5 ≡ joined_lines f5 = part_more f4 d t4 t5 l4 e5 in
    let l6 : t6 ≡ joined_lines f6 = part_more f5 e t5 t6 l5 e6 in
    part_more f6 (last ∷ []) t6 t7 l6 (e7 ∙ sym (ap (λ t. t6 ++ t) (append-nil (ended last))))

pub first_line : codes "xmstudio ledger 2\n" ≡ ended (head_line 2)
unfolding digits
first_line = refl
