-- What the calls of a view cost, voice by voice.
use Rattle.std.proofs.Common.{◌≡◌, ℕ, suc, ◌+◌, ◌-◌, ◌<◌, ◌≤◌, Bool, true, false, List, [], ◌∷◌, length, Option, None, Some, ltb, lt-ltb, le-ltb, if◌then◌else◌, refl, ap, ◌∙◌, arith}
use Rattle.std.specs.List.{sum_by}
use Rattle.std.specs.Prelude.{nat_lt, ◌%◌}
use Rattle.std.proofs.lemmas.Bool.{cond_both, eq-eqb, ltb-true, ltb-false}
use Rattle.std.proofs.lemmas.List.Sums.{sum_by-cons}
use Rattle.ft_types.specs.declared.voice.SampleHead.{SampleHead}
use Rattle.ft_types.specs.declared.voice.Voice.{Voice}
use Rattle.ft_types.specs.Work.{frame_cost, run_cost, is_kept, is_near, word_of, last_word}
use Rattle.ft_replay.specs.Sound.{place_of, reflected, loop_turn}
use Rattle.ft_mix.specs.Mixing.{is_slow, cost_by, way_cost}

-- ---- words

-- a frame costs 3 at most
pub cost_most : (word : ℕ) (words : List ℕ) → frame_cost word words ≤ 3
unfolding frame_cost
cost_most word words =
    cond_both (is_kept word words) 0 (if is_near word words then 1 else 3) (λ (n : ℕ). n ≤ 3) (λ kept. omega arith)
    (λ other. cond_both (is_near word words) 1 3 (λ (n : ℕ). n ≤ 3) (λ near. omega arith) (λ far. omega arith))

-- and a run of frames as much as going from the first to the last
pub run_most : (first many : ℕ) (words : List ℕ)
    → run_cost (word_of first) (last_word first many) words ≤ way_cost first (first + many - 1)
unfolding run_cost
run_most first many words = let most = cost_most (word_of first) words in omega arith

-- ---- places of a sample without loop

-- by whether it has no loop
abbrev place_by : SampleHead → ℕ → Bool → Option ℕ
place_by head i none =
    if nat_lt i (if none then head.frames else head.loop_start + head.loop_len) then Some i
    else (if none then None else Some (head.loop_start + reflected head ((i - head.loop_start) % loop_turn head)))

pub place_within : (head : SampleHead) (i : ℕ) → head.loop_kind ≡ 0 → i < head.frames → place_of head i ≡ Some i
unfolding place_of
place_within head i none lt =
    ap (place_by head i) (eq-eqb head.loop_kind 0 none)
    ∙ ap (λ (b : Bool). if b then Some i else None) (lt-ltb i head.frames lt)

pub place_past : (head : SampleHead) (i : ℕ) → head.loop_kind ≡ 0 → head.frames ≤ i → place_of head i ≡ None
unfolding place_of
place_past head i none le =
    ap (place_by head i) (eq-eqb head.loop_kind 0 none)
    ∙ ap (λ (b : Bool). if b then Some i else None) (le-ltb i head.frames le)

-- before an end, or past it
pub by_lt : {P : Type 0} (a b : ℕ) → (a < b → P) → (b ≤ a → P) → P
by_lt {P} a b f g = by (ltb a b) refl
  where
    by : (t : Bool) → ltb a b ≡ t → P
    by true e = f (ltb-true a b e)
    by false e = g (ltb-false a b e)

-- ---- sums over voices

pub cost_more : (a b c d e f : ℕ) (voice : Voice) → a + c ≤ e → b + d ≤ f
    → cost_by a b voice + cost_by c d voice ≤ cost_by e f voice
cost_more a b c d e f voice slow other = by (is_slow voice)
  where
    by : (s : Bool) → (if s then a else b) + (if s then c else d) ≤ (if s then e else f)
    by true = slow
    by false = other

pub costs_more : (a b c d e f : ℕ) (voices : List Voice) → a + c ≤ e → b + d ≤ f
    → sum_by (cost_by a b) voices + sum_by (cost_by c d) voices ≤ sum_by (cost_by e f) voices
costs_more a b c d e f [] slow other = omega arith
costs_more a b c d e f (voice ∷ voices) slow other =
    omega (
      arith,
      sum_by-cons (cost_by a b) voice voices,
      sum_by-cons (cost_by c d) voice voices,
      sum_by-cons (cost_by e f) voice voices,
      cost_more a b c d e f voice slow other,
      costs_more a b c d e f voices slow other,
    )

pub ones : (voices : List Voice) → sum_by (cost_by 1 1) voices ≡ length voices
ones [] = refl
ones (voice ∷ voices) = sum_by-cons (cost_by 1 1) voice voices ∙ joined _ _ _ (one voice) (ones voices)
  where
    one : (voice : Voice) → cost_by 1 1 voice ≡ 1
    one voice = by (is_slow voice)
      where
        by : (s : Bool) → ◌≡◌ {A = ℕ} (if s then 1 else 1) 1
        by true = refl
        by false = refl

    joined : (a b n : ℕ) → a ≡ 1 → b ≡ n → a + b ≡ suc n
    joined a b n e f = omega arith
