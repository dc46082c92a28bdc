-- What a tick costs in all.
use Rattle.std.proofs.Common.{◌≡◌, ◌≤◌, ◌+◌, ◌*◌, ◌/◌, ℕ, Bool, true, List, [], ◌∷◌, length, All, if◌then◌else◌, ap, subst, ◌∙◌, arith}
use Rattle.std.specs.List.{sum_by}
use Rattle.std.proofs.lemmas.List.Elements.{All-tail}
use Rattle.std.proofs.lemmas.List.Sums.{sum_by-cons}
use Rattle.std.proofs.lemmas.Nat.{mul-le}
use Rattle.ft_types.specs.declared.voice.Voice.{Voice}
use Rattle.ft_types.specs.Work.{frame_bound}
use Rattle.ft_mix.specs.Mixing.{is_slow, voice_cost, cost_by}
use Rattle.ft_tick.specs.Bounds.{tick_bound}
use Rattle.ft_play.specs.Bounds.{play_bound}
use Rattle.ft_player.specs.Bounds.{step_bound, slow_bound}

times_sum : (c a b : ℕ) → c * (a + b) ≡ c * a + c * b
times_sum c a b = grind arith

each_bound : (c f : ℕ) → c * (1 + 6 * f) ≡ c + 6 * c * f
each_bound c f = grind arith

pub through : (a b c : ℕ) → a ≤ b → b ≤ c → a ≤ c
through a b c le more = omega arith

pub within : (c channels f before mid after : ℕ) → c ≡ channels → mid ≤ before + 3 → after ≤ mid + play_bound c f
    → after ≤ before + step_bound channels f
within c channels f before mid after same a b =
    subst (λ (n : ℕ). after ≤ before + step_bound n f) same (let e = each_bound c f in omega arith)

cost_slow : (voice : Voice) (slow other : ℕ) → is_slow voice ≡ true → cost_by slow other voice ≡ slow
cost_slow voice slow other is = ap (λ (b : Bool). if b then slow else other) is

one_more : (c n : ℕ) → (c + 1) * n ≡ c * n + n
one_more c n = grind arith

-- voices that are all slow
slow_sum : (f : ℕ) (voices : List Voice) → All (λ (voice : Voice). is_slow voice ≡ true) voices
    → sum_by (voice_cost f) voices ≡ length voices * (f / 2 + 9)
slow_sum f [] all = omega arith
slow_sum f (voice ∷ voices) all =
    let here : voice_cost f voice ≡ f / 2 + 9 = cost_slow voice (f / 2 + 9) (1 + 2 * frame_bound * f) (all 0 voice (omega arith)) in
    let sum = sum_by-cons (voice_cost f) voice voices in
    let rest = slow_sum f voices (All-tail (λ (v : Voice). is_slow v ≡ true) voice voices all) in
    let longer : length (voice ∷ voices) ≡ length voices + 1 = omega arith in
    let product = ap (λ (n : ℕ). n * (f / 2 + 9)) longer ∙ one_more (length voices) (f / 2 + 9) in omega arith

one_less : (c n : ℕ) → c * (n + 9) ≡ c * (n + 8) + c
one_less c n = grind arith

within_all : (c f before mid after : ℕ) (voices : List Voice) → length voices ≤ c → mid ≤ before + 3
    → after ≤ mid + tick_bound c + sum_by (voice_cost f) voices
    → All (λ (voice : Voice). is_slow voice ≡ true) voices → after ≤ before + slow_bound c f
within_all c f before mid after voices few a b all =
    let e = slow_sum f voices all in
    let n : ℕ = f / 2 in
    let much : length voices * (n + 9) ≤ c * (n + 9) = mul-le (length voices) (n + 9) c (n + 9) few (omega arith) in
    let o = one_less c n in omega arith

pub within_slow : (c channels f before mid after : ℕ) (voices : List Voice) → c ≡ channels → length voices ≤ c
    → mid ≤ before + 3 → after ≤ mid + tick_bound c + sum_by (voice_cost f) voices
    → All (λ (voice : Voice). is_slow voice ≡ true) voices → after ≤ before + slow_bound channels f
within_slow c channels f before mid after voices same few a b all =
    subst (λ (n : ℕ). after ≤ before + slow_bound n f) same (within_all c f before mid after voices few a b all)
