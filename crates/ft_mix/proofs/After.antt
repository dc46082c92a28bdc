-- What mixing leaves: voices in range, in order, and on channels that keep their samples.
use Rattle.std.proofs.Common.{◌≡◌, ◌≢◌, ℕ, zero, suc, ◌<◌, ◌≤◌, ◌+◌, ◌-◌, ◌*◌, ◌/◌, ◌%◌, ◌^◌, ◌==◌, ◌||◌, ◌&&◌, max, Bool, true, false, not, ltb, List, [], ◌∷◌, All, length, set, refl, ◌∙◌, sym, arith}
use Rattle.std.proofs.lemmas.Bool.{cond_both, or_parts, ltb-true, eqb-true, eqb-false, eq-eqb}
use Rattle.std.proofs.lemmas.Nat.{mod_below}
use Rattle.std.proofs.lemmas.List.{length-set}
use Rattle.std.proofs.lemmas.List.Elements.{All-head, All-tail, All-cons, All-nil}
use Rattle.ft_types.specs.declared.voice.SampleHead.{SampleHead}
use Rattle.ft_types.specs.declared.voice.Voice.{Voice}
use Rattle.ft_replay.specs.Range.{IsVoiceInRange}
use Rattle.ft_types.specs.Valid.{IsValidHead}
use Rattle.ft_replay.specs.Sound.{loop_turn, reached, brought_back, is_ended, voice_after, voices_after, holds_after}
use Rattle.ft_replay.specs.Standing.{IsAscending}
use Rattle.ft_mix.specs.Mixing.{IsMixed, SoundsOn}

-- ---- ranges

or_cases : {P : Type 0} (a b : Bool) → (a || b) ≡ true → (a ≡ true → P) → (b ≡ true → P) → P
or_cases true b e f g = f refl
or_cases false b e f g = g e

and_rest : (a b : Bool) → a ≡ true → (a && b) ≡ false → b ≡ false
and_rest true b e f = f
and_rest false b e f = absurd cc

by_zero : {P : Type 0} (n : ℕ) → (n ≡ 0 → P) → (1 ≤ n → P) → P
by_zero zero f g = f refl
by_zero (suc n) f g = g (omega arith)

not_false : (b : Bool) → not b ≡ false → b ≡ true
not_false true e = refl
not_false false e = absurd cc

-- a turn has no more steps than the loop has frames, there and back
turn_most : (head : SampleHead) → 1 ≤ head.loop_len → (1 ≤ loop_turn head) × (loop_turn head ≤ 2 * head.loop_len)
turn_most head some =
    cond_both (head.loop_kind == 2) (max 1 (2 * head.loop_len - 2)) head.loop_len
    (λ (n : ℕ). (1 ≤ n) × (n ≤ 2 * head.loop_len))
    (λ there. (omega arith, omega arith))
    (λ forward. (some, omega arith))

-- a position that is brought back lies below twice the frames
back_in_range : (head : SampleHead) (position : ℕ) → IsValidHead head
    → (head.loop_kind ≡ 0 → position / 2 ^ 32 < head.frames)
    → brought_back head position < 2 * head.frames * 2 ^ 32
unfolding brought_back
back_in_range head position v on =
    cond_both ((head.loop_kind == 0) || ltb (position / 2 ^ 32) (head.loop_start + head.loop_len)) position
    ((head.loop_start + (position / 2 ^ 32 - head.loop_start) % loop_turn head) * 2 ^ 32 + position % 2 ^ 32)
    (λ (n : ℕ). n < 2 * head.frames * 2 ^ 32)
    (λ before.
    or_cases (head.loop_kind == 0) (ltb (position / 2 ^ 32) (head.loop_start + head.loop_len)) before
    (λ none. let lt = on (eqb-true head.loop_kind 0 none) in omega arith)
    (λ within.
    let lt = ltb-true (position / 2 ^ 32) (head.loop_start + head.loop_len) within in
    by_zero head.loop_kind (λ none. let less = on none in omega arith)
    (λ some. let fits = v.looping.within some in omega arith)))
    (λ past.
    let parts = or_parts (head.loop_kind == 0) (ltb (position / 2 ^ 32) (head.loop_start + head.loop_len)) past in
    let other : head.loop_kind ≢ 0 = eqb-false head.loop_kind 0 parts.0 in
    let some : 1 ≤ head.loop_kind = omega arith in
    let turn = turn_most head (v.looping.some_len some) in
    let low : (position / 2 ^ 32 - head.loop_start) % loop_turn head < loop_turn head =
    mod_below (position / 2 ^ 32 - head.loop_start) (loop_turn head) turn.0 in
    let fits = v.looping.within some in
    let most = turn.1 in
    omega arith)

voice_in_range : (frames : ℕ) (voice : Voice) → IsVoiceInRange voice → is_ended frames voice ≡ false
    → IsVoiceInRange (voice_after frames voice)
voice_in_range frames voice v e =
    let after = reached frames voice / 2 ^ 32 in
    let parts = or_parts voice.last ((voice.head.loop_kind == 0) && not (ltb after voice.head.frames)) e in
    record {
      head = v.head;
      place = back_in_range voice.head (reached frames voice) v.head
          (λ none. ltb-true after voice.head.frames (not_false (ltb after voice.head.frames) (and_rest (voice.head.loop_kind == 0) (not (ltb after voice.head.frames)) (eq-eqb voice.head.loop_kind 0 none) parts.1)));
      step = v.step;
      left = v.left;
      right = v.right;
    }

-- what is true of each voice that goes on, once it has moved
all_after : (P : Voice → Type 0) (frames : ℕ) (voice : Voice) (voices : List Voice)
    → (is_ended frames voice ≡ false → P (voice_after frames voice))
    → All P (voices_after frames voices) → All P (voices_after frames (voice ∷ voices))
all_after P frames voice voices first rest =
    cond_both (is_ended frames voice) (voices_after frames voices)
    (voice_after frames voice ∷ voices_after frames voices) (All P)
    (λ ended. rest)
    (λ on. All-cons P (voice_after frames voice) (voices_after frames voices) (first on) rest)

pub voices_in_range : (frames : ℕ) (voices : List Voice) → All IsVoiceInRange voices
    → All IsVoiceInRange (voices_after frames voices)
voices_in_range frames [] all = All-nil IsVoiceInRange
voices_in_range frames (voice ∷ voices) all =
    all_after IsVoiceInRange frames voice voices
    (voice_in_range frames voice (All-head IsVoiceInRange voice voices all))
    (voices_in_range frames voices (All-tail IsVoiceInRange voice voices all))

-- ---- channels

pub as_many : (frames : ℕ) (voices : List Voice) (holds : List Bool)
    → length (holds_after frames voices holds) ≡ length holds
as_many frames [] holds = refl
as_many frames (voice ∷ voices) holds =
    cond_both (is_ended frames voice) (holds_after frames voices (set holds voice.channel false))
    (holds_after frames voices holds) (λ (l : List Bool). length l ≡ length holds)
    (λ ended. as_many frames voices (set holds voice.channel false) ∙ length-set holds voice.channel false)
    (λ on. as_many frames voices holds)

-- ---- order

ascending_from : (low from high : ℕ) (voices : List Voice) → low ≤ from → IsAscending from high voices
    → IsAscending low high voices
unfolding IsAscending
ascending_from low from high [] le p = tt
ascending_from low from high (voice ∷ voices) le p = let above = p.0 in (omega arith, p.1, p.2)

pub ascending_after : (frames low high : ℕ) (voices : List Voice) → IsAscending low high voices
    → IsAscending low high (voices_after frames voices)
unfolding IsAscending
ascending_after frames low high [] p = tt
ascending_after frames low high (voice ∷ voices) p =
    let rest = ascending_after frames (voice.channel + 1) high voices p.2 in
    let above = p.0 in
    cond_both (is_ended frames voice) (voices_after frames voices)
    (voice_after frames voice ∷ voices_after frames voices) (IsAscending low high)
    (λ ended. ascending_from low (voice.channel + 1) high (voices_after frames voices) (omega arith) rest)
    (λ on. (p.0, p.1, rest))

-- ---- what is kept

false_true : false ≡ true → ⊥
false_true e = absurd cc

-- on a channel before those of all voices none ends
sounds_below : (frames low high c : ℕ) (voices : List Voice) → IsAscending low high voices → c < low
    → SoundsOn frames voices c
unfolding IsAscending
sounds_below frames low high c [] p lt = tt
sounds_below frames low high c (voice ∷ voices) p lt =
    let above = p.0 in
    let other : c ≢ voice.channel = omega arith in
    (λ ended. other, sounds_below frames (voice.channel + 1) high c voices p.2 (omega arith))

pub mixed_after : (keeps keeps_after : ℕ → SampleHead → Type 0) (channels frames low high : ℕ) (voices : List Voice)
    → IsAscending low high voices
    → All (IsMixed keeps channels) voices
    → ((c : ℕ) (h : SampleHead) → low ≤ c → SoundsOn frames voices c → keeps c h → keeps_after c h)
    → All (IsMixed keeps_after channels) (voices_after frames voices)
unfolding IsAscending
mixed_after keeps keeps_after channels frames low high [] p all stays = All-nil (IsMixed keeps_after channels)
mixed_after keeps keeps_after channels frames low high (voice ∷ voices) p all stays =
    let above = p.0 in
    let first = All-head (IsMixed keeps channels) voice voices all in
    let later : (c : ℕ) (h : SampleHead) → voice.channel + 1 ≤ c → SoundsOn frames voices c → keeps c h
    → keeps_after c h =
    λ c h le on k. let other : c ≢ voice.channel = omega arith in stays c h (omega arith) (λ ended. other, on) k in
    all_after (IsMixed keeps_after channels) frames voice voices
    (λ on. record {
      channel = first.channel;
      kept =
          stays voice.channel voice.head p.0 (
            λ ended.
                absurd (false_true (sym on ∙ ended)),
            sounds_below frames (voice.channel + 1) high voice.channel voices
                p.2 (omega arith),
          ) first.kept;
      range = voice_in_range frames voice first.range on;
    })
    (mixed_after keeps keeps_after channels frames (voice.channel + 1) high voices p.2
    (All-tail (IsMixed keeps channels) voice voices all) later)
