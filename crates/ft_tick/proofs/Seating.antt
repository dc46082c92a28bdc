-- Voices that leave their channels and come back.
use Rattle.std.proofs.Common.{◌≡◌, ℕ, zero, suc, ◌+◌, ◌≤◌, ◌<◌, List, [], ◌∷◌, ◌++◌, Option, None, Some, length, get_or, set, map, take, drop, refl, ap, sym, subst, ◌∙◌, arith, append_assoc, add-one, option_to_list, drop-cons}
use Rattle.std.specs.Prelude.{All}
use Rattle.std.proofs.lemmas.List.{drop-set-lt, length-append, length-map}
use Rattle.std.proofs.Math.Seq.{take-append_seam}
use Rattle.ft_types.specs.declared.voice.Voice.{Voice}
use Rattle.ft_replay.specs.declared.state.Channel.{Channel}
use Rattle.ft_replay.specs.State.{blank_channel}
use Rattle.ft_replay.specs.Standing.{seated, seat_of, gathered, emptied, IsAscending}

set_seam : (front rest : List Channel) (x y : Channel) → set (front ++ x ∷ rest) (length front) y ≡ front ++ y ∷ rest
set_seam [] rest x y = refl
set_seam (z ∷ front) rest x y = ap (λ (l : List Channel). z ∷ l) (set_seam front rest x y)

get_seam : (front rest : List Channel) (x d : Channel) → get_or (front ++ x ∷ rest) (length front) d ≡ x
get_seam [] rest x d = refl
get_seam (z ∷ front) rest x d = get_seam front rest x d

-- a channel's own voice is on that channel
abbrev pub AllHome : List Channel → Type 0
AllHome channels =
    (c : ℕ) (voice : Voice) → c < length channels → (get_or channels c blank_channel).voice ≡ Some voice
    → voice.channel ≡ c

-- a voice that is there is on this channel
IsHome : ℕ → Option Voice → Type 0
IsHome c voice = (v : Voice) → voice ≡ Some v → v.channel ≡ c

HomeFrom : ℕ → List Channel → Type 0
HomeFrom n [] = Unit {0}
HomeFrom n (channel ∷ channels) = IsHome n channel.voice × HomeFrom (n + 1) channels

by_voice : (front channels : List Channel) (channel : Channel) (voice : Option Voice) → channel.voice ≡ voice
    → IsHome (length front) voice
    → seated ((front ++ channel ∷ []) ++ map emptied channels) (gathered channels) ≡ (front ++ channel ∷ []) ++ channels
    → seated (front ++ emptied channel ∷ map emptied channels) (option_to_list voice ++ gathered channels)
    ≡ front ++ channel ∷ channels
unfolding IsHome
by_voice front channels channel None e h so_far =
    ap
    (λ (x : Option Voice).
    seated (front ++ (record channel { voice = x }) ∷ map emptied channels) (gathered channels)) (sym e)
    ∙ ap (λ (l : List Channel). seated l (gathered channels))
    (sym (append_assoc front (channel ∷ []) (map emptied channels))) ∙ so_far
    ∙ append_assoc front (channel ∷ []) channels
by_voice front channels channel (Some v) e h so_far =
    let rest = map emptied channels in
    let all : List Channel = front ++ emptied channel ∷ rest in
    let sits : seat_of v all ≡ front ++ channel ∷ rest =
    ap (λ (n : ℕ). set all n (record (get_or all n blank_channel) { voice = Some v })) (h v refl)
    ∙ ap (λ (x : Channel). set all (length front) (record x { voice = Some v }))
    (get_seam front rest (emptied channel) blank_channel)
    ∙ set_seam front rest (emptied channel) (record channel { voice = Some v })
    ∙ ap (λ (x : Option Voice). front ++ (record channel { voice = x }) ∷ rest) (sym e) in
    ap (λ (l : List Channel). seated l (gathered channels)) (sits ∙ sym (append_assoc front (channel ∷ []) rest))
    ∙ so_far ∙ append_assoc front (channel ∷ []) channels

back_from : (front channels : List Channel) → HomeFrom (length front) channels
    → seated (front ++ map emptied channels) (gathered channels) ≡ front ++ channels
unfolding HomeFrom
back_from front [] h = refl
back_from front (channel ∷ channels) h =
    let longer : length front + 1 ≡ length (front ++ channel ∷ []) =
    omega (arith, length-append front (channel ∷ [])) in
    by_voice front channels channel channel.voice refl h.0
    (back_from (front ++ channel ∷ []) channels (subst (λ (n : ℕ). HomeFrom n channels) longer h.1))

home_from : (n : ℕ) (channels : List Channel)
    → ((c : ℕ) → c < length channels → IsHome (n + c) (get_or channels c blank_channel).voice) → HomeFrom n channels
unfolding HomeFrom
home_from n [] h = tt
home_from n (channel ∷ channels) h =
    let none : n + 0 ≡ n = omega arith in (
      subst (λ (k : ℕ). IsHome k channel.voice) none (h 0 (omega arith)),
      home_from (n + 1) channels (λ c lt. let k : n + (c + 1) ≡ n + 1 + c = omega arith in
          subst (λ (j : ℕ). IsHome j (get_or channels c blank_channel).voice) k
          (subst (λ (j : ℕ). IsHome (n + j) (get_or channels c blank_channel).voice) (sym (add-one c)) (h (suc c) (omega arith)))),
    )

all_home : (channels : List Channel) → AllHome channels → HomeFrom 0 channels
unfolding IsHome
all_home channels h =
    home_from 0 channels
    (λ c lt.
    let k : 0 + c ≡ c = omega arith in
    subst (λ (j : ℕ). IsHome j (get_or channels c blank_channel).voice) (sym k) (λ v is. h c v lt is))

-- the voices of channels, seated again
pub back : (channels : List Channel) → AllHome channels → seated (map emptied channels) (gathered channels) ≡ channels
back channels h = back_from [] channels (all_home channels h)

-- one voice more is seated
pub next_seat : (channels : List Channel) (voices : List Voice) (k : ℕ) (d : Voice) → k < length voices
    → seated channels (drop k voices) ≡ seated (seat_of (get_or voices k d) channels) (drop (k + 1) voices)
next_seat channels voices k d lt = rw (drop-cons voices k d lt, add-one k) refl

next_gather : (channels : List Channel) (k : ℕ) (d : Channel) → k < length channels
    → gathered (drop k channels) ≡ option_to_list (get_or channels k d).voice ++ gathered (drop (k + 1) channels)
next_gather channels k d lt = rw (drop-cons channels k d lt, add-one k) refl

-- one voice more is gathered
pub more_gathered : (on : List Voice) (channels : List Channel) (c : ℕ) (x : Channel) (total : List Voice)
    → c < length channels → on ++ gathered (drop c channels) ≡ total
    → (on ++ option_to_list (get_or channels c blank_channel).voice) ++ gathered (drop (c + 1) (set channels c x))
    ≡ total
more_gathered on channels c x total lt e =
    append_assoc on (option_to_list (get_or channels c blank_channel).voice)
    (gathered (drop (c + 1) (set channels c x)))
    ∙ ap (λ (l : List Channel). on ++ (option_to_list (get_or channels c blank_channel).voice ++ gathered l))
    (drop-set-lt (c + 1) channels c x (omega arith))
    ∙ ap (λ (l : List Voice). on ++ l) (sym (next_gather channels c blank_channel lt)) ∙ e

-- the meaning of channels whose voices were gathered
pub gathered_state : (channels rest : List Channel) (n : ℕ) → n ≡ length channels → AllHome channels
    → seated (take n (map emptied channels ++ rest)) (gathered channels) ≡ channels
gathered_state channels rest n e h =
    let k : n ≡ length (map emptied channels) = e ∙ sym (length-map channels emptied) in
    rw (k, take-append_seam (map emptied channels) rest) (back channels h)

-- ---- where gathered voices are

ascending_from : (low more high : ℕ) (voices : List Voice) → low ≤ more → IsAscending more high voices
    → IsAscending low high voices
unfolding IsAscending
ascending_from low more high [] le p = tt
ascending_from low more high (voice ∷ voices) le p = let first = p.0 in (omega arith, p.1, p.2)

one_then : (n high : ℕ) (voice : Option Voice) (rest : List Voice) → n < high → IsHome n voice
    → IsAscending (n + 1) high rest → IsAscending n high (option_to_list voice ++ rest)
unfolding IsHome IsAscending
one_then n high None rest lt h p = ascending_from n (n + 1) high rest (omega arith) p
one_then n high (Some voice) rest lt h p =
    let here = h voice refl in
    (omega arith, omega arith, subst (λ (k : ℕ). IsAscending (k + 1) high rest) (sym here) p)

gathered_from : (n high : ℕ) (channels : List Channel) → n + length channels ≤ high → HomeFrom n channels
    → IsAscending n high (gathered channels)
unfolding HomeFrom IsAscending
gathered_from n high [] le h = tt
gathered_from n high (channel ∷ channels) le h =
    one_then n high channel.voice (gathered channels) (omega arith) h.0
    (gathered_from (n + 1) high channels (omega arith) h.1)

-- gathered voices are in ascending channels, none twice
pub gathered_ascend : (channels : List Channel) → AllHome channels → IsAscending 0 (length channels) (gathered channels)
gathered_ascend channels h = gathered_from 0 (length channels) channels (omega arith) (all_home channels h)

pub below_of : (low high : ℕ) (voices : List Voice) → IsAscending low high voices → (i : ℕ) (d : Voice)
    → i < length voices → (get_or voices i d).channel < high
unfolding IsAscending
below_of low high [] p i d lt = absurd (omega arith)
below_of low high (voice ∷ voices) p zero d lt = p.1
below_of low high (voice ∷ voices) p (suc i) d lt = below_of (voice.channel + 1) high voices p.2 i d (omega arith)

-- on the channels that there are
pub gathered_below : (channels : List Channel) → AllHome channels
    → All (λ voice. voice.channel < length channels) (gathered channels)
gathered_below channels h = below_of 0 (length channels) (gathered channels) (gathered_ascend channels h)
