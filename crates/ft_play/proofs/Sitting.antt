-- Ascending voices that sit down on empty channels: who sits there is who came.
use Rattle.std.proofs.Common.{◌≡◌, ◌≢◌, ℕ, zero, suc, ◌+◌, ◌<◌, Option, None, Some, List, [], ◌∷◌, ◌++◌, length, get_or, set, map, eqb, refl, ap, sym, subst, ◌∙◌, arith, append_assoc, option_to_list}
use Rattle.std.proofs.lemmas.Bool.{cond_both, eqb-true, eqb-false}
use Rattle.std.proofs.lemmas.List.{length-append}
use Rattle.ft_types.specs.declared.voice.Voice.{Voice}
use Rattle.ft_replay.specs.declared.state.Channel.{Channel}
use Rattle.ft_replay.specs.State.{blank_channel}
use Rattle.ft_replay.specs.Standing.{seated, seat_of, gathered, emptied, IsAscending}

-- no channel has a voice
unfoldable pub AreEmpty : List Channel → Type 0
AreEmpty [] = Unit {0}
AreEmpty (channel ∷ channels) = (channel.voice ≡ None) × AreEmpty channels

pub are_empty : (channels : List Channel)
    → ((c : ℕ) → c < length channels → (get_or channels c blank_channel).voice ≡ None) → AreEmpty channels
unfolding AreEmpty
are_empty [] none = tt
are_empty (channel ∷ channels) none = (none zero (omega arith), are_empty channels (λ c lt. none (suc c) (omega arith)))

-- a channel's voice is on that channel, from one number on
unfoldable pub IsHome : ℕ → Option Voice → Type 0
IsHome c voice = (v : Voice) → voice ≡ Some v → v.channel ≡ c

unfoldable pub HomeFrom : ℕ → List Channel → Type 0
HomeFrom n [] = Unit {0}
HomeFrom n (channel ∷ channels) = IsHome n channel.voice × HomeFrom (n + 1) channels

-- the channels that come of it
pub record Sat (n : ℕ) (front channels : List Channel) (voices : List Voice) : Type 0 where
  pub channels_after : List Channel
  pub seats : seated (front ++ channels) voices ≡ front ++ channels_after
  pub came : gathered channels_after ≡ voices
  pub same : map emptied channels_after ≡ channels
  pub home : HomeFrom n channels_after

set_seam : (front rest : List Channel) (x y : Channel) → set (front ++ x ∷ rest) (length front) y ≡ front ++ y ∷ rest
set_seam [] rest x y = refl
set_seam (z ∷ front) rest x y = ap (λ (l : List Channel). z ∷ l) (set_seam front rest x y)

get_seam : (front rest : List Channel) (x d : Channel) → get_or (front ++ x ∷ rest) (length front) d ≡ x
get_seam [] rest x d = refl
get_seam (z ∷ front) rest x d = get_seam front rest x d

-- without voices nobody sits
nobody : (n : ℕ) (channels : List Channel) → AreEmpty channels
    → (gathered channels ≡ []) × (map emptied channels ≡ channels) × HomeFrom n channels
unfolding AreEmpty IsHome HomeFrom
nobody n [] e = (refl, refl, tt)
nobody n (channel ∷ channels) e =
    let rest = nobody (n + 1) channels e.1 in (
      ap (λ (v : Option Voice). option_to_list v ++ gathered channels) e.0 ∙ rest.0,
      ap (λ (v : Option Voice). (record channel { voice = v }) ∷ map emptied channels) (sym e.0)
          ∙ ap (λ (l : List Channel). channel ∷ l) rest.1,
      (λ v is. let none = e.0 in absurd cc, rest.2),
    )

-- the first channel stays empty
skip : (n : ℕ) (front channels : List Channel) (channel : Channel) (voices : List Voice) → channel.voice ≡ None
    → Sat (n + 1) (front ++ channel ∷ []) channels voices → Sat n front (channel ∷ channels) voices
unfolding IsHome HomeFrom
skip n front channels channel voices e s = record {
  channels_after = channel ∷ s.channels_after;
  seats =
      ap (λ (l : List Channel). seated l voices) (sym (append_assoc front (channel ∷ []) channels)) ∙ s.seats
      ∙ append_assoc front (channel ∷ []) s.channels_after;
  came = ap (λ (v : Option Voice). option_to_list v ++ gathered s.channels_after) e ∙ s.came;
  same =
      ap (λ (v : Option Voice). (record channel { voice = v }) ∷ map emptied s.channels_after) (sym e)
      ∙ ap (λ (l : List Channel). channel ∷ l) s.same;
  home = (λ v is. absurd cc, s.home);
}

-- a voice sits down on the first channel
sit : (n : ℕ) (front channels : List Channel) (channel : Channel) (voice : Voice) (voices : List Voice)
    → channel.voice ≡ None → voice.channel ≡ n → length front ≡ n
    → Sat (n + 1) (front ++ (record channel { voice = Some voice }) ∷ []) channels voices
    → Sat n front (channel ∷ channels) (voice ∷ voices)
unfolding IsHome HomeFrom
sit n front channels channel voice voices e at many s =
    let on : Channel = record channel { voice = Some voice } in
    let here : voice.channel ≡ length front = at ∙ sym many in
    let sits : seat_of voice (front ++ channel ∷ channels) ≡ front ++ on ∷ channels =
    ap
    (λ (k : ℕ).
    set (front ++ channel ∷ channels) k
    (record (get_or (front ++ channel ∷ channels) k blank_channel) { voice = Some voice })) here
    ∙ ap (λ (x : Channel). set (front ++ channel ∷ channels) (length front) (record x { voice = Some voice }))
    (get_seam front channels channel blank_channel)
    ∙ set_seam front channels channel on in
    record {
      channels_after = on ∷ s.channels_after;
      seats =
          ap (λ (l : List Channel). seated l voices) (sits ∙ sym (append_assoc front (on ∷ []) channels)) ∙ s.seats
          ∙ append_assoc front (on ∷ []) s.channels_after;
      came = ap (λ (l : List Voice). voice ∷ l) s.came;
      same =
          ap (λ (v : Option Voice). (record channel { voice = v }) ∷ map emptied s.channels_after) (sym e)
          ∙ ap (λ (l : List Channel). channel ∷ l) s.same;
      home = (λ v is. let same : voice ≡ v = cc in ap (λ (y : Voice). y.channel) (sym same) ∙ at, s.home);
    }

by_number : (n c : ℕ) (P : Type 0) → (c ≡ n → P) → (c ≢ n → P) → P
by_number n c P same other =
    cond_both (eqb c n) tt tt (λ (x : Unit {0}). P) (λ is. same (eqb-true c n is)) (λ is. other (eqb-false c n is))

pub longer : (n : ℕ) (front : List Channel) (x : Channel) → length front ≡ n → length (front ++ x ∷ []) ≡ n + 1
longer n front x e = omega (arith, length-append front (x ∷ []))

sat_from : (n high : ℕ) (front channels : List Channel) (voices : List Voice) → length front ≡ n
    → high ≡ n + length channels → AreEmpty channels → IsAscending n high voices → Sat n front channels voices
unfolding AreEmpty IsAscending HomeFrom
sat_from n high front [] [] e h empty ascend =
    record { channels_after = []; seats = refl; came = refl; same = refl; home = tt }
sat_from n high front [] (voice ∷ voices) e h empty ascend =
    let a = ascend.0 in let b = ascend.1 in absurd (omega arith)
sat_from n high front (channel ∷ channels) [] e h empty ascend =
    let nothing = nobody n (channel ∷ channels) empty in
    record { channels_after = channel ∷ channels; seats = refl; came = nothing.0; same = nothing.1; home = nothing.2 }
sat_from n high front (channel ∷ channels) (voice ∷ voices) e h empty ascend =
    let a = ascend.0 in
    by_number n voice.channel (Sat n front (channel ∷ channels) (voice ∷ voices))
    (λ is.
    sit n front channels channel voice voices empty.0 is e
    (sat_from (n + 1) high (front ++ (record channel { voice = Some voice }) ∷ []) channels voices
    (longer n front (record channel { voice = Some voice }) e) (omega arith) empty.1
    (subst (λ (k : ℕ). IsAscending (k + 1) high voices) is ascend.2)))
    (λ ne.
    skip n front channels channel (voice ∷ voices) empty.0
    (sat_from (n + 1) high (front ++ channel ∷ []) channels (voice ∷ voices) (longer n front channel e) (omega arith) empty.1 (omega arith, ascend.1, ascend.2)))

-- all voices sit on channels that there are
pub sat : (channels : List Channel) (voices : List Voice) → AreEmpty channels → IsAscending 0 (length channels) voices
    → Sat 0 [] channels voices
sat channels voices empty ascend = sat_from 0 (length channels) [] channels voices refl (omega arith) empty ascend

-- ---- voices that were gathered sit down again

sits_back : (front channels : List Channel) (channel : Channel) (voice : Option Voice) → channel.voice ≡ voice
    → IsHome (length front) voice
    → seated ((front ++ channel ∷ []) ++ map emptied channels) (gathered channels) ≡ (front ++ channel ∷ []) ++ channels
    → seated (front ++ emptied channel ∷ map emptied channels) (option_to_list voice ++ gathered channels)
    ≡ front ++ channel ∷ channels
unfolding IsHome
sits_back front channels channel None e h so_far =
    ap
    (λ (x : Option Voice).
    seated (front ++ (record channel { voice = x }) ∷ map emptied channels) (gathered channels)) (sym e)
    ∙ ap (λ (l : List Channel). seated l (gathered channels))
    (sym (append_assoc front (channel ∷ []) (map emptied channels))) ∙ so_far
    ∙ append_assoc front (channel ∷ []) channels
sits_back front channels channel (Some v) e h so_far =
    let rest = map emptied channels in
    let all : List Channel = front ++ emptied channel ∷ rest in
    let sits : seat_of v all ≡ front ++ channel ∷ rest =
    ap (λ (n : ℕ). set all n (record (get_or all n blank_channel) { voice = Some v })) (h v refl)
    ∙ ap (λ (x : Channel). set all (length front) (record x { voice = Some v }))
    (get_seam front rest (emptied channel) blank_channel)
    ∙ set_seam front rest (emptied channel) (record channel { voice = Some v })
    ∙ ap (λ (x : Option Voice). front ++ (record channel { voice = x }) ∷ rest) (sym e) in
    ap (λ (l : List Channel). seated l (gathered channels)) (sits ∙ sym (append_assoc front (channel ∷ []) rest))
    ∙ so_far ∙ append_assoc front (channel ∷ []) channels

back_from : (front channels : List Channel) → HomeFrom (length front) channels
    → seated (front ++ map emptied channels) (gathered channels) ≡ front ++ channels
unfolding HomeFrom
back_from front [] h = refl
back_from front (channel ∷ channels) h =
    let more : length front + 1 ≡ length (front ++ channel ∷ []) = omega (arith, length-append front (channel ∷ [])) in
    sits_back front channels channel channel.voice refl h.0
    (back_from (front ++ channel ∷ []) channels (subst (λ (n : ℕ). HomeFrom n channels) more h.1))

pub back : (channels : List Channel) → HomeFrom 0 channels
    → seated (map emptied channels) (gathered channels) ≡ channels
back channels h = back_from [] channels h
