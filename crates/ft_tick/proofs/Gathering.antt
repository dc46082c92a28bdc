-- Voices that were gathered from channels in range.
use Rattle.std.proofs.Common.{◌≡◌, ℕ, zero, suc, ◌<◌, ◌||◌, Option, None, Some, List, [], ◌∷◌, ◌++◌, length, get_or, map, is_some, refl, ap, sym, subst, ◌∙◌, arith, option_to_list, rules}
use Rattle.std.specs.Prelude.{All}
use Rattle.std.proofs.lemmas.List.{length-map}
use Rattle.ft_types.specs.declared.voice.SampleHead.{SampleHead}
use Rattle.ft_types.specs.declared.voice.Voice.{Voice}
use Rattle.ft_replay.specs.declared.state.Channel.{Channel}
use Rattle.ft_replay.specs.State.{blank_channel}
use Rattle.ft_replay.specs.Calls.{IsKept, AreKept, AreVoicesKept, sounds_on}
use Rattle.ft_replay.specs.Range.{IsVoiceInRange, IsMemoryInRange, AreInRange}
use Rattle.ft_replay.specs.Standing.{gathered, emptied}
use Rattle.ft_tick.proofs.Ranges.{at_map}
use Rattle.ft_tick.proofs.Seating.{AllHome, back}
use Rattle.ft_tick.proofs.Sitting.{seated_sounds}

-- each voice of channels
EachVoice : (Voice → Type 0) → List Channel → Type 0
EachVoice P channels =
    (c : ℕ) (voice : Voice) → c < length channels → (get_or channels c blank_channel).voice ≡ Some voice → P voice

longer : (P : Voice → Type 0) (voice : Voice) (voices : List Voice) → P voice → All P voices → All P (voice ∷ voices)
longer P voice voices p all = λ i d lt. by i d lt
  where
    by : (i : ℕ) (d : Voice) → i < length (voice ∷ voices) → P (get_or (voice ∷ voices) i d)
    by zero d lt = p
    by (suc i) d lt = all i d (omega arith)

one_more : (P : Voice → Type 0) (voice : Option Voice) (voices : List Voice) → ((v : Voice) → voice ≡ Some v → P v)
    → All P voices → All P (option_to_list voice ++ voices)
one_more P None voices p all = all
one_more P (Some voice) voices p all = longer P voice voices (p voice refl) all

gathered_all : (P : Voice → Type 0) (channels : List Channel) → EachVoice P channels → All P (gathered channels)
unfolding EachVoice
gathered_all P [] each = λ i d lt. absurd (omega arith)
gathered_all P (channel ∷ channels) each =
    one_more P channel.voice (gathered channels) (λ v is. each zero v (omega arith) is)
    (gathered_all P channels (λ c v lt is. each (suc c) v (omega arith) is))

pub gathered_in_range : (channels : List Channel) → AreInRange channels → All IsVoiceInRange (gathered channels)
unfolding EachVoice
gathered_in_range channels p = gathered_all IsVoiceInRange channels (λ c v lt is. (p c lt).voice v is)

pub home_of : (channels : List Channel) → AreInRange channels → AllHome channels
home_of channels p = λ c voice lt is. (p c lt).home voice is

pub gathered_kept : (keeps : ℕ → SampleHead → Type 0) (channels : List Channel) → AreInRange channels
    → AreKept keeps channels → AreVoicesKept keeps (gathered channels)
unfolding EachVoice
gathered_kept keeps channels p k = gathered_all (λ voice. keeps voice.channel voice.head) channels
    (λ c v lt is.
    subst (λ (e : ℕ). keeps e v.head) (sym ((p c lt).home v is))
    (subst (λ (o : Option Voice). IsKept keeps c o) is (k c lt)))

-- a voice was gathered from each channel that had one
pub gathered_sounds : (channels : List Channel) (c : ℕ) → AreInRange channels → c < length channels
    → is_some (get_or channels c blank_channel).voice ≡ sounds_on c (gathered channels)
gathered_sounds channels c p lt =
    let empty = map emptied channels in
    let within : c < length empty = omega (arith, length-map channels emptied) in
    ap (λ (l : List Channel). is_some (get_or l c blank_channel).voice) (sym (back channels (home_of channels p)))
    ∙ seated_sounds empty (gathered channels) c within
    ∙ ap (λ (x : Channel). is_some x.voice || sounds_on c (gathered channels))
    (at_map emptied channels c blank_channel lt)

get_or-front : (front rest : List Channel) (c : ℕ) (d : Channel) → c < length front
    → get_or (front ++ rest) c d ≡ get_or front c d
get_or-front [] rest c d lt = absurd (omega arith)
get_or-front (x ∷ front) rest zero d lt = refl
get_or-front (x ∷ front) rest (suc c) d lt = get_or-front front rest c d (omega arith)

-- a channel whose voice was gathered
emptied_at : (channels rest : List Channel) (c : ℕ) → c < length channels
    → get_or (map emptied channels ++ rest) c blank_channel ≡ emptied (get_or channels c blank_channel)
emptied_at channels rest c lt =
    get_or-front (map emptied channels) rest c blank_channel (omega (arith, length-map channels emptied))
    ∙ at_map emptied channels c blank_channel lt

pub emptied_memory : (channels rest : List Channel) (c : ℕ) → AreInRange channels → c < length channels
    → IsMemoryInRange (get_or (map emptied channels ++ rest) c blank_channel)
emptied_memory channels rest c p lt =
    let memory = (p c lt).memory in
    subst IsMemoryInRange (sym (emptied_at channels rest c lt)) (search rules)

pub emptied_voice : (channels rest : List Channel) (c : ℕ) → c < length channels
    → (get_or (map emptied channels ++ rest) c blank_channel).voice ≡ None
emptied_voice channels rest c lt = ap (λ (x : Channel). x.voice) (emptied_at channels rest c lt)
