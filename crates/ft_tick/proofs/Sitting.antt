-- Channels with the voices that sit on them.
use Rattle.std.proofs.Common.{◌≡◌, ℕ, zero, suc, ◌+◌, ◌<◌, ◌≤◌, ◌||◌, Bool, true, false, Option, None, Some, List, [], ◌∷◌, length, get_or, set, take, is_some, eqb, refl, ap, sym, subst, ◌∙◌, arith, rules}
use Rattle.std.specs.Prelude.{All}
use Rattle.std.proofs.lemmas.Bool.{eq-eqb, ne_eqb}
use Rattle.std.proofs.lemmas.List.{length-set, length-take, get_or-set_same, get_or-set_other}
use Rattle.ft_types.specs.declared.voice.SampleHead.{SampleHead}
use Rattle.ft_types.specs.declared.voice.Voice.{Voice}
use Rattle.ft_replay.specs.declared.state.Channel.{Channel}
use Rattle.ft_replay.specs.State.{blank_channel}
use Rattle.ft_replay.specs.Calls.{IsKept, AreKept, AreVoicesKept, sounds_on}
use Rattle.ft_replay.specs.Range.{IsVoiceInRange, IsMemoryInRange, IsChannelInRange, AreInRange}
use Rattle.ft_replay.specs.Standing.{seat_of, seated, IsAscending}
use Rattle.ft_tick.proofs.Kept.{either, set_in_range}

-- the first of all, and the others
first : (P : Voice → Type 0) (voice : Voice) (voices : List Voice) → All P (voice ∷ voices) → P voice
first P voice voices all = all zero voice (omega arith)

others : (P : Voice → Type 0) (voice : Voice) (voices : List Voice) → All P (voice ∷ voices) → All P voices
others P voice voices all = λ i d lt. all (suc i) d (omega arith)

-- ---- ranges

seat_in_range : (voice : Voice) (channels : List Channel) → voice.channel < length channels → IsVoiceInRange voice
    → AreInRange channels → AreInRange (seat_of voice channels)
seat_in_range voice channels lt v p =
    let old = p voice.channel lt in
    set_in_range channels voice.channel (record (get_or channels voice.channel blank_channel) { voice = Some voice }) lt
    (record {
      memory = search rules;
      voice = λ x is. let same : voice ≡ x = cc in subst IsVoiceInRange same v;
      home = λ x is. let same : voice ≡ x = cc in ap (λ (y : Voice). y.channel) (sym same);
    }) p

pub seated_in_range : (low high : ℕ) (channels : List Channel) (voices : List Voice) → IsAscending low high voices
    → high ≤ length channels → All IsVoiceInRange voices → AreInRange channels
    → AreInRange (seated channels voices)
unfolding IsAscending
seated_in_range low high channels [] ascend le v p = p
seated_in_range low high channels (voice ∷ voices) ascend le v p =
    let inside = ascend.1 in
    seated_in_range (voice.channel + 1) high (seat_of voice channels) voices ascend.2
    (omega (
      arith,
      length-set channels voice.channel
          (record (get_or channels voice.channel blank_channel) { voice = Some voice }),
    ))
    (others IsVoiceInRange voice voices v)
    (seat_in_range voice channels (omega arith) (first IsVoiceInRange voice voices v) p)

get_or-take : (channels : List Channel) (n c : ℕ) (d : Channel) → c < n
    → get_or (take n channels) c d ≡ get_or channels c d
get_or-take [] zero c d lt = refl
get_or-take [] (suc n) c d lt = refl
get_or-take (channel ∷ channels) zero c d lt = absurd (omega arith)
get_or-take (channel ∷ channels) (suc n) zero d lt = refl
get_or-take (channel ∷ channels) (suc n) (suc c) d lt = get_or-take channels n c d (omega arith)

-- channels of which none has a voice are in range where their memories are
pub empty_in_range : (channels : List Channel) (used : ℕ) → used ≤ length channels
    → ((c : ℕ) → c < used → IsMemoryInRange (get_or channels c blank_channel))
    → ((c : ℕ) → c < used → (get_or channels c blank_channel).voice ≡ None)
    → AreInRange (take used channels)
empty_in_range channels used le memories none c lt =
    let inside : c < used = omega (arith, length-take used channels) in
    subst (IsChannelInRange c) (sym (get_or-take channels used c blank_channel inside)) (record {
      memory = memories c inside;
      voice = λ voice is. let e = none c inside in absurd cc;
      home = λ voice is. let e = none c inside in absurd cc;
    })

pub none_taken : (channels : List Channel) (used : ℕ)
    → ((c : ℕ) → c < used → (get_or channels c blank_channel).voice ≡ None)
    → (c : ℕ) → c < used → (get_or (take used channels) c blank_channel).voice ≡ None
none_taken channels used none c lt =
    ap (λ (x : Channel). x.voice) (get_or-take channels used c blank_channel lt) ∙ none c lt

-- ---- what is kept

seat_kept : (keeps : ℕ → SampleHead → Type 0) (voice : Voice) (channels : List Channel)
    → voice.channel < length channels → keeps voice.channel voice.head → AreKept keeps channels
    → AreKept keeps (seat_of voice channels)
seat_kept keeps voice channels lt k p c within =
    let new = record (get_or channels voice.channel blank_channel) { voice = Some voice } in
    either voice.channel c (IsKept keeps c (get_or (set channels voice.channel new) c blank_channel).voice)
    (λ is. subst (λ (e : ℕ). IsKept keeps e (get_or (set channels voice.channel new) e blank_channel).voice) (sym is)
    (subst (λ (x : Channel). IsKept keeps voice.channel x.voice) (sym (get_or-set_same channels voice.channel new blank_channel lt)) k))
    (λ ne.
    subst (λ (x : Channel). IsKept keeps c x.voice)
    (sym (get_or-set_other channels voice.channel c new blank_channel ne))
    (p c (omega (arith, length-set channels voice.channel new))))

pub seated_kept : (keeps : ℕ → SampleHead → Type 0) (low high : ℕ) (channels : List Channel) (voices : List Voice)
    → IsAscending low high voices → high ≤ length channels
    → AreVoicesKept keeps voices → AreKept keeps channels → AreKept keeps (seated channels voices)
unfolding IsAscending
seated_kept keeps low high channels [] ascend le v p = p
seated_kept keeps low high channels (voice ∷ voices) ascend le v p =
    let inside = ascend.1 in
    seated_kept keeps (voice.channel + 1) high (seat_of voice channels) voices ascend.2
    (omega (
      arith,
      length-set channels voice.channel
          (record (get_or channels voice.channel blank_channel) { voice = Some voice }),
    ))
    (others (λ x. keeps x.channel x.head) voice voices v)
    (seat_kept keeps voice channels (omega arith) (first (λ x. keeps x.channel x.head) voice voices v) p)

pub none_kept : (keeps : ℕ → SampleHead → Type 0) (channels : List Channel)
    → ((c : ℕ) → c < length channels → (get_or channels c blank_channel).voice ≡ None) → AreKept keeps channels
none_kept keeps channels none c lt = subst (λ (v : Option Voice). IsKept keeps c v) (sym (none c lt)) tt

-- ---- and exactly that

or_false : (b : Bool) → (b || false) ≡ b
or_false true = refl
or_false false = refl

or_true : (b : Bool) → true ≡ (b || true)
or_true true = refl
or_true false = refl

-- a channel has a voice where it had one, or one sits down on it
pub seated_sounds : (channels : List Channel) (voices : List Voice) (c : ℕ) → c < length channels
    → is_some (get_or (seated channels voices) c blank_channel).voice
    ≡ (is_some (get_or channels c blank_channel).voice || sounds_on c voices)
seated_sounds channels [] c lt = sym (or_false (is_some (get_or channels c blank_channel).voice))
seated_sounds channels (voice ∷ voices) c lt =
    let new = record (get_or channels voice.channel blank_channel) { voice = Some voice } in
    let more = seated_sounds (seat_of voice channels) voices c (omega (arith, length-set channels voice.channel new)) in
    either voice.channel c (is_some (get_or (seated (seat_of voice channels) voices) c blank_channel).voice
    ≡ (is_some (get_or channels c blank_channel).voice || (eqb voice.channel c || sounds_on c voices)))
    (λ is.
    let here : get_or (set channels voice.channel new) c blank_channel ≡ new =
    ap (λ (e : ℕ). get_or (set channels voice.channel new) e blank_channel) is
    ∙ get_or-set_same channels voice.channel new blank_channel (omega (arith, is)) in
    let same : eqb voice.channel c ≡ true = eq-eqb voice.channel c (sym is) in
    more ∙ ap (λ (x : Channel). is_some x.voice || sounds_on c voices) here
    ∙ or_true (is_some (get_or channels c blank_channel).voice)
    ∙ ap (λ (b : Bool). is_some (get_or channels c blank_channel).voice || (b || sounds_on c voices)) (sym same))
    (λ ne.
    let far : eqb voice.channel c ≡ false = ne_eqb voice.channel c (λ e. ne (sym e)) in
    more
    ∙ ap (λ (x : Channel). is_some x.voice || sounds_on c voices)
    (get_or-set_other channels voice.channel c new blank_channel ne)
    ∙ ap (λ (b : Bool). is_some (get_or channels c blank_channel).voice || (b || sounds_on c voices)) (sym far))
