-- A tick of a song between ticks: its sound, and what it leaves.
use Rattle.std.proofs.Common.{◌≡◌, ◌≢◌, ℕ, zero, suc, ◌+◌, ◌-◌, ◌<◌, ◌≤◌, ◌||◌, Bool, true, false, List, [], ◌∷◌, ◌++◌, Option, option_to_list, length, get_or, set, map, take, if◌then◌else◌, eqb, refl, ap, sym, subst, ◌∙◌, arith}
use Rattle.std.proofs.lemmas.Bool.{eq-eqb, ne_eqb, eqb-true, eqb-false, cond_both}
use Rattle.std.proofs.lemmas.List.{length-map, length-set, length-take, get_or-set_same, get_or-set_other}
use Rattle.ft_types.specs.declared.voice.Voice.{Voice}
use Rattle.ft_types.specs.Views.{Owned, Shown}
use Rattle.ft_replay.specs.declared.state.Channel.{Channel}
use Rattle.ft_replay.specs.declared.state.Control.{Control}
use Rattle.ft_replay.specs.State.{Lane, SequentialState, blank_channel}
use Rattle.ft_types.specs.declared.module.Module.{Module}
use Rattle.ft_replay.specs.Tick.{seq_tick, tick_state_of}
use Rattle.ft_replay.specs.Calls.{sounds_on}
use Rattle.ft_replay.specs.Range.{IsBetweenTicks}
use Rattle.ft_replay.specs.Sound.{sound_of, sound_of_voices, is_ended, voice_after, voices_after, shown_after, holds_after, lane_after}
use Rattle.ft_replay.specs.Standing.{lanes_of, seated, gathered, emptied, IsAscending}
use Rattle.ft_play.specs.Mixed.{voices_of}
use Rattle.ft_play.proofs.Sitting.{AreEmpty, are_empty, Sat, sat, back}
use Rattle.ft_play.proofs.Joined.{sound_joined, channel_after, kept_after, voices_joined, emptied_after, home_after, shown_joined, lanes_joined}

-- what is true of the voices of a song, and of the lanes in which they sit
pub record AreJoined (used frames : ℕ) (channels : List Channel) (voices : List Voice) (shown : Shown) : Type 0 where
  pub sound :
      sound_of_voices shown.kept voices frames
      ≡ sound_of (lanes_of (seated (take used channels) voices) shown.kept) frames
  pub lanes : lanes_of (seated (take used channels) (voices_after frames voices)) (shown_after frames voices shown).kept
      ≡ map (lane_after frames) (lanes_of (seated (take used channels) voices) shown.kept)
  pub version : (shown_after frames voices shown).version ≡ shown.version
  pub song : (shown_after frames voices shown).song ≡ shown.song

get_or-take : (channels : List Channel) (n c : ℕ) (d : Channel) → c < n
    → get_or (take n channels) c d ≡ get_or channels c d
get_or-take [] zero c d lt = refl
get_or-take [] (suc n) c d lt = refl
get_or-take (channel ∷ channels) zero c d lt = absurd (omega arith)
get_or-take (channel ∷ channels) (suc n) zero d lt = refl
get_or-take (channel ∷ channels) (suc n) (suc c) d lt = get_or-take channels n c d (omega arith)

sat_joined : (empty : List Channel) (frames : ℕ) (voices : List Voice) (shown : Shown) (s : Sat 0 [] empty voices)
    → length empty ≤ length shown.kept
    → (sound_of_voices shown.kept voices frames ≡ sound_of (lanes_of (seated empty voices) shown.kept) frames)
    × (lanes_of (seated empty (voices_after frames voices)) (shown_after frames voices shown).kept
    ≡ map (lane_after frames) (lanes_of (seated empty voices) shown.kept))
    × (shown_after frames voices shown ≡ record shown { kept = kept_after frames s.channels_after shown.kept })
sat_joined empty frames voices shown s le =
    let m = s.channels_after in
    let n = map (channel_after frames) m in
    let many : length m ≡ length empty = sym (length-map m emptied) ∙ ap (λ (l : List Channel). length l) s.same in
    let room : length m ≤ length shown.kept = omega (arith, many) in
    let after : shown_after frames voices shown ≡ record shown { kept = kept_after frames m shown.kept } =
    ap (λ (l : List Voice). shown_after frames l shown) (sym s.came)
    ∙ shown_joined frames [] shown.kept m shown room s.home refl in
    let sits : seated empty (voices_after frames voices) ≡ n =
    ap (λ (l : List Channel). seated l (voices_after frames voices)) (sym s.same ∙ sym (emptied_after frames m))
    ∙ ap (λ (l : List Voice). seated (map emptied n) l) (ap (voices_after frames) (sym s.came) ∙ voices_joined frames m)
    ∙ back n (home_after 0 frames m s.home) in (
      ap (λ (l : List Voice). sound_of_voices shown.kept l frames) (sym s.came)
          ∙ sound_joined shown.kept m frames room s.home
          ∙ ap (λ (l : List Channel). sound_of (lanes_of l shown.kept) frames) (sym s.seats),
      ap (λ (l : List Channel). lanes_of l (shown_after frames voices shown).kept) sits
          ∙ ap (λ (x : Shown). lanes_of n x.kept) after
          ∙ lanes_joined frames m shown.kept room
          ∙ ap (λ (l : List Channel). map (lane_after frames) (lanes_of l shown.kept)) (sym s.seats),
      after,
    )

pub joined : (used frames : ℕ) (time : Control) (channels : List Channel) (voices : List Voice) (shown : Shown)
    → IsBetweenTicks used time channels voices → used ≤ length shown.kept
    → AreJoined used frames channels voices shown
joined used frames time channels voices shown p room =
    let le = p.room in
    let empty = take used channels in
    let many : length empty ≡ used = omega (arith, length-take used channels) in
    let none : AreEmpty empty = are_empty empty (λ c lt.
    ap (λ (x : Channel). x.voice) (get_or-take channels used c blank_channel (omega arith))
    ∙ p.seats c (omega arith)) in
    let s = sat empty voices none (subst (λ (n : ℕ). IsAscending 0 n voices) (sym many) p.ascend) in
    let all = sat_joined empty frames voices shown s (omega arith) in
    record {
      sound = all.0;
      lanes = all.1;
      version = ap (λ (x : Shown). x.version) all.2;
      song = ap (λ (x : Shown). x.song) all.2;
    }

-- ---- the voices of lanes

of_lanes : (channels : List Channel) (kept : List (Option Owned)) → voices_of (lanes_of channels kept) ≡ gathered channels
of_lanes [] kept = refl
of_lanes (channel ∷ channels) [] = ap (λ (l : List Voice). option_to_list channel.voice ++ l) (of_lanes channels [])
of_lanes (channel ∷ channels) (owned ∷ kept) =
    ap (λ (l : List Voice). option_to_list channel.voice ++ l) (of_lanes channels kept)

-- they are those of the list between ticks
pub voices_there : (used : ℕ) (time : Control) (channels : List Channel) (voices : List Voice) (shown : Shown)
    → IsBetweenTicks used time channels voices
    → voices_of (lanes_of (seated (take used channels) voices) shown.kept) ≡ voices
voices_there used time channels voices shown p =
    let le = p.room in
    let empty = take used channels in
    let many : length empty ≡ used = omega (arith, length-take used channels) in
    let none : AreEmpty empty = are_empty empty (λ c lt.
    ap (λ (x : Channel). x.voice) (get_or-take channels used c blank_channel (omega arith))
    ∙ p.seats c (omega arith)) in
    let s = sat empty voices none (subst (λ (n : ℕ). IsAscending 0 n voices) (sym many) p.ascend) in
    ap (λ (l : List Channel). voices_of (lanes_of l shown.kept)) s.seats ∙ of_lanes s.channels_after shown.kept
    ∙ s.came

-- ---- which channels keep something

by_number : (n c : ℕ) (P : Type 0) → (c ≡ n → P) → (c ≢ n → P) → P
by_number n c P same other =
    cond_both (eqb c n) tt tt (λ (x : Unit {0}). P) (λ is. same (eqb-true c n is)) (λ is. other (eqb-false c n is))

-- no later voice is on a channel before
none_before : (low high c : ℕ) (voices : List Voice) → c < low → IsAscending low high voices
    → sounds_on c voices ≡ false
unfolding IsAscending
none_before low high c [] lt p = refl
none_before low high c (voice ∷ voices) lt p =
    let from = p.0 in
    let far : eqb voice.channel c ≡ false = ne_eqb voice.channel c (λ e. absurd (omega (arith, e))) in
    ap (λ (b : Bool). b || sounds_on c voices) far ∙ none_before (voice.channel + 1) high c voices (omega arith) p.2

-- so also of those that go on
none_left_by : (b : Bool) (low high c frames : ℕ) (voice : Voice) (voices : List Voice) → eqb voice.channel c ≡ false
    → sounds_on c (voices_after frames voices) ≡ false
    → sounds_on c (if b then voices_after frames voices else voice_after frames voice ∷ voices_after frames voices)
    ≡ false
none_left_by true low high c frames voice voices far rest = rest
none_left_by false low high c frames voice voices far rest =
    ap (λ (b : Bool). b || sounds_on c (voices_after frames voices)) far ∙ rest

none_left : (low high c frames : ℕ) (voices : List Voice) → c < low → IsAscending low high voices
    → sounds_on c (voices_after frames voices) ≡ false
unfolding IsAscending
none_left low high c frames [] lt p = refl
none_left low high c frames (voice ∷ voices) lt p =
    let from = p.0 in
    none_left_by (is_ended frames voice) low high c frames voice voices
    (ne_eqb voice.channel c (λ e. absurd (omega (arith, e))))
    (none_left (voice.channel + 1) high c frames voices (omega arith) p.2)

-- a channel before all voices keeps what it keeps
untouched_by : (b : Bool) (frames c : ℕ) (voice : Voice) (voices : List Voice) (held : List Bool) → c ≢ voice.channel
    → ((flags : List Bool) → get_or (holds_after frames voices flags) c false ≡ get_or flags c false)
    → get_or (if b then holds_after frames voices (set held voice.channel false) else holds_after frames voices held) c
    false ≡ get_or held c false
untouched_by true frames c voice voices held ne rest =
    rest (set held voice.channel false) ∙ get_or-set_other held voice.channel c false false ne
untouched_by false frames c voice voices held ne rest = rest held

untouched : (low high c frames : ℕ) (voices : List Voice) (held : List Bool) → c < low → IsAscending low high voices
    → get_or (holds_after frames voices held) c false ≡ get_or held c false
unfolding IsAscending
untouched low high c frames [] held lt p = refl
untouched low high c frames (voice ∷ voices) held lt p =
    let from = p.0 in
    untouched_by (is_ended frames voice) frames c voice voices held (λ e. absurd (omega (arith, e)))
    (λ flags. untouched (voice.channel + 1) high c frames voices flags (omega arith) p.2)

-- the voice's own channel
own_by : (b : Bool) (low high c frames : ℕ) (voice : Voice) (voices : List Voice) (held : List Bool) → c ≡ voice.channel
    → c < length held → IsAscending (voice.channel + 1) high voices → get_or held c false ≡ true
    → get_or (if b then holds_after frames voices (set held voice.channel false) else holds_after frames voices held) c
    false
    ≡ sounds_on c (if b then voices_after frames voices else voice_after frames voice ∷ voices_after frames voices)
own_by true low high c frames voice voices held is lt p e =
    untouched (voice.channel + 1) high c frames voices (set held voice.channel false) (omega (arith, is)) p
    ∙ ap (λ (n : ℕ). get_or (set held voice.channel false) n false) is
    ∙ get_or-set_same held voice.channel false false (omega (arith, is))
    ∙ sym (none_left (voice.channel + 1) high c frames voices (omega (arith, is)) p)
own_by false low high c frames voice voices held is lt p e =
    untouched (voice.channel + 1) high c frames voices held (omega (arith, is)) p ∙ e
    ∙ ap (λ (b : Bool). b || sounds_on c (voices_after frames voices)) (sym (eq-eqb voice.channel c (sym is)))

other_by : (b : Bool) (c frames : ℕ) (voice : Voice) (voices : List Voice) (held : List Bool) → c ≢ voice.channel
    → eqb voice.channel c ≡ false → c < length held → get_or held c false ≡ sounds_on c voices
    → ((flags : List Bool) → c < length flags → get_or flags c false ≡ sounds_on c voices
    → get_or (holds_after frames voices flags) c false ≡ sounds_on c (voices_after frames voices))
    → get_or (if b then holds_after frames voices (set held voice.channel false) else holds_after frames voices held) c
    false
    ≡ sounds_on c (if b then voices_after frames voices else voice_after frames voice ∷ voices_after frames voices)
other_by true c frames voice voices held ne far lt e rest =
    rest (set held voice.channel false) (omega (arith, length-set held voice.channel false))
    (get_or-set_other held voice.channel c false false ne ∙ e)
other_by false c frames voice voices held ne far lt e rest =
    rest held lt e ∙ ap (λ (b : Bool). b || sounds_on c (voices_after frames voices)) (sym far)

pub exact_after : (low high c frames : ℕ) (voices : List Voice) (held : List Bool) → IsAscending low high voices
    → c < length held → get_or held c false ≡ sounds_on c voices
    → get_or (holds_after frames voices held) c false ≡ sounds_on c (voices_after frames voices)
unfolding IsAscending
exact_after low high c frames [] held p lt e = e
exact_after low high c frames (voice ∷ voices) held p lt e =
    by_number voice.channel c _
    (λ is. own_by (is_ended frames voice) low high c frames voice voices held is lt p.2
    (e ∙ ap (λ (b : Bool). b || sounds_on c voices) (eq-eqb voice.channel c (sym is))))
    (λ ne.
    let far : eqb voice.channel c ≡ false = ne_eqb voice.channel c (λ x. ne (sym x)) in
    other_by (is_ended frames voice) c frames voice voices held ne far lt
    (e ∙ ap (λ (b : Bool). b || sounds_on c voices) far)
    (λ flags within f. exact_after (voice.channel + 1) high c frames voices flags p.2 within f))

-- no more voices than channels
pub few_voices : (low high : ℕ) (voices : List Voice) → low ≤ high → IsAscending low high voices
    → length voices ≤ high - low
unfolding IsAscending
few_voices low high [] le p = omega arith
few_voices low high (voice ∷ voices) le p =
    let from = p.0 in let to = p.1 in
    let rest = few_voices (voice.channel + 1) high voices (omega arith) p.2 in omega arith

-- ---- a tick from its parts

pub tick_state : (version : ℕ) (song : Module) (rate : ℕ) (state silent after : SequentialState) (frames : ℕ)
    → silent ≡ (tick_state_of version song rate state).state
    → frames ≡ (tick_state_of version song rate state).place.frames
    → after.control ≡ silent.control → after.lanes ≡ map (lane_after frames) silent.lanes
    → after ≡ (seq_tick version song rate state).state
unfolding seq_tick
tick_state version song rate state silent after frames made many control lanes =
    ap (λ (l : List Lane). record { control = after.control; lanes = l }) lanes
    ∙ rw (control, many)
    (ap
    (λ (s : SequentialState).
    record s { lanes = map (lane_after (tick_state_of version song rate state).place.frames) s.lanes }) made)

pub tick_place : (version : ℕ) (song : Module) (rate : ℕ) (state : SequentialState)
    → (tick_state_of version song rate state).place ≡ (seq_tick version song rate state).place
unfolding seq_tick
tick_place version song rate state = refl

pub tick_sound : (version : ℕ) (song : Module) (rate : ℕ) (state silent : SequentialState) (frames : ℕ)
    → silent ≡ (tick_state_of version song rate state).state
    → frames ≡ (tick_state_of version song rate state).place.frames
    → sound_of silent.lanes frames ≡ (seq_tick version song rate state).sound
unfolding seq_tick
tick_sound version song rate state silent frames made many = rw (made, many) refl
