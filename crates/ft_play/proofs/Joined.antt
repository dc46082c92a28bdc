-- Voices between ticks, and the lanes in which they sit: their sums are the same, and what a tick leaves of them.
use Rattle.std.proofs.Common.{◌≡◌, ℕ, zero, suc, ◌+◌, ◌≤◌, ℤ, ◌+ℤ◌, Bool, true, false, Option, None, Some, List, [], ◌∷◌, ◌++◌, length, get_or, set, map, if◌then◌else◌, refl, ap, sym, subst, ◌∙◌, arith, append_assoc, option_to_list}
use Rattle.std.proofs.lemmas.Int.{ints}
use Rattle.std.proofs.lemmas.List.{length-append}
use Rattle.ft_types.specs.declared.voice.Voice.{Voice}
use Rattle.ft_types.specs.Views.{Owned, Shown, keeping}
use Rattle.ft_replay.specs.declared.state.Channel.{Channel}
use Rattle.ft_replay.specs.State.{Lane}
use Rattle.ft_replay.specs.Sound.{lanes_sum, lane_adds, voices_sum, left_of, right_of, stereo, frame_at, sound_of, frame_of_voices, sound_of_voices, is_ended, voice_after, voices_after, shown_after, lane_after, lane_after_by}
use Rattle.ft_replay.specs.Row.{without_voice}
use Rattle.ft_replay.specs.Standing.{lanes_of, gathered, emptied}
use Rattle.ft_play.proofs.Sitting.{HomeFrom, IsHome}

at_seam : {X : Type 0} (front rest : List X) (x d : X) → get_or (front ++ x ∷ rest) (length front) d ≡ x
at_seam [] rest x d = refl
at_seam (z ∷ front) rest x d = at_seam front rest x d

set_seam : {X : Type 0} (front rest : List X) (x y : X) → set (front ++ x ∷ rest) (length front) y ≡ front ++ y ∷ rest
set_seam [] rest x y = refl
set_seam {X = X} (z ∷ front) rest x y = ap (λ (l : List X). z ∷ l) (set_seam front rest x y)

-- ---- sums

-- one channel's voice, and those of the others
sum_on : (side : Option Owned → Voice → ℤ) (front kept : List (Option Owned)) (k : Option Owned) (voice : Option Voice)
    (voices : List Voice) (total : ℤ) → IsHome (length front) voice
    → voices_sum side (front ++ k ∷ kept) voices ≡ total
    → voices_sum side (front ++ k ∷ kept) (option_to_list voice ++ voices) ≡ (lane_adds side k voice +ℤ total)
unfolding IsHome
sum_on side front kept k None voices total home e = e ∙ (omega (arith, ints))
sum_on side front kept k (Some v) voices total home e =
    ap (λ (n : ℕ). side (get_or (front ++ k ∷ kept) n None) v +ℤ voices_sum side (front ++ k ∷ kept) voices)
    (home v refl)
    ∙ ap (λ (o : Option Owned). side o v +ℤ voices_sum side (front ++ k ∷ kept) voices) (at_seam front kept k None)
    ∙ ap (λ (z : ℤ). side k v +ℤ z) e

-- what the voices of channels from one on add
pub sum_from : (side : Option Owned → Voice → ℤ) (front kept : List (Option Owned)) (channels : List Channel)
    → length channels ≤ length kept → HomeFrom (length front) channels
    → voices_sum side (front ++ kept) (gathered channels) ≡ lanes_sum side (lanes_of channels kept)
unfolding HomeFrom
sum_from side front kept [] le home = refl
sum_from side front [] (channel ∷ channels) le home = absurd (omega arith)
sum_from side front (k ∷ kept) (channel ∷ channels) le home =
    sum_on side front kept k channel.voice (gathered channels) (lanes_sum side (lanes_of channels kept)) home.0
    (ap (λ (l : List (Option Owned)). voices_sum side l (gathered channels)) (sym (append_assoc front (k ∷ []) kept))
    ∙ sum_from side (front ++ k ∷ []) kept channels (omega arith)
    (subst (λ (n : ℕ). HomeFrom n channels) (let e : length front + 1 ≡ length (front ++ k ∷ []) = omega (arith, length-append front (k ∷ [])) in e) home.1))

-- the sound of voices is that of the lanes in which they sit
pub sound_joined : (kept : List (Option Owned)) (channels : List Channel) (frames : ℕ) → length channels ≤ length kept
    → HomeFrom 0 channels
    → sound_of_voices kept (gathered channels) frames ≡ sound_of (lanes_of channels kept) frames
unfolding sound_of_voices sound_of frame_of_voices frame_at
sound_joined kept channels zero le home = refl
sound_joined kept channels (suc frames) le home =
    ap
    (λ (l : List ℤ).
    l
    ++ stereo (voices_sum (left_of frames) kept (gathered channels))
    (voices_sum (right_of frames) kept (gathered channels))) (sound_joined kept channels frames le home)
    ∙ ap
    (λ (z : ℤ).
    sound_of (lanes_of channels kept) frames ++ stereo z (voices_sum (right_of frames) kept (gathered channels)))
    (sum_from (left_of frames) [] kept channels le home)
    ∙ ap
    (λ (z : ℤ).
    sound_of (lanes_of channels kept) frames ++ stereo (lanes_sum (left_of frames) (lanes_of channels kept)) z)
    (sum_from (right_of frames) [] kept channels le home)

-- ---- what a tick leaves

after_by : ℕ → Option Voice → Channel → Channel
after_by frames None channel = channel
after_by frames (Some voice) channel =
    if is_ended frames voice then record channel { voice = None }
    else record channel { voice = Some (voice_after frames voice) }

-- a channel after a tick of that many frames
pub channel_after : ℕ → Channel → Channel
channel_after frames channel = after_by frames channel.voice channel

keep_by : ℕ → Option Voice → Option Owned → Option Owned
keep_by frames None owned = owned
keep_by frames (Some voice) owned = if is_ended frames voice then None else owned

-- what is kept for the channels then
pub kept_after : ℕ → List Channel → List (Option Owned) → List (Option Owned)
kept_after frames [] kept = kept
kept_after frames (channel ∷ channels) [] = []
kept_after frames (channel ∷ channels) (k ∷ kept) = keep_by frames channel.voice k ∷ kept_after frames channels kept

-- the voices that go on are those of the channels then
one_by : (b : Bool) (frames : ℕ) (voice : Voice) (channel : Channel) (voices rest : List Voice)
    → voices_after frames voices ≡ rest
    → (if b then voices_after frames voices else voice_after frames voice ∷ voices_after frames voices)
    ≡ option_to_list
    (if b then record channel { voice = None } else record channel { voice = Some (voice_after frames voice) }).voice
    ++ rest
one_by true frames voice channel voices rest e = e
one_by false frames voice channel voices rest e = ap (λ (l : List Voice). voice_after frames voice ∷ l) e

one_after : (frames : ℕ) (voice : Option Voice) (channel : Channel) (voices rest : List Voice) → channel.voice ≡ voice
    → voices_after frames voices ≡ rest
    → voices_after frames (option_to_list voice ++ voices)
    ≡ option_to_list (after_by frames voice channel).voice ++ rest
unfolding after_by
one_after frames None channel voices rest is e = e ∙ ap (λ (v : Option Voice). option_to_list v ++ rest) (sym is)
one_after frames (Some voice) channel voices rest is e =
    one_by (is_ended frames voice) frames voice channel voices rest e

pub voices_joined : (frames : ℕ) (channels : List Channel)
    → voices_after frames (gathered channels) ≡ gathered (map (channel_after frames) channels)
unfolding channel_after
voices_joined frames [] = refl
voices_joined frames (channel ∷ channels) =
    one_after frames channel.voice channel (gathered channels) (gathered (map (channel_after frames) channels)) refl
    (voices_joined frames channels)

-- nothing else of a channel changes
emptied_by : (b : Bool) (frames : ℕ) (voice : Voice) (channel : Channel)
    → emptied
    (if b then record channel { voice = None } else record channel { voice = Some (voice_after frames voice) })
    ≡ emptied channel
emptied_by true frames voice channel = refl
emptied_by false frames voice channel = refl

emptied_one : (frames : ℕ) (voice : Option Voice) (channel : Channel)
    → emptied (after_by frames voice channel) ≡ emptied channel
unfolding after_by
emptied_one frames None channel = refl
emptied_one frames (Some voice) channel = emptied_by (is_ended frames voice) frames voice channel

pub emptied_after : (frames : ℕ) (channels : List Channel)
    → map emptied (map (channel_after frames) channels) ≡ map emptied channels
unfolding channel_after
emptied_after frames [] = refl
emptied_after frames (channel ∷ channels) =
    ap (λ (x : Channel). x ∷ map emptied (map (channel_after frames) channels))
    (emptied_one frames channel.voice channel)
    ∙ ap (λ (l : List Channel). emptied channel ∷ l) (emptied_after frames channels)

-- and a voice stays on its channel
home_by : (b : Bool) (n frames : ℕ) (voice : Voice) (channel : Channel) → voice.channel ≡ n
    → IsHome n
    (if b then record channel { voice = None } else record channel { voice = Some (voice_after frames voice) }).voice
unfolding IsHome
home_by true n frames voice channel h = λ v is. absurd cc
home_by false n frames voice channel h =
    λ v is. let same : voice_after frames voice ≡ v = cc in ap (λ (y : Voice). y.channel) (sym same) ∙ h

home_one : (n frames : ℕ) (voice : Option Voice) (channel : Channel) → channel.voice ≡ voice → IsHome n voice
    → IsHome n (after_by frames voice channel).voice
unfolding after_by IsHome
home_one n frames None channel is h = λ v e. h v (sym is ∙ e)
home_one n frames (Some voice) channel is h = home_by (is_ended frames voice) n frames voice channel (h voice refl)

pub home_after : (n frames : ℕ) (channels : List Channel) → HomeFrom n channels
    → HomeFrom n (map (channel_after frames) channels)
unfolding HomeFrom channel_after
home_after n frames [] h = tt
home_after n frames (channel ∷ channels) h =
    (home_one n frames channel.voice channel refl h.0, home_after (n + 1) frames channels h.1)

-- ---- what is kept then

kept_by : (b : Bool) (frames : ℕ) (voices : List Voice) (front kept : List (Option Owned)) (k : Option Owned)
    (shown : Shown) → shown.kept ≡ front ++ k ∷ kept
    → (if b then shown_after frames voices (keeping (length front) None shown) else shown_after frames voices shown)
    ≡ shown_after frames voices (record shown { kept = front ++ (if b then None else k) ∷ kept })
kept_by true frames voices front kept k shown e =
    ap (λ (l : List (Option Owned)). shown_after frames voices (record shown { kept = l }))
    (ap (λ (l : List (Option Owned)). set l (length front) None) e ∙ set_seam front kept k None)
kept_by false frames voices front kept k shown e =
    ap (λ (l : List (Option Owned)). shown_after frames voices (record shown { kept = l })) e

kept_one : (frames : ℕ) (voice : Option Voice) (voices : List Voice) (front kept : List (Option Owned))
    (k : Option Owned) (shown : Shown) → IsHome (length front) voice → shown.kept ≡ front ++ k ∷ kept
    → shown_after frames (option_to_list voice ++ voices) shown
    ≡ shown_after frames voices (record shown { kept = front ++ keep_by frames voice k ∷ kept })
unfolding IsHome keep_by
kept_one frames None voices front kept k shown home e =
    ap (λ (l : List (Option Owned)). shown_after frames voices (record shown { kept = l })) e
kept_one frames (Some voice) voices front kept k shown home e =
    ap
    (λ (n : ℕ).
    if is_ended frames voice then shown_after frames voices (keeping n None shown)
    else shown_after frames voices shown) (home voice refl)
    ∙ kept_by (is_ended frames voice) frames voices front kept k shown e

pub shown_joined : (frames : ℕ) (front kept : List (Option Owned)) (channels : List Channel) (shown : Shown)
    → length channels ≤ length kept → HomeFrom (length front) channels → shown.kept ≡ front ++ kept
    → shown_after frames (gathered channels) shown ≡ record shown { kept = front ++ kept_after frames channels kept }
unfolding HomeFrom kept_after
shown_joined frames front kept [] shown le home e = ap (λ (l : List (Option Owned)). record shown { kept = l }) e
shown_joined frames front [] (channel ∷ channels) shown le home e = absurd (omega arith)
shown_joined frames front (k ∷ kept) (channel ∷ channels) shown le home e =
    let new = keep_by frames channel.voice k in
    kept_one frames channel.voice (gathered channels) front kept k shown home.0 e
    ∙ shown_joined frames (front ++ new ∷ []) kept channels (record shown { kept = front ++ new ∷ kept }) (omega arith)
    (subst (λ (n : ℕ). HomeFrom n channels)
    (let m : length front + 1 ≡ length (front ++ new ∷ []) = omega (arith, length-append front (new ∷ [])) in m)
    home.1)
    (sym (append_assoc front (new ∷ []) kept))
    ∙ ap (λ (l : List (Option Owned)). record shown { kept = l })
    (append_assoc front (new ∷ []) (kept_after frames channels kept))

-- ---- the lanes then

lane_by : (b : Bool) (frames : ℕ) (voice : Voice) (channel : Channel) (k : Option Owned)
    → record
    { channel = (if b then record channel { voice = None } else record channel { voice = Some (voice_after frames voice) }); owned = (if b then None else k) }
    ≡ (if b then without_voice (record { channel = channel; owned = k })
    else record { channel = record channel { voice = Some (voice_after frames voice) }; owned = k })
lane_by true frames voice channel k = refl
lane_by false frames voice channel k = refl

lane_one : (frames : ℕ) (voice : Option Voice) (channel : Channel) (k : Option Owned)
    → record { channel = after_by frames voice channel; owned = keep_by frames voice k }
    ≡ lane_after_by frames voice (record { channel = channel; owned = k })
unfolding after_by keep_by
lane_one frames None channel k = refl
lane_one frames (Some voice) channel k = lane_by (is_ended frames voice) frames voice channel k

pub lanes_joined : (frames : ℕ) (channels : List Channel) (kept : List (Option Owned)) → length channels ≤ length kept
    → lanes_of (map (channel_after frames) channels) (kept_after frames channels kept)
    ≡ map (lane_after frames) (lanes_of channels kept)
unfolding channel_after kept_after lane_after
lanes_joined frames [] kept le = refl
lanes_joined frames (channel ∷ channels) [] le = absurd (omega arith)
lanes_joined frames (channel ∷ channels) (k ∷ kept) le =
    ap (λ (x : Lane). x ∷ lanes_of (map (channel_after frames) channels) (kept_after frames channels kept))
    (lane_one frames channel.voice channel k)
    ∙ ap (λ (l : List Lane). lane_after_by frames channel.voice (record { channel = channel; owned = k }) ∷ l)
    (lanes_joined frames channels kept (omega arith))
