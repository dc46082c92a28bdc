-- What a call over a view does, for whatever may be behind the view after it.
use Rattle.std.specs.Prelude.{ℕ, ◌≡◌, ◌≢◌, ◌==◌, ◌||◌, All, List, [], ◌∷◌, Bool, false, Option, None, Some, get_or, set, length, is_some, ◌<◌}
use Rattle.ft_types.specs.declared.module.Module.{Module}
use Rattle.ft_types.specs.declared.voice.SampleHead.{SampleHead}
use Rattle.ft_types.specs.declared.voice.Voice.{Voice}
use Rattle.ft_types.specs.Views.{Shown, MayShow}
use Rattle.ft_replay.specs.declared.state.Channel.{Channel}
use Rattle.ft_replay.specs.declared.state.Control.{Control}
use Rattle.ft_replay.specs.State.{Lane, SequentialState, Turn, blank_channel}
use Rattle.ft_replay.specs.Standing.{lane_of, turn_of, Became, Turned, Made}

-- ---- by what is behind the view

-- one channel's lane becomes what a rule makes of it
abbrev pub Changes : {V W : Type 0} → (V → W → Type 0) → (V → W → Shown)
    → (ℕ → Module → Lane → Lane) → ℕ → V → V → Channel → Channel → Type 0
Changes {W = W} shows shown rule c view view_after channel channel_after =
    (w : W) → shows view_after w → shows view w
    × Became c (rule (shown view w).version (shown view w).song (lane_of c (shown view w) channel))
    (shown view w) (shown view_after w) channel_after

-- one channel's turn becomes what a rule makes of it
abbrev pub MakesTurn : {V W : Type 0} → (V → W → Type 0) → (V → W → Shown)
    → (ℕ → Module → ℕ → Turn → Turn) → ℕ → V → V → Channel → Channel → Control → Control → Type 0
MakesTurn {W = W} shows shown rule c view view_after channel channel_after control control_after =
    (w : W) → shows view_after w → shows view w
    × Turned c
    (rule (shown view w).version (shown view w).song c
    (turn_of c (shown view w) channel control)) (shown view w) (shown view_after w)
    channel_after control_after

-- the whole state becomes what a rule makes of it
abbrev pub Makes : {V W : Type 0} → (V → W → Type 0) → (V → W → Shown)
    → (ℕ → Module → SequentialState → SequentialState) → V → V → (Shown → SequentialState)
    → (Shown → SequentialState) → Type 0
Makes {W = W} shows shown rule view view_after state state_after =
    (w : W) → shows view_after w → shows view w
    × Made rule (shown view w) (shown view_after w) (state (shown view w))
    (state_after (shown view_after w))

-- nothing that is shown changes
abbrev pub ShowsOn : {V W : Type 0} → (V → W → Type 0) → (V → W → Shown) → V → V → Type 0
ShowsOn {W = W} shows shown view view_after =
    (w : W) → shows view_after w → shows view w × (shown view_after w ≡ shown view w)

-- ---- the same by what the view may show: for whatever it may show after a call there is something
-- ---- that
-- ---- it might show before

-- of which one channel's turn is made
abbrev pub MakesTurnShown : {V W : Type 0} → (V → W → Type 0) → (V → W → Shown)
    → (ℕ → Module → ℕ → Turn → Turn) → ℕ → V → V → Channel → Channel → Control → Control → Type 0
MakesTurnShown shows shown rule c view view_after channel channel_after control control_after =
    (after : Shown) → MayShow shows shown view_after after
    → (before : Shown) × MayShow shows shown view before
    × Turned c (rule before.version before.song c (turn_of c before channel control)) before after
    channel_after control_after

-- of which the whole state is made
abbrev pub MakesShown : {V W : Type 0} → (V → W → Type 0) → (V → W → Shown)
    → (ℕ → Module → SequentialState → SequentialState) → V → V → (Shown → SequentialState)
    → (Shown → SequentialState) → Type 0
MakesShown shows shown rule view view_after state state_after =
    (after : Shown) → MayShow shows shown view_after after
    → (before : Shown) × MayShow shows shown view before
    × Made rule before after (state before) (state_after after)

-- ---- what is kept, whatever is behind the view

-- a voice's channel keeps the sample of its head
abbrev pub IsKept : (ℕ → SampleHead → Type 0) → ℕ → Option Voice → Type 0
IsKept keeps c None = Unit {0}
IsKept keeps c (Some voice) = keeps c voice.head

-- before and after a call for one channel: its voice's sample stays kept, it keeps one exactly
-- where it has a voice if it did so before, and the other channels keep what they kept
pub record KeepsFor (c : ℕ) (before after : ℕ → SampleHead → Type 0) (held held_after : List Bool)
    (voice voice_after : Option Voice) : Type 0 where
  pub kept : IsKept before c voice → IsKept after c voice_after
  pub exact : get_or held c false ≡ is_some voice → get_or held_after c false ≡ is_some voice_after
  pub others : (d : ℕ) (h : SampleHead) → d ≢ c → before d h → after d h
  pub alone : held_after ≡ set held c (get_or held_after c false)

abbrev pub AreKept : (ℕ → SampleHead → Type 0) → List Channel → Type 0
AreKept keeps channels =
    (c : ℕ) → c < length channels → IsKept keeps c (get_or channels c blank_channel).voice

-- a channel keeps a sample exactly where it has a voice
abbrev pub IsExact : List Bool → List Channel → ℕ → Type 0
IsExact held channels c = get_or held c false ≡ is_some (get_or channels c blank_channel).voice

-- the same for all channels: each that kept a sample exactly where it had a voice does so again
pub record KeepsForAll (before after : ℕ → SampleHead → Type 0) (held held_after : List Bool)
    (channels channels_after : List Channel) : Type 0 where
  pub kept : AreKept before channels → AreKept after channels_after
  pub exact : (c : ℕ) → c < length channels → IsExact held channels c
      → IsExact held_after channels_after c
  pub many : length channels_after ≡ length channels
  pub wide : length held_after ≡ length held

-- ---- the same of voices between ticks

abbrev pub AreVoicesKept : (ℕ → SampleHead → Type 0) → List Voice → Type 0
AreVoicesKept keeps voices = All (λ voice. keeps voice.channel voice.head) voices

-- whether a voice sounds on a channel
abbrev pub sounds_on : ℕ → List Voice → Bool
sounds_on c [] = false
sounds_on c (voice ∷ voices) = (voice.channel == c) || sounds_on c voices

-- a channel keeps a sample exactly where a voice sounds on it
abbrev pub IsVoiceExact : List Bool → List Voice → ℕ → Type 0
IsVoiceExact held voices c = get_or held c false ≡ sounds_on c voices

-- and each of them does
abbrev pub AreVoicesExact : List Bool → List Voice → Type 0
AreVoicesExact held voices = (c : ℕ) → c < length held → IsVoiceExact held voices c

-- each channel that kept a sample exactly where a voice sounded on it does so again
abbrev pub StaysExact : List Bool → List Bool → List Voice → List Voice → Type 0
StaysExact held held_after voices voices_after =
    (c : ℕ) → c < length held → IsVoiceExact held voices c → IsVoiceExact held_after voices_after c

-- before and after a call between ticks
pub record KeepsVoices (before after : ℕ → SampleHead → Type 0) (held held_after : List Bool)
    (voices voices_after : List Voice) : Type 0 where
  pub kept : AreVoicesKept before voices → AreVoicesKept after voices_after
  pub exact : StaysExact held held_after voices voices_after
  pub wide : length held_after ≡ length held
