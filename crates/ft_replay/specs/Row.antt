-- The rules of a row, each as a function of what it may change.
-- Arguments come in this order: version, song, channel number, cell or tick, what is changed.
use Rattle.std.specs.Prelude.{ℕ, ℤ, pos, ◌-◌, ◌-ℤ◌, ◌*◌, ◌/◌, ◌%◌, ◌^◌, ◌==◌, ◌&&◌, ◌||◌, not, Bool, true, false, Option, Some, None, nat_lt, nat_le, nat_abs, is_some, if◌then◌else◌}
use Rattle.ft_types.specs.declared.module.Module.{Module}
use Rattle.ft_types.specs.declared.pattern.Cell.{Cell}
use Rattle.ft_types.specs.declared.voice.SampleHead.{SampleHead}
use Rattle.ft_types.specs.declared.voice.Voice.{Voice}
use Rattle.ft_types.specs.Views.{Owned, begun, head_of, instrument_at, envelope_in}
use Rattle.ft_tables.specs.Pitch.{played_note, is_played, period_of}
use Rattle.ft_replay.specs.declared.effect.Effect.{Effect}
use Rattle.ft_replay.specs.declared.effect.Effect.TheVariants.{TonePortamento, TonePortamentoSlide, SampleOffset, Finetune, NoteDelay, KeyOff}
use Rattle.ft_replay.specs.declared.state.Channel.{Channel}
use Rattle.ft_replay.specs.State.{Lane, Turn}
use Rattle.ft_replay.specs.Effects.{effect_in, volume_effect_of}
use Rattle.ft_replay.specs.Envelopes.{is_on}
use Rattle.ft_replay.specs.Memory as memory
use Rattle.ft_replay.specs.VolumeColumn.{volume_start_of, volume_tick_of}
use Rattle.ft_replay.specs.Rules as rules

abbrev pub with_channel : (Channel → Channel) → Lane → Lane
with_channel rule lane = record lane { channel = rule lane.channel }

-- no voice sounds
abbrev pub without_voice : Lane → Lane
without_voice lane = record { channel = record lane.channel { voice = None }; owned = None }

-- a note from 1 to 96; 97 is a key off
abbrev pub is_note : Cell → Bool
is_note cell = nat_lt 0 cell.note && nat_le cell.note 96

-- an instrument byte beside anything but a key off
abbrev pub is_instrument : Cell → Bool
is_instrument cell = not (cell.instrument == 0) && not (cell.note == 97)

-- ---- the instrument byte

abbrev pub with_cell_instrument : Cell → Channel → Channel
with_cell_instrument cell channel =
    if cell.instrument == 0 then channel else record channel { instrument = cell.instrument }

-- ---- the note

-- a voice at a frame of its sample; gains and step are those of its first tick
abbrev pub new_voice : ℕ → ℕ → SampleHead → Voice
new_voice c frame head =
    record {
      channel = c;
      head = head;
      pos = frame * 2 ^ 32;
      step = 0;
      left = 0;
      right = 0;
      last = false;
    }

-- the waves of vibrato and tremolo begin anew, unless bit 2 of their kind is set
abbrev pub with_new_waves : Channel → Channel
with_new_waves channel = record channel {
  vib_pos = if channel.vib_kind / 4 % 2 == 0 then 0 else channel.vib_pos;
  trem_pos = if channel.trem_kind / 4 % 2 == 0 then 0 else channel.trem_pos;
  retrigger = 0;
  tremor = 0;
}

abbrev pub with_voice : Voice → ℕ → Channel → Channel
with_voice voice period channel =
    record (with_new_waves channel) { voice = Some voice; period = period; target = period }

-- the frame at which a note of this row begins: effect 9 says it, by what the channel remembers
abbrev pub start_frame_by : Effect → Channel → ℕ
start_frame_by (SampleOffset pages) channel =
    256 * memory.remembered memory.sample_offset_index channel
start_frame_by effect channel = 0

abbrev pub start_frame : Cell → Channel → ℕ
start_frame cell channel = start_frame_by (effect_in cell) channel

-- the finetune of a note that begins in this row: E5 says it, or else the sample
abbrev pub start_finetune : Effect → SampleHead → ℤ
start_finetune (Finetune tune) head = pos (16 * tune) -ℤ pos 128
start_finetune effect head = head.finetune

-- the period of a note that is played, by a sample's relative note
abbrev pub tuned_period : Module → Cell → ℤ → ℤ → ℕ
tuned_period song cell relative finetune =
    period_of song.linear (nat_abs (played_note cell.note relative)) finetune

-- the period of a note that begins
abbrev pub note_period : Module → Cell → SampleHead → ℕ
note_period song cell head =
    tuned_period song cell head.relative (start_finetune (effect_in cell) head)

-- what a note makes of its lane, and whether it began a voice
pub record Start : Type 0 where
  pub lane : Lane
  pub began : Bool

abbrev pub no_start : Lane → Start
no_start lane = record { lane = lane; began = false }

-- a voice begins where there is a sample, the note is played, and the frame is one of the sample's;
-- otherwise a voice that is there ends, and the period stays
abbrev pub start_of : Module → ℕ → Cell → ℕ → Option Owned → Lane → Start
start_of song c cell frame None lane = no_start (without_voice lane)
start_of song c cell frame (Some owned) lane =
    let head = head_of owned.sample in
    if is_played (played_note cell.note head.relative) && nat_lt frame head.frames
    then record {
      lane = record {
        channel = with_voice (new_voice c frame head) (note_period song cell head) lane.channel;
        owned = Some owned;
      };
      began = true;
    }
    else no_start (without_voice lane)

-- ---- the target of a tone portamento

abbrev pub is_tone_portamento : Effect → Bool
is_tone_portamento (TonePortamento speed) = true
is_tone_portamento (TonePortamentoSlide change) = true
is_tone_portamento effect = false

-- effects 3 and 5, and F of the volume column, go to the note of their row
abbrev pub is_towards : Cell → Bool
is_towards cell = is_tone_portamento (effect_in cell) || nat_le 240 cell.volume

-- the period of the note, by the sounding voice's sample, where it is played
abbrev pub target_by : Module → Cell → Option Voice → Channel → Channel
target_by song cell None channel = channel
target_by song cell (Some voice) channel =
    if is_played (played_note cell.note voice.head.relative)
    then record channel { target = tuned_period song cell voice.head.relative voice.head.finetune }
    else channel

unfoldable pub with_target : Module → Cell → Channel → Channel
with_target song cell channel = target_by song cell channel.voice channel

-- ---- the key off

-- a key off lets a volume envelope go on, and where none is on silences the channel
unfoldable pub with_key_off : Module → Channel → Channel
with_key_off song channel = record channel {
  released = true;
  vol = if is_on (envelope_in (instrument_at song channel.instrument) 0) then channel.vol else 0;
}

-- ---- each kind of note

-- a note that begins, or ends what sounds there
abbrev pub begin_of : ℕ → Module → ℕ → Cell → Lane → Start
begin_of version song c cell lane =
    start_of song c cell (start_frame cell lane.channel)
    (begun version song lane.channel.instrument (cell.note - 1)) lane

unfoldable pub note_of : ℕ → Module → ℕ → Cell → Lane → Start
note_of version song c cell lane =
    if cell.note == 97 then no_start (with_channel (with_key_off song) lane)
    else (if not (is_note cell) then no_start lane
    else (if is_towards cell && is_some lane.channel.voice
    then no_start (with_channel (with_target song cell) lane)
    else begin_of version song c cell lane))

-- ---- what a note or an instrument byte sets anew

abbrev pub as_new : Channel → Channel
as_new channel =
    record channel {
      released = false;
      fade = 32768;
      vol_env = 0;
      pan_env = 0;
      auto_pos = 0;
      auto_age = 0;
    }

-- volume and panning of the sounding voice's sample
abbrev pub with_levels : Option Voice → Channel → Channel
with_levels None channel = channel
with_levels (Some voice) channel =
    record channel { vol = voice.head.volume; pan = voice.head.panning }

unfoldable pub after_note : Bool → Cell → Channel → Channel
after_note began cell channel =
    let fresh = if began || is_instrument cell then as_new channel else channel in
    if is_instrument cell then with_levels channel.voice fresh else fresh

-- ---- the row

-- effect 9 is remembered before the note begins
abbrev pub with_offset : Effect → Channel → Channel
with_offset (SampleOffset pages) channel =
    memory.with_memory memory.sample_offset_index pages channel
with_offset effect channel = channel

-- the instrument byte, the note, what they set anew, and the volume byte
unfoldable pub strike_of : ℕ → Module → ℕ → Cell → Lane → Lane
strike_of version song c cell lane =
    let start = note_of version song c cell (with_channel (with_cell_instrument cell) lane) in
    with_channel
    (λ channel.
    volume_start_of (volume_effect_of cell.volume) (after_note start.began cell channel))
    start.lane

-- a key off by effect K, where this is its tick
abbrev pub key_off_at : Module → ℕ → Effect → Channel → Channel
key_off_at song u (KeyOff tick) channel = if tick == u then with_key_off song channel else channel
key_off_at song u effect channel = channel

-- what the effect does at the start of a row
unfoldable pub effect_start_of : Module → ℕ → Effect → Turn → Turn
effect_start_of song c effect turn =
    let channel =
    key_off_at song 0 effect
    (rules.setting_start effect (rules.slide_start effect turn.lane.channel)) in
    rules.loop_start c effect (record {
      lane = record turn.lane { channel = channel };
      control = rules.control_start effect turn.control;
    })

-- the note of a row is delayed where its effect says so
abbrev pub is_delayed : Effect → Bool
is_delayed (NoteDelay tick) = true
is_delayed effect = false

-- the start of a row, on one channel
unfoldable pub row_start_of : ℕ → Module → ℕ → Cell → Turn → Turn
row_start_of version song c cell turn =
    let effect = effect_in cell in
    if is_delayed effect then turn
    else effect_start_of song c effect
    (record turn {
      lane = strike_of version song c cell (with_channel (with_offset effect) turn.lane);
    })

-- ---- its later ticks

-- a delayed note, where this is its tick
abbrev pub delayed_strike : ℕ → Module → ℕ → Cell → ℕ → Effect → Lane → Lane
delayed_strike version song c cell u (NoteDelay tick) lane =
    if tick == u then strike_of version song c cell lane else lane
delayed_strike version song c cell u effect lane = lane

-- what the effect does in a later tick u
unfoldable pub effect_tick_of : Module → ℕ → Effect → Turn → Turn
effect_tick_of song u effect turn =
    let channel =
    key_off_at song u effect
    (rules.swing_tick u effect (rules.slide_tick effect turn.lane.channel)) in
    record {
      lane = record turn.lane { channel = channel };
      control = rules.control_tick effect channel turn.control;
    }

-- a later tick u of the row: the volume byte, then a delayed note or the effect
unfoldable pub row_tick_of : ℕ → Module → ℕ → ℕ → Turn → Turn
row_tick_of version song c u turn =
    let cell = turn.lane.channel.cell in
    let effect = effect_in cell in
    let lane = with_channel (volume_tick_of (volume_effect_of cell.volume)) turn.lane in
    effect_tick_of song u effect
    (record turn { lane = delayed_strike version song c cell u effect lane })
