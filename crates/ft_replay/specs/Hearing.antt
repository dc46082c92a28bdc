-- What is heard of a channel in a tick: the gains and the step of its voice; and how envelopes,
-- automatic vibrato and fade go on.
use Rattle.std.specs.Prelude.{ℕ, ◌+◌, ◌-◌, ◌*◌, ◌/◌, ◌%◌, ◌^◌, ◌==◌, ◌&&◌, ◌||◌, ℤ, pos, ◌+ℤ◌, ◌-ℤ◌, ◌*ℤ◌, Bool, true, Option, Some, None, min, nat_abs, nat_le, if◌then◌else◌}
use Rattle.std.specs.Int.{int_min, int_max}
use Rattle.ft_types.specs.Limits.{highest_period}
use Rattle.ft_types.specs.declared.module.Module.{Module}
use Rattle.ft_types.specs.declared.instrument.Envelope.{Envelope}
use Rattle.ft_types.specs.declared.instrument.Shape.{Shape}
use Rattle.ft_types.specs.declared.instrument.Vibrato.{Vibrato}
use Rattle.ft_types.specs.declared.voice.Voice.{Voice}
use Rattle.ft_types.specs.Views.{instrument_at, envelope_in, shape_in}
use Rattle.ft_tables.specs.Pitch.{amiga_higher, floor_div, step_of}
use Rattle.ft_tables.specs.Waves.{wave_of}
use Rattle.ft_replay.specs.declared.state.Channel.{Channel}
use Rattle.ft_replay.specs.declared.state.Control.{Control}
use Rattle.ft_replay.specs.Envelopes.{heard_envelope, next_position}
use Rattle.ft_replay.specs.Swings.{parts_of}

-- ---- gains

-- a number brought into a range
abbrev pub brought_into : ℤ → ℤ → ℤ → ℕ
brought_into low high z = nat_abs (int_max low (int_min z high))

-- with what a tremolo adds; nothing where a tremor mutes
unfoldable pub heard_volume : Channel → ℕ
heard_volume channel =
    if channel.muted then 0 else brought_into (pos 0) (pos 64) (pos channel.vol +ℤ channel.trem_off)

-- the gain of a voice by volume, global volume, envelope and fade; 65,536 where all are full
unfoldable pub gain_of : ℕ → ℕ → ℕ → ℕ → ℕ
gain_of volume global envelope fade = volume * global * envelope * fade / 2 ^ 17

-- how far a panning is from the nearer side
abbrev pub room_of : ℕ → ℕ
room_of panning = if nat_le panning 128 then panning else 256 - panning

-- that many parts of 32 of a room
unfoldable pub moved : ℤ → ℕ → ℤ
moved parts room = floor_div (parts *ℤ pos room) 32

-- the panning by its envelope, which is 32 in the middle: the nearer to a side, the less it moves
unfoldable pub heard_panning : ℕ → ℕ → ℕ
heard_panning panning envelope =
    brought_into (pos 0) (pos 255) (pos panning +ℤ moved (pos envelope -ℤ pos 32) (room_of panning))

-- the sides by panning
abbrev pub left_gain : ℕ → ℕ → ℕ
left_gain gain pan = gain * (256 - pan) / 256

abbrev pub right_gain : ℕ → ℕ → ℕ
right_gain gain pan = gain * pan / 256

-- ---- the period

-- whole semitones that are nearest to a distance
unfoldable pub in_semitones : ℤ → ℤ
in_semitones distance = pos 64 *ℤ floor_div (distance +ℤ pos 32) 64

-- a tone portamento that is heard in semitones, counted from the target
unfoldable pub glided_period : Channel → ℤ
glided_period channel =
    if channel.glissando && channel.gliding
    then (pos channel.target +ℤ in_semitones (pos channel.period -ℤ pos channel.target))
    else pos channel.period

-- as many semitones higher as the arpeggio says, at least 1; glissando is only known to linear
-- periods
unfoldable pub stepped_period : Bool → Channel → ℤ
stepped_period linear channel =
    int_max (pos 1)
    (if linear then (glided_period channel -ℤ pos (64 * channel.arp))
    else pos (amiga_higher channel.arp channel.period))

-- with what a vibrato and the automatic vibrato add: 1 to 31,999
unfoldable pub heard_period : Bool → ℤ → Channel → ℕ
heard_period linear offset channel =
    brought_into (pos 1) (pos highest_period) ((stepped_period linear channel +ℤ channel.vib_off) +ℤ offset)

-- ---- the automatic vibrato

-- its kinds are a sine, a square, a ramp up and a ramp down
abbrev pub auto_wave : ℕ → ℕ
auto_wave kind = if kind == 0 then 0 else (if kind == 1 then 2 else (if kind == 2 then 3 else 1))

-- it comes to its depth by and by, within that many ticks
abbrev pub auto_depth : Vibrato → ℕ → ℕ
auto_depth vibrato age =
    if vibrato.sweep == 0 || nat_le vibrato.sweep age then vibrato.depth
    else vibrato.depth * age / vibrato.sweep

unfoldable pub auto_offset : Vibrato → Channel → ℤ
auto_offset vibrato channel =
    parts_of (wave_of (auto_wave vibrato.kind) (channel.auto_pos / 4))
    (auto_depth vibrato channel.auto_age) 256

abbrev pub offset_by : Option Shape → Channel → ℤ
offset_by None channel = pos 0
offset_by (Some shape) channel = auto_offset shape.vibrato channel

-- ---- the voice

-- by its envelopes, and with what the automatic vibrato adds to the period
unfoldable pub heard_voice : Bool → ℕ → ℕ → Option Envelope → Option Envelope → ℤ → Channel → Voice
    → Voice
heard_voice linear rate global volume panning offset channel voice =
    let gain =
    gain_of (heard_volume channel) global (heard_envelope 64 volume channel.vol_env)
    channel.fade in
    let pan = heard_panning channel.pan (heard_envelope 32 panning channel.pan_env) in
    record voice {
      step = step_of linear rate (heard_period linear offset channel);
      left = left_gain gain pan;
      right = right_gain gain pan;
    }

-- ---- what goes on

abbrev pub with_envelopes : Option Envelope → Option Envelope → Channel → Channel
with_envelopes volume panning channel = record channel {
  vol_env = next_position volume channel.released channel.vol_env;
  pan_env = next_position panning channel.released channel.pan_env;
}

-- the automatic vibrato of an instrument that exists goes on
abbrev pub with_auto_vibrato : Vibrato → Channel → Channel
with_auto_vibrato vibrato channel = record channel {
  auto_pos = (channel.auto_pos + vibrato.rate) % 256;
  auto_age = min (channel.auto_age + 1) 65535;
}

abbrev pub with_auto_by : Option Shape → Channel → Channel
with_auto_by None channel = channel
with_auto_by (Some shape) channel = with_auto_vibrato shape.vibrato channel

-- a missing instrument has no fadeout
abbrev pub fadeout_of : Option Shape → ℕ
fadeout_of None = 0
fadeout_of (Some shape) = shape.fadeout

-- the tick is a voice's last one
abbrev pub with_last : Option Voice → Option Voice
with_last None = None
with_last (Some voice) = Some (record voice { last = true })

-- after a key off the fade falls; at 0 the voice ends
abbrev pub with_fade : ℕ → Channel → Channel
with_fade fadeout channel =
    if channel.released
    then record channel {
      fade = channel.fade - fadeout;
      voice = if channel.fade - fadeout == 0 then with_last channel.voice else channel.voice;
    }
    else channel

-- the voice gets its gains and its step, and then envelopes, automatic vibrato and fade go on
abbrev pub heard_by : ℕ → ℕ → Bool → Option Envelope → Option Envelope → Option Shape → Option Voice
    → Channel → Channel
heard_by rate global linear volume panning shape None channel = channel
heard_by rate global linear volume panning shape (Some voice) channel =
    let heard =
    heard_voice linear rate global volume panning (offset_by shape channel) channel voice in
    with_fade (fadeout_of shape)
    (with_auto_by shape (with_envelopes volume panning (record channel { voice = Some heard })))

-- a channel with a voice, by the instrument of its number
unfoldable pub heard_channel : ℕ → Control → Module → Channel → Channel
heard_channel rate control song channel =
    let instrument = instrument_at song channel.instrument in
    heard_by rate control.global song.linear (envelope_in instrument 0) (envelope_in instrument 1)
    (shape_in instrument) channel.voice channel
