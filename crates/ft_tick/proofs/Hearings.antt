-- What is heard of a channel, in the order in which it is made.
use Rattle.std.proofs.Common.{◌≡◌, ◌∙◌, ℕ, ℤ, pos, ◌+ℤ◌, ◌-ℤ◌, Bool, true, Option, None, Some, subst, refl, rules}
use Rattle.ft_types.specs.declared.instrument.Envelope.{Envelope}
use Rattle.ft_types.specs.declared.instrument.Shape.{Shape}
use Rattle.ft_types.specs.declared.voice.Voice.{Voice}
use Rattle.ft_replay.specs.declared.state.Channel.{Channel}
use Rattle.ft_replay.specs.Hearing.{brought_into, heard_panning, moved, room_of, heard_by, heard_voice, heard_volume, heard_period, stepped_period, glided_period, auto_offset, offset_by, with_auto_by, with_envelopes, with_fade, fadeout_of}
use Rattle.ft_replay.specs.Range.{IsChannelInRange, IsVoiceInRange}

-- the tick is a voice's last one
pub last_in_range : (c : ℕ) (channel : Channel) (voice : Voice) → channel.voice ≡ Some voice
    → IsChannelInRange c channel
    → IsChannelInRange c (record channel { voice = Some (record voice { last = true }) })
last_in_range c channel voice is r =
    let remembered = r.memory in
    let old = r.voice voice is in
    let now : IsVoiceInRange (record voice { last = true }) =
    record { head = old.head; place = old.place; step = old.step; left = old.left; right = old.right } in
    record {
      memory = search rules;
      voice = λ other same. let it : record voice { last = true } ≡ other = cc in subst IsVoiceInRange it now;
      home =
          λ other same.
          let it : record voice { last = true } ≡ other = cc in
          subst (λ (v : Voice). v.channel ≡ c) it (r.home voice is);
    }

-- a voice in range, on its channel
pub heard_in_range : (c : ℕ) (channel : Channel) (voice heard : Voice) → channel.voice ≡ Some voice
    → IsVoiceInRange heard → heard.channel ≡ voice.channel → IsChannelInRange c channel
    → IsChannelInRange c (record channel { voice = Some heard })
heard_in_range c channel voice heard is now home r =
    let remembered = r.memory in
    record {
      memory = search rules;
      voice = λ other same. let it : heard ≡ other = cc in subst IsVoiceInRange it now;
      home =
          λ other same. let it : heard ≡ other = cc in subst (λ (v : Voice). v.channel ≡ c) it (home ∙ r.home voice is);
    }

-- the automatic vibrato may go on first: nothing else of the voice hangs on it
pub sounded :
    (rate global : ℕ) (linear : Bool) (volume panning : Option Envelope) (shape : Option Shape)
    (channel vibrated on last : Channel) (voice heard : Voice) (offset : ℤ)
    → channel.voice ≡ Some voice → vibrated ≡ with_auto_by shape channel → offset ≡ offset_by shape channel
    → heard ≡ heard_voice linear rate global volume panning offset vibrated voice
    → on ≡ with_envelopes volume panning (record vibrated { voice = Some heard })
    → last ≡ with_fade (fadeout_of shape) on
    → last ≡ heard_by rate global linear volume panning shape channel.voice channel
unfolding heard_voice heard_volume heard_period stepped_period glided_period auto_offset
sounded rate global linear volume panning None channel vibrated on last voice heard offset is v o h e f =
    rw (is, f, e, h, v, o) refl
sounded rate global linear volume panning (Some shape) channel vibrated on last voice heard offset is v o h e f =
    rw (is, f, e, h, v, o) refl

pub panned : (panning envelope : ℕ) (parts shift : ℤ) (room result : ℕ) → parts ≡ (pos envelope -ℤ pos 32)
    → room ≡ room_of panning → shift ≡ moved parts room
    → result ≡ brought_into (pos 0) (pos 255) (pos panning +ℤ shift) → result ≡ heard_panning panning envelope
unfolding heard_panning
panned panning envelope parts shift room result p r m e = rw (e, m, p, r) refl
