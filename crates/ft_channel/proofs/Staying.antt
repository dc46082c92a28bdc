-- What stays of a channel, from rule to rule.
use Rattle.std.proofs.Common.{◌≡◌, ◌∙◌, Some, ap, sym, subst, arith, rules}
use Rattle.ft_types.specs.declared.voice.Voice.{Voice}
use Rattle.ft_replay.specs.declared.state.Channel.{Channel}
use Rattle.ft_replay.specs.Range.{IsVoiceInRange}
use Rattle.ft_channel.specs.Staying.{Stays, voice_head}

pub stays_through : (first second third : Channel) → Stays first second → Stays second third → Stays first third
stays_through first second third a b = record {
  range = λ c p. b.range c (a.range c p);
  sample = b.sample ∙ a.sample;
}

from_start_in_range : (voice : Voice) → IsVoiceInRange voice → IsVoiceInRange (record voice { pos = 0 })
from_start_in_range voice r = record {
  head = r.head;
  place = omega (arith, r.place);
  step = r.step;
  left = r.left;
  right = r.right;
}

-- a voice that goes to its first frame
pub restart_stays : (channel : Channel) (voice : Voice) → channel.voice ≡ Some voice
    → Stays channel (record channel { voice = Some (record voice { pos = 0 }) })
restart_stays channel voice is = record {
  range = λ c r.
      let remembered = r.memory in
      record {
        memory = search rules;
        voice = λ other same.
            let it : record voice { pos = 0 } ≡ other = cc in
            subst IsVoiceInRange it (from_start_in_range voice (r.voice voice is));
        home = λ other same.
            let it : record voice { pos = 0 } ≡ other = cc in
            subst (λ (v : Voice). v.channel ≡ c) it (r.home voice is);
      };
  sample = ap voice_head (sym is);
}
