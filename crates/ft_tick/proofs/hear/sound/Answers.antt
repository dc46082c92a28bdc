use Rattle.std.proofs.Common.{◌∙◌, ℕ, ℤ, FitsSigned, ap, rules}
use Rattle.std.specs.Int.{w32}
use Rattle.std.proofs.lemmas.Int.{to_z-of_z}
use Rattle.ft_replay.specs.Hearing.{heard_voice, with_fade}
use Rattle.ft_tick.proofs.Hearings.{heard_in_range, sounded}
use Rattle.ft_tick.proofs.hear.sound.Goals as goal

pub heard_voice-heard-requires-clause-range : goal.heard_voice-heard-requires-clause-range
heard_voice-heard-requires-clause-range c =
    (c.vibrate-offset.ensures.range c.requires.range.0 c.requires.range.1).memory

pub heard_voice-heard-requires-clause-voice : goal.heard_voice-heard-requires-clause-voice
heard_voice-heard-requires-clause-voice c = c.requires.range.1.voice c.args.voice c.requires.voice

pub returns-clause-value : goal.returns-clause-value
returns-clause-value c =
    let fits : FitsSigned w32 c.vibrate-offset.result = search rules in
    sounded c.args.time.rate c.args.time.global c.args.time.linear c.args.volume.now c.args.panning.now c.args.shape.now
    c.args.channel.now c.vibrate-offset.new.channel
    c.go_on_envelopes.new.channel c.fade.new.channel c.args.voice c.heard_voice-heard.result c.vibrate-offset.result
    c.requires.voice c.vibrate-offset.ensures.on
    c.vibrate-offset.ensures.value
    (c.heard_voice-heard.ensures.value
    ∙ ap
    (λ (offset : ℤ).
    heard_voice c.args.time.linear c.args.time.rate c.args.time.global c.args.volume.now c.args.panning.now
    offset c.vibrate-offset.new.channel c.args.voice)
    (to_z-of_z w32 c.vibrate-offset.result fits))
    c.go_on_envelopes.ensures.value
    (c.fade.ensures.value ∙ ap (λ (fadeout : ℕ). with_fade fadeout c.go_on_envelopes.new.channel) c.fadeout_of.ensures)

pub returns-clause-range : goal.returns-clause-range
returns-clause-range c = λ k r.
    c.fade.ensures.range k (c.go_on_envelopes.ensures.range k
    (heard_in_range k c.vibrate-offset.new.channel c.args.voice c.heard_voice-heard.result
    (c.vibrate-offset.ensures.voice ∙ c.requires.voice)
    c.heard_voice-heard.ensures.range c.heard_voice-heard.ensures.home (c.vibrate-offset.ensures.range k r)))
