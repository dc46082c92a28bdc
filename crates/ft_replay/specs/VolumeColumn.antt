-- The rules of the volume column: at the start of a row, and in its later ticks.
use Rattle.std.specs.Prelude.{ℕ}
use Rattle.ft_replay.specs.declared.effect.VolumeEffect.{VolumeEffect}
use Rattle.ft_replay.specs.declared.effect.VolumeEffect.TheVariants.{Volume, SlideDown, SlideUp, FineDown, FineUp, VibratoSpeed, Vibrato, Panning, PanningLeft, PanningRight, TonePortamento}
use Rattle.ft_replay.specs.declared.state.Channel.{Channel}
use Rattle.ft_replay.specs.Slides as slides
use Rattle.ft_replay.specs.Swings as swings

abbrev pub with_volume : ℕ → Channel → Channel
with_volume volume channel = record channel { vol = volume }

abbrev pub with_panning : ℕ → Channel → Channel
with_panning panning channel = record channel { pan = panning }

unfoldable pub volume_start_of : VolumeEffect → Channel → Channel
volume_start_of (Volume volume) channel = with_volume volume channel
volume_start_of (FineDown change) channel = slides.with_volume_down change channel
volume_start_of (FineUp change) channel = slides.with_volume_up change channel
volume_start_of (VibratoSpeed speed) channel = swings.with_vibrato_speed speed channel
volume_start_of (Vibrato depth) channel = swings.with_vibrato_depth depth channel
volume_start_of (Panning panning) channel = with_panning panning channel
volume_start_of (TonePortamento speed) channel = slides.with_tone_speed speed channel
volume_start_of effect channel = channel

unfoldable pub volume_tick_of : VolumeEffect → Channel → Channel
volume_tick_of (SlideDown change) channel = slides.with_volume_down change channel
volume_tick_of (SlideUp change) channel = slides.with_volume_up change channel
volume_tick_of (Vibrato depth) channel = swings.vibrato channel
volume_tick_of (PanningLeft change) channel = slides.with_panning_left change channel
volume_tick_of (PanningRight change) channel = slides.with_panning_right change channel
volume_tick_of (TonePortamento speed) channel = slides.tone_portamento channel
volume_tick_of effect channel = channel
