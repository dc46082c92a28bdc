-- The rules of effects: at the start of a row, and in its later ticks.
use Rattle.std.specs.Prelude.{ℕ, ◌*◌, Bool, min}
use Rattle.ft_replay.specs.declared.effect.Effect.{Effect}
use Rattle.ft_replay.specs.declared.effect.Effect.TheVariants.{Arpeggio, PortamentoUp, PortamentoDown, TonePortamento, Vibrato, TonePortamentoSlide, VibratoSlide, Tremolo, Panning, VolumeSlide, Jump, Volume, Break, FinePortamentoUp, FinePortamentoDown, Glissando, VibratoWave, PatternLoop, TremoloWave, Retrigger, FineVolumeUp, FineVolumeDown, NoteCut, PatternDelay, Tempo, Bpm, GlobalVolume, GlobalSlide, EnvelopePosition, PanningSlide, MultiRetrigger, Tremor, ExtraFineUp, ExtraFineDown}
use Rattle.ft_replay.specs.declared.state.Channel.{Channel}
use Rattle.ft_replay.specs.declared.state.Control.{Control}
use Rattle.ft_replay.specs.State.{Turn}
use Rattle.ft_replay.specs.Memory as memory
use Rattle.ft_replay.specs.Memory.{with_memory, remembered}
use Rattle.ft_replay.specs.Slides as slides
use Rattle.ft_replay.specs.Swings as swings
use Rattle.ft_replay.specs.Retriggers as retriggers
use Rattle.ft_replay.specs.Sequence as sequence
use Rattle.ft_replay.specs.VolumeColumn.{with_volume, with_panning}

-- ---- on a channel, at the start of a row

-- effects that slide by what they remember, once
abbrev pub fine_portamento_up : ℕ → Channel → Channel
fine_portamento_up speed channel =
    let it = with_memory memory.fine_portamento_up_index speed channel in
    slides.with_lower_period (4 * remembered memory.fine_portamento_up_index it) it

abbrev pub fine_portamento_down : ℕ → Channel → Channel
fine_portamento_down speed channel =
    let it = with_memory memory.fine_portamento_down_index speed channel in
    slides.with_higher_period (4 * remembered memory.fine_portamento_down_index it) it

abbrev pub extra_fine_up : ℕ → Channel → Channel
extra_fine_up speed channel =
    let it = with_memory memory.extra_fine_up_index speed channel in
    slides.with_lower_period (remembered memory.extra_fine_up_index it) it

abbrev pub extra_fine_down : ℕ → Channel → Channel
extra_fine_down speed channel =
    let it = with_memory memory.extra_fine_down_index speed channel in
    slides.with_higher_period (remembered memory.extra_fine_down_index it) it

abbrev pub fine_volume_up : ℕ → Channel → Channel
fine_volume_up change channel =
    let it = with_memory memory.fine_volume_up_index change channel in
    slides.with_volume_up (remembered memory.fine_volume_up_index it) it

abbrev pub fine_volume_down : ℕ → Channel → Channel
fine_volume_down change channel =
    let it = with_memory memory.fine_volume_down_index change channel in
    slides.with_volume_down (remembered memory.fine_volume_down_index it) it

-- effects of later ticks set their memories and speeds now
unfoldable pub slide_start : Effect → Channel → Channel
slide_start (PortamentoUp speed) channel = with_memory memory.portamento_up_index speed channel
slide_start (PortamentoDown speed) channel = with_memory memory.portamento_down_index speed channel
slide_start (TonePortamento speed) channel = slides.with_tone_speed speed channel
slide_start (TonePortamentoSlide change) channel =
    with_memory memory.volume_slide_index change channel
slide_start (VibratoSlide change) channel = with_memory memory.volume_slide_index change channel
slide_start (VolumeSlide change) channel = with_memory memory.volume_slide_index change channel
slide_start (GlobalSlide change) channel = with_memory memory.global_slide_index change channel
slide_start (PanningSlide change) channel = with_memory memory.panning_slide_index change channel
slide_start (FinePortamentoUp speed) channel = fine_portamento_up speed channel
slide_start (FinePortamentoDown speed) channel = fine_portamento_down speed channel
slide_start (ExtraFineUp speed) channel = extra_fine_up speed channel
slide_start (ExtraFineDown speed) channel = extra_fine_down speed channel
slide_start (FineVolumeUp change) channel = fine_volume_up change channel
slide_start (FineVolumeDown change) channel = fine_volume_down change channel
slide_start effect channel = channel

abbrev pub with_glissando : Bool → Channel → Channel
with_glissando on channel = record channel { glissando = on }

abbrev pub with_vibrato_kind : ℕ → Channel → Channel
with_vibrato_kind kind channel = record channel { vib_kind = kind }

abbrev pub with_tremolo_kind : ℕ → Channel → Channel
with_tremolo_kind kind channel = record channel { trem_kind = kind }

abbrev pub with_envelope_positions : ℕ → Channel → Channel
with_envelope_positions position channel = record channel { vol_env = position; pan_env = position }

abbrev pub with_retrigger : ℕ → ℕ → Channel → Channel
with_retrigger change interval channel =
    with_memory memory.retrigger_interval_index interval
    (with_memory memory.retrigger_change_index change channel)

abbrev pub with_vibrato : ℕ → ℕ → Channel → Channel
with_vibrato speed depth channel =
    swings.with_vibrato_depth depth (swings.with_vibrato_speed speed channel)

abbrev pub with_tremolo : ℕ → ℕ → Channel → Channel
with_tremolo speed depth channel =
    swings.with_tremolo_depth depth (swings.with_tremolo_speed speed channel)

abbrev pub with_tremor : ℕ → Channel → Channel
with_tremor times channel = retriggers.tremor_start (with_memory memory.tremor_index times channel)

-- effects that set something, now
unfoldable pub setting_start : Effect → Channel → Channel
setting_start (Vibrato speed depth) channel = with_vibrato speed depth channel
setting_start (Tremolo speed depth) channel = with_tremolo speed depth channel
setting_start (Panning panning) channel = with_panning panning channel
setting_start (Volume volume) channel = with_volume (min volume 64) channel
setting_start (Glissando on) channel = with_glissando on channel
setting_start (VibratoWave kind) channel = with_vibrato_kind kind channel
setting_start (TremoloWave kind) channel = with_tremolo_kind kind channel
setting_start (NoteCut tick) channel = retriggers.note_cut 0 tick channel
setting_start (EnvelopePosition position) channel = with_envelope_positions position channel
setting_start (MultiRetrigger change interval) channel = with_retrigger change interval channel
setting_start (Tremor times) channel = with_tremor times channel
setting_start effect channel = channel

-- ---- on a channel, in a later tick u

-- effects that slide by what they remember, at each tick
abbrev pub portamento_up : Channel → Channel
portamento_up channel =
    slides.with_lower_period (4 * remembered memory.portamento_up_index channel) channel

abbrev pub portamento_down : Channel → Channel
portamento_down channel =
    slides.with_higher_period (4 * remembered memory.portamento_down_index channel) channel

abbrev pub tone_portamento_slide : Channel → Channel
tone_portamento_slide channel = slides.volume_slide (slides.tone_portamento channel)

abbrev pub vibrato_slide : Channel → Channel
vibrato_slide channel = slides.volume_slide (swings.vibrato channel)

unfoldable pub slide_tick : Effect → Channel → Channel
slide_tick (PortamentoUp speed) channel = portamento_up channel
slide_tick (PortamentoDown speed) channel = portamento_down channel
slide_tick (TonePortamento speed) channel = slides.tone_portamento channel
slide_tick (TonePortamentoSlide change) channel = tone_portamento_slide channel
slide_tick (VibratoSlide change) channel = vibrato_slide channel
slide_tick (VolumeSlide change) channel = slides.volume_slide channel
slide_tick (PanningSlide change) channel = slides.panning_slide channel
slide_tick effect channel = channel

unfoldable pub swing_tick : ℕ → Effect → Channel → Channel
swing_tick u (Arpeggio x y) channel = swings.arpeggio u x y channel
swing_tick u (Vibrato speed depth) channel = swings.vibrato channel
swing_tick u (Tremolo speed depth) channel = swings.tremolo channel
swing_tick u (NoteCut tick) channel = retriggers.note_cut u tick channel
swing_tick u (Retrigger interval) channel = retriggers.retrigger u interval channel
swing_tick u (MultiRetrigger change interval) channel = retriggers.multi_retrigger channel
swing_tick u (Tremor times) channel = retriggers.tremor_later channel
swing_tick u effect channel = channel

-- ---- on the song as a whole

unfoldable pub control_start : Effect → Control → Control
control_start (Jump order) control = sequence.with_jump order control
control_start (Break row) control = sequence.with_break row control
control_start (PatternDelay rows) control = sequence.with_delay rows control
control_start (Tempo ticks) control = sequence.with_tempo ticks control
control_start (Bpm bpm) control = sequence.with_bpm bpm control
control_start (GlobalVolume volume) control = sequence.with_global_volume volume control
control_start effect control = control

-- the global volume slides by what the channel remembers
unfoldable pub control_tick : Effect → Channel → Control → Control
control_tick (GlobalSlide change) channel control =
    sequence.global_slide (remembered memory.global_slide_index channel) control
control_tick effect channel control = control

-- ---- on both

unfoldable pub loop_start : ℕ → Effect → Turn → Turn
loop_start c (PatternLoop times) turn = sequence.pattern_loop c times turn
loop_start c effect turn = turn
