-- A turn of a channel, from the rules of its note and of its effect.
use Rattle.std.proofs.Common.{◌≡◌, ◌∙◌, ℕ, true, false, refl, ap, sym, subst}
use Rattle.ft_types.specs.declared.module.Module.{Module}
use Rattle.ft_types.specs.declared.pattern.Cell.{Cell}
use Rattle.ft_types.specs.Views.{Shown, keeping}
use Rattle.ft_replay.specs.declared.effect.Effect.{Effect}
use Rattle.ft_replay.specs.declared.state.Channel.{Channel}
use Rattle.ft_replay.specs.declared.state.Control.{Control}
use Rattle.ft_replay.specs.State.{Lane, Turn}
use Rattle.ft_replay.specs.declared.effect.Effect.TheVariants.{Nothing}
use Rattle.ft_replay.specs.declared.effect.VolumeEffect.TheVariants as column
use Rattle.ft_replay.specs.Effects.{effect_in, effect_of, digit_effect, volume_effect_of}
use Rattle.ft_replay.specs.Rules.{slide_start, setting_start, slide_tick, swing_tick, control_tick, control_start, loop_start}
use Rattle.ft_replay.specs.VolumeColumn.{volume_start_of, volume_tick_of}
use Rattle.ft_replay.specs.Row.{with_channel, with_offset, is_delayed, strike_of, delayed_strike, effect_start_of, effect_tick_of, row_start_of, row_tick_of, note_of, after_note}
use Rattle.ft_replay.specs.Standing.{lane_of, turn_of, Became, Turned}
use Rattle.ft_replay.specs.Calls.{MakesTurn, MakesTurnShown}
use Rattle.ft_channel.proofs.Starts.{keeping_same}
use Rattle.ft_channel.specs.Looping.{Loops, turn_with}

-- a rule of channel and control, after one that made a lane
turned_by :
    (rule : Module → Turn → Turn) (before mid after : Shown) (c : ℕ) (lane : Lane) (struck last : Channel)
    (control control_after : Control)
    → Became c lane before mid struck → after ≡ mid → Loops (rule mid.song) struck last control control_after
    → Turned c (rule before.song (record { lane = lane; control = control })) before after last control_after
turned_by rule before mid after c lane struck last control control_after became same loops =
    let song : mid.song ≡ before.song = ap (λ (s : Shown). s.song) became.kept in
    let turn : turn_with last lane.owned control_after ≡ rule before.song (record { lane = lane; control = control }) =
    loops lane.owned ∙ ap (λ (s : Module). rule s (turn_with struck lane.owned control)) song
    ∙ ap (λ (channel : Channel). rule before.song (turn_with channel lane.owned control)) became.same in
    record {
      lane = record {
        same = ap (λ (t : Turn). t.lane.channel) turn;
        kept = same ∙ became.kept ∙ ap (λ (t : Turn). keeping c t.lane.owned before) turn;
      };
      same = ap (λ (t : Turn). t.control) turn;
    }

-- a row that isn't delayed
row_rule : (version : ℕ) (song : Module) (c : ℕ) (cell : Cell) (turn : Turn) → is_delayed (effect_in cell) ≡ false
    → row_start_of version song c cell turn
    ≡ effect_start_of song c (effect_in cell)
    (record {
      lane = strike_of version song c cell (with_channel (with_offset (effect_in cell)) turn.lane);
      control = turn.control;
    })
unfolding row_start_of
row_rule version song c cell turn plain = rw plain refl

pub start_turned :
    (before mid after : Shown) (c : ℕ) (cell : Cell) (effect : Effect) (channel offset struck last : Channel)
    (control control_after : Control)
    → effect ≡ effect_in cell → is_delayed effect ≡ false → offset ≡ with_offset effect channel
    → Became c (strike_of before.version before.song c cell (lane_of c before offset)) before mid struck → after ≡ mid
    → Loops (effect_start_of mid.song c effect) struck last control control_after
    → Turned c (row_start_of before.version before.song c cell (turn_of c before channel control)) before after last
    control_after
start_turned before mid after c cell effect channel offset struck last control control_after e plain o became same loops
    =
    let here = o ∙ ap (λ (x : Effect). with_offset x channel) e in
    let lane = strike_of before.version before.song c cell (lane_of c before (with_offset (effect_in cell) channel)) in
    let made : Became c lane before mid struck =
    subst
    (λ (x : Channel). Became c (strike_of before.version before.song c cell (lane_of c before x)) before mid struck)
    here became in
    let rule : Loops (effect_start_of mid.song c (effect_in cell)) struck last control control_after =
    subst (λ (x : Effect). Loops (effect_start_of mid.song c x) struck last control control_after) e loops in
    subst (λ (t : Turn). Turned c t before after last control_after)
    (sym (row_rule before.version before.song c cell (turn_of c before channel control) (ap is_delayed (sym e) ∙ plain)))
    (turned_by (λ (song : Module). effect_start_of song c (effect_in cell)) before mid after c lane struck last control
    control_after made same rule)

-- a later tick
tick_rule : (version : ℕ) (song : Module) (c u : ℕ) (turn : Turn)
    → row_tick_of version song c u turn
    ≡ effect_tick_of song u (effect_in turn.lane.channel.cell) (record {
      lane =
          delayed_strike version song c turn.lane.channel.cell u (effect_in turn.lane.channel.cell)
          (with_channel (volume_tick_of (volume_effect_of turn.lane.channel.cell.volume)) turn.lane);
      control = turn.control;
    })
unfolding row_tick_of
tick_rule version song c u turn = refl

pub tick_turned :
    (before mid after : Shown) (c u : ℕ) (effect : Effect) (channel slid struck last : Channel)
    (control control_after : Control)
    → effect ≡ effect_in channel.cell → slid ≡ volume_tick_of (volume_effect_of channel.cell.volume) channel
    → Became c (delayed_strike before.version before.song c channel.cell u effect (lane_of c before slid)) before mid
    struck → after ≡ mid
    → Loops (effect_tick_of mid.song u effect) struck last control control_after
    → Turned c (row_tick_of before.version before.song c u (turn_of c before channel control)) before after last
    control_after
tick_turned before mid after c u effect channel slid struck last control control_after e s became same loops =
    let cell = channel.cell in
    let slides = volume_tick_of (volume_effect_of cell.volume) channel in
    let lane = delayed_strike before.version before.song c cell u (effect_in cell) (lane_of c before slides) in
    let made : Became c lane before mid struck =
    subst
    (λ (x : Effect).
    Became c (delayed_strike before.version before.song c cell u x (lane_of c before slides)) before mid struck)
    e
    (subst
    (λ (x : Channel).
    Became c (delayed_strike before.version before.song c cell u effect (lane_of c before x)) before mid struck)
    s became) in
    let rule : Loops (effect_tick_of mid.song u (effect_in cell)) struck last control control_after =
    subst (λ (x : Effect). Loops (effect_tick_of mid.song u x) struck last control control_after) e loops in
    subst (λ (t : Turn). Turned c t before after last control_after)
    (sym (tick_rule before.version before.song c u (turn_of c before channel control)))
    (turned_by (λ (song : Module). effect_tick_of song u (effect_in cell)) before mid after c lane struck last control
    control_after made same rule)

-- ---- by what the view may show

pub turns_shown : {V W : Type 0}
    → (shows : V → W → Type 0) (shown : V → W → Shown) (rule : ℕ → Module → ℕ → Turn → Turn) (c : ℕ)
    (view view_after : V)
    (channel channel_after : Channel) (control control_after : Control)
    → MakesTurn shows shown rule c view view_after channel channel_after control control_after
    → MakesTurnShown shows shown rule c view view_after channel channel_after control control_after
turns_shown shows shown rule c view view_after channel channel_after control control_after turns after may =
    let w = may.0 in
    let made = turns w may.1 in
    let before = shown view w in (
      before,
      (w, made.0, refl),
      subst
          (λ (s : Shown).
          Turned c (rule before.version before.song c (turn_of c before channel control)) before s channel_after
          control_after) may.2 made.1,
    )

-- a delayed row turns nothing yet
pub delayed_turned : (shown : Shown) (c : ℕ) (cell : Cell) (channel : Channel) (control : Control)
    → is_delayed (effect_in cell) ≡ true
    → Turned c (row_start_of shown.version shown.song c cell (turn_of c shown channel control)) shown shown channel
    control
unfolding row_start_of
delayed_turned shown c cell channel control late =
    rw late (record { lane = record { same = refl; kept = keeping_same c shown }; same = refl })

-- a cell without an effect has none, and so has its volume byte
still_effect : (cell : Cell) → cell.effect ≡ 0 → cell.parameter ≡ 0 → effect_in cell ≡ Nothing
unfolding effect_of digit_effect
still_effect cell e p = rw e (rw p refl)

still_volume : (cell : Cell) → cell.volume ≡ 0 → volume_effect_of cell.volume ≡ column.Nothing
unfolding volume_effect_of
still_volume cell v = rw v refl

-- such a cell turns nothing in later ticks
by_nothing : (shown : Shown) (c u : ℕ) (channel : Channel) (control : Control) → effect_in channel.cell ≡ Nothing
    → volume_effect_of channel.cell.volume ≡ column.Nothing
    → Turned c (row_tick_of shown.version shown.song c u (turn_of c shown channel control)) shown shown channel control
unfolding row_tick_of effect_tick_of volume_tick_of slide_tick swing_tick control_tick
by_nothing shown c u channel control e v =
    rw e (rw v (record { lane = record { same = refl; kept = keeping_same c shown }; same = refl }))

pub still_turned : (shown : Shown) (c u : ℕ) (channel : Channel) (control : Control) → channel.cell.volume ≡ 0
    → channel.cell.effect ≡ 0 → channel.cell.parameter ≡ 0
    → Turned c (row_tick_of shown.version shown.song c u (turn_of c shown channel control)) shown shown channel control
still_turned shown c u channel control v e p =
    by_nothing shown c u channel control (still_effect channel.cell e p) (still_volume channel.cell v)

-- an empty cell turns nothing at the start of its row
unstruck : (version : ℕ) (song : Module) (c : ℕ) (cell : Cell) (lane : Lane) → cell.note ≡ 0 → cell.instrument ≡ 0
    → volume_effect_of cell.volume ≡ column.Nothing → strike_of version song c cell lane ≡ lane
unfolding strike_of note_of after_note volume_start_of
unstruck version song c cell lane n i v = rw n (rw i (rw v refl))

unstarted : (version : ℕ) (song : Module) (c : ℕ) (cell : Cell) (turn : Turn) → cell.note ≡ 0 → cell.instrument ≡ 0
    → volume_effect_of cell.volume ≡ column.Nothing → effect_in cell ≡ Nothing
    → row_start_of version song c cell turn ≡ turn
unfolding row_start_of effect_start_of slide_start setting_start control_start loop_start
unstarted version song c cell turn n i v e =
    rw e
    (ap (λ (lane : Lane). record { lane = lane; control = turn.control })
    (unstruck version song c cell turn.lane n i v))

pub empty_turned : (shown : Shown) (c : ℕ) (cell : Cell) (channel : Channel) (control : Control) → cell.note ≡ 0
    → cell.instrument ≡ 0
    → cell.volume ≡ 0 → cell.effect ≡ 0 → cell.parameter ≡ 0
    → Turned c (row_start_of shown.version shown.song c cell (turn_of c shown channel control)) shown shown channel
    control
empty_turned shown c cell channel control n i v e p =
    subst (λ (t : Turn). Turned c t shown shown channel control)
    (sym
    (unstarted shown.version shown.song c cell (turn_of c shown channel control) n i (still_volume cell v)
    (still_effect cell e p)))
    (record { lane = record { same = refl; kept = keeping_same c shown }; same = refl })

-- a cell without note, instrument and volume byte strikes nothing
pub silent_became : (shown : Shown) (c : ℕ) (cell : Cell) (channel : Channel) → cell.note ≡ 0 → cell.instrument ≡ 0
    → cell.volume ≡ 0
    → Became c (strike_of shown.version shown.song c cell (lane_of c shown channel)) shown shown channel
silent_became shown c cell channel n i v =
    subst (λ (lane : Lane). Became c lane shown shown channel)
    (sym (unstruck shown.version shown.song c cell (lane_of c shown channel) n i (still_volume cell v)))
    (record { same = refl; kept = keeping_same c shown })
