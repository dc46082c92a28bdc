-- One tick of the whole state.
use Rattle.std.specs.Prelude.{ℕ, zero, suc, ◌+◌, ◌*◌, ◌%◌, ◌==◌, ◌||◌, pos, ℤ, Bool, false, List, Option, None, Some, is_some, unwrap_or, map, length, get_or, set, nat_lt, if◌then◌else◌}
use Rattle.ft_types.specs.declared.module.Module.{Module}
use Rattle.ft_types.specs.Views.{cell_at, order_at, rows_at}
use Rattle.ft_replay.specs.declared.state.Channel.{Channel}
use Rattle.ft_replay.specs.declared.state.Control.{Control}
use Rattle.ft_replay.specs.declared.state.Place.{Place}
use Rattle.ft_replay.specs.State.{SequentialState, Turn, blank_lane}
use Rattle.ft_replay.specs.Time.{tick_frames, with_carry}
use Rattle.ft_replay.specs.Row.{with_channel, row_start_of, row_tick_of}
use Rattle.ft_replay.specs.Hearing.{heard_channel}
use Rattle.ft_replay.specs.Sound.{sound_of, lane_after}

abbrev pub with_control : Control → SequentialState → SequentialState
with_control control state = record state { control = control }

abbrev pub with_channels : (Channel → Channel) → SequentialState → SequentialState
with_channels rule state = record state { lanes = map (with_channel rule) state.lanes }

-- ---- where the tick is

abbrev pub without_loop : Channel → Channel
without_loop channel = record channel { loop_row = 0; loop_count = 0 }

-- a setting of the order position, at a row: the loops of rows end on all channels
abbrev pub at_position : ℕ → ℕ → SequentialState → SequentialState
at_position position row state =
    with_channels without_loop
    (with_control (record state.control { pos = position; row = row }) state)

-- the first tick of all takes tempo and BPM from the song
abbrev pub with_song_tempo : Module → Control → Control
with_song_tempo song control =
    if control.tempo == 0 then record control { tempo = song.tempo; bpm = song.bpm } else control

-- an order position past the song is the restart, at its first row
abbrev pub within_orders : Module → SequentialState → SequentialState
within_orders song state =
    if nat_lt state.control.pos (length song.orders) then state
    else at_position song.restart 0 state

-- the order position after one; past the song it is the restart
abbrev pub next_order : Module → ℕ → ℕ
next_order song position =
    if nat_lt (position + 1) (length song.orders) then position + 1 else song.restart

-- a row past the pattern is the first of the next order position
abbrev pub within_rows : Module → SequentialState → SequentialState
within_rows song state =
    if nat_lt state.control.row (rows_at song (order_at song state.control.pos)) then state
    else at_position (next_order song state.control.pos) 0 state

-- at the start of a row the state is brought into the song
unfoldable pub at_place : Module → SequentialState → SequentialState
at_place song state =
    if state.control.tick == 0
    then within_rows song
    (within_orders song (with_control (with_song_tempo song state.control) state))
    else state

-- ---- the rules of the row, channel by channel

abbrev pub turn_at : ℕ → SequentialState → Turn
turn_at c state = record { lane = get_or state.lanes c blank_lane; control = state.control }

abbrev pub with_turn : ℕ → Turn → SequentialState → SequentialState
with_turn c turn state = record { lanes = set state.lanes c turn.lane; control = turn.control }

abbrev pub one_turn : (ℕ → Turn → Turn) → ℕ → SequentialState → SequentialState
one_turn rule c state = with_turn c (rule c (turn_at c state)) state

-- the first channels take their turns in ascending order; each sees what the ones before it left
abbrev pub in_turn : (ℕ → Turn → Turn) → ℕ → SequentialState → SequentialState
in_turn rule zero state = state
in_turn rule (suc channels) state = one_turn rule channels (in_turn rule channels state)

-- offsets and mutes hold for one tick
abbrev pub without_offsets : Channel → Channel
without_offsets channel =
    record channel { vib_off = pos 0; trem_off = pos 0; arp = 0; gliding = false; muted = false }

-- at the start of a row each channel keeps its cell
abbrev pub first_turn : ℕ → Module → ℕ → Turn → Turn
first_turn version song c turn =
    let cell = cell_at song (order_at song turn.control.pos) turn.control.row c in
    row_start_of version song c cell
    (record turn { lane = with_channel (λ channel. record channel { cell = cell }) turn.lane })

abbrev pub later_turn : ℕ → Module → ℕ → Turn → Turn
later_turn version song c turn =
    row_tick_of version song c (turn.control.tick % turn.control.tempo) turn

-- where a row is repeated, its tick 0 has no rule
unfoldable pub after_rows : ℕ → Module → SequentialState → SequentialState
after_rows version song state =
    let fresh = with_channels without_offsets state in
    if state.control.tick == 0 then in_turn (first_turn version song) (length state.lanes) fresh
    else (if state.control.tick % state.control.tempo == 0 then fresh
    else in_turn (later_turn version song) (length state.lanes) fresh)

-- ---- the next tick

-- the first row of a channel's loop
abbrev pub loop_row_of : ℕ → SequentialState → ℕ
loop_row_of c state = (get_or state.lanes c blank_lane).channel.loop_row

-- a jump or a break leads to another order position, which it sets even where the number stays
abbrev pub leads_on : Control → Bool
leads_on control = is_some control.jump || is_some control.to_row

-- the next row is the first of a loop that is still to be played; or else where a jump or a break
-- leads, which is the first row where none is named, of the next order position where none is
-- named; or else the row below
abbrev pub row_by : Option ℕ → SequentialState → SequentialState
row_by (Some c) state = with_control (record state.control { row = loop_row_of c state }) state
row_by None state =
    if leads_on state.control
    then at_position (unwrap_or state.control.jump (state.control.pos + 1))
    (unwrap_or state.control.to_row 0) state
    else with_control (record state.control { row = state.control.row + 1 }) state

-- a row begins: nothing is pending any more
abbrev pub at_first_tick : Control → Control
at_first_tick control =
    record control { tick = 0; delay = 0; jump = None; to_row = None; back = None }

unfoldable pub next_row : SequentialState → SequentialState
next_row state =
    let next = row_by state.control.back state in
    with_control (at_first_tick next.control) next

-- after the last tick of a row comes the next row
unfoldable pub next_tick : SequentialState → SequentialState
next_tick state =
    if state.control.tick + 1 == state.control.tempo * (1 + state.control.delay) then next_row state
    else with_control (record state.control { tick = state.control.tick + 1 }) state

-- ---- the tick

-- a tick up to its sound: the state after it, with its voices at their first frame, and its place
pub record TickState : Type 0 where
  pub state : SequentialState
  pub place : Place

-- by a rule of what is heard of a channel
abbrev pub tick_by : (Control → Module → Channel → Channel) → ℕ → Module → ℕ → SequentialState
    → TickState
tick_by hear version song rate state =
    let at = at_place song state in
    let done = after_rows version song at in
    let timed = with_control (with_carry rate done.control) done in
    record {
      state = next_tick (with_channels (hear timed.control song) timed);
      place = record {
        order = at.control.pos;
        row = at.control.row;
        tick = at.control.tick;
        frames = tick_frames rate done.control;
      };
    }

unfoldable pub tick_state_of : ℕ → Module → ℕ → SequentialState → TickState
tick_state_of version song rate state = tick_by (heard_channel rate) version song rate state

-- a tick: the state after it, its place, and its frames, left and right in turn
pub record Tick : Type 0 where
  pub state : SequentialState
  pub place : Place
  pub sound : List ℤ

unfoldable pub seq_tick : ℕ → Module → ℕ → SequentialState → Tick
seq_tick version song rate state =
    let silent = tick_state_of version song rate state in
    record {
      state = record silent.state {
        lanes = map (lane_after silent.place.frames) silent.state.lanes;
      };
      place = silent.place;
      sound = sound_of silent.state.lanes silent.place.frames;
    }
