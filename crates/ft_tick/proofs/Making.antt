-- The parts of a tick make the tick.
use Rattle.std.proofs.Common.{◌≡◌, ℕ, List, map, ap, ◌∙◌}
use Rattle.ft_types.specs.declared.module.Module.{Module}
use Rattle.ft_types.specs.Views.{Shown}
use Rattle.ft_replay.specs.declared.state.Channel.{Channel}
use Rattle.ft_replay.specs.declared.state.Control.{Control}
use Rattle.ft_replay.specs.State.{Lane, SequentialState}
use Rattle.ft_replay.specs.Hearing.{heard_channel}
use Rattle.ft_replay.specs.Standing.{Made, state_of}
use Rattle.ft_replay.specs.Tick.{after_rows, at_place, next_tick, tick_state_of, with_channels, with_control}
use Rattle.ft_replay.specs.Time.{tick_frames, with_carry}
use Rattle.ft_tick.proofs.Lanes.{lanes_of-map}

-- a state whose rows are done, heard and brought to the next tick
heard_on : ℕ → Module → SequentialState → SequentialState
heard_on rate song done =
    next_tick
    (with_channels (heard_channel rate (with_carry rate done.control) song)
    (with_control (with_carry rate done.control) done))

-- what is known once the rows of a tick are done
pub record AreRowsDone (before placed after : Shown) (control place done : Control)
    (channels place_channels done_channels : List Channel) : Type 0 where
  pub here : placed ≡ before
  pub found : state_of place place_channels before ≡ at_place before.song (state_of control channels before)
  pub rows : Made after_rows placed after (state_of place place_channels placed) (state_of done done_channels after)

rows_state :
    (before placed after : Shown) (control place done : Control) (channels place_channels done_channels : List Channel)
    → AreRowsDone before placed after control place done channels place_channels done_channels
    → state_of done done_channels after
    ≡ after_rows before.version before.song (at_place before.song (state_of control channels before))
rows_state before placed after control place done channels place_channels done_channels r =
    r.rows.state
    ∙ ap (λ (s : Shown). after_rows s.version s.song (state_of place place_channels s)) r.here
    ∙ ap (after_rows before.version before.song) r.found

pub tick_of :
    (rate : ℕ) (before placed rows after : Shown) (control place done timed next : Control)
    (channels place_channels done_channels heard last_channels : List Channel)
    → AreRowsDone before placed rows control place done channels place_channels done_channels
    → after ≡ rows → timed ≡ with_carry rate done → heard ≡ map (heard_channel rate timed rows.song) done_channels
    → state_of next last_channels after ≡ next_tick (state_of timed heard after)
    → Made (λ version song state. (tick_state_of version song rate state).state) before after
    (state_of control channels before) (state_of next last_channels after)
unfolding tick_state_of heard_on
tick_of rate before placed rows after control place done timed next channels place_channels done_channels heard
    last_channels r on time hear last =
    let song : rows.song ≡ before.song = r.rows.song ∙ ap (λ (s : Shown). s.song) r.here in
    let made : state_of timed heard after
    ≡ with_channels (heard_channel rate (with_carry rate done) before.song)
    (with_control (with_carry rate done) (state_of done done_channels rows)) =
    ap (λ (s : Shown). state_of timed heard s) on
    ∙ ap (λ (l : List Channel). state_of timed l rows) hear
    ∙ ap (λ (x : Control). state_of x (map (heard_channel rate x rows.song) done_channels) rows) time
    ∙ ap
    (λ (m : Module).
    state_of (with_carry rate done) (map (heard_channel rate (with_carry rate done) m) done_channels) rows) song
    ∙ ap (λ (l : List Lane). record { control = with_carry rate done; lanes = l })
    (lanes_of-map (heard_channel rate (with_carry rate done) before.song) done_channels rows.kept) in
    record {
      version = ap (λ (s : Shown). s.version) on ∙ r.rows.version ∙ ap (λ (s : Shown). s.version) r.here;
      song = ap (λ (s : Shown). s.song) on ∙ song;
      state =
          last ∙ ap next_tick made
          ∙ ap (heard_on rate before.song)
          (rows_state before placed rows control place done channels place_channels done_channels r);
    }

pub place_is :
    (rate frames : ℕ) (before placed rows : Shown) (control place done : Control)
    (channels place_channels done_channels : List Channel)
    → AreRowsDone before placed rows control place done channels place_channels done_channels
    → frames ≡ tick_frames rate done
    → record { order = place.pos; row = place.row; tick = place.tick; frames = frames }
    ≡ (tick_state_of before.version before.song rate (state_of control channels before)).place
unfolding tick_state_of
place_is rate frames before placed rows control place done channels place_channels done_channels r e =
    let at : place ≡ (at_place before.song (state_of control channels before)).control =
    ap (λ (s : SequentialState). s.control) r.found in
    let end : done
    ≡ (after_rows before.version before.song (at_place before.song (state_of control channels before))).control =
    ap (λ (s : SequentialState). s.control)
    (rows_state before placed rows control place done channels place_channels done_channels r) in
    ap (λ (f : ℕ). record { order = place.pos; row = place.row; tick = place.tick; frames = f })
    (e ∙ ap (tick_frames rate) end)
    ∙ ap
    (λ (x : Control).
    record {
      order = x.pos;
      row = x.row;
      tick = x.tick;
      frames =
          tick_frames rate
          (after_rows before.version before.song (at_place before.song (state_of control channels before))).control;
    }) at
