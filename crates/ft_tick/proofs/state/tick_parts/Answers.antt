use Rattle.std.proofs.Common.{◌≡◌, ◌≤◌, ◌<◌, ℕ, List, length, take, ap, sym, subst, ◌∙◌, arith}
use Rattle.std.specs.Prelude.{All}
use Rattle.std.proofs.lemmas.List.{length-take}
use Rattle.ft_types.specs.declared.voice.Voice.{Voice}
use Rattle.ft_types.specs.Views.{Shown}
use Rattle.ft_replay.specs.declared.state.Channel.{Channel}
use Rattle.ft_replay.specs.Standing.{seated, state_of}
use Rattle.ft_replay.specs.Tick.{tick_state_of}
use Rattle.ft_tick.proofs.Parts.{seats_in_range, parts_keep, parts_range, parts_back}
use Rattle.ft_tick.proofs.Seating.{below_of}
use Rattle.ft_tick.proofs.state.tick_parts.Given.{Over}
use Rattle.ft_tick.proofs.state.tick_parts.Goals as goal
use Rattle.ft_tick.proofs.state.tick_parts.Goals.{After-seat, After-gather}

pub seat-requires : goal.seat-requires
seat-requires g c =
    let room : length (take c.args.used c.args.channels.now) ≡ c.args.used =
    omega (arith, length-take c.args.used c.args.channels.now, c.requires.range.few) in
    subst (All (λ voice. voice.channel < length (take c.args.used c.args.channels.now))) (sym c.as_slice.ensures.value)
    (subst (λ (n : ℕ). All (λ voice. voice.channel < n) c.args.voices.now.items) (sym room)
    (λ i d lt. below_of 0 c.args.used c.args.voices.now.items c.requires.range.ascend i d lt))

pub make_tick-at-requires-clause-range : goal.make_tick-at-requires-clause-range
make_tick-at-requires-clause-range g c =
    let sits : c.seat.new.channels ≡ seated (take c.args.used c.args.channels.now) c.args.voices.now.items =
    c.seat.ensures.seated
    ∙ ap (λ (voices : List Voice). seated (take c.args.used c.args.channels.now) voices) c.as_slice.ensures.value in
    let many : length c.seat.new.channels ≡ c.args.used =
    omega (arith, length-take c.args.used c.args.channels.now, c.seat.ensures.many, c.requires.range.few) in
    let le : c.args.used ≤ length c.args.channels.now = omega (arith, c.requires.range.few) in
    seats_in_range c.args.used c.args.control.now c.args.channels.now c.seat.new.channels c.args.voices.now.items
    c.requires.range le sits many

-- what is known once the voices are gathered
record Facts (g : Over) (c : After-gather g) : Type 0 where
  sits : c.seat.new.channels ≡ seated (take c.args.used c.args.channels.now) c.args.voices.now.items
  many : length c.seat.new.channels ≡ c.args.used
  le : c.args.used ≤ length c.args.channels.now
  made : c.args.used ≡ length c.make_tick-at.new.channels

facts : (g : Over) (c : After-gather g) → Facts g c
facts g c =
    let many : length c.seat.new.channels ≡ c.args.used =
    omega (arith, length-take c.args.used c.args.channels.now, c.seat.ensures.many, c.requires.range.few) in
    record {
      sits =
          c.seat.ensures.seated
          ∙ ap (λ (voices : List Voice). seated (take c.args.used c.args.channels.now) voices) c.as_slice.ensures.value;
      many = many;
      le = omega (arith, c.requires.range.few);
      made = sym (c.make_tick-at.ensures.keeps.many ∙ many);
    }

pub returns-clause-made : goal.returns-clause-made
returns-clause-made g c = λ w is.
    let f = facts g c in
    let a = c.make_tick-at.ensures.made w is in
    let after : Shown = g.V.SongView.shown c.make_tick-at.new.view w in
    let before : Shown = g.V.SongView.shown c.args.view.now w in
    let back = parts_back c.args.used c.make_tick-at.new.control c.make_tick-at.new.channels c.gather.new.channels _
    c.gather.result.items f.made c.make_tick-at.ensures.range
    c.gather.ensures.channels c.gather.ensures.voices in (
      a.0,
      record {
        version = a.1.version;
        song = a.1.song;
        state = ap (λ (channels : List Channel). state_of c.make_tick-at.new.control channels after) back ∙ a.1.state
            ∙ ap
            (λ (channels : List Channel).
            (tick_state_of before.version before.song c.args.rate (state_of c.args.control.now channels before)).state)
            f.sits;
      },
    )

pub returns-clause-keeps : goal.returns-clause-keeps
returns-clause-keeps g c =
    let f = facts g c in
    parts_keep (g.V.SongView.keeps c.args.view.now) (g.V.SongView.keeps c.make_tick-at.new.view)
    (g.V.SongView.holds c.args.view.now) (g.V.SongView.holds c.make_tick-at.new.view)
    c.args.used c.args.control.now c.make_tick-at.new.control c.args.channels.now c.seat.new.channels
    c.make_tick-at.new.channels c.args.voices.now.items c.gather.result.items
    c.requires.range f.le f.sits f.many c.requires.wide c.make_tick-at.ensures.keeps c.make_tick-at.ensures.range
    c.gather.ensures.voices

pub returns-clause-range : goal.returns-clause-range
returns-clause-range g c =
    let f = facts g c in
    parts_range c.args.used c.make_tick-at.new.control c.make_tick-at.new.channels c.gather.new.channels _
    c.gather.result.items c.requires.range.few f.made c.make_tick-at.ensures.range
    c.gather.ensures.channels c.gather.ensures.voices
