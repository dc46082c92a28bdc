use Rattle.std.proofs.Common.{◌≡◌, ℕ, length, sym, subst, ◌∙◌}
use Rattle.ft_types.specs.Views.{Shown}
use Rattle.ft_replay.specs.Range.{IsPlaying}
use Rattle.ft_replay.specs.Standing.{state_of}
use Rattle.ft_replay.specs.Tick.{at_place}
use Rattle.ft_tick.proofs.Kept.{keeps_after, keeps_lead, keeps_same, keeps_then}
use Rattle.ft_tick.proofs.Making.{AreRowsDone, tick_of}
use Rattle.ft_tick.proofs.tick.make_tick.Goals as goal

pub advance-requires-clause-playing : goal.advance-requires-clause-playing
advance-requires-clause-playing g c =
    c.tick_frames-frames.ensures.playing (length c.hear.new.channels)
    (subst (λ (n : ℕ). IsPlaying n c.do_rows.new.control) (sym c.hear.ensures.keeps.many) c.do_rows.ensures.playing)

pub returns-clause-made : goal.returns-clause-made
returns-clause-made g c = λ w is.
    let shown : g.row.V.Denot → Shown = λ view. g.V.SongView.shown view w in
    let h = c.hear.ensures.shows w is in
    let r = c.do_rows.ensures.made w h.0 in
    let p = c.find_place.ensures.shows w r.0 in
    let d = c.head-head.ensures.shows w p.0 in
    let before : Shown = shown c.args.view.now in
    let done : AreRowsDone before (shown c.find_place.new.view) (shown c.do_rows.new.view) c.args.control.now
    c.find_place.new.control c.do_rows.new.control
    c.args.channels.now c.find_place.new.channels c.do_rows.new.channels = record {
      here = p.1 ∙ d.1;
      found = subst
          (λ (s : Shown).
          state_of c.find_place.new.control c.find_place.new.channels s
          ≡ at_place s.song (state_of c.args.control.now c.args.channels.now s)) d.1
          (c.find_place.ensures.state w r.0);
      rows = r.1;
    } in (
      d.0,
      tick_of c.args.rate before (shown c.find_place.new.view) (shown c.do_rows.new.view) (shown c.hear.new.view)
          c.args.control.now c.find_place.new.control c.do_rows.new.control
          c.tick_frames-frames.new.control c.advance.new.control c.args.channels.now c.find_place.new.channels
          c.do_rows.new.channels c.hear.new.channels c.advance.new.channels done
          h.1 c.tick_frames-frames.ensures.control (c.hear.ensures.value w is)
          (c.advance.ensures.state (shown c.hear.new.view)),
    )

pub returns-clause-keeps : goal.returns-clause-keeps
returns-clause-keeps g c =
    keeps_lead (g.V.SongView.keeps c.args.view.now) (g.V.SongView.keeps c.find_place.new.view)
    (g.V.SongView.keeps c.hear.new.view)
    (g.V.SongView.holds c.args.view.now) (g.V.SongView.holds c.find_place.new.view) (g.V.SongView.holds c.hear.new.view)
    c.args.channels.now c.advance.new.channels
    (λ d h k. c.find_place.ensures.keeps d h (c.head-head.ensures.keeps d h k))
    (c.find_place.ensures.holds ∙ c.head-head.ensures.holds)
    (keeps_same (g.V.SongView.keeps c.find_place.new.view) (g.V.SongView.keeps c.hear.new.view)
    (g.V.SongView.holds c.find_place.new.view) (g.V.SongView.holds c.hear.new.view)
    c.args.channels.now c.find_place.new.channels c.advance.new.channels c.find_place.ensures.many
    c.find_place.ensures.voices
    (keeps_after _ _ _ _ _ _ _ c.advance.ensures.many c.advance.ensures.voices (keeps_then _ _ _ _ _ _ _ _ _ c.do_rows.ensures.keeps c.hear.ensures.keeps)))
