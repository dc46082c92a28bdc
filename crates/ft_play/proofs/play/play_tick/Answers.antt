use Rattle.std.proofs.Common.{◌≡◌, ◌≤◌, ◌<◌, ◌+◌, ◌*◌, List, Bool, false, length, take, get_or, map, refl, ap, sym, ◌∙◌, arith}
use Rattle.std.proofs.lemmas.Nat.{mul-le}
use Rattle.ft_types.specs.declared.voice.Voice.{Voice}
use Rattle.ft_types.specs.Views.{Shown}
use Rattle.ft_types.specs.Work.{frame_bound}
use Rattle.ft_replay.specs.declared.state.Place.{Place}
use Rattle.ft_replay.specs.Calls.{sounds_on}
use Rattle.ft_replay.specs.Sound.{voices_after, shown_after, lane_after}
use Rattle.ft_replay.specs.Standing.{lanes_of, seated, sequential_of}
use Rattle.ft_replay.specs.State.{SequentialState}
use Rattle.ft_play.specs.Mixed.{voices_of}
use Rattle.ft_play.proofs.Whole.{joined, voices_there, exact_after, few_voices, tick_state, tick_place, tick_sound}
use Rattle.ft_play.proofs.play.play_tick.Goals as goal

pub returns-clause-made : goal.returns-clause-made
returns-clause-made g c = λ w is.
    let song = c.tick_state-at.new.song in
    let frames = c.tick_state-at.result.frames in
    let m = c.mix_front.ensures.sound w is in
    let t = c.tick_state-at.ensures.made w m.0 in
    let before : Shown = g.V.SongView.shown c.args.view.now w in
    let mid : Shown = g.V.SongView.shown c.tick_state-at.new.view w in
    let after : Shown = g.V.SongView.shown c.mix_front.new.view w in
    let j = joined song.used frames song.control song.channels song.voices.items mid c.tick_state-at.ensures.range
    (omega (
      arith,
      g.met.V.SongView.wide c.tick_state-at.new.view w m.0,
      c.tick_state-at.ensures.keeps.wide,
      c.requires.wide,
      c.tick_state-at.ensures.used,
    )) in
    let shown : after ≡ shown_after frames song.voices.items mid = m.1 in
    let voices : c.mix_front.new.voices.items ≡ voices_after frames song.voices.items = c.mix_front.ensures.voices in
    let lanes : lanes_of (seated (take song.used song.channels) c.mix_front.new.voices.items) after.kept
    ≡ map (lane_after frames) (sequential_of song mid).lanes =
    ap (λ (l : List Voice). lanes_of (seated (take song.used song.channels) l) after.kept) voices
    ∙ ap
    (λ (s : Shown). lanes_of (seated (take song.used song.channels) (voices_after frames song.voices.items)) s.kept)
    shown
    ∙ j.lanes in (
      t.0,
      record {
        version = ap (λ (s : Shown). s.version) shown ∙ j.version ∙ t.1.version;
        song = ap (λ (s : Shown). s.song) shown ∙ j.song ∙ t.1.song;
        state = tick_state before.version before.song c.args.rate (sequential_of c.args.song.now before)
            (sequential_of song mid) _ frames t.1.state
            (ap (λ (p : Place). p.frames) (c.tick_state-at.ensures.place w m.0)) refl lanes;
      },
    )

pub returns-clause-place : goal.returns-clause-place
returns-clause-place g c = λ w is.
    let m = c.mix_front.ensures.sound w is in
    let before : Shown = g.V.SongView.shown c.args.view.now w in
    c.tick_state-at.ensures.place w m.0
    ∙ tick_place before.version before.song c.args.rate (sequential_of c.args.song.now before)

pub returns-clause-sound : goal.returns-clause-sound
returns-clause-sound g c = λ w is.
    let song = c.tick_state-at.new.song in
    let frames = c.tick_state-at.result.frames in
    let m = c.mix_front.ensures.sound w is in
    let t = c.tick_state-at.ensures.made w m.0 in
    let before : Shown = g.V.SongView.shown c.args.view.now w in
    let mid : Shown = g.V.SongView.shown c.tick_state-at.new.view w in
    let j = joined song.used frames song.control song.channels song.voices.items mid c.tick_state-at.ensures.range
    (omega (
      arith,
      g.met.V.SongView.wide c.tick_state-at.new.view w m.0,
      c.tick_state-at.ensures.keeps.wide,
      c.requires.wide,
      c.tick_state-at.ensures.used,
    )) in
    m.2 ∙ j.sound
    ∙ tick_sound before.version before.song c.args.rate (sequential_of c.args.song.now before) (sequential_of song mid)
    frames t.1.state
    (ap (λ (p : Place). p.frames) (c.tick_state-at.ensures.place w m.0))

pub returns-clause-mixed : goal.returns-clause-mixed
returns-clause-mixed g c = λ w is.
    let song = c.tick_state-at.new.song in
    let m = c.mix_front.ensures.sound w is in
    let t = c.tick_state-at.ensures.made w m.0 in
    let mid : Shown = g.V.SongView.shown c.tick_state-at.new.view w in
    c.copy_voices.ensures
    ∙ sym (voices_there song.used song.control song.channels song.voices.items mid c.tick_state-at.ensures.range)
    ∙ ap (λ (s : SequentialState). voices_of s.lanes) t.1.state

pub returns-clause-exact : goal.returns-clause-exact
returns-clause-exact g c = λ d lt x.
    let song = c.tick_state-at.new.song in
    let held = g.V.SongView.holds c.tick_state-at.new.view in
    let inside : d < length held = omega (arith, c.tick_state-at.ensures.keeps.wide, lt) in
    ap (λ (l : List Bool). get_or l d false) c.mix_front.ensures.holds
    ∙ exact_after 0 song.used d c.tick_state-at.result.frames song.voices.items held
    c.tick_state-at.ensures.range.ascend inside (c.tick_state-at.ensures.keeps.exact d lt x)
    ∙ ap (sounds_on d) (sym c.mix_front.ensures.voices)

pub returns-clause-few_voices : goal.returns-clause-few_voices
returns-clause-few_voices g c =
    let song = c.tick_state-at.new.song in
    omega (
      arith,
      ap (λ (l : List Voice). length l) c.copy_voices.ensures,
      few_voices 0 song.used song.voices.items (omega arith) c.tick_state-at.ensures.range.ascend,
      c.tick_state-at.ensures.used,
    )

pub returns-clause-work : goal.returns-clause-work
returns-clause-work g c =
    let song = c.tick_state-at.new.song in
    let frames = c.tick_state-at.result.frames in
    let each = 1 + 2 * frame_bound * frames in
    let few : length song.voices.items ≤ c.args.song.now.used =
    omega (
      arith,
      few_voices 0 song.used song.voices.items (omega arith) c.tick_state-at.ensures.range.ascend,
      c.tick_state-at.ensures.used,
    ) in
    let much : length song.voices.items * each ≤ c.args.song.now.used * each =
    mul-le (length song.voices.items) each c.args.song.now.used each few (omega arith) in
    let a = c.tick_state-at.ensures.work in
    let b = c.mix_front.ensures.work in
    (omega arith, grind arith)
