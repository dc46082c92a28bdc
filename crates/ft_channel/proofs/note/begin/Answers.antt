use Rattle.std.proofs.Common.{rules, ◌≡◌, ◌∙◌, ◌&&◌, sym, ap, Option, None, Bool, true, is_some, ℕ, ℤ, false, arith, to_z, of_z, [], set}
use Rattle.std.specs.Prelude.{nat_lt, nat_abs, FitsSigned}
use Rattle.std.specs.Int.{w8, w16}
use Rattle.std.proofs.lemmas.Int.{to_z-of_z}
use Rattle.ft_types.specs.declared.module.SongHead.{SongHead}
use Rattle.ft_types.specs.declared.voice.SampleHead.{SampleHead}
use Rattle.ft_types.specs.Views.{Shown, keeping}
use Rattle.ft_tables.specs.Pitch.{is_played, played_note, period_of}
use Rattle.ft_replay.specs.declared.effect.Effect.{Effect}
use Rattle.ft_replay.specs.Row.{note_period, start_frame, start_frame_by, start_finetune, with_voice, new_voice}
use Rattle.ft_replay.specs.Effects.{effect_in}
use Rattle.ft_channel.proofs.Lists.{set_once, set_twice}
use Rattle.ft_channel.proofs.Starts.{can_begin, begin_missing, begin_not, begin_so, keeping_twice}
use Rattle.ft_channel.proofs.note.begin.Goals as goal

-- the note that the code plays is the one that is played
as_played : (note : ℕ) (relative result : ℤ) → FitsSigned w8 relative → FitsSigned w16 result
    → result ≡ played_note note (to_z w8 (of_z w8 relative))
    → played_note note relative ≡ to_z w16 (of_z w16 result)
as_played note relative result small fits e =
    ap (played_note note) (sym (to_z-of_z w8 relative small)) ∙ sym e ∙ sym (to_z-of_z w16 result fits)

pub returns-in_default-clause-started : goal.returns-in_default-clause-started
returns-in_default-clause-started g c = λ w is.
    let a = c.start.ensures.shows w is in
    let before = g.V.SongView.shown c.args.view.now w in
    let starts = begin_missing before (g.V.SongView.shown c.start.new.self w) c.args.c c.args.cell c.args.channel.now
    (sym (c.start.ensures.value w is) ∙ c.in_default.is) a.1 in
    (a.0, rw c.end_voice.ensures.value starts)

pub returns-then-not-can_begin-clause-started : goal.returns-then-not-can_begin-clause-started
returns-then-not-can_begin-clause-started g c = λ w is.
    let a = c.stop.ensures.shows w is in
    let b = c.start.ensures.shows w a.0 in
    let before = g.V.SongView.shown c.args.view.now w in
    let head = c.in-Some.head in
    let small : FitsSigned w8 head.relative = search rules in
    let fits : FitsSigned w16 c.played_note-note.result = search rules in
    let frame : c.start_frame-frame.result ≡ start_frame c.args.cell c.args.channel.now =
    c.start_frame-frame.ensures.value
    ∙ ap (λ (effect : Effect). start_frame_by effect c.args.channel.now) c.requires.effect in
    let starts = begin_not before (g.V.SongView.shown c.stop.new.self w) c.args.c c.args.cell c.args.channel.now head
    (sym (c.start.ensures.value w a.0) ∙ c.in-Some.is)
    (ap (λ (f : ℕ). is_played (played_note c.args.cell.note head.relative) && nat_lt f head.frames) (sym frame)
    ∙ ap (λ (note : ℤ). is_played note && nat_lt c.start_frame-frame.result head.frames)
    (as_played c.args.cell.note head.relative c.played_note-note.result small fits c.played_note-note.ensures)
    ∙ sym c.can_begin.ensures.value ∙ c.if-not-can_begin.true)
    (a.1 ∙ ap (keeping c.args.c None) b.1 ∙ keeping_twice c.args.c _ None before) in
    (b.0, rw c.end_voice-then-not-can_begin.ensures.value starts)

pub returns-then-not-can_begin-clause-keeps : goal.returns-then-not-can_begin-clause-keeps
returns-then-not-can_begin-clause-keeps g c =
    let stopped =
    set_twice (g.V.SongView.holds c.args.view.now) (g.V.SongView.holds c.start.new.self)
    (g.V.SongView.holds c.stop.new.self) c.args.c _ false c.start.ensures.holds c.stop.ensures.holds in
    let k =
    set_once (g.V.SongView.holds c.args.view.now) (g.V.SongView.holds c.stop.new.self) c.args.c false false
    c.requires.channel stopped in
    let ended = c.end_voice-then-not-can_begin.ensures.voice in
    rw ended (record {
      kept = λ s. tt;
      exact = λ e. k.0;
      others = λ d h ne s. c.stop.ensures.keeps d h ne (c.start.ensures.keeps d h ne s);
      alone = k.1;
    })

pub returns-then-not-can_begin-clause-range : goal.returns-then-not-can_begin-clause-range
returns-then-not-can_begin-clause-range g c = c.end_voice-then-not-can_begin.ensures.range c.args.c c.requires.range

pub returns-then-not-can_begin-clause-words : goal.returns-then-not-can_begin-clause-words
returns-then-not-can_begin-clause-words g c =
    let stopped =
    set_twice (g.V.SongView.words c.args.view.now) (g.V.SongView.words c.start.new.self)
    (g.V.SongView.words c.stop.new.self) c.args.c _ [] c.start.ensures.words c.stop.ensures.words in
    let within = g.met.V.SongView.worded c.args.view.now in
    (set_once (g.V.SongView.words c.args.view.now) (g.V.SongView.words c.stop.new.self) c.args.c [] [] (omega arith) stopped).1

pub returns-clause-started : goal.returns-clause-started
returns-clause-started g c = λ w is.
    let a = c.head-linear.ensures.shows w is in
    let b = c.start.ensures.shows w a.0 in
    let before = g.V.SongView.shown c.args.view.now w in
    let head = c.in-Some.head in
    let small : FitsSigned w8 head.relative = search rules in
    let fits : FitsSigned w16 c.played_note-note.result = search rules in
    let played =
    as_played c.args.cell.note head.relative c.played_note-note.result small fits c.played_note-note.ensures in
    let linear : c.head-linear.result.linear ≡ before.song.linear =
    ap (λ (said : SongHead). said.linear) (c.head-linear.ensures.value w is)
    ∙ ap (λ (shown : Shown). shown.song.linear) b.1 in
    let frame : c.start_frame-frame.result ≡ start_frame c.args.cell c.args.channel.now =
    c.start_frame-frame.ensures.value
    ∙ ap (λ (effect : Effect). start_frame_by effect c.args.channel.now) c.requires.effect in
    let begins : can_begin c.args.cell (start_frame c.args.cell c.args.channel.now) head ≡ true =
    ap (λ (f : ℕ). is_played (played_note c.args.cell.note head.relative) && nat_lt f head.frames) (sym frame)
    ∙ ap (λ (note : ℤ). is_played note && nat_lt c.start_frame-frame.result head.frames) played
    ∙ sym c.can_begin.ensures.value ∙ c.if-not-can_begin.false in
    let few : FitsSigned w8 c.start_finetune.result = search rules in
    let tune : to_z w8 (of_z w8 c.start_finetune.result) ≡ start_finetune (effect_in c.args.cell) head =
    to_z-of_z w8 c.start_finetune.result few ∙ c.start_finetune.ensures
    ∙ ap (λ (effect : Effect). start_finetune effect head) c.requires.effect in
    let pitch : c.tuned_period-period.result ≡ note_period before.song c.args.cell head =
    c.tuned_period-period.ensures.value
    ∙ ap
    (λ (it : Bool).
    period_of it (nat_abs (to_z w16 (of_z w16 c.played_note-note.result)))
    (to_z w8 (of_z w8 c.start_finetune.result))) linear
    ∙ ap (λ (note : ℤ). period_of before.song.linear (nat_abs note) (to_z w8 (of_z w8 c.start_finetune.result)))
    (sym played)
    ∙ ap
    (λ (finetune : ℤ). period_of before.song.linear (nat_abs (played_note c.args.cell.note head.relative)) finetune)
    tune in
    let starts = begin_so before (g.V.SongView.shown c.head-linear.new.self w) c.args.c c.args.cell c.args.channel.now
    c.begin_voice.new.channel head c.tuned_period-period.result
    (sym (c.start.ensures.value w a.0) ∙ c.in-Some.is) begins (a.1 ∙ b.1) pitch
    (c.begin_voice.ensures.value
    ∙ ap (λ (f : ℕ). with_voice (new_voice c.args.c f head) c.tuned_period-period.result c.args.channel.now) frame)
    in
    (b.0, starts)

pub returns-clause-keeps : goal.returns-clause-keeps
returns-clause-keeps g c =
    let started =
    c.head-linear.ensures.holds ∙ c.start.ensures.holds
    ∙ ap (λ (k : Option SampleHead). set (g.V.SongView.holds c.args.view.now) c.args.c (is_some k)) c.in-Some.is in
    let k =
    set_once (g.V.SongView.holds c.args.view.now) (g.V.SongView.holds c.head-linear.new.self) c.args.c true false
    c.requires.channel started in
    rw c.begin_voice.ensures.voice (record {
      kept = λ s. c.head-linear.ensures.keeps c.args.c c.in-Some.head c.in-Some.ensures.began;
      exact = λ e. k.0;
      others = λ d h ne s. c.head-linear.ensures.keeps d h (c.start.ensures.keeps d h ne s);
      alone = k.1;
    })

pub returns-clause-words : goal.returns-clause-words
returns-clause-words g c =
    let within = g.met.V.SongView.worded c.args.view.now in
    let started = c.head-linear.ensures.words ∙ c.start.ensures.words in
    (set_once (g.V.SongView.words c.args.view.now) (g.V.SongView.words c.head-linear.new.self) c.args.c [] [] (omega arith) started).1

pub returns-clause-same : goal.returns-clause-same
returns-clause-same g c = g.met.V.SongView.same_through _ _ _ c.start.ensures.same c.head-linear.ensures.same
