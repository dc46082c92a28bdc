use Rattle.std.proofs.Common.{ℕ, List, length, sym, subst, ◌∙◌}
use Rattle.ft_replay.specs.State.{first_state}
use Rattle.ft_replay.specs.Tick.{Tick}
use Rattle.ft_run.specs.Measure.{ticks_of_song}
use Rattle.ft_run.specs.Ticks.{AreMissing, cut_sound}
use Rattle.ft_run.proofs.Missing.{all_needed, few_of_song, heard_all, heard_front}
use Rattle.ft_run.proofs.Output.{if_ok, on_err}
use Rattle.ft_run.proofs.Settled.{of_stage}
use Rattle.ft_run.proofs.hearing.play_stage.Goals as goal

pub returns-clause-ticks : goal.returns-clause-ticks
unfolding ticks_of_song
returns-clause-ticks g c = if_ok c.play_ticks-done.result (λ count w.
    let song = c.args.song.now in
    let frames = c.args.frames in
    let first = first_state song.channels in
    let ear : List Tick → Type 0 = λ ticks. AreMissing frames ticks 0
    × g.E.Listener.heard c.args.ear.now c.play_ticks-done.new.ear (cut_sound frames ticks) in
    let all = of_stage ear song c.args.stage c.requires.set c.settle.new.self _ c.open-player.result c.play_ticks-done.new.player
    c.close-pass.result w.0 c.args.rate c.the_same_songs_after_hear_close_and_rejoin.ensures.closed c.history_law.ensures
    c.settle.ensures.settled c.close-pass.ensures.closed c.settle.ensures.agrees c.open-player.ensures.pass
    c.open-player.ensures.rate c.open-player.ensures.first w.2 in
    sym w.1
    ∙ all_needed song c.args.rate frames frames (length w.0) first
    (few_of_song song c.args.rate frames 0 (length w.0) first all.0) all.0)
    c.play_ticks-done.ensures.whole

pub returns-clause-whole : goal.returns-clause-whole
returns-clause-whole g c = if_ok c.play_ticks-done.result (λ count w.
    let song = c.args.song.now in
    let frames = c.args.frames in
    let ear : List Tick → Type 0 = λ ticks. AreMissing frames ticks 0
    × g.E.Listener.heard c.args.ear.now c.play_ticks-done.new.ear (cut_sound frames ticks) in
    let all = of_stage ear song c.args.stage c.requires.set c.settle.new.self _ c.open-player.result c.play_ticks-done.new.player
    c.close-pass.result w.0 c.args.rate c.the_same_songs_after_hear_close_and_rejoin.ensures.closed c.history_law.ensures
    c.settle.ensures.settled c.close-pass.ensures.closed c.settle.ensures.agrees c.open-player.ensures.pass
    c.open-player.ensures.rate c.open-player.ensures.first w.2 in
    subst (g.E.Listener.heard c.args.ear.now c.play_ticks-done.new.ear)
    (heard_all c.replay_law.ensures.ticks song c.args.rate (first_state song.channels) frames (length w.0) all.0)
    all.1)
    c.play_ticks-done.ensures.whole

pub returns-clause-front : goal.returns-clause-front
returns-clause-front g c = on_err c.play_ticks-done.result (λ w.
    let song = c.args.song.now in
    let frames = c.args.frames in
    let ear : List Tick → Type 0 = λ ticks. ((missing : ℕ) × AreMissing frames ticks missing)
    × g.E.Listener.failed c.args.ear.now c.play_ticks-done.new.ear (cut_sound frames ticks) in
    let all = of_stage ear song c.args.stage c.requires.set c.settle.new.self _ c.open-player.result c.play_ticks-done.new.player
    c.close-pass.result w.0 c.args.rate c.the_same_songs_after_hear_close_and_rejoin.ensures.closed c.history_law.ensures
    c.settle.ensures.settled c.close-pass.ensures.closed c.settle.ensures.agrees c.open-player.ensures.pass
    c.open-player.ensures.rate c.open-player.ensures.first w.1 in
    let f = heard_front c.replay_law.ensures.ticks song c.args.rate (first_state song.channels) frames all.0.0 (length w.0) all.0.1 in
    subst (g.E.Listener.failed c.args.ear.now c.play_ticks-done.new.ear) (sym f.1)
    (c.hearing_law.ensures.longer c.args.ear.now c.play_ticks-done.new.ear _ f.0 all.1))
    c.play_ticks-done.ensures.front
