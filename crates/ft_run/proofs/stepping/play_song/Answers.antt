use Rattle.ft_run.proofs.Ending.{end_kinds, end_read, end_done, end_count, end_front, end_pool, end_complete}
use Rattle.ft_run.proofs.stepping.play_song.Goals as goal

pub returns-clause-kinds : goal.returns-clause-kinds
returns-clause-kinds g c =
    end_kinds g.S.Source.left g.S.Source.given g.S.Source.faults g.W.Sink.held g.W.Sink.faults c.args.step c.args.song.now
    c.read_song-read.new.source c.args.wav.now c.play_read.new.wav c.play_read.result c.read_song-read.result (
      c.read_song-read.ensures.valid,
      c.read_song-read.ensures.told,
      c.read_song-read.ensures.read,
      c.read_song-read.ensures.only,
      c.read_song-read.ensures.kinds,
      c.play_read.ensures.unread,
      c.play_read.ensures.untouched,
      c.play_read.ensures.played,
    )

pub returns-clause-read : goal.returns-clause-read
returns-clause-read g c =
    end_read g.S.Source.left g.S.Source.given g.S.Source.faults g.W.Sink.held g.W.Sink.faults c.args.step c.args.song.now
    c.read_song-read.new.source c.args.wav.now c.play_read.new.wav c.play_read.result c.read_song-read.result (
      c.read_song-read.ensures.valid,
      c.read_song-read.ensures.told,
      c.read_song-read.ensures.read,
      c.read_song-read.ensures.only,
      c.read_song-read.ensures.kinds,
      c.play_read.ensures.unread,
      c.play_read.ensures.untouched,
      c.play_read.ensures.played,
    )

pub returns-clause-done : goal.returns-clause-done
returns-clause-done g c =
    end_done g.S.Source.left g.S.Source.given g.S.Source.faults g.W.Sink.held g.W.Sink.faults c.args.step c.args.song.now
    c.read_song-read.new.source c.args.wav.now c.play_read.new.wav c.play_read.result c.read_song-read.result (
      c.read_song-read.ensures.valid,
      c.read_song-read.ensures.told,
      c.read_song-read.ensures.read,
      c.read_song-read.ensures.only,
      c.read_song-read.ensures.kinds,
      c.play_read.ensures.unread,
      c.play_read.ensures.untouched,
      c.play_read.ensures.played,
    )

pub returns-clause-wav_count : goal.returns-clause-wav_count
returns-clause-wav_count g c =
    end_count g.S.Source.left g.S.Source.given g.S.Source.faults g.W.Sink.held g.W.Sink.faults c.args.step c.args.song.now
    c.read_song-read.new.source c.args.wav.now c.play_read.new.wav c.play_read.result c.read_song-read.result (
      c.read_song-read.ensures.valid,
      c.read_song-read.ensures.told,
      c.read_song-read.ensures.read,
      c.read_song-read.ensures.only,
      c.read_song-read.ensures.kinds,
      c.play_read.ensures.unread,
      c.play_read.ensures.untouched,
      c.play_read.ensures.played,
    )

pub returns-clause-wav_front : goal.returns-clause-wav_front
returns-clause-wav_front g c =
    end_front g.S.Source.left g.S.Source.given g.S.Source.faults g.W.Sink.held g.W.Sink.faults c.args.step c.args.song.now
    c.read_song-read.new.source c.args.wav.now c.play_read.new.wav c.play_read.result c.read_song-read.result (
      c.read_song-read.ensures.valid,
      c.read_song-read.ensures.told,
      c.read_song-read.ensures.read,
      c.read_song-read.ensures.only,
      c.read_song-read.ensures.kinds,
      c.play_read.ensures.unread,
      c.play_read.ensures.untouched,
      c.play_read.ensures.played,
    )

pub returns-clause-pool : goal.returns-clause-pool
returns-clause-pool g c =
    end_pool g.S.Source.left g.S.Source.given g.S.Source.faults g.W.Sink.held g.W.Sink.faults c.args.step c.args.song.now
    c.read_song-read.new.source c.args.wav.now c.play_read.new.wav c.play_read.result c.read_song-read.result (
      c.read_song-read.ensures.valid,
      c.read_song-read.ensures.told,
      c.read_song-read.ensures.read,
      c.read_song-read.ensures.only,
      c.read_song-read.ensures.kinds,
      c.play_read.ensures.unread,
      c.play_read.ensures.untouched,
      c.play_read.ensures.played,
    )

pub returns-clause-complete : goal.returns-clause-complete
returns-clause-complete g c =
    end_complete g.S.Source.left g.S.Source.given g.S.Source.faults g.W.Sink.held g.W.Sink.faults c.args.step c.args.song.now
    c.read_song-read.new.source c.args.wav.now c.play_read.new.wav c.play_read.result c.read_song-read.result (
      c.read_song-read.ensures.valid,
      c.read_song-read.ensures.told,
      c.read_song-read.ensures.read,
      c.read_song-read.ensures.only,
      c.read_song-read.ensures.kinds,
      c.play_read.ensures.unread,
      c.play_read.ensures.untouched,
      c.play_read.ensures.played,
    )
