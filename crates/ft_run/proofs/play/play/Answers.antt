use Rattle.std.proofs.lemmas.Result.{err_from_is_err_and}
use Rattle.ft_out.specs.Wav.{wav_head_bytes, sound_bytes}
use Rattle.ft_replay.specs.Replay.{sound_of_song}
use Rattle.ft_run.specs.Run.{wav_of, frames_asked}
use Rattle.ft_run.proofs.Output.{front_of_first, front_of_second, on_ok, on_err}
use Rattle.ft_run.proofs.play.play.Goals as goal

pub returns-in_err-put_all-clause-front : goal.returns-in_err-put_all-clause-front
unfolding wav_of
returns-in_err-put_all-clause-front g c =
    let p = err_from_is_err_and c.from_residual.result c.from_residual.ensures.1 in
    let head = rw c.wav_head.ensures at c.in_err-put_all.ensures.front in
    rw p.1 (front_of_first c.taking_law.ensures.first c.taking_law.ensures.front _ _
    (wav_head_bytes c.args.step.rate (frames_asked c.args.step))
    (sound_bytes (sound_of_song c.args.song.now (frames_asked c.args.step) c.args.step.rate)) head)

pub returns-clause-whole : goal.returns-clause-whole
unfolding wav_of
returns-clause-whole g c =
    let head = rw c.wav_head.ensures at c.in_ok-put_all.ensures.whole in
    on_ok c.put_song.result (λ took. c.taking_law.ensures.joined _ _ _
    (wav_head_bytes c.args.step.rate (frames_asked c.args.step))
    (sound_bytes (sound_of_song c.args.song.now (frames_asked c.args.step) c.args.step.rate)) head took)
    c.put_song.ensures.whole

pub returns-clause-front : goal.returns-clause-front
unfolding wav_of
returns-clause-front g c =
    let head = rw c.wav_head.ensures at c.in_ok-put_all.ensures.whole in
    on_err c.put_song.result (λ part. front_of_second c.taking_law.ensures.first c.taking_law.ensures.next
    c.taking_law.ensures.front _ _ _
    (wav_head_bytes c.args.step.rate (frames_asked c.args.step))
    (sound_bytes (sound_of_song c.args.song.now (frames_asked c.args.step) c.args.step.rate)) head part)
    c.put_song.ensures.front
