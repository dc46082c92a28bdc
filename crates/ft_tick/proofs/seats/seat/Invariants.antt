use Rattle.std.proofs.Common.{◌≡◌, length, drop}
use Rattle.ft_replay.specs.Standing.{seated}
use Rattle.ft_tick.proofs.seats.seat.Given as goal

abbrev pub invariant-loop-voice : goal.invariant-loop-voice
invariant-loop-voice l = record {
  seated : seated l.channels (drop l.voice-index l.voices) ≡ seated l.fn.channels l.voices;
  many : length l.channels ≡ length l.fn.channels;
}
