use Rattle.std.proofs.Common.{◌≡◌, None}
use Rattle.ft_segments.specs.Packing.{word_at}
use Rattle.ft_bench_register.proofs.turn_often.Given as goal

abbrev pub invariant-loop-done : goal.invariant-loop-done
invariant-loop-done g l = record {
  writer : l.writer.register ≡ l.fn.writer.register;
  reader : l.reader.register ≡ l.fn.reader.register;
  version : l.writer.account.version ≡ l._done;
  free : l.reader.notes.held ≡ None;
  bare : word_at l.writer.account.pool 0 1 ≡ 0;
}
