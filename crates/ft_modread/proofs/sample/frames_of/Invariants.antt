use Rattle.std.proofs.Common.{◌≡◌, ◌-◌, ◌≤◌, ◌++◌, take, length, map, replicate, pos, vec_len, vec_capacity}
use Rattle.std.specs.Int.{w8, cast_signed}
use Rattle.ft_modread.proofs.sample.frames_of.Given as goal

abbrev pub invariant-loop-byte : goal.invariant-loop-byte
invariant-loop-byte l = record {
  items : l.frames.items ≡ map (cast_signed w8) (take l.byte-index l.bytes);
  len : vec_len l.frames ≡ l.byte-index;
  room : l.size ≤ vec_capacity l.frames;
}

abbrev pub invariant-loop : goal.invariant-loop
invariant-loop l = record {
  items : l.frames.items ≡ map (cast_signed w8) l.bytes ++ replicate (l.counter - length l.bytes) (pos 0);
  len : vec_len l.frames ≡ l.counter;
  room : l.size ≤ vec_capacity l.frames;
}
