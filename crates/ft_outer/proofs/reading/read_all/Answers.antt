use Rattle.std.proofs.Common.{◌++◌, take, arith}
use Rattle.ft_outer.proofs.Gave.{Gives-then, Gives-read, GivesAll-end, HasMore-gave}
use Rattle.ft_outer.proofs.reading.read_all.Goals as goal

-- the end was answered
pub returns-then-count-eq0-clause-whole : goal.returns-then-count-eq0-clause-whole
returns-then-count-eq0-clause-whole g c =
    let read = c.in_ok-count.ensures.bytes in
    GivesAll-end _ _ _ c.in_ok-count.count c.loop-bytes.bytes.items c.read.new.buf c.loop-bytes.invariant.gave.consumed
    read.0
    c.if-count-eq0.true (read.1 c.if-count-eq0.true (search arith))

-- more was given than was wanted
pub returns-then-count-most-clause-given : goal.returns-then-count-most-clause-given
returns-then-count-most-clause-given g c = (
  c.loop-bytes.bytes.items ++ take c.in_ok-count.count c.read.new.buf,
  Gives-then _ _ _ _ _ _ _ _ c.loop-bytes.invariant.gave
      (Gives-read _ _ _ _ c.in_ok-count.count c.read.new.buf c.in_ok-count.ensures.bytes.0 c.in_ok-count.ensures.counted (search arith) (search arith)),
)

pub returns-then-count-most-clause-had_more : goal.returns-then-count-most-clause-had_more
returns-then-count-most-clause-had_more g c = λ _.
    HasMore-gave _ _ _ _ _ _ (returns-then-count-most-clause-given g c).1 (search arith)

-- there was no memory for what was given
pub returns-in_err-extend_from_slice-clause-given : goal.returns-in_err-extend_from_slice-clause-given
returns-in_err-extend_from_slice-clause-given g c = (
  c.loop-bytes.bytes.items ++ take c.in_ok-count.count c.read.new.buf,
  Gives-then _ _ _ _ _ _ _ _ c.loop-bytes.invariant.gave
      (Gives-read _ _ _ _ c.in_ok-count.count c.read.new.buf c.in_ok-count.ensures.bytes.0 c.in_ok-count.ensures.counted (search arith) (search arith)),
)
