use Rattle.std.proofs.Common.{sym, arith}
use Rattle.std.proofs.lemmas.List.{get_or_past}
use Rattle.std.proofs.lemmas.List.FromFn.{get_or-range_with_len, length-range_with_len}
use Rattle.std.specs.List.{range_with_len}
use Rattle.ft_image.proofs.values.run_id.Goals as goal

pub returns-then-at-count : goal.returns-then-at-count
returns-then-at-count c = sym (get_or-range_with_len c.args.first c.args.count c.args.at 0 c.if-at-count.true)

pub returns : goal.returns
returns c =
    let past = c.if-at-count.false in
    sym (get_or_past (range_with_len c.args.first c.args.count) c.args.at 0 (omega
    (arith, length-range_with_len c.args.first c.args.count)))
