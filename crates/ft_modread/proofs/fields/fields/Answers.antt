use Rattle.std.proofs.Common.{ℕ, ◌+◌, ◌*◌, arith}
use Rattle.std.proofs.lemmas.Result.{err_from_is_err_and}
use Rattle.ft_modread.specs.ModFields.{ModField, unchecked}
use Rattle.ft_modread.proofs.Faults.{among_none, among_first, among_next}
use Rattle.ft_modread.proofs.fields.fields.Goals as goal

abbrev from : ℕ → ℕ → ℕ → ModField
from at need k = unchecked (at + need * k) need

pub loop-k-init : goal.loop-k-init
loop-k-init c = record { none = among_none c.args.file.now (from c.args.at c.args.need); whole = λ le. absurd (omega arith) }

pub returns-in_err-field-clause-fault : goal.returns-in_err-field-clause-fault
returns-in_err-field-clause-fault c =
    let p = err_from_is_err_and c.from_residual.result c.from_residual.ensures.1 in
    rw (p.1, p.2)
    (among_first c.args.file.now c.args.count c.loop-k.k (from c.args.at c.args.need) c.in_err-field.field-0.0
    c.loop-k-test.true c.loop-k.invariant.none c.in_err-field.ensures.fault)

pub loop-k-preserved : goal.loop-k-preserved
loop-k-preserved c = record {
  none = among_next c.args.file.now c.loop-k.k (from c.args.at c.args.need) c.loop-k.invariant.none c.in_ok-field.ensures.fault;
  whole = λ le. omega (arith, c.in_ok-field.ensures.whole);
}
