use Rattle.std.proofs.Common.{arith}
use Rattle.ft_format.specs.Fields.{AreBytes}
use Rattle.ft_modread.proofs.Clauses.{found, valid, not_both}
use Rattle.ft_modread.proofs.Passes.{spelled}
use Rattle.ft_modread.proofs.file.read_mod.Goals as goal

pub module_of-requires-clause-length : goal.module_of-requires-clause-length
module_of-requires-clause-length c = (spelled c.args.bytes.now c.in_ok-count.ensures.fault).length

pub returns-in_err-count-clause-only : goal.returns-in_err-count-clause-only
returns-in_err-count-clause-only c =
    λ song s. absurd (not_both c.args.bytes.now song c.in_err-count.field-0.0 s c.in_err-count.ensures.fault)

pub returns-clause-found : goal.returns-clause-found
returns-clause-found c =
    found c.args.bytes.now c.in_ok-module_of.field-0 c.in_ok-count.ensures.fault c.in_ok-module_of.ensures

pub returns-clause-valid : goal.returns-clause-valid
returns-clause-valid c =
    let bytes : AreBytes c.args.bytes.now = λ i. omega (arith, c.type_inv.bytes i) in
    valid c.args.bytes.now c.in_ok-module_of.field-0 bytes c.in_ok-count.ensures.fault c.in_ok-module_of.ensures
