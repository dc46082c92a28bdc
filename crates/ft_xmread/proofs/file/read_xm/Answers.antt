use Rattle.std.proofs.Common.{arith}
use Rattle.ft_format.specs.Fields.{AreBytes}
use Rattle.ft_xmread.proofs.FileLaws.{wrong_id}
use Rattle.ft_xmread.proofs.Clauses as clauses
use Rattle.ft_xmread.proofs.file.read_xm.Goals as goal

pub returns-clause-found : goal.returns-clause-found
returns-clause-found c =
    let bytes : AreBytes c.args.bytes.now = λ i. omega (arith, c.type_inv.bytes i) in
    clauses.found c.args.bytes.now c.read_file.result bytes c.read_file.ensures.answer

pub returns-clause-valid : goal.returns-clause-valid
returns-clause-valid c =
    let bytes : AreBytes c.args.bytes.now = λ i. omega (arith, c.type_inv.bytes i) in
    clauses.valid c.args.bytes.now c.read_file.result bytes c.read_file.ensures.answer c.spelled_is_valid.ensures

pub returns-clause-only : goal.returns-clause-only
returns-clause-only c = clauses.only c.args.bytes.now c.read_file.result c.read_file.ensures.answer

pub returns-clause-canonical : goal.returns-clause-canonical
returns-clause-canonical c =
    λ song valid spelled.
    clauses.canonical c.args.bytes.now c.read_file.result c.read_file.ensures.answer song spelled
    (c.canonical_is_spelled.ensures song valid)

pub returns-clause-not_xm : goal.returns-clause-not_xm
returns-clause-not_xm c = λ at. (
  clauses.is_wrong c.args.bytes.now c.read_file.result at c.read_file.ensures.answer,
  λ wrong. c.read_file.ensures.not_xm at (wrong_id c.args.bytes.now at wrong),
)

pub returns-clause-fault : goal.returns-clause-fault
returns-clause-fault c = clauses.fault c.args.bytes.now c.read_file.result c.read_file.ensures.answer

pub returns-clause-refused : goal.returns-clause-refused
returns-clause-refused c = clauses.refused c.args.bytes.now c.read_file.result c.read_file.ensures.answer
