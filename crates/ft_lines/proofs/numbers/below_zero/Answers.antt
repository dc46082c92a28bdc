use Rattle.std.proofs.Common.{◌≡◌, ◌+◌, None, sym, ◌∙◌, ap}
use Rattle.ft_lines.specs.Values.{number_of}
use Rattle.ft_lines.proofs.Decimals.{signed_below_zero, negated}
use Rattle.ft_lines.proofs.numbers.below_zero.Goals as goal

pub returns-in_err-n : goal.returns-in_err-n
returns-in_err-n c =
    let ds = c.args.digits.now in
    let none : number_of (c.args.most + 1) ds ≡ None = sym c.number.ensures.value ∙ c.in_err-n.was in
    c.from_residual.ensures ∙ sym (signed_below_zero c.args.most ds ∙ ap negated none)
