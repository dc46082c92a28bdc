use Rattle.std.proofs.Common.{◌≡◌, None, Some, sym, ◌∙◌, ap, arith, pos}
use Rattle.std.specs.Prelude.{option_map}
use Rattle.std.specs.Int.{w64}
use Rattle.std.proofs.lemmas.Int.{to_z_pos}
use Rattle.ft_lines.specs.Values.{number_of}
use Rattle.ft_lines.proofs.Decimals.{signed_from_zero}
use Rattle.ft_lines.proofs.numbers.from_zero.Goals as goal

pub returns-in_err-n : goal.returns-in_err-n
returns-in_err-n c =
    let w = c.args.word.now in
    let none : number_of c.args.most w ≡ None = sym c.number.ensures.value ∙ c.in_err-n.was in
    c.from_residual.ensures ∙ sym
    (signed_from_zero c.args.most w (omega (arith, c.requires.most)) c.requires.first ∙ ap (option_map pos) none)

pub returns : goal.returns
returns c =
    let w = c.args.word.now in
    let some : number_of c.args.most w ≡ Some c.in_ok-n.n = sym c.number.ensures.value ∙ c.in_ok-n.was in
    let same = signed_from_zero c.args.most w (omega (arith, c.requires.most)) c.requires.first ∙ ap (option_map pos) some in
    ap Some (to_z_pos w64 c.in_ok-n.n (omega (arith, c.in_ok-n.ensures.within, c.requires.most))) ∙ sym same
