use Rattle.std.proofs.Common.{rules, ap, ◌∙◌, ◌≡◌, Some, Option, false}
use Rattle.clap.specs.Words.{Rule, rule_of}
use Rattle.clap.specs.declared.builder.arg.Arg.{Arg}
use Rattle.clap.specs.declared.builder.value_parser.ValueParser.{ValueParser}
use Rattle.ft_words.specs.Commands.{file_rule}
use Rattle.ft_words.proofs.commands.number_arg.Goals as goal

pub returns : goal.returns
returns c =
    let given = c.value_parser.ensures.given in
    let some = λ (q : ValueParser). Some q in
    let made : c.value_parser.result ≡ record c.required.result { value_parser = Some c.args.parser } =
    c.value_parser.ensures.others
    ∙ ap (λ (p : Option ValueParser). record c.required.result { value_parser = p }) (given.1 ∙ ap some given.2) in
    let before : rule_of c.required.result ≡ file_rule c.args.id.now = search rules in
    let local : c.required.result.global ≡ false = search rules in
    record {
      rule = ap rule_of made ∙ ap (λ (r : Rule). record r { parser = Some c.args.parser }) before;
      local = ap (λ (a : Arg). a.global) made ∙ local;
    }
