use Rattle.std.proofs.Common.{◌∙◌, ap, codes}
use Rattle.std.proofs.lemmas.Result.{IfOk-weaker}
use Rattle.ft_words.specs.Commands.{number_rule}
use Rattle.ft_words.proofs.Chain.{app_added, gen_built}
use Rattle.ft_words.proofs.commands.gen_command.Goals as goal

pub returns : goal.returns
returns c =
    let rule = c.number_arg.ensures.rule ∙ ap (number_rule (codes "number")) c.value_parser.ensures in
    let number =
    app_added _ c.in_ok-arg.field-0 c.number_arg.result _ _ c.in_ok-arg.ensures c.number_arg.ensures.local
    c.bare_command.ensures rule in
    IfOk-weaker c.arg-2.result _ _
    (λ r h.
    gen_built _ (app_added _ r c.file_arg.result _ _ h c.file_arg.ensures.local number c.file_arg.ensures.rule))
    c.arg-2.ensures
