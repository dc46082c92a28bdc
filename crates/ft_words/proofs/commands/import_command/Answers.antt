use Rattle.std.proofs.lemmas.Result.{IfOk-weaker}
use Rattle.ft_words.proofs.Chain.{app_added, import_built}
use Rattle.ft_words.proofs.commands.import_command.Goals as goal

pub returns : goal.returns
returns c =
    let song =
    app_added _ c.in_ok-arg.field-0 c.file_arg.result _ _ c.in_ok-arg.ensures c.file_arg.ensures.local
    c.bare_command.ensures c.file_arg.ensures.rule in
    IfOk-weaker c.arg-2.result _ _
    (λ r h.
    import_built _
    (app_added _ r c.file_arg-2.result _ _ h c.file_arg-2.ensures.local song c.file_arg-2.ensures.rule))
    c.arg-2.ensures
