use Rattle.std.proofs.Common.{◌∙◌, ◌≡◌, ap, codes}
use Rattle.std.proofs.lemmas.Result.{IfOk-weaker}
use Rattle.ft_words.specs.Commands.{option_rule, numbers_within}
use Rattle.ft_words.proofs.Chain.{app_added, step_built}
use Rattle.ft_words.proofs.commands.step_command.Goals as goal

pub returns : goal.returns
returns c =
    let rates : c.range-rates.result ≡ numbers_within 8000 48000 =
    rw (c.value_parser.ensures, c.new.ensures.start, c.new.ensures.end) at c.range-rates.ensures in
    let lengths : c.range-lengths.result ≡ numbers_within 1 1200 =
    rw (c.value_parser-2.ensures, c.new-2.ensures.start, c.new-2.ensures.end) at c.range-lengths.ensures in
    let pools : c.range-pools.result ≡ numbers_within 64 65535 = rw c.value_parser-3.ensures at c.range-pools.ensures in
    let rate_is = c.option_arg.ensures.rule ∙ ap (option_rule (codes "rate") (codes "44100")) rates in
    let seconds_is = c.option_arg-2.ensures.rule ∙ ap (option_rule (codes "seconds") (codes "60")) lengths in
    let segments_is = c.option_arg-3.ensures.rule ∙ ap (option_rule (codes "segments") (codes "16384")) pools in
    let song =
    app_added _ c.in_ok-arg.field-0 c.file_arg.result _ _ c.in_ok-arg.ensures c.file_arg.ensures.local
    c.bare_command.ensures c.file_arg.ensures.rule in
    let wav =
    app_added _ c.in_ok-arg-2.field-0 c.file_arg-2.result _ _ c.in_ok-arg-2.ensures c.file_arg-2.ensures.local song
    c.file_arg-2.ensures.rule in
    let ledger =
    app_added _ c.in_ok-arg-3.field-0 c.file_arg-3.result _ _ c.in_ok-arg-3.ensures c.file_arg-3.ensures.local wav
    c.file_arg-3.ensures.rule in
    let rate =
    app_added _ c.in_ok-arg-4.field-0 c.option_arg.result _ _ c.in_ok-arg-4.ensures c.option_arg.ensures.local
    ledger rate_is in
    let seconds =
    app_added _ c.in_ok-arg-5.field-0 c.option_arg-2.result _ _ c.in_ok-arg-5.ensures c.option_arg-2.ensures.local
    rate seconds_is in
    IfOk-weaker c.arg-6.result _ _
    (λ r h. step_built _ (app_added _ r c.option_arg-3.result _ _ h c.option_arg-3.ensures.local seconds segments_is))
    c.arg-6.ensures
