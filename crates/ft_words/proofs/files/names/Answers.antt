use Rattle.std.proofs.Common.{sym, ◌∙◌}
use Rattle.ft_words.proofs.Split.{named_by, never_named, refused_by, some_command}
use Rattle.ft_words.proofs.files.names.Goals as goal

pub returns-clause-files : goal.returns-clause-files
returns-clause-files c =
    named_by _ c.in-Some.others.now c.in-Some.first.now c.as_str.result.now c.in-Some-verb_of.verb
    c.in-Some.ensures.cases c.as_str.ensures.value (sym c.verb_of.ensures ∙ c.in-Some-verb_of.is)
    c.names_of.result c.names_of.ensures.files

pub returns-clause-refused : goal.returns-clause-refused
returns-clause-refused c =
    never_named _ c.in-Some.others.now c.in-Some.first.now c.as_str.result.now c.in-Some-verb_of.verb
    c.in-Some.ensures.cases c.as_str.ensures.value (sym c.verb_of.ensures ∙ c.in-Some-verb_of.is)
    c.names_of.result c.names_of.ensures.files

pub returns-clause-usage : goal.returns-clause-usage
returns-clause-usage c =
    λ e.
    refused_by _ c.in-Some.others.now c.in-Some.first.now c.as_str.result.now c.in-Some-verb_of.verb
    c.in-Some.ensures.cases c.as_str.ensures.value (sym c.verb_of.ensures ∙ c.in-Some-verb_of.is)
    (c.names_of.ensures.usage e)

pub returns-clause-no_command : goal.returns-clause-no_command
returns-clause-no_command c =
    λ none.
    absurd (some_command _ c.in-Some.others.now c.in-Some.first.now c.as_str.result.now c.in-Some-verb_of.verb
    c.in-Some.ensures.cases c.as_str.ensures.value (sym c.verb_of.ensures ∙ c.in-Some-verb_of.is)
    none)
