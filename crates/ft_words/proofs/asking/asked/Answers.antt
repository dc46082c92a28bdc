use Rattle.std.proofs.Common.{sym, ◌∙◌}
use Rattle.ft_words.proofs.Split.{asked_by, never_asked, refused_by, some_command}
use Rattle.ft_words.proofs.asking.asked.Goals as goal

pub returns-clause-asked : goal.returns-clause-asked
returns-clause-asked c =
    asked_by _ c.in-Some.others.now c.in-Some.first.now c.as_str.result.now c.in-Some-verb_of.verb
    c.in-Some.ensures.cases c.as_str.ensures.value (sym c.verb_of.ensures ∙ c.in-Some-verb_of.is)
    c.asked_of.result c.asked_of.ensures.asked

pub returns-clause-refused : goal.returns-clause-refused
returns-clause-refused c =
    never_asked _ c.in-Some.others.now c.in-Some.first.now c.as_str.result.now c.in-Some-verb_of.verb
    c.in-Some.ensures.cases c.as_str.ensures.value (sym c.verb_of.ensures ∙ c.in-Some-verb_of.is)
    c.asked_of.result c.asked_of.ensures.asked

pub returns-clause-usage : goal.returns-clause-usage
returns-clause-usage c =
    λ e.
    refused_by _ c.in-Some.others.now c.in-Some.first.now c.as_str.result.now c.in-Some-verb_of.verb
    c.in-Some.ensures.cases c.as_str.ensures.value (sym c.verb_of.ensures ∙ c.in-Some-verb_of.is)
    (c.asked_of.ensures.usage e)

pub returns-clause-no_command : goal.returns-clause-no_command
returns-clause-no_command c =
    λ none.
    absurd (some_command _ c.in-Some.others.now c.in-Some.first.now c.as_str.result.now c.in-Some-verb_of.verb
    c.in-Some.ensures.cases c.as_str.ensures.value (sym c.verb_of.ensures ∙ c.in-Some-verb_of.is)
    none)
