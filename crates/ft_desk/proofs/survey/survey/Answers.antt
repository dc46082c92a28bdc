use Rattle.std.proofs.Common.{◌∙◌, sym, ap, subst}
use Rattle.ft_shared.specs.declared.law.Sizes.{Sizes}
use Rattle.ft_shared.specs.Account.{IsAnswered}
use Rattle.ft_shared.specs.Pass.{WriterState}
use Rattle.ft_desk.proofs.Whole.{scanned_on, keeps_on, marks_find, free_is}
use Rattle.ft_desk.proofs.survey.survey.Goals as goal

pub returns-clause-scanned : goal.returns-clause-scanned
returns-clause-scanned c =
    scanned_on c.args.pass.now c.survey_slots.new.pass c.survey_pins.new.pass c.survey_slots.ensures.scanned
    c.survey_pins.ensures.seen

pub returns-clause-kept : goal.returns-clause-kept
returns-clause-kept c =
    keeps_on c.survey_slots.new.pass c.survey_pins.new.pass c.survey_pins.ensures.seen c.survey_slots.ensures.kept

pub returns-clause-marked : goal.returns-clause-marked
returns-clause-marked c =
    marks_find c.args.shared.now.sizes.segments c.survey_pins.new.pass.account c.survey_pins.new.births
    c.survey_pins.ensures.marks
    (subst (λ (w : WriterState). IsAnswered w.account w.account.version) (sym c.survey_pins.ensures.seen.is)
    c.survey_slots.ensures.current)

pub returns-clause-free : goal.returns-clause-free
returns-clause-free c =
    let scanned = scanned_on c.args.pass.now c.survey_slots.new.pass c.survey_pins.new.pass c.survey_slots.ensures.scanned
    c.survey_pins.ensures.seen in
    free_is c.a_scan_counts_what_it_found.ensures.found c.args.shared.now.sizes.segments c.survey_pins.new.pass.account
    c.survey_pins.new.births c.survey_pins.ensures.marks
    (subst (λ (w : WriterState). IsAnswered w.account w.account.version) (sym c.survey_pins.ensures.seen.is)
    c.survey_slots.ensures.current)
    (ap (λ (z : Sizes). z.segments) (scanned.sizes ∙ c.requires.sizes))
