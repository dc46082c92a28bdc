use Rattle.std.proofs.Common.{◌≤◌, ◌∙◌, ◌++◌, sym, ap, subst}
use Rattle.ft_segments.specs.Walk.{sample_walk, sample_uses}
use Rattle.ft_shared.specs.Account.{after_pin_scan, IsPinMet}
use Rattle.ft_shared.specs.Pass.{WriterState}
use Rattle.ft_desk.specs.Survey.{AreMarksOf, HasMarked}
use Rattle.ft_desk.proofs.Surveyed.{none_of, marks_after_no_root, marks_after_root, pin_is_met}
use Rattle.ft_desk.proofs.survey.survey_pin.Goals as goal

pub returns-in-Some-clause-marks : goal.returns-in-Some-clause-marks
returns-in-Some-clause-marks c =
    let segments = c.args.shared.now.sizes.segments in
    let a = c.args.pass.now.account in
    let word = c.scan_pin.new.pass.account.pinned in
    let root = c.in-Some.root in
    let noted = c.scan_pin.ensures.noted in
    let on = c.keep_root.ensures.on in
    let births = c.args.births.now in
    let new = c.keep_root.new.births in
    let marked : HasMarked births new (λ s. 1 ≤ sample_uses s (sample_walk a.pool root))
    = subst (λ (w : WriterState). HasMarked births new (λ s. 1 ≤ sample_uses s (sample_walk w.account.pool root))) noted
    c.keep_root.ensures.marked in
    subst (λ (w : WriterState). AreMarksOf segments w.account new)
    (sym (on.is ∙ ap (λ (w : WriterState). record w {
      account = record w.account { steps = w.account.steps ++ on.steps };
    }) noted))
    (marks_after_root segments a c.args.reader c.args.channel word root
    ((after_pin_scan a c.args.reader c.args.channel word).steps ++ on.steps) births new c.requires.marks
    (sym c.scan_pin.ensures.answer ∙ c.in-Some.is) marked)

pub returns-in_default-clause-this : goal.returns-in_default-clause-this
returns-in_default-clause-this c =
    subst (λ (w : WriterState). IsPinMet w.account c.args.reader c.args.channel) (sym c.scan_pin.ensures.noted)
    (pin_is_met c.args.pass.now.account c.args.reader c.args.channel c.scan_pin.new.pass.account.pinned)

pub returns-in_default-clause-marks : goal.returns-in_default-clause-marks
returns-in_default-clause-marks c =
    subst (λ (w : WriterState). AreMarksOf c.args.shared.now.sizes.segments w.account c.args.births.now)
    (sym c.scan_pin.ensures.noted)
    (marks_after_no_root c.args.shared.now.sizes.segments c.args.pass.now.account c.args.reader c.args.channel
    c.scan_pin.new.pass.account.pinned c.args.births.now c.requires.marks
    (sym c.scan_pin.ensures.answer ∙ none_of c.scan_pin.result c.in_default.not-Some))
