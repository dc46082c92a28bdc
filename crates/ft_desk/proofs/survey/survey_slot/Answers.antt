use Rattle.std.proofs.Common.{◌≡◌, ◌∙◌, ℕ, Some, sym, ap, subst}
use Rattle.ft_shared.specs.Account.{slot_at, next_slot, answer_of, IsAnswered}
use Rattle.ft_shared.specs.History.{HasVersion}
use Rattle.ft_shared.specs.Pass.{WriterState}
use Rattle.ft_shared.specs.Segments.{IsUnwritten}
use Rattle.ft_desk.specs.Survey.{AreMarksOf}
use Rattle.ft_desk.proofs.Surveyed.{marks_after_none, marks_after_version, living_is_of, now_answered, none_of}
use Rattle.ft_desk.proofs.survey.survey_slot.Goals as goal

pub returns-in-Some-clause-marks : goal.returns-in-Some-clause-marks
returns-in-Some-clause-marks c =
    let segments = c.args.shared.now.sizes.segments in
    let a = c.args.pass.now.account in
    let births = c.args.births.now in
    let new = c.keep_version.new.self in
    let gone = c.scan_slot.new.pass.account.gone in
    let v = c.in-Some.version in
    let noted = c.scan_slot.ensures.noted in
    let is : answer_of a (next_slot a) gone ≡ Some v
    = ap (λ (k : ℕ). answer_of a k gone) c.requires.next ∙ sym c.scan_slot.ensures.answer ∙ c.in-Some.is in
    let known : HasVersion a.history v
    = subst (HasVersion a.history) (sym c.in-Some.ensures.some)
    (subst (λ (w : WriterState). HasVersion w.account.history (slot_at a c.args.slot).version) noted c.scan_slot.ensures.known) in
    let unwritten : IsUnwritten a v
    = subst (λ (w : WriterState). IsUnwritten w.account v) noted
    (c.scan_slot.ensures.kept.answered v (subst (λ (w : WriterState). IsAnswered w.account v) (sym noted) (now_answered a gone v is))) in
    subst (λ (w : WriterState). AreMarksOf segments w.account new) (sym noted)
    (marks_after_version segments a gone v births new c.requires.marks is c.keep_version.ensures.many
    (living_is_of c.marks_law.ensures.kept segments a births new v c.requires.fit known unwritten c.sizes_law.ensures.many
    c.requires.marks.many c.keep_version.ensures.marks))

pub returns-in_default-clause-marks : goal.returns-in_default-clause-marks
returns-in_default-clause-marks c =
    let segments = c.args.shared.now.sizes.segments in
    let a = c.args.pass.now.account in
    let gone = c.scan_slot.new.pass.account.gone in
    let noted = c.scan_slot.ensures.noted in
    subst (λ (w : WriterState). AreMarksOf segments w.account c.args.births.now) (sym noted)
    (marks_after_none segments a gone c.args.births.now c.requires.marks
    (ap (λ (k : ℕ). answer_of a k gone) c.requires.next ∙ sym c.scan_slot.ensures.answer
    ∙ none_of c.scan_slot.result c.in_default.not-Some))
