use Rattle.std.proofs.Common.{◌≡◌, ◌∙◌, ◌≤◌, ap, arith, Option}
use Rattle.std.specs.Prelude.{ℕ}
use Rattle.std.specs.Option.{unwrap_or}
use Rattle.std.proofs.lemmas.Option.{unwrap_or-slice_get}
use Rattle.ft_changes.specs.Parts.{body_ids}
use Rattle.ft_smpedit.proofs.Refilled.{kept_id}
use Rattle.ft_smpedit.proofs.slots.kept_body_id.Goals as goal
use Rattle.ft_smpedit.proofs.slots.kept_body_id.Goals.{else-n-range-via-then-n-range+else-range, else-n-range-via-else-n-range}

pub returns-clause-answer : goal.returns-clause-answer
returns-clause-answer g c = λ p e fresh x old new r out.
    let n = c.args.n in
    let range = c.args.range in
    let same : range.first ≤ n → range.last ≡ range.gone = λ le. elim c.else-n-range.branch [
      | else-n-range-via-then-n-range+else-range w ↦ omega (arith, w.if-range.false)
      | else-n-range-via-else-n-range w ↦ absurd (omega (arith, le, w.if-n-range.false))
    ] in
    let read = c.frames_body_id.ensures.answer p r.song old r.may r.shows r.ids r.named in
    c.unwrap_or.ensures ∙ ap (λ (o : Option ℕ). unwrap_or o 0) read ∙ unwrap_or-slice_get (body_ids old) n 0
    ∙ kept_id g.V.WordView.may_show c.frames_body_id.new.view p c.args.sample e range fresh x old new n r out same
