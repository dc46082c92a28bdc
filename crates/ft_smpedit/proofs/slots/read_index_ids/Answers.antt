use Rattle.std.proofs.Common.{◌≡◌, ◌∙◌, ◌≢◌, ◌+◌, ◌*◌, ℕ, inl, inr, get_or, ap, arith, get_or-set_other}
use Rattle.std.proofs.lemmas.Grind.{get_or-set_at}
use Rattle.std.proofs.lemmas.Bool.{cases_lt}
use Rattle.std.proofs.lemmas.List.{length-set}
use Rattle.ft_changes.specs.Parts.{body_ids}
use Rattle.ft_smpedit.proofs.Refilled.{refills_before}
use Rattle.ft_smpedit.proofs.slots.read_index_ids.Goals as goal

pub loop-i-preserved : goal.loop-i-preserved
loop-i-preserved g c =
    let l = c.loop-i in
    let was = l.invariant in
    let id = c.body_id_after.result in
    record {
      long = length-set l.ids l.i id ∙ was.long;
      narrows = λ p s may. was.narrows p s (c.body_id_after.ensures.narrows p s may);
      answer = λ p e x old new r few i lt. elim (cases_lt i l.i) [
        | inl below ↦
            let ne : i ≢ l.i = omega arith in
            let before = refills_before g.V.WordView.may_show l.view c.body_id_after.new.view p c.args.sample e c.args.range
            c.args.fresh.now x old new (c.body_id_after.ensures.narrows p) r in
            get_or-set_other l.ids l.i i id 0 ne ∙ was.answer p e x old new before few i below
        | inr here ↦
            let same : i ≡ l.i = omega (arith, lt, here) in
            let place : c.saturating_add-n.result ≡ 1024 * c.args.k + i
            = omega (arith, c.saturating_mul.ensures, c.saturating_add-n.ensures, same, few, c.loop-i-test.true) in
            get_or-set_at l.ids l.i i id 0 same (omega (arith, was.long, c.loop-i-test.true))
            ∙ c.body_id_after.ensures.answer p e x old new r
            ∙ ap (λ (n : ℕ). get_or (body_ids new) n 0) place
      ];
      same = g.met.V.WordView.same_through c.args.view.now l.view c.body_id_after.new.view was.same c.body_id_after.ensures.same;
    }

pub returns-clause-answer : goal.returns-clause-answer
returns-clause-answer g c = λ p e x old new r few i lt.
    c.loop-i.invariant.answer p e x old new r few i (omega (arith, lt, c.loop-i-test.false, c.loop-i.auto.i-end))
