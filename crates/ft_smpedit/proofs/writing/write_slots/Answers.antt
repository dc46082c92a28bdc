use Rattle.std.proofs.Common.{◌≡◌, ◌∙◌, ◌≢◌, ◌+◌, ◌-◌, ◌/◌, ◌<◌, ℕ, List, inl, inr, length, get_or, ap, sym, subst, arith}
use Rattle.std.proofs.lemmas.Bool.{cases_lt}
use Rattle.ft_edits.specs.Changes.{sample_changed}
use Rattle.ft_segments.specs.Packing.{word_at, ids_word}
use Rattle.ft_changes.specs.Parts.{body_ids}
use Rattle.ft_smpedit.specs.Filled.{slot_word, indexes_filled}
use Rattle.ft_smpedit.proofs.Once.{places_differ}
use Rattle.ft_smpedit.proofs.Refilled.{refills_before}
use Rattle.ft_smpedit.proofs.SlotWords.{slot_of_index, slot_of_body}
use Rattle.ft_smpedit.proofs.writing.write_slots.Goals as goal

pub loop-slot-preserved : goal.loop-slot-preserved
loop-slot-preserved g c =
    let l = c.loop-slot in
    let was = l.invariant in
    let now = c.write_slot.ensures in
    let fresh : List ℕ = c.args.fresh.now in
    record {
      behind = omega (arith, was.behind);
      narrows = λ p s may. was.narrows p s (now.narrows p s may);
      may = λ s may. now.may s (was.may s may);
      filled = λ p x old new r once i ge lt within place low. elim (cases_lt i l.slot) [
        | inl below ↦
            let before = refills_before g.F.WordView.may_show l.words c.write_slot.new.words p c.args.sample c.args.e.now c.args.range
            fresh x old new (now.narrows p) r in
            let ne : i ≢ l.slot = omega (arith, below) in
            now.others (get_or fresh i 0) place (places_differ fresh i l.slot once within c.loop-slot-test.true ne) low
            ∙ was.filled p x old new before once i ge below within place low
        | inr here ↦
            let same : l.slot ≡ i = omega (arith, lt, here) in
            subst (λ (i : ℕ). word_at (g.F.Fill.written c.write_slot.new.words) (get_or fresh i 0) place
            ≡ slot_word c.args.range (sample_changed c.args.e.now x).frames (body_ids new) i place) same
            (now.written p x old new r place low)
      ];
      others = λ s j no low. now.others s j (no l.slot was.behind c.loop-slot-test.true) low ∙ was.others s j no low;
      long = now.long ∙ was.long;
      rest = c.fill_law.ensures.through c.args.words.now l.words c.write_slot.new.words was.rest now.rest;
    }

pub returns-clause-written : goal.returns-clause-written
returns-clause-written g c = λ p x old new r once.
    let l = c.loop-slot in
    let range = c.args.range in
    let first = range.first in
    let fresh : List ℕ = c.args.fresh.now in
    let pool = g.F.Fill.written l.words in
    let frames = (sample_changed c.args.e.now x).frames in
    let filled = l.invariant.filled p x old new r once in
    record {
      indexes = λ k index ge lt is place low.
          let slot = 3 + (k - first / 1024) in
          let within : slot < length fresh = omega (arith, r.count, ge, lt) in
          ap (λ (s : ℕ). word_at pool s place) (r.refilled.root k index ge lt is)
          ∙ filled slot (omega arith) (omega (arith, within, c.loop-slot-test.false)) within place low
          ∙ sym (slot_of_index range frames (body_ids new) slot k place (omega (arith, ge, lt)) (omega (arith, ge)))
          ∙ sym (ap (λ (bodies : List ℕ). ids_word bodies place) (r.refilled.names k index is));
      bodies = λ body ge lt place low.
          let slot = 3 + indexes_filled range + (body - first) in
          let within : slot < length fresh = omega (arith, r.count, ge, lt) in
          ap (λ (s : ℕ). word_at pool s place) (r.refilled.body body ge lt)
          ∙ filled slot (omega arith) (omega (arith, within, c.loop-slot-test.false)) within place low
          ∙ sym (slot_of_body range frames (body_ids new) slot body place (omega arith) (omega (arith, ge)));
    }
