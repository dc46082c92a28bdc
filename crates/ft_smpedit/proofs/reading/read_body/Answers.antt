use Rattle.std.proofs.Common.{◌≡◌, ◌∙◌, ◌≢◌, ◌<◌, ◌+◌, ◌*◌, ℕ, inl, inr, get_or, pos, ap, sym, subst, arith, rules, w16, to_z, of_z, FitsSigned, get_or-set_other}
use Rattle.ft_types.specs.declared.sample.Sample.{Sample}
use Rattle.ft_segments.specs.Walk.{Placed}
use Rattle.std.proofs.lemmas.Int.{to_z-of_z}
use Rattle.std.proofs.lemmas.Grind.{get_or-set_at}
use Rattle.std.proofs.lemmas.Bool.{cases_lt}
use Rattle.std.proofs.lemmas.List.{length-set}
use Rattle.ft_edits.specs.Changes.{sample_changed}
use Rattle.ft_smpedit.specs.Sources.{HasNamedFrames}
use Rattle.ft_smpedit.specs.Kept.{ReadsSample}
use Rattle.ft_smpedit.proofs.reading.read_body.Goals as goal

pub loop-j-init : goal.loop-j-init
loop-j-init g c = record {
  long = search rules;
  narrows = λ p s may. may;
  kept = λ p x reads frames wide named.
      c.nothing_kept-kept.ensures p.pool c.args.sample x
      (c.a_shown_sample_is_of_its_version.ensures.valid p reads.song c.args.sample x reads.shows reads.of);
  answer = λ p x reads frames wide named k lt. absurd (omega (arith, lt));
  same = g.met.V.WordView.same_here c.args.view.now;
}

pub loop-j-preserved : goal.loop-j-preserved
loop-j-preserved g c =
    let l = c.loop-j in
    let was = l.invariant in
    let e = c.args.e.now in
    let root = c.args.sample in
    let made = c.frame_or_zero.result in
    let earlier : (p : Placed) (x : Sample) → ReadsSample g.V.WordView.may_show c.frame_or_zero.new.view p root x
    → ReadsSample g.V.WordView.may_show l.view p root x = λ p x reads. record {
      song = reads.song;
      may = λ s is used. c.frame_or_zero.ensures.narrows p s (reads.may s is used);
      shows = reads.shows;
      of = reads.of;
    } in
    record {
      long = length-set l.out l.j (to_z w16 (of_z w16 made)) ∙ was.long;
      narrows = λ p s may. was.narrows p s (c.frame_or_zero.ensures.narrows p s may);
      kept = λ p x reads frames wide named.
          let named2 = subst (λ (n : ℕ). HasNamedFrames n e) frames named in
          let count = c.frames_after-count.ensures.answer x (sym frames) named in
          c.frame_or_zero.ensures.kept p x reads wide named2 count (was.kept p x (earlier p x reads) frames wide named);
      answer = λ p x reads frames wide named k lt. elim (cases_lt k l.j) [
        | inl below ↦
            let ne : k ≢ l.j = omega arith in
            get_or-set_other l.out l.j k (to_z w16 (of_z w16 made)) (pos 0) ne
            ∙ was.answer p x (earlier p x reads) frames wide named k below
        | inr here ↦
            let same : k ≡ l.j = omega (arith, lt, here) in
            let valid = c.a_shown_sample_is_of_its_version.ensures.valid p reads.song root x reads.shows reads.of in
            let named2 = subst (λ (n : ℕ). HasNamedFrames n e) frames named in
            let count = c.frames_after-count.ensures.answer x (sym frames) named in
            let low : c.frames_after-count.result < 4294967296
            = omega (arith, c.frames_after-count.ensures.few named, frames, valid.few_frames) in
            let fits : FitsSigned w16 made = search rules in
            let place : c.from.result * 1024 + c.from-in-loop-j.result ≡ c.args.n * 1024 + k
            = omega (arith, c.from.ensures, c.from-in-loop-j.ensures, same) in
            get_or-set_at l.out l.j k (to_z w16 (of_z w16 made)) (pos 0) same (omega (arith, was.long, c.loop-j-test.true))
            ∙ to_z-of_z w16 made fits
            ∙ c.frame_or_zero.ensures.answer p x reads wide named2 count low (was.kept p x (earlier p x reads) frames wide named)
            ∙ ap (λ (i : ℕ). get_or (sample_changed e x).frames i (pos 0)) place
      ];
      same = g.met.V.WordView.same_through c.args.view.now l.view c.frame_or_zero.new.view was.same c.frame_or_zero.ensures.same;
    }

pub returns-clause-answer : goal.returns-clause-answer
returns-clause-answer g c = λ p x reads frames wide named j lt.
    c.loop-j.invariant.answer p x reads frames wide named j (omega (arith, lt, c.loop-j-test.false, c.loop-j.auto.j-end))
