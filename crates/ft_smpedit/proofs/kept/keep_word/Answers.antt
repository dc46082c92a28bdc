use Rattle.std.proofs.Common.{◌≡◌, ◌∙◌, ◌/◌, ℕ, ap, arith}
use Rattle.ft_image.specs.Read.{body_at}
use Rattle.ft_smpedit.specs.Kept.{ReadsSample}
use Rattle.ft_smpedit.proofs.kept.keep_word.Goals as goal

pub returns-clause-kept : goal.returns-clause-kept
returns-clause-kept g c = λ p x reads lt was.
    let place = c.args.place in
    let root = c.args.sample in
    let found = c.keep_body-found.result in
    let before : ReadsSample g.V.WordView.may_show c.keep_body-found.new.view p root x = record {
      song = reads.song;
      may = λ s is used. c.frame_word-word.ensures.narrows p s (reads.may s is used);
      shows = reads.shows;
      of = reads.of;
    } in
    let kept = c.keep_body-found.ensures.kept p x before lt was in
    let body : found.body ≡ place / 1024 = c.keep_body-found.ensures.body in
    let same : found.body ≡ place / 4 / 256 = omega (arith, body) in
    let at = kept.segment (omega (arith, body, lt)) ∙ ap (λ (b : ℕ). body_at p.pool root b) same in
    record {
      word = λ below. c.frame_word-word.ensures.answer p reads.song root x reads.may reads.shows reads.of below at;
      segment = kept.segment;
    }
