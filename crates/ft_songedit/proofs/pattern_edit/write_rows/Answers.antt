use Rattle.std.proofs.Common.{◌≢◌, ◌<◌, ◌+◌, ℕ, List, [], length, get_or, ap, sym, ◌∙◌, arith}
use Rattle.std.proofs.lemmas.List.{get_or-drop}
use Rattle.ft_cells.specs.Buffers.{pattern_in}
use Rattle.ft_segments.specs.Packing.{word_at}
use Rattle.ft_segments.specs.Walk.{IsOf}
use Rattle.ft_image.specs.Laid.{pattern_root_word}
use Rattle.ft_songedit.proofs.Fresh.{differ}
use Rattle.ft_songedit.proofs.pattern_edit.write_rows.Goals as goal

pub returns-clause-written : goal.returns-clause-written
returns-clause-written g c = λ p b may few count.
    let fresh : List ℕ = c.args.fresh.now in
    let fill = c.fill_with.ensures in
    let pool = g.F.Fill.written c.fill_with.new.words in (
      λ place l.
          fill.filled p may place l
          ∙ ap (λ (is : List ℕ). pattern_root_word (pattern_in c.args.rows 0 []) is place) c.split_at.ensures.back,
      λ body lt place l.
          let within : 2 + body < length fresh = omega (arith, lt, count) in
          let apart : get_or fresh (2 + body) 0 ≢ get_or fresh 1 0 =
          λ e. differ fresh 1 (2 + body) c.requires.once (omega arith) within (sym e) in
          ap (λ s. word_at pool s place) (get_or-drop 2 fresh body 0)
          ∙ fill.others (get_or fresh (2 + body) 0) place apart l
          ∙ c.write_bodies.ensures.written p (λ (s : ℕ) (of : IsOf p s). fill.narrows p s (may s of)) body place
          (omega (arith, lt, few)) within l,
    )
