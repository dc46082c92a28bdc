use Rattle.std.proofs.Common.{◌≡◌, ◌≢◌, ◌<◌, ◌/◌, ℕ, List, length, get_or, ap, sym, subst, ◌∙◌, arith}
use Rattle.std.specs.Prelude.{All}
use Rattle.std.specs.List.{slice_get}
use Rattle.std.proofs.lemmas.Option.{same_Some, slice_get_within}
use Rattle.std.proofs.lemmas.List.{get_or-set_same}
use Rattle.ft_segments.specs.Packing.{word_at}
use Rattle.ft_segments.specs.Walk.{PatternIds, IsOf, ids_of, pattern_walk}
use Rattle.ft_changes.specs.Ids.{bodies_at}
use Rattle.ft_songedit.proofs.Stored.{IsStored, is_stored, body_there, body_read, pattern_root_is}
use Rattle.ft_songedit.proofs.Fresh.{differ}
use Rattle.ft_songedit.proofs.RootPut.{bodies_low}
use Rattle.ft_songedit.proofs.CellPut.{number_in, cell_put}
use Rattle.ft_songedit.proofs.cell_edit.write_numbered_cell.Goals as goal

pub returns-in_default-clause-written : goal.returns-in_default-clause-written
returns-in_default-clause-written g c = λ p m x ids may shows is there lt named.
    let it = is_stored p m c.args.pattern x shows there in
    absurd (body_there p m c.args.pattern (c.args.number / 256) x it (number_in m.channels x c.args.number it.valid lt)
    (c.in_default.ensures.answer p m may shows is ∙ ap (λ k. slice_get (bodies_at (ids_of p) k) (c.args.number / 256)) c.from.ensures))

pub returns-in_default-pattern_root-clause-written : goal.returns-in_default-pattern_root-clause-written
returns-in_default-pattern_root-clause-written g c = λ p m x ids may shows is there lt named.
    let none = c.in_default-pattern_root.ensures.answer p m may shows is in
    let within = slice_get_within m.patterns c.args.pattern x there in
    absurd (omega (arith, none, within))

pub returns-clause-written : goal.returns-clause-written
returns-clause-written g c = λ p m x ids may shows is there lt named.
    let fresh : List ℕ = c.args.fresh.now in
    let b = c.args.number / 256 in
    let last = c.fill_with-2.ensures in
    let first = c.fill_with.ensures in
    let found = c.in-Some-pattern_root.found in
    let segment = c.in-Some.segment in
    let may2 = λ (s : ℕ) (of : IsOf p s). last.narrows p s (may s of) in
    let may1 = λ (s : ℕ) (of : IsOf p s). first.narrows p s (may2 s of) in
    let may0 = λ (s : ℕ) (of : IsOf p s). c.root_with_body-ids.ensures.narrows p s (may1 s of) in
    let at_root = λ (s : ℕ) (of : IsOf p s). c.body_with_cell-cells.ensures.narrows p s (may0 s of) in
    let at_body = λ (s : ℕ) (of : IsOf p s). c.pattern_root.ensures.narrows p s (at_root s of) in
    let has = c.in-Some-pattern_root.ensures.answer p m at_root shows is in
    let same : pattern_walk p.pool m.channels found ≡ ids = same_Some (pattern_walk p.pool m.channels found) ids (sym has.named ∙ named) in
    let any = is_stored p m c.args.pattern x shows there in
    let shown = shows.stands.patterns.each c.args.pattern x ids there named in
    let it : IsStored p m c.args.pattern x = record { ids = ids; named = named; shown = shown; valid = any.valid } in
    let few = subst (λ (q : PatternIds). All (λ s. s < 65536) q.bodies) same (bodies_low p.pool m.channels found) in
    let root : ids.root ≡ found = sym (ap (λ (q : PatternIds). q.root) same) in
    let within : b < length ids.bodies = let n = number_in m.channels x c.args.number any.valid lt in omega (arith, n, shown.count) in
    let read = body_read p m c.args.pattern b segment x it
    (c.in-Some.ensures.answer p m at_body shows is ∙ ap (λ k. slice_get (bodies_at (ids_of p) k) b) c.from.ensures) in
    let apart : get_or fresh 2 0 ≢ get_or fresh 1 0
    = λ e. differ fresh 1 2 c.requires.once (omega arith) (omega (arith, c.requires.three)) (sym e) in (
      λ place l.
          last.filled p may place l
          ∙ c.root_with_body-ids.ensures.answer p m.channels x ids
          (may1 found (subst (IsOf p) root (pattern_root_is p m c.args.pattern x it)))
          root shown few within place l,
      λ place l.
          ap (λ s. word_at (g.F.Fill.written c.fill_with-2.new.words) s place) (get_or-set_same ids.bodies b (get_or fresh 2 0) 0 within)
          ∙ last.others (get_or fresh 2 0) place apart l
          ∙ first.filled p may2 place l
          ∙ c.body_with_cell-cells.ensures.answer p (may0 segment read.segment) place l
          ∙ cell_put x.cells c.args.number place c.args.cell (word_at p.pool segment place) lt l (read.words place l),
    )

pub returns-clause-root : goal.returns-clause-root
returns-clause-root g c = λ j l.
    let fresh : List ℕ = c.args.fresh.now in
    let words = c.fill_law.ensures.words in
    let apart : (i : ℕ) → 0 < i → i < length fresh → get_or fresh 0 0 ≢ get_or fresh i 0
    = λ i some lt. differ fresh 0 i c.requires.once some lt in
    c.fill_with-2.ensures.others (get_or fresh 0 0) j (apart 1 (omega arith) (omega (arith, c.requires.three))) l
    ∙ c.fill_with.ensures.others (get_or fresh 0 0) j (apart 2 (omega arith) (omega (arith, c.requires.three))) l
    ∙ ap (λ ws. word_at ws (get_or fresh 0 0) j)
    (words c.body_with_cell-cells.new.view c.root_with_body-ids.new.view c.root_with_body-ids.ensures.same
    ∙ words c.pattern_root.new.view c.body_with_cell-cells.new.view c.body_with_cell-cells.ensures.same
    ∙ words c.body_id.new.view c.pattern_root.new.view c.pattern_root.ensures.same
    ∙ words c.args.words.now c.body_id.new.view c.body_id.ensures.same)
