use Rattle.std.proofs.Common.{◌≡◌, ◌*◌, ℕ, List, drop, take, get_or, refl, subst, arith}
use Rattle.ft_types.specs.declared.pattern.Cell.{Cell}
use Rattle.ft_edits.specs.Edited.{edited}
use Rattle.ft_cells.specs.Buffers.{pattern_in}
use Rattle.ft_segments.specs.Walk.{PatternIds, IsOf, ids_of}
use Rattle.ft_changes.specs.declared.reach.Reach.{Reach}
use Rattle.ft_changes.specs.Reached.{IsReached}
use Rattle.ft_sharing.specs.Written.{PatternIsWritten}
use Rattle.ft_songedit.proofs.PatternPut.{few_bodies, pattern_at_place}
use Rattle.ft_songedit.proofs.pattern_edit.write_pattern.Goals as goal

pub returns-clause-written : goal.returns-clause-written
returns-clause-written g c = λ p m k b may shows is none reach count.
    let fresh : List ℕ = c.args.fresh.now in
    let new = edited m c.args.e.now in
    let pool = g.F.Fill.written c.write_rows.new.words in
    let cells : List Cell = c.edited_cells-rows.new.cells in
    let rows = c.edited_cells-rows.result in
    let channels = c.channels_of-channels.result in
    let may1 = λ (s : ℕ) (of : IsOf p s). c.write_rows.ensures.narrows p s (may s of) in
    let may0 = λ (s : ℕ) (of : IsOf p s). c.edited_cells-rows.ensures.narrows p s (may1 s of) in
    let wide = c.channels_of-channels.ensures.answer p m may0 shows is in
    let there = c.edited_cells-rows.ensures.answer p m k b may1 shows is wide none reach in
    let reached = subst (λ (r : Reach). IsReached r m new) reach
    (c.an_edit_changes_what_it_reaches.ensures m c.args.e.now shows.valid none) in
    let few = few_bodies m new k b rows channels cells reached wide there c.edited_cells-rows.ensures.within in
    let size : c.from.result * c.from-2.result ≡ rows * channels = rw (c.from.ensures, c.from-2.ensures) refl in
    let next : PatternIds = record { root = get_or fresh 1 0; bodies = drop 2 fresh } in
    let written = subst (λ (n : ℕ). PatternIsWritten pool b (record { rows = rows; cells = take n cells }) next) size
    (c.write_rows.ensures.written p b may few count) in
    pattern_at_place pool (ids_of p).patterns new k b (pattern_in rows channels cells) next
    (omega (arith, reached.there, shows.stands.patterns.count)) there written
