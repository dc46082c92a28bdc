use Rattle.std.proofs.Common.{rules, sym, subst, ◌∙◌}
use Rattle.std.specs.Prelude.{ℕ, ◌≤◌}
use Rattle.ft_player.specs.Songs.{song_at}
use Rattle.ft_player.specs.Behind.{AreSongsBehind}
use Rattle.ft_player.proofs.Held.{held_song}
use Rattle.ft_player.proofs.Ranged.{rows_ranged}
use Rattle.ft_player.proofs.reading.held_rows.Goals as goal

pub returns-clause-value : goal.returns-clause-value
returns-clause-value g c = λ songs version holds stands.
    let now : AreSongsBehind songs c.rows.new.view.pass.now = search (rules, stands) in
    let h = held_song songs c.args.pass.now c.rows.new.view.pass.now version c.args.root c.rows.ensures.same.3 holds now in
    let song = song_at songs version in
    let value = c.rows.ensures.answer _ song h.may h.shows h.rooted in
    let range = rows_ranged song c.args.pattern h.shows.valid in
    c.ranged_rows.ensures.same (subst (λ (n : ℕ). 1 ≤ n) (sym value) range.0)
    (subst (λ (n : ℕ). n ≤ 256) (sym value) range.1) ∙ value
