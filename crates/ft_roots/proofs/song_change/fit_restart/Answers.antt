use Rattle.std.proofs.Common.{◌≡◌, ◌≤◌, ℕ, List, refl, sym, subst, arith, le-ltb}
use Rattle.std.specs.Prelude.{set, nat_lt, if◌then◌else◌}
use Rattle.ft_image.specs.Values as values
use Rattle.ft_roots.specs.RootWords.{HasSongWords}
use Rattle.ft_roots.proofs.SongSame.{head_put}
use Rattle.ft_roots.proofs.song_change.fit_restart.Goals as goal

pub returns-then-from-count : goal.returns-then-from-count
unfolding values.counts_word
returns-then-from-count c = λ m ps is valid has.
    let words : List ℕ = c.args.words.now in
    let r = c.restart_of.ensures m valid has.head in
    let high : c.args.count ≤ m.restart = omega (arith, r, c.from.ensures, c.if-from-count.true) in
    let new : (if nat_lt m.restart c.args.count then m.restart else 0) ≡ 0 = rw (le-ltb m.restart c.args.count high) refl in
    subst (λ n. HasSongWords (set words 0 c.with_restart.result) (record m { restart = n }) ps is) (sym new)
    (head_put words m (record m { restart = 0 }) ps is c.with_restart.result c.told-words (c.with_restart.ensures m valid has.head)
    refl refl refl refl has)
