use Rattle.std.proofs.Common.{sym, subst, arith}
use Rattle.std.specs.Prelude.{slice_index}
use Rattle.std.proofs.lemmas.List.{length-map}
use Rattle.ft_segments.specs.Walk.{PatternIds}
use Rattle.ft_sharing.specs.Written.{pattern_roots, instrument_roots}
use Rattle.ft_roots.specs.RootWords.{HasSongWords}
use Rattle.ft_songedit.proofs.Roots.{map_put}
use Rattle.ft_songedit.proofs.root.put_fresh_pattern.Goals as goal

pub returns-then-fresh-ge2 : goal.returns-then-fresh-ge2
returns-then-fresh-ge2 c = λ m ids bodies low le two few has.
    let n = length-map ids.patterns (λ (x : PatternIds). x.root) in
    let new : PatternIds = record { root = slice_index c.args.fresh.now 1; bodies = bodies } in
    subst (λ ps. HasSongWords c.put_pattern_id.new.words m ps (instrument_roots ids))
    (sym (map_put (λ (x : PatternIds). x.root) c.args.pattern new ids.patterns))
    (c.put_pattern_id.ensures m (pattern_roots ids) (instrument_roots ids) few (omega (arith, n, le)) has)
