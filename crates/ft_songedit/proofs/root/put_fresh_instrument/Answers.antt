use Rattle.std.proofs.Common.{sym, subst, arith}
use Rattle.std.specs.Prelude.{slice_index}
use Rattle.std.proofs.lemmas.List.{length-map}
use Rattle.ft_segments.specs.Walk.{InstrumentIds}
use Rattle.ft_sharing.specs.Written.{pattern_roots, instrument_roots}
use Rattle.ft_roots.specs.RootWords.{HasSongWords}
use Rattle.ft_songedit.proofs.Roots.{map_put}
use Rattle.ft_songedit.proofs.root.put_fresh_instrument.Goals as goal

pub returns-then-fresh-ge2 : goal.returns-then-fresh-ge2
returns-then-fresh-ge2 c = λ m ids samples low le two few has.
    let n = length-map ids.instruments (λ (x : InstrumentIds). x.root) in
    let new : InstrumentIds = record { root = slice_index c.args.fresh.now 1; samples = samples } in
    subst (λ is. HasSongWords c.put_instrument_id.new.words m (pattern_roots ids) is)
    (sym (map_put (λ (x : InstrumentIds). x.root) c.args.at new ids.instruments))
    (c.put_instrument_id.ensures m (pattern_roots ids) (instrument_roots ids) few (omega (arith, n, le)) has)
