use Rattle.std.proofs.Common.{◌≡◌, ◌+◌, length, sym, subst}
use Rattle.ft_segments.specs.Walk.{ids_of}
use Rattle.ft_changes.specs.declared.reach.Reach.{Reach}
use Rattle.ft_changes.specs.Dropped.{dropped}
use Rattle.ft_changes.specs.Fits.{IsThere}
use Rattle.ft_placed.proofs.InDropped.{frames_length}
use Rattle.ft_placed.proofs.dropped.drops_behind.Goals as goal

pub returns-in-Frames-clause-answer : goal.returns-in-Frames-clause-answer
returns-in-Frames-clause-answer g c = λ p m may shows is there.
    let f = c.in-Frames in
    let has = subst (λ (r : Reach). IsThere r (ids_of p)) f.is there in
    subst (λ (r : Reach). 1 + (1 + c.stretch_size.result) ≡ length (dropped r (ids_of p))) (sym f.is)
    (frames_length p m f.at f.sample f.first f.last f.gone c.stretch_size.result shows has
    (λ few. c.stretch_size.ensures.answer has.holds.sample f.last few has.holds.stretch))
