use Rattle.std.proofs.Common.{sym, subst, arith}
use Rattle.ft_segments.specs.Walk.{PatternIds}
use Rattle.ft_sharing.specs.Written.{instrument_roots}
use Rattle.ft_roots.specs.RootWords.{HasSongWords}
use Rattle.ft_songedit.proofs.Roots.{map_last}
use Rattle.std.proofs.lemmas.Option.{slice_get_within}
use Rattle.ft_changes.specs.declared.reach.Reach.{Reach}
use Rattle.ft_changes.specs.Ids.{ids_after}
use Rattle.ft_changes.specs.Fits.{TakesFresh}
use Rattle.ft_songedit.specs.Small.{IsSmallReach, HasRootsOf}
use Rattle.ft_songedit.proofs.root.put_roots.Goals as goal

pub returns-in-LastPattern : goal.returns-in-LastPattern
returns-in-LastPattern c = λ m ids valid takes same small ps is has.
    subst (λ (r : Reach). HasRootsOf c.drop_last_pattern.new.words m (ids_after r c.args.fresh.now ids)) (sym c.in-LastPattern.is)
    (subst (λ xs. HasSongWords c.drop_last_pattern.new.words m xs (instrument_roots ids))
    (sym (map_last (λ (x : PatternIds). x.root) ids.patterns)) (c.drop_last_pattern.ensures m ids valid same ps has))

pub returns-in-Cell : goal.returns-in-Cell
returns-in-Cell c = λ m ids valid takes same small ps is has.
    let takes2 = subst (λ (r : Reach). TakesFresh r c.args.fresh.now ids) c.in-Cell.is takes in
    let small2 = subst (λ (r : Reach). IsSmallReach r) c.in-Cell.is small in
    subst (λ (r : Reach). HasRootsOf c.put_fresh_pattern.new.words m (ids_after r c.args.fresh.now ids)) (sym c.in-Cell.is)
    (c.put_fresh_pattern.ensures m ids _ small2
    (let w = slice_get_within ids.patterns c.in-Cell.pattern takes2.there.pattern takes2.there.there in omega (arith, w))
    (omega (arith, takes2.count)) ps has)

pub returns-in-Pattern : goal.returns-in-Pattern
returns-in-Pattern c = λ m ids valid takes same small ps is has.
    let takes2 = subst (λ (r : Reach). TakesFresh r c.args.fresh.now ids) c.in-Pattern.is takes in
    let small2 = subst (λ (r : Reach). IsSmallReach r) c.in-Pattern.is small in
    subst (λ (r : Reach). HasRootsOf c.put_fresh_pattern-in-Pattern.new.words m (ids_after r c.args.fresh.now ids)) (sym c.in-Pattern.is)
    (c.put_fresh_pattern-in-Pattern.ensures m ids _ small2 takes2.there (omega (arith, takes2.count)) ps has)

pub returns-in-Instrument : goal.returns-in-Instrument
returns-in-Instrument c = λ m ids valid takes same small ps is has.
    let takes2 = subst (λ (r : Reach). TakesFresh r c.args.fresh.now ids) c.in-Instrument.is takes in
    let small2 = subst (λ (r : Reach). IsSmallReach r) c.in-Instrument.is small in
    subst (λ (r : Reach). HasRootsOf c.put_fresh_instrument.new.words m (ids_after r c.args.fresh.now ids)) (sym c.in-Instrument.is)
    (c.put_fresh_instrument.ensures m ids _ small2
    (let w = slice_get_within ids.instruments c.in-Instrument.at takes2.there.instrument takes2.there.there in omega (arith, w))
    (omega (arith, takes2.count)) is has)

pub returns-in-Bare : goal.returns-in-Bare
returns-in-Bare c = λ m ids valid takes same small ps is has.
    let takes2 = subst (λ (r : Reach). TakesFresh r c.args.fresh.now ids) c.in-Bare.is takes in
    let small2 = subst (λ (r : Reach). IsSmallReach r) c.in-Bare.is small in
    subst (λ (r : Reach). HasRootsOf c.put_fresh_instrument-in-Bare.new.words m (ids_after r c.args.fresh.now ids)) (sym c.in-Bare.is)
    (c.put_fresh_instrument-in-Bare.ensures m ids _ small2 takes2.there (omega (arith, takes2.count)) is has)

pub returns-in-LastSample : goal.returns-in-LastSample
returns-in-LastSample c = λ m ids valid takes same small ps is has.
    let takes2 = subst (λ (r : Reach). TakesFresh r c.args.fresh.now ids) c.in-LastSample.is takes in
    let small2 = subst (λ (r : Reach). IsSmallReach r) c.in-LastSample.is small in
    subst (λ (r : Reach). HasRootsOf c.put_fresh_instrument-in-LastSample.new.words m (ids_after r c.args.fresh.now ids))
    (sym c.in-LastSample.is)
    (c.put_fresh_instrument-in-LastSample.ensures m ids _ small2
    (let w = slice_get_within ids.instruments c.in-LastSample.at takes2.there.instrument takes2.there.there in omega (arith, w))
    (omega (arith, takes2.count)) is has)

pub returns-in-Sample : goal.returns-in-Sample
returns-in-Sample c = λ m ids valid takes same small ps is has.
    let takes2 = subst (λ (r : Reach). TakesFresh r c.args.fresh.now ids) c.in-Sample.is takes in
    let small2 = subst (λ (r : Reach). IsSmallReach r) c.in-Sample.is small in
    subst (λ (r : Reach). HasRootsOf c.put_fresh_instrument-in-Sample.new.words m (ids_after r c.args.fresh.now ids)) (sym c.in-Sample.is)
    (c.put_fresh_instrument-in-Sample.ensures m ids _ small2
    (let w = slice_get_within ids.instruments c.in-Sample.at takes2.there.instrument takes2.there.there in omega (arith, w))
    (omega (arith, takes2.count)) is has)

pub returns-in-Frames : goal.returns-in-Frames
returns-in-Frames c = λ m ids valid takes same small ps is has.
    let takes2 = subst (λ (r : Reach). TakesFresh r c.args.fresh.now ids) c.in-Frames.is takes in
    let small2 = subst (λ (r : Reach). IsSmallReach r) c.in-Frames.is small in
    subst (λ (r : Reach). HasRootsOf c.put_fresh_instrument-in-Frames.new.words m (ids_after r c.args.fresh.now ids)) (sym c.in-Frames.is)
    (c.put_fresh_instrument-in-Frames.ensures m ids _ small2
    (let w = slice_get_within ids.instruments c.in-Frames.at takes2.there.instrument takes2.there.there in omega (arith, w))
    (omega (arith, takes2.count)) is has)
