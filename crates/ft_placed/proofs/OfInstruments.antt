-- The ids of instruments and samples, by their words.
use Rattle.std.proofs.Common.{◌≡◌, ℕ, suc, ◌<◌, ◌≤◌, List, Option, Some, None, refl, sym, ap, subst, ◌∙◌, arith}
use Rattle.std.specs.Prelude.{MatchOption}
use Rattle.std.specs.List.{slice_get}
use Rattle.std.proofs.lemmas.Option.{slice_get_past}
use Rattle.ft_types.specs.declared.module.Module.{Module}
use Rattle.ft_types.specs.Views.{instrument_at}
use Rattle.ft_segments.specs.Packing.{id_at}
use Rattle.ft_segments.specs.Walk.{SampleIds, InstrumentIds, Placed, IsOf, ids_of, walk, instruments_in, samples_in, instrument_walk, sample_walk}
use Rattle.ft_changes.specs.Ids.{samples_if, samples_of}
use Rattle.ft_image.specs.Shown.{Shows}
use Rattle.ft_image.specs.Read.{HasInstrument}
use Rattle.ft_placed.specs.Roots.{instrument_root_in, sample_root_in}
use Rattle.ft_placed.proofs.Lists.{length_below, root_there, root_absent, of_root, of_no_root, made_of_root, absent}
use Rattle.ft_placed.proofs.Walked.{itself, of_instrument, sample_at_walk, sample_walk_root}

abbrev pub root_of : InstrumentIds → ℕ
root_of instrument = instrument.root

abbrev pub sample_root : SampleIds → ℕ
sample_root sample = sample.root

pub instrument_read : (p : Placed) (m : Module) (k n : ℕ) (o : Option ℕ) → Shows p m → n ≡ suc k
    → MatchOption o (instrument_at m n ≡ None) (HasInstrument p m n) → o ≡ instrument_root_in (ids_of p) k
instrument_read p m k n o shows is match =
    by_case o (subst (λ (x : ℕ). MatchOption o (instrument_at m x ≡ None) (HasInstrument p m x)) is match)
  where
    by_case : (o : Option ℕ) → MatchOption o (slice_get m.instruments k ≡ None) (HasInstrument p m (suc k))
        → o ≡ instrument_root_in (ids_of p) k
    by_case None none =
        let le = absent m.instruments k none in
        sym (root_absent root_of (ids_of p).instruments k
        (slice_get_past (ids_of p).instruments k (omega (arith, le, shows.stands.instruments.count))))
    by_case (Some r) has =
        sym (root_there root_of (ids_of p).instruments k (instrument_walk p.pool r) has.named)

-- an instrument of the song, by its root among the ids
pub instrument_made : (p : Placed) (k : ℕ) (x : InstrumentIds) → slice_get (ids_of p).instruments k ≡ Some x
    → x ≡ instrument_walk p.pool x.root
unfolding walk
instrument_made p k x is =
    made_of_root root_of (instrument_walk p.pool) (λ i. id_at p.pool p.root 104 i) (instruments_in p.pool p.root) k x (λ r. refl) is

pub instrument_of : (p : Placed) (k r : ℕ) → Some r ≡ instrument_root_in (ids_of p) k
    → slice_get (ids_of p).instruments k ≡ Some (instrument_walk p.pool r)
instrument_of p k r is =
    let one = of_root root_of (ids_of p).instruments k r (sym is) in
    one.1 ∙ ap (λ (z : InstrumentIds). Some z) (instrument_made p k one.0 one.1 ∙ ap (instrument_walk p.pool) one.2)

pub instrument_used : (p : Placed) (k r : ℕ) → Some r ≡ instrument_root_in (ids_of p) k → IsOf p r
instrument_used p k r is =
    let one = itself r in
    of_instrument p k r (instrument_walk p.pool r) (instrument_of p k r is) (omega arith)

-- ---- samples

pub samples_are : (p : Placed) (k r : ℕ) → Some r ≡ instrument_root_in (ids_of p) k
    → samples_of (ids_of p) k ≡ (instrument_walk p.pool r).samples
samples_are p k r is = ap samples_if (instrument_of p k r is)

pub sample_read : (p : Placed) (k r s id : ℕ) → Some r ≡ instrument_root_in (ids_of p) k → s < samples_in p.pool r
    → id ≡ id_at p.pool r 30 s → Some id ≡ sample_root_in (ids_of p) k s
sample_read p k r s id is lt at =
    let there : slice_get (samples_of (ids_of p) k) s ≡ Some (sample_walk p.pool (id_at p.pool r 30 s))
    = ap (λ (xs : List SampleIds). slice_get xs s) (samples_are p k r is) ∙ sample_at_walk p.pool r s lt in
    ap (λ (x : ℕ). Some x) (at ∙ sym (sample_walk_root p.pool (id_at p.pool r 30 s)))
    ∙ sym (root_there sample_root (samples_of (ids_of p) k) s (sample_walk p.pool (id_at p.pool r 30 s)) there)

pub sample_absent : (p : Placed) (k r s : ℕ) → Some r ≡ instrument_root_in (ids_of p) k → samples_in p.pool r ≤ s
    → sample_root_in (ids_of p) k s ≡ None
sample_absent p k r s is le =
    let all = (instrument_walk p.pool r).samples in
    let many = length_below (samples_in p.pool r) (λ i. sample_walk p.pool (id_at p.pool r 30 i)) in
    root_absent sample_root (samples_of (ids_of p) k) s
    (ap (λ (xs : List SampleIds). slice_get xs s) (samples_are p k r is) ∙ slice_get_past all s (omega (arith, le, many)))

pub no_samples : (p : Placed) (k s : ℕ) → None ≡ instrument_root_in (ids_of p) k → sample_root_in (ids_of p) k s ≡ None
no_samples p k s none =
    root_absent sample_root (samples_of (ids_of p) k) s
    (ap (λ (o : Option InstrumentIds). slice_get (samples_if o) s) (of_no_root root_of (ids_of p).instruments k (sym none)))
