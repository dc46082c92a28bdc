-- A change of the element that was found, as a change of the list, and of the song.
use Rattle.std.proofs.Common.{◌≡◌, ℕ, zero, suc, ◌-◌, List, [], ◌∷◌, None, Some, Result, Ok, Err, set, refl, ap, sym, ◌∙◌, subst}
use Rattle.std.specs.Prelude.{slice_get, OnOk, OnErr}
use Rattle.ft_types.specs.declared.module.Module.{Module}
use Rattle.ft_types.specs.declared.pattern.Pattern.{Pattern}
use Rattle.ft_types.specs.declared.instrument.Instrument.{Instrument}
use Rattle.ft_types.specs.declared.sample.Sample.{Sample}
use Rattle.ft_edits.specs.Lists.{changed_at}
use Rattle.ft_edits.specs.Patterns.{with_pattern}
use Rattle.ft_edits.specs.Instruments.{with_instrument}
use Rattle.ft_check.specs.Changes.{sample_in_changed}

found_at : {X : Type 0} (place : ℕ) (change : X → X) (xs : List X) (x : X)
    → slice_get xs place ≡ Some x → set xs place (change x) ≡ changed_at place change xs
found_at place change [] x found = absurd cc
found_at zero change (y ∷ xs) x found = let same : y ≡ x = cc in ap (λ z. change z ∷ xs) (sym same)
found_at (suc place) change (y ∷ xs) x found = ap (λ zs. y ∷ zs) (found_at place change xs x found)

none_at : {X : Type 0} (place : ℕ) (change : X → X) (xs : List X) → slice_get xs place ≡ None
    → xs ≡ changed_at place change xs
none_at place change [] none = refl
none_at zero change (y ∷ xs) none = absurd cc
none_at (suc place) change (y ∷ xs) none = ap (λ zs. y ∷ zs) (none_at place change xs none)

back : {X : Type 0} (at : ℕ) (xs : List X) (x : X) → slice_get xs at ≡ Some x → set xs at x ≡ xs
back at [] x found = absurd cc
back zero (y ∷ xs) x found = let same : y ≡ x = cc in ap (λ z. z ∷ xs) (sym same)
back (suc at) (y ∷ xs) x found = ap (λ zs. y ∷ zs) (back at xs x found)

-- the place was found, and what is there now is its change
pub changed_found : {X : Type 0} (place at : ℕ) (change : X → X) (xs : List X) (x y : X)
    → at ≡ place → slice_get xs at ≡ Some x → y ≡ change x → set xs at y ≡ changed_at place change xs
changed_found place at change xs x y index found new =
    let here : slice_get xs place ≡ Some x = subst (λ n. slice_get xs n ≡ Some x) index found in
    ap (λ n. set xs n y) index ∙ ap (set xs place) new ∙ found_at place change xs x here

-- it wasn't
pub changed_none : {X : Type 0} (place at : ℕ) (change : X → X) (xs : List X)
    → at ≡ place → slice_get xs at ≡ None → xs ≡ changed_at place change xs
changed_none place at change xs index none = none_at place change xs (subst (λ n. slice_get xs n ≡ None) index none)

-- what was found is put back
pub put_back : {X : Type 0} (at : ℕ) (xs : List X) (x y : X) → slice_get xs at ≡ Some x → y ≡ x → set xs at y ≡ xs
put_back at xs x y found same = ap (set xs at) same ∙ back at xs x found

-- nothing is there to be set
pub set_none : {X : Type 0} (at : ℕ) (xs : List X) (y : X) → slice_get xs at ≡ None → xs ≡ set xs at y
set_none at [] y none = refl
set_none zero (x ∷ xs) y none = absurd cc
set_none (suc at) (x ∷ xs) y none = ap (λ zs. x ∷ zs) (set_none at xs y none)

pub ok_so : {T E P Q : Type 0} (r : Result T E) → OnOk r P → (P → Q) → OnOk r Q
ok_so (Ok x) holds so = so holds
ok_so (Err e) holds so = holds

pub err_so : {T E P Q : Type 0} (r : Result T E) → OnErr r P → (P → Q) → OnErr r Q
err_so (Ok x) holds so = holds
err_so (Err e) holds so = so holds

-- ---- in a song

pub pattern_now : (song : Module) (p at : ℕ) (change : Pattern → Pattern) (x y : Pattern)
    → at ≡ p → slice_get song.patterns at ≡ Some x → y ≡ change x
    → record song { patterns = set song.patterns at y } ≡ with_pattern p change song
pattern_now song p at change x y index found new =
    ap (λ (ps : List Pattern). record song { patterns = ps })
    (changed_found p at change song.patterns x y index found new)

pub pattern_back : (song : Module) (at : ℕ) (x y : Pattern)
    → slice_get song.patterns at ≡ Some x → y ≡ x → record song { patterns = set song.patterns at y } ≡ song
pattern_back song at x y found same =
    ap (λ (ps : List Pattern). record song { patterns = ps }) (put_back at song.patterns x y found same)

pub pattern_none : (song : Module) (p at : ℕ) (change : Pattern → Pattern)
    → at ≡ p → slice_get song.patterns at ≡ None → song ≡ with_pattern p change song
pattern_none song p at change index none =
    ap (λ (ps : List Pattern). record song { patterns = ps }) (changed_none p at change song.patterns index none)

pub instrument_now : (song : Module) (i at : ℕ) (change : Instrument → Instrument) (x y : Instrument)
    → at ≡ i - 1 → slice_get song.instruments at ≡ Some x → y ≡ change x
    → record song { instruments = set song.instruments at y } ≡ with_instrument i change song
instrument_now song i at change x y index found new =
    ap (λ (is : List Instrument). record song { instruments = is })
    (changed_found (i - 1) at change song.instruments x y index found new)

pub instrument_back : (song : Module) (at : ℕ) (x y : Instrument)
    → slice_get song.instruments at ≡ Some x → y ≡ x → record song { instruments = set song.instruments at y } ≡ song
instrument_back song at x y found same =
    ap (λ (is : List Instrument). record song { instruments = is }) (put_back at song.instruments x y found same)

pub instrument_none : (song : Module) (i at : ℕ) (change : Instrument → Instrument)
    → at ≡ i - 1 → slice_get song.instruments at ≡ None → song ≡ with_instrument i change song
instrument_none song i at change index none =
    ap (λ (is : List Instrument). record song { instruments = is })
    (changed_none (i - 1) at change song.instruments index none)

pub sample_now : (instrument : Instrument) (s at : ℕ) (change : Sample → Sample) (x y : Sample)
    → at ≡ s → slice_get instrument.samples at ≡ Some x → y ≡ change x
    → record instrument { samples = set instrument.samples at y } ≡ sample_in_changed s change instrument
sample_now instrument s at change x y index found new =
    ap (λ (ss : List Sample). record instrument { samples = ss })
    (changed_found s at change instrument.samples x y index found new)

pub sample_back : (instrument : Instrument) (at : ℕ) (x y : Sample)
    → slice_get instrument.samples at ≡ Some x → y ≡ x
    → record instrument { samples = set instrument.samples at y } ≡ instrument
sample_back instrument at x y found same =
    ap (λ (ss : List Sample). record instrument { samples = ss }) (put_back at instrument.samples x y found same)

pub sample_none : (instrument : Instrument) (s at : ℕ) (change : Sample → Sample)
    → at ≡ s → slice_get instrument.samples at ≡ None → instrument ≡ sample_in_changed s change instrument
sample_none instrument s at change index none =
    ap (λ (ss : List Sample). record instrument { samples = ss })
    (changed_none s at change instrument.samples index none)
