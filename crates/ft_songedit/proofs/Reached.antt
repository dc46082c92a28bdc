-- What becomes of the instrument that an edit reaches.
use Rattle.std.proofs.Common.{◌≡◌, ℕ, zero, suc, ◌-◌, ◌/◌, ◌==◌, ◌≤◌, Bool, true, false, List, [], ◌∷◌, ◌++◌, Option, Some, length, refl, ap, sym, ◌∙◌, arith, inl, inr}
use Rattle.std.specs.Prelude.{slice_get, ◌⊎◌, if◌then◌else◌}
use Rattle.ft_types.specs.declared.module.Module.{Module}
use Rattle.ft_types.specs.declared.instrument.Instrument.{Instrument}
use Rattle.ft_types.specs.declared.sample.Sample.{Sample}
use Rattle.ft_types.specs.declared.edit.Edit.{Edit}
use Rattle.ft_types.specs.declared.edit.Edit.TheVariants as edits
use Rattle.ft_types.specs.Blocks.{pieces_of}
use Rattle.ft_edits.specs.Lists.{changed_at}
use Rattle.ft_edits.specs.Instruments.{zero_instrument}
use Rattle.ft_edits.specs.Samples.{new_sample, with_new_sample, without_sample, with_loop, without_frames, with_new_frames, turned, scaled, with_bits}
use Rattle.ft_edits.specs.Changes.{instrument_changed, sample_changed}
use Rattle.ft_edits.specs.Edited.{edited}
use Rattle.ft_changes.specs.declared.reach.Reach.{Reach}
use Rattle.ft_changes.specs.declared.reach.Reach.TheVariants as reaches
use Rattle.ft_changes.specs.Reaches.{reach_of}
use Rattle.ft_changes.specs.Parts.{put}
use Rattle.ft_roots.specs.PartEdits.{ChangesInstrumentAlone, ChangesSample, NamesSample}

-- ---- lists

pub put_here : {X : Type 0} (xs : List X) (k : ℕ) (x : X) → k ≤ length xs → slice_get (put k x xs) k ≡ Some x
put_here [] zero x le = refl
put_here [] (suc k) x le = absurd (omega (arith, le))
put_here (y ∷ xs) zero x le = refl
put_here (y ∷ xs) (suc k) x le = put_here xs k x (omega (arith, le))

pub changed_here : {X : Type 0} (xs : List X) (k : ℕ) (change : X → X) (x : X) → slice_get xs k ≡ Some x
    → slice_get (changed_at k change xs) k ≡ Some (change x)
changed_here [] k change x found = absurd cc
changed_here (y ∷ xs) zero change x found = let e : y ≡ x = cc in ap (λ z. Some (change z)) e
changed_here (y ∷ xs) (suc k) change x found = changed_here xs k change x found

cleared_here : {X : Type 0} (xs : List X) (k : ℕ) (z y : X) → slice_get (changed_at k (λ x. z) xs) k ≡ Some y → y ≡ z
cleared_here [] k z y found = absurd cc
cleared_here (x ∷ xs) zero z y found = cc
cleared_here (x ∷ xs) (suc k) z y found = cleared_here xs k z y found

pub pushed_here : {X : Type 0} (xs : List X) (x : X) → slice_get (xs ++ x ∷ []) (length xs) ≡ Some x
pushed_here [] x = refl
pushed_here (y ∷ xs) x = pushed_here xs x

pub same_some : {X : Type 0} (o : Option X) (x y : X) → o ≡ Some x → o ≡ Some y → x ≡ y
same_some o x y a b = cc

-- ---- each edit

abbrev pub SamplesAlone : ℕ → Module → Module → Type 0
SamplesAlone at old new =
    (x y : Instrument) → slice_get old.instruments at ≡ Some x → slice_get new.instruments at ≡ Some y
    → y ≡ record x { samples = y.samples }

abbrev pub WhatBecomes : Reach → Module → Edit → Module → Type 0
WhatBecomes (reaches.Instrument at) old edit new =
    ChangesInstrumentAlone edit
    × ((x : Instrument) → slice_get old.instruments at ≡ Some x
    → slice_get new.instruments at ≡ Some (instrument_changed edit x))
WhatBecomes (reaches.Bare at) old edit new =
    (y : Instrument) → slice_get new.instruments at ≡ Some y → y ≡ zero_instrument
WhatBecomes (reaches.LastSample at) old edit new =
    (x : Instrument) → slice_get old.instruments at ≡ Some x
    → slice_get new.instruments at ≡ Some (without_sample x)
WhatBecomes (reaches.Sample at s) old edit new = SamplesAlone at old new
WhatBecomes (reaches.Frames at s first last gone) old edit new = SamplesAlone at old new
WhatBecomes _ old edit new = Unit {0}

alone : (xs : List Instrument) (k : ℕ) (change : Instrument → List Sample) (x y : Instrument)
    → slice_get xs k ≡ Some x
    → slice_get (changed_at k (λ (z : Instrument). record z { samples = change z }) xs) k ≡ Some y
    → y ≡ record x { samples = y.samples }
alone xs k change x y old new =
    let e : y ≡ record x { samples = change x } =
    same_some _ y (record x { samples = change x }) new
    (changed_here xs k (λ (z : Instrument). record z { samples = change z }) x old) in
    e ∙ ap (λ zs. record x { samples = zs }) (sym (ap (λ (z : Instrument). z.samples) e))

between : (none : Bool) (at s first last gone : ℕ) (old : Module) (edit : Edit) (new : Module) → SamplesAlone at old new
    → WhatBecomes (if none then reaches.Sample at s else reaches.Frames at s first last gone) old edit new
between true at s first last gone old edit new is = is
between false at s first last gone old edit new is = is

pub what_becomes : (m : Module) (e : Edit) → WhatBecomes (reach_of m e) m e (edited m e)
what_becomes m (edits.Cell p r c note ins vol eff par) = tt
what_becomes m (edits.Rows p n) = tt
what_becomes m (edits.Insrow p r) = tt
what_becomes m (edits.Delrow p r) = tt
what_becomes m (edits.Clear p r c h w) = tt
what_becomes m (edits.Transpose p r c h w d) = tt
what_becomes m (edits.Copy p r c h w q r2 c2) = tt
what_becomes m (edits.Order position p) = tt
what_becomes m (edits.Insorder position p) = tt
what_becomes m (edits.Delorder position) = tt
what_becomes m (edits.Restart position) = tt
what_becomes m (edits.Tempo n) = tt
what_becomes m (edits.Bpm n) = tt
what_becomes m (edits.Title name) = tt
what_becomes m (edits.Newpat n) = tt
what_becomes m edits.Delpat = tt
what_becomes m edits.Newins = λ y found. same_some _ y zero_instrument found (pushed_here m.instruments zero_instrument)
what_becomes m (edits.Clearins i) = λ y found. cleared_here m.instruments (i - 1) zero_instrument y found
what_becomes m (edits.Insname i name) =
    (tt, λ x found. changed_here m.instruments (i - 1) (instrument_changed (edits.Insname i name)) x found)
what_becomes m (edits.Map i n k) =
    (tt, λ x found. changed_here m.instruments (i - 1) (instrument_changed (edits.Map i n k)) x found)
what_becomes m (edits.Env i w count sus ls le flags) =
    (tt, λ x found. changed_here m.instruments (i - 1) (instrument_changed (edits.Env i w count sus ls le flags)) x found)
what_becomes m (edits.Point i w k x y) =
    (tt, λ z found. changed_here m.instruments (i - 1) (instrument_changed (edits.Point i w k x y)) z found)
what_becomes m (edits.Vib i kind sweep depth rate) =
    (tt, λ x found. changed_here m.instruments (i - 1) (instrument_changed (edits.Vib i kind sweep depth rate)) x found)
what_becomes m (edits.Fade i n) =
    (tt, λ x found. changed_here m.instruments (i - 1) (instrument_changed (edits.Fade i n)) x found)
what_becomes m (edits.Newsmp i) =
    λ x y old new. alone m.instruments (i - 1) (λ (z : Instrument). (with_new_sample z).samples) x y old new
what_becomes m (edits.Delsmp i) = λ x found. changed_here m.instruments (i - 1) without_sample x found
what_becomes m (edits.Smpname i s name) =
    λ x y old new. alone m.instruments (i - 1)
    (λ (z : Instrument). changed_at s (λ (sample : Sample). record sample { name = name }) z.samples) x y old new
what_becomes m (edits.Smp i s vol fine rel pan) =
    λ x y old new. alone m.instruments (i - 1)
    (λ (z : Instrument). changed_at s
    (λ (sample : Sample). record sample { volume = vol; finetune = fine; relative = rel; panning = pan }) z.samples) x y old new
what_becomes m (edits.Loop i s kind start len) =
    λ x y old new. alone m.instruments (i - 1)
    (λ (z : Instrument). changed_at s (with_loop kind start len) z.samples) x y old new
what_becomes m (edits.Cut i s from to) =
    λ x y old new. alone m.instruments (i - 1)
    (λ (z : Instrument). changed_at s (without_frames from to) z.samples) x y old new
what_becomes m (edits.Paste i s at frames) =
    λ x y old new. alone m.instruments (i - 1)
    (λ (z : Instrument). changed_at s (with_new_frames at frames) z.samples) x y old new
what_becomes m (edits.Reverse i s from to) =
    between (from == to) (i - 1) s (from / 1024) (pieces_of to 1024) (pieces_of to 1024) m
    (edits.Reverse i s from to) (edited m (edits.Reverse i s from to))
    (λ x y old new. alone m.instruments (i - 1)
    (λ (z : Instrument). changed_at s (turned from to) z.samples) x y old new)
what_becomes m (edits.Scale i s from to n d) =
    between (from == to) (i - 1) s (from / 1024) (pieces_of to 1024) (pieces_of to 1024) m
    (edits.Scale i s from to n d) (edited m (edits.Scale i s from to n d))
    (λ x y old new. alone m.instruments (i - 1)
    (λ (z : Instrument). changed_at s (scaled from to n d) z.samples) x y old new)
what_becomes m (edits.Bits i s b) =
    λ x y old new. alone m.instruments (i - 1)
    (λ (z : Instrument). changed_at s (with_bits b) z.samples) x y old new

-- ---- the sample

-- a sample is changed, or a new one is behind the last
abbrev pub SampleBecomes : ℕ → ℕ → Module → Edit → Module → Type 0
SampleBecomes at s old edit new =
    (x y : Instrument) → slice_get old.instruments at ≡ Some x → slice_get new.instruments at ≡ Some y
    → ((y.samples ≡ changed_at s (sample_changed edit) x.samples)
    × ((v : Sample) → slice_get x.samples s ≡ Some v → NamesSample old edit v))
    ⊎ ((y.samples ≡ x.samples ++ new_sample ∷ []) × (ChangesSample edit → ⊥))

abbrev pub WhatOfSample : Reach → Module → Edit → Module → Type 0
WhatOfSample (reaches.Sample at s) old edit new = SampleBecomes at s old edit new
WhatOfSample (reaches.Frames at s first last gone) old edit new = SampleBecomes at s old edit new
WhatOfSample _ old edit new = Unit {0}

samples_of_one : (xs : List Instrument) (k : ℕ) (change : Instrument → Instrument) (x y : Instrument)
    → slice_get xs k ≡ Some x → slice_get (changed_at k change xs) k ≡ Some y → y.samples ≡ (change x).samples
samples_of_one xs k change x y old new =
    ap (λ (z : Instrument). z.samples) (same_some _ y (change x) new (changed_here xs k change x old))

between_sample : (none : Bool) (at s first last gone : ℕ) (old : Module) (edit : Edit) (new : Module) → SampleBecomes at s old edit new
    → WhatOfSample (if none then reaches.Sample at s else reaches.Frames at s first last gone) old edit new
between_sample true at s first last gone old edit new is = is
between_sample false at s first last gone old edit new is = is

one_changed : (m : Module) (i s : ℕ) (change : Sample → Sample) (x y : Instrument)
    → slice_get m.instruments (i - 1) ≡ Some x
    → slice_get (changed_at (i - 1) (λ (z : Instrument). record z { samples = changed_at s change z.samples }) m.instruments) (i - 1) ≡ Some y
    → y.samples ≡ changed_at s change x.samples
one_changed m i s change x y old new =
    samples_of_one m.instruments (i - 1) (λ (z : Instrument). record z { samples = changed_at s change z.samples }) x y old new

pub what_of_sample : (m : Module) (e : Edit) → WhatOfSample (reach_of m e) m e (edited m e)
what_of_sample m (edits.Cell p r c note ins vol eff par) = tt
what_of_sample m (edits.Rows p n) = tt
what_of_sample m (edits.Insrow p r) = tt
what_of_sample m (edits.Delrow p r) = tt
what_of_sample m (edits.Clear p r c h w) = tt
what_of_sample m (edits.Transpose p r c h w d) = tt
what_of_sample m (edits.Copy p r c h w q r2 c2) = tt
what_of_sample m (edits.Order position p) = tt
what_of_sample m (edits.Insorder position p) = tt
what_of_sample m (edits.Delorder position) = tt
what_of_sample m (edits.Restart position) = tt
what_of_sample m (edits.Tempo n) = tt
what_of_sample m (edits.Bpm n) = tt
what_of_sample m (edits.Title name) = tt
what_of_sample m (edits.Newpat n) = tt
what_of_sample m edits.Delpat = tt
what_of_sample m edits.Newins = tt
what_of_sample m (edits.Clearins i) = tt
what_of_sample m (edits.Insname i name) = tt
what_of_sample m (edits.Map i n k) = tt
what_of_sample m (edits.Env i w count sus ls le flags) = tt
what_of_sample m (edits.Point i w k x y) = tt
what_of_sample m (edits.Vib i kind sweep depth rate) = tt
what_of_sample m (edits.Fade i n) = tt
what_of_sample m (edits.Delsmp i) = tt
what_of_sample m (edits.Cut i s from to) =
    λ x y old new. inl (
      one_changed m i s (sample_changed (edits.Cut i s from to)) x y old new,
      λ v there. record { instrument = x; has_instrument = old; has_sample = there },
    )
what_of_sample m (edits.Paste i s at frames) =
    λ x y old new. inl (
      one_changed m i s (sample_changed (edits.Paste i s at frames)) x y old new,
      λ v there. record { instrument = x; has_instrument = old; has_sample = there },
    )
what_of_sample m (edits.Bits i s b) =
    λ x y old new. inl (
      one_changed m i s (sample_changed (edits.Bits i s b)) x y old new,
      λ v there. record { instrument = x; has_instrument = old; has_sample = there },
    )
what_of_sample m (edits.Newsmp i) =
    λ x y old new. inr (samples_of_one m.instruments (i - 1) with_new_sample x y old new, λ changes. changes)
what_of_sample m (edits.Smpname i s name) =
    λ x y old new. inl (
      one_changed m i s (sample_changed (edits.Smpname i s name)) x y old new,
      λ v there. record { instrument = x; has_instrument = old; has_sample = there },
    )
what_of_sample m (edits.Smp i s vol fine rel pan) =
    λ x y old new. inl (
      one_changed m i s (sample_changed (edits.Smp i s vol fine rel pan)) x y old new,
      λ v there. record { instrument = x; has_instrument = old; has_sample = there },
    )
what_of_sample m (edits.Loop i s kind start len) =
    λ x y old new. inl (
      one_changed m i s (sample_changed (edits.Loop i s kind start len)) x y old new,
      λ v there. record { instrument = x; has_instrument = old; has_sample = there },
    )
what_of_sample m (edits.Reverse i s from to) =
    between_sample (from == to) (i - 1) s (from / 1024) (pieces_of to 1024) (pieces_of to 1024) m (edits.Reverse i s from to)
    (edited m (edits.Reverse i s from to))
    (λ x y old new. inl (
      one_changed m i s (sample_changed (edits.Reverse i s from to)) x y old new,
      λ v there. record { instrument = x; has_instrument = old; has_sample = there },
    ))
what_of_sample m (edits.Scale i s from to n d) =
    between_sample (from == to) (i - 1) s (from / 1024) (pieces_of to 1024) (pieces_of to 1024) m (edits.Scale i s from to n d)
    (edited m (edits.Scale i s from to n d))
    (λ x y old new. inl (
      one_changed m i s (sample_changed (edits.Scale i s from to n d)) x y old new,
      λ v there. record { instrument = x; has_instrument = old; has_sample = there },
    ))
