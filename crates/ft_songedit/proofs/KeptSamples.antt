-- The words of a sample whose frames an edit left.
use Rattle.std.proofs.Common.{◌≡◌, ℕ, zero, suc, ◌<◌, List, [], ◌∷◌, ◌++◌, All, None, Some, length, map, refl, ap, sym, subst, ◌∙◌, arith, inl, inr}
use Rattle.std.specs.Prelude.{slice_get, slice_index}
use Rattle.std.proofs.lemmas.Bool.{cases_lt}
use Rattle.std.proofs.lemmas.List.{length-append}
use Rattle.std.proofs.lemmas.Option.{slice_get_within, slice_get_past, get_or_from_slice_get}
use Rattle.ft_types.specs.declared.module.Module.{Module}
use Rattle.ft_types.specs.declared.instrument.Instrument.{Instrument}
use Rattle.ft_types.specs.declared.sample.Sample.{Sample}
use Rattle.ft_types.specs.declared.edit.Edit.{Edit}
use Rattle.ft_types.specs.Valid.{IsValid, IsValidSample}
use Rattle.ft_edits.specs.Lists.{changed_at}
use Rattle.ft_edits.specs.Samples.{new_sample}
use Rattle.ft_edits.specs.Changes.{sample_changed}
use Rattle.ft_segments.specs.Walk.{IndexIds, SampleIds, InstrumentIds, SongIds}
use Rattle.ft_changes.specs.declared.reach.Reach.TheVariants as reaches
use Rattle.ft_changes.specs.Reached.{IsReached}
use Rattle.ft_changes.specs.Parts.{put, index_roots}
use Rattle.ft_changes.specs.Ids.{samples_if, samples_of, indexes_if, indexes_at, ids_after}
use Rattle.ft_changes.specs.Fits.{TakesFresh}
use Rattle.ft_roots.specs.RootWords.{HasSampleWords}
use Rattle.ft_roots.specs.PartEdits.{ChangesSample, NamesSample}
use Rattle.ft_songedit.specs.Samples.{AtSample, HasSampleOf}
use Rattle.ft_songedit.proofs.Roots.{put_same}
use Rattle.ft_songedit.proofs.Reached.{put_here, pushed_here, same_some, SampleBecomes}
use Rattle.ft_songedit.proofs.Arms.{valid_at}

one_there : {X : Type 0} (xs : List X) (k : ℕ) → k < length xs → (x : X) × (slice_get xs k ≡ Some x)
one_there [] k lt = absurd (omega (arith, lt))
one_there (x ∷ xs) zero lt = (x, refl)
one_there (x ∷ xs) (suc k) lt = one_there xs k (omega (arith, lt))

changed_from : {X : Type 0} (xs : List X) (k : ℕ) (change : X → X) (w : X) → slice_get (changed_at k change xs) k ≡ Some w
    → (v : X) × (slice_get xs k ≡ Some v) × (w ≡ change v)
changed_from [] k change w found = absurd cc
changed_from (x ∷ xs) zero change w found = (x, refl, cc)
changed_from (x ∷ xs) (suc k) change w found = changed_from xs k change w found

valid_sample_at : (xs : List Sample) (k : ℕ) (v : Sample) → All IsValidSample xs → slice_get xs k ≡ Some v → IsValidSample v
valid_sample_at xs k v valid there =
    subst IsValidSample (get_or_from_slice_get xs k v v there) (valid k v (slice_get_within xs k v there))

both : (new : List ℕ) (v w : Sample) (is ns : List ℕ) → w ≡ v → ns ≡ is → HasSampleWords new v is → HasSampleWords new w ns
both new v w is ns a b has =
    subst (λ (z : Sample). HasSampleWords new z ns) (sym a) (subst (λ zs. HasSampleWords new v zs) (sym b) has)

-- the ids of the sample afterwards
abbrev pub sample_after : List ℕ → SongIds → ℕ → ℕ → SampleIds
sample_after fresh ids at s = record { root = slice_index fresh 2; indexes = indexes_at ids at s }

pub after_is : (fresh : List ℕ) (ids : SongIds) (at s : ℕ) (q : InstrumentIds) (r : SampleIds)
    → TakesFresh (reaches.Sample at s) fresh ids
    → slice_get (ids_after (reaches.Sample at s) fresh ids).instruments at ≡ Some q → slice_get q.samples s ≡ Some r
    → r ≡ sample_after fresh ids at s
after_is fresh ids at s q r takes nq nr =
    let i = takes.there.instrument in
    let z = sample_after fresh ids at s in
    let within = slice_get_within ids.instruments at i takes.there.there in
    let new : InstrumentIds = record { root = slice_index fresh 1; samples = put s z (samples_of ids at) } in
    let qs : q.samples ≡ put s z i.samples =
    ap (λ (o : InstrumentIds). o.samples) (same_some _ q new nq (put_here ids.instruments at new (omega (arith, within))))
    ∙ ap (λ o. put s z (samples_if o)) takes.there.there in
    same_some _ r z nr (ap (λ xs. slice_get xs s) qs ∙ put_here i.samples s z takes.there.holds)

pub kept_sample : (old new : List ℕ) (m next : Module) (e : Edit) (fresh : List ℕ) (ids : SongIds) (at s : ℕ)
    → IsValid m → SampleBecomes at s m e next → IsReached (reaches.Sample at s) m next → TakesFresh (reaches.Sample at s) fresh ids
    → ((x : Instrument) (i : InstrumentIds) → slice_get m.instruments at ≡ Some x → slice_get ids.instruments at ≡ Some i
    → length i.samples ≡ length x.samples)
    → AtSample at s (HasSampleOf old) m ids
    → (slice_get (samples_of ids at) s ≡ None → HasSampleWords old new_sample [])
    → ((v : Sample) (is : List ℕ) → NamesSample m e v → IsValidSample v → HasSampleWords old v is
    → HasSampleWords new (sample_changed e v) is)
    → ((ChangesSample e → ⊥) → new ≡ old)
    → AtSample at s (HasSampleOf new) next (ids_after (reaches.Sample at s) fresh ids)
kept_sample old new m next e fresh ids at s valid becomes reached takes counts stored fresh_one change others y q ny nq w r nw nr =
    let x = reached.before in
    let i = takes.there.instrument in
    let count = counts x i reached.there takes.there.there in
    let re = after_is fresh ids at s q r takes nq nr in
    let roots = ap index_roots re
    ∙ ap (λ o. map (λ (z : IndexIds). z.root) (indexes_if (slice_get (samples_if o) s))) takes.there.there in
    elim (becomes x y reached.there ny) [
      | inl one ↦
          let v = changed_from x.samples s (sample_changed e) w (ap (λ xs. slice_get xs s) (sym one.0) ∙ nw) in
          let low = slice_get_within x.samples s v.0 v.1 in
          let j = one_there i.samples s (omega (arith, low, count)) in
          both new (sample_changed e v.0) w (index_roots j.0) (index_roots r) v.2
          (roots ∙ ap (λ o. map (λ (z : IndexIds). z.root) (indexes_if o)) j.1)
          (change v.0 (index_roots j.0) (one.1 v.0 v.1)
          (valid_sample_at x.samples s v.0 (valid_at m at x valid reached.there).samples v.1)
          (stored x i reached.there takes.there.there v.0 j.0 v.1 j.1))
      | inr one ↦ elim (cases_lt s (length x.samples)) [
        | inl lt ↦
            let within = slice_get_within m.instruments at x reached.there in
            let ye : y ≡ reached.after = same_some _ y reached.after ny
            (ap (λ xs. slice_get xs at) reached.all.instruments ∙ put_here m.instruments at reached.after (omega (arith, within))) in
            let long = ap length (sym one.0 ∙ ap (λ (o : Instrument). o.samples) ye ∙ reached.made.all) in
            let same = put_same s reached.made.after x.samples lt in
            let more = length-append x.samples (new_sample ∷ []) in
            absurd (omega (arith, long, same, more))
        | inr ge ↦
            let last : s ≡ length x.samples = omega (arith, ge, count, takes.there.holds) in
            let none = slice_get_past i.samples s (omega (arith, last, count)) in
            let we : w ≡ new_sample = same_some _ w new_sample nw
            (ap (λ xs. slice_get xs s) one.0 ∙ ap (λ n. slice_get (x.samples ++ new_sample ∷ []) n) last
            ∙ pushed_here x.samples new_sample) in
            subst (λ ws. HasSampleWords ws w (index_roots r)) (sym (others one.1))
            (both old new_sample w [] (index_roots r) we
            (roots ∙ ap (λ o. map (λ (z : IndexIds). z.root) (indexes_if o)) none)
            (fresh_one (ap (λ o. slice_get (samples_if o) s) takes.there.there ∙ none)))
      ]
    ]
