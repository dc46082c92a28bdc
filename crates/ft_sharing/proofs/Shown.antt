-- The pool shows the song after an edit.
use Rattle.std.proofs.Common.{◌≡◌, ℕ, ◌/◌, ◌<◌, ◌≤◌, List, length, refl, ap, sym, subst, ◌∙◌, arith, inl, inr}
use Rattle.std.specs.Prelude.{slice_index}
use Rattle.std.proofs.lemmas.Bool.{cases_lt}
use Rattle.ft_segments.specs.Walk.{SongIds, IsSound, ids_of, uses, walk}
use Rattle.ft_changes.specs.declared.reach.Reach.{Reach}
use Rattle.ft_changes.specs.declared.reach.Reach.TheVariants as reaches
use Rattle.ft_changes.specs.Ids.{ids_after}
use Rattle.ft_changes.specs.Fits.{TakesFresh}
use Rattle.ft_changes.specs.Laws.{named_in, SegmentsBalance}
use Rattle.ft_image.specs.Laws.{WalkIsThere, ShownStays}
use Rattle.ft_image.specs.Shown.{ShowsParts}
use Rattle.ft_sharing.specs.Laws.{SharedShows}
use Rattle.ft_sharing.proofs.Shares.{parts_share}
use Rattle.ft_sharing.proofs.Fitting.{reached_fits}

-- the first of the fresh segments is the root
root_after : (reach : Reach) (fresh : List ℕ) (ids : SongIds) → (ids_after reach fresh ids).root ≡ slice_index fresh 0
root_after reaches.Song fresh ids = refl
root_after reaches.LastPattern fresh ids = refl
root_after (reaches.Cell p b) fresh ids = refl
root_after (reaches.Pattern p n) fresh ids = refl
root_after (reaches.Instrument at) fresh ids = refl
root_after (reaches.Bare at) fresh ids = refl
root_after (reaches.LastSample at) fresh ids = refl
root_after (reaches.Sample at s) fresh ids = refl
root_after (reaches.Frames at s first last gone) fresh ids = refl

-- each segment is named once at most, and is in the pool
sound_after : SegmentsBalance → (reach : Reach) (fresh : List ℕ) (ids : SongIds) (segments : ℕ) → TakesFresh reach fresh ids
    → IsSound segments ids → ((s : ℕ) → named_in s fresh ≤ 1) → ((s : ℕ) → 1 ≤ named_in s fresh → uses s ids ≡ 0)
    → ((s : ℕ) → 1 ≤ named_in s fresh → s < segments) → IsSound segments (ids_after reach fresh ids)
sound_after balance reach fresh ids segments fits sound once apart within = record {
  once = λ s.
      let a = balance reach fresh ids s fits in
      elim (cases_lt (named_in s fresh) 1) [
        | inl none ↦ let b = sound.once s in omega (arith, a, b, none)
        | inr one ↦ let b = apart s one in let c = once s in omega (arith, a, b, c)
      ];
  within = λ s used.
      let a = balance reach fresh ids s fits in
      elim (cases_lt (named_in s fresh) 1) [
        | inl none ↦ sound.within s (omega (arith, a, none, used))
        | inr one ↦ within s one
      ];
}

pub shared_shows : ShownStays → WalkIsThere → SegmentsBalance → SharedShows
shared_shows stays finds balance placed old new reach fresh pool shows valid reached few keeps are count written =
    let ids = ids_of placed in
    let after = ids_after reach fresh ids in
    let n = length placed.pool / 256 in
    let kept = stays placed old pool shows few (omega (arith, keeps.size)) keeps.same in
    let stands : ShowsParts pool old ids = subst (λ (z : SongIds). ShowsParts pool old z) kept.0 kept.1.stands in
    let parts = parts_share pool old new ids reach fresh stands reached count written in
    let sound = sound_after balance reach fresh ids n (reached_fits placed old new reach fresh shows reached count) shows.sound
    are.once are.apart are.within in
    let is : walk pool (slice_index fresh 0) ≡ after
    = ap (walk pool) (sym (root_after reach fresh ids)) ∙ finds pool new after n valid (omega (arith, few)) sound parts in
    let size : n ≡ length pool / 256 = ap (λ k. k / 256) (sym keeps.size) in (
      is,
      record {
        valid = valid;
        sound = subst (λ (z : SongIds). IsSound (length pool / 256) z) (sym is) (subst (λ k. IsSound k after) size sound);
        stands = subst (λ (z : SongIds). ShowsParts pool new z) (sym is) parts;
      },
    )
