-- The sample whose frames an edit touches, and its segments before and after it.
use Rattle.std.proofs.Common.{◌≡◌, ◌∙◌, ℕ, zero, suc, ◌-◌, ◌<◌, ◌≤◌, Bool, true, false, List, [], ◌∷◌, Option, Some, length, All, refl, ap, sym, subst, arith}
use Rattle.std.specs.Prelude.{if◌then◌else◌, map, slice_get, slice_index}
use Rattle.std.proofs.lemmas.Option.{slice_get_within, get_or_from_slice_get, slice_get-map, same_Some, none-some}
use Rattle.std.specs.Option.{option_map}
use Rattle.ft_types.specs.declared.module.Module.{Module}
use Rattle.ft_types.specs.declared.instrument.Instrument.{Instrument}
use Rattle.ft_types.specs.declared.sample.Sample.{Sample}
use Rattle.ft_types.specs.declared.edit.Edit.{Edit}
use Rattle.ft_types.specs.declared.edit.Edit.TheVariants as edits
use Rattle.ft_types.specs.Edits.{IsGivable}
use Rattle.ft_types.specs.Valid.{IsValid, IsValidInstrument, IsValidSample}
use Rattle.ft_types.specs.Views.{instrument_at, sample_in}
use Rattle.ft_edits.specs.Allowed.{Allows}
use Rattle.ft_edits.specs.Changes.{instrument_number, sample_number, sample_changed}
use Rattle.ft_edits.specs.Edited.{edited}
use Rattle.ft_edits.specs.Faults.{sample_length}
use Rattle.ft_edits.specs.Groups.{group_of}
use Rattle.ft_edits.specs.declared.group.Group.TheVariants as groups
use Rattle.ft_edits.specs.Lists.{changed_at}
use Rattle.ft_edits.specs.Samples.{with_sample}
use Rattle.ft_segments.specs.Walk.{IndexIds, SampleIds, InstrumentIds, Placed, ids_of}
use Rattle.ft_changes.specs.declared.reach.Reach.{Reach}
use Rattle.ft_changes.specs.declared.reach.Reach.TheVariants as reaches
use Rattle.ft_changes.specs.Fits.{IsStretch, TakesFresh}
use Rattle.ft_changes.specs.Ids.{ids_after, indexes_after, indexes_at, indexes_if, samples_of, samples_if}
use Rattle.ft_changes.specs.Parts.{put}
use Rattle.ft_changes.specs.Reached.{IsReached}
use Rattle.ft_changes.specs.Reaches.{reach_of}
use Rattle.ft_image.specs.Read.{IsRootOf, root_or_none, sample_ids_in}
use Rattle.ft_image.specs.Shown.{Shows}
use Rattle.ft_placed.specs.Roots.{IsSampleOf, sample_root_in}
use Rattle.ft_sharing.specs.Laws.{FreshFrames, IsRefilled}
use Rattle.ft_smpedit.specs.Sources.{HasNamedFrames}

-- ---- which sample an edit of frames names

abbrev IsFramesReach : Reach → Type 0
IsFramesReach (reaches.Frames at s f l g) = Unit {0}
IsFramesReach _ = ⊥

abbrev at_of : Reach → ℕ
at_of (reaches.Frames at s f l g) = at
at_of _ = 0

abbrev sample_of : Reach → ℕ
sample_of (reaches.Frames at s f l g) = s
sample_of _ = 0

between : (b : Bool) (a k f l g at s f2 l2 g2 : ℕ)
    → (if b then reaches.Sample a k else reaches.Frames a k f l g) ≡ reaches.Frames at s f2 l2 g2 → (a ≡ at) × (k ≡ s)
between true a k f l g at s f2 l2 g2 is = absurd (subst (λ (r : Reach). IsFramesReach r) (sym is) tt)
between false a k f l g at s f2 l2 g2 is = (ap (λ (r : Reach). at_of r) is, ap (λ (r : Reach). sample_of r) is)

pub record NamesSample (e : Edit) (at s : ℕ) : Type 0 where
  pub group : group_of e ≡ groups.Frames
  pub number : instrument_number e ≡ suc at
  pub sample : sample_number e ≡ s

from_one : (i at : ℕ) → 0 < i → i - 1 ≡ at → i ≡ suc at
from_one i at some is = omega (arith, some, is)

pub names : (m : Module) (e : Edit) (at s f l g : ℕ) → Allows m e → reach_of m e ≡ reaches.Frames at s f l g → NamesSample e at s
names m (edits.Cut i k from to) at s f l g allows is = record {
  group = refl;
  number = from_one i at allows.0 (ap (λ (r : Reach). at_of r) is);
  sample = ap (λ (r : Reach). sample_of r) is;
}
names m (edits.Paste i k place new) at s f l g allows is = record {
  group = refl;
  number = from_one i at allows.0 (ap (λ (r : Reach). at_of r) is);
  sample = ap (λ (r : Reach). sample_of r) is;
}
names m (edits.Bits i k b) at s f l g allows is = record {
  group = refl;
  number = from_one i at allows (ap (λ (r : Reach). at_of r) is);
  sample = ap (λ (r : Reach). sample_of r) is;
}
names m (edits.Reverse i k from to) at s f l g allows is =
    let same = between _ (i - 1) k _ _ _ at s f l g is in
    record { group = refl; number = from_one i at allows.0 same.0; sample = same.1 }
names m (edits.Scale i k from to n d) at s f l g allows is =
    let same = between _ (i - 1) k _ _ _ at s f l g is in
    record { group = refl; number = from_one i at allows.0.0 same.0; sample = same.1 }
names m e at s f l g allows is = absurd (subst (λ (r : Reach). IsFramesReach r) (sym is) tt)

pub has_named : (m : Module) (e : Edit) (x : Sample) → sample_in (instrument_at m (instrument_number e)) (sample_number e) ≡ Some x
    → Allows m e → IsGivable e → HasNamedFrames (length x.frames) e
has_named m (edits.Cut i k from to) x at allows givable =
    (allows.1, omega (arith, allows.2, ap (λ (o : Option Sample). sample_length o) at))
has_named m (edits.Paste i k place new) x at allows givable =
    (omega (arith, allows.2, ap (λ (o : Option Sample). sample_length o) at), givable.1)
has_named m (edits.Reverse i k from to) x at allows givable =
    (allows.1, omega (arith, allows.2, ap (λ (o : Option Sample). sample_length o) at))
has_named m (edits.Scale i k from to n d) x at allows givable =
    (allows.0.1, omega (arith, allows.0.2, ap (λ (o : Option Sample). sample_length o) at), allows.1)
has_named m e x at allows givable = tt

-- ---- lists

pub at_changed : {X : Type 0} (k : ℕ) (f : X → X) (xs : List X) (x : X) → slice_get xs k ≡ Some x → slice_get (changed_at k f xs) k ≡ Some (f x)
at_changed k f [] x is = absurd (none-some x is)
at_changed zero f (y ∷ xs) x is = ap (λ z. Some (f z)) (same_Some y x is)
at_changed (suc k) f (y ∷ xs) x is = at_changed k f xs x is

pub at_put : {X : Type 0} (k : ℕ) (x : X) (xs : List X) → k ≤ length xs → slice_get (put k x xs) k ≡ Some x
at_put zero x [] le = refl
at_put zero x (y ∷ xs) le = refl
at_put (suc k) x [] le = absurd (omega (arith, le))
at_put (suc k) x (y ∷ xs) le = at_put k x xs (omega (arith, le))

valid_at : {X : Type 0} (P : X → Type 0) (xs : List X) (k : ℕ) (x : X) → All P xs → slice_get xs k ≡ Some x → P x
valid_at P xs k x all is = subst P (get_or_from_slice_get xs k x x is) (all k x (slice_get_within xs k x is))

-- ---- the sample and its segments

pub record Touched (p : Placed) (m : Module) (e : Edit) (at s root first last gone : ℕ) (fresh : List ℕ) : Type 0 where
  pub sample : Sample
  pub old : SampleIds
  pub new : SampleIds
  pub of : IsRootOf p m root sample
  pub ids : IsSampleOf (ids_of p) old
  pub named : old.root ≡ root
  pub frames : HasNamedFrames (length sample.frames) e
  pub stretch : IsStretch first last gone old
  pub refilled : IsRefilled first last gone fresh old new
  pub few : last ≤ 3840
  pub samples : (y : Instrument) (x : Sample) → slice_get (edited m e).instruments at ≡ Some y → slice_get y.samples s ≡ Some x
      → sample_changed e sample ≡ x
  pub segments : (q : InstrumentIds) (ids : SampleIds)
      → slice_get (ids_after (reaches.Frames at s first last gone) fresh (ids_of p)).instruments at ≡ Some q
      → slice_get q.samples s ≡ Some ids → new ≡ ids

old_root : (p : Placed) (at s root : ℕ) (yi : InstrumentIds) (old : SampleIds) → slice_get (ids_of p).instruments at ≡ Some yi
    → slice_get yi.samples s ≡ Some old → sample_root_in (ids_of p) at s ≡ Some root → old.root ≡ root
old_root p at s root yi old there in_it is =
    let root_of : SampleIds → ℕ = λ x. x.root in
    same_Some old.root root
    (sym (ap (λ (o : Option InstrumentIds). slice_get (map root_of (samples_if o)) s) there
    ∙ slice_get-map root_of yi.samples s ∙ ap (λ (o : Option SampleIds). option_map root_of o) in_it) ∙ is)

few_bodies : (next : Module) (at s : ℕ) (y : Instrument) (x : Sample) → IsValid next → slice_get next.instruments at ≡ Some y
    → slice_get y.samples s ≡ Some x → length x.frames ≤ 3932160
few_bodies next at s y x valid there in_it =
    let one = valid_at IsValidInstrument next.instruments at y valid.instruments there in
    let sample = valid_at IsValidSample y.samples s x one.samples in_it in
    sample.few_frames

new_sample : (m : Module) (e : Edit) (at s i k : ℕ) (before : Instrument) (x : Sample) → i ≡ suc at → k ≡ s
    → edited m e ≡ with_sample i k (sample_changed e) m
    → slice_get m.instruments at ≡ Some before → slice_get before.samples s ≡ Some x
    → (y : Instrument) (x2 : Sample) → slice_get (edited m e).instruments at ≡ Some y → slice_get y.samples s ≡ Some x2
    → sample_changed e x ≡ x2
new_sample m e at s i k before x i_is k_is made there in_it y x2 y_is x2_is =
    let change : Instrument → Instrument = λ (instrument : Instrument).
    record instrument { samples = changed_at k (sample_changed e) instrument.samples } in
    let place : i - 1 ≡ at = omega (arith, i_is) in
    let now = sym (ap (λ (n : Module). slice_get n.instruments at) made
    ∙ ap (λ (j : ℕ). slice_get (changed_at j change m.instruments) at) place ∙ at_changed at change m.instruments before there) ∙ y_is in
    let same = same_Some (change before) y now in
    let put_there = sym (ap (λ (j : ℕ). slice_get (changed_at j (sample_changed e) before.samples) s) k_is
    ∙ at_changed s (sample_changed e) before.samples x in_it)
    ∙ ap (λ (z : Instrument). slice_get z.samples s) same ∙ x2_is in
    same_Some (sample_changed e x) x2 put_there

abbrev sample_of_indexes : List ℕ → ℕ → ℕ → ℕ → List IndexIds → SampleIds
sample_of_indexes fresh first last gone indexes =
    record { root = slice_index fresh 2; indexes = indexes_after first last gone fresh indexes }

new_segments : (p : Placed) (at s first last gone : ℕ) (fresh : List ℕ) (yi : InstrumentIds) (old : SampleIds)
    → slice_get (ids_of p).instruments at ≡ Some yi → slice_get yi.samples s ≡ Some old
    → (q : InstrumentIds) (ids : SampleIds)
    → slice_get (ids_after (reaches.Frames at s first last gone) fresh (ids_of p)).instruments at ≡ Some q
    → slice_get q.samples s ≡ Some ids
    → sample_of_indexes fresh first last gone old.indexes ≡ ids
new_segments p at s first last gone fresh yi old there in_it q ids q_is ids_is =
    let all = ids_of p in
    let sample : SampleIds = record { root = slice_index fresh 2; indexes = indexes_after first last gone fresh (indexes_at all at s) } in
    let instrument : InstrumentIds = record { root = slice_index fresh 1; samples = put s sample (samples_of all at) } in
    let in_song = slice_get_within all.instruments at yi there in
    let same = same_Some instrument q (sym (at_put at instrument all.instruments (omega (arith, in_song))) ∙ q_is) in
    let samples = ap (λ (o : Option InstrumentIds). samples_if o) there in
    let in_instrument = slice_get_within yi.samples s old in_it in
    let count = ap (λ (xs : List SampleIds). length xs) samples in
    let one = same_Some sample ids (sym (at_put s sample (samples_of all at) (omega (arith, in_instrument, count)))
    ∙ ap (λ (z : InstrumentIds). slice_get z.samples s) same ∙ ids_is) in
    let was = ap (λ (xs : List SampleIds). indexes_if (slice_get xs s)) samples ∙ ap (λ (o : Option SampleIds). indexes_if o) in_it in
    sym (ap (sample_of_indexes fresh first last gone) was) ∙ one

pub touched : (p : Placed) (m : Module) (e : Edit) (at s root first last gone : ℕ) (fresh : List ℕ)
    → Shows p m → IsValid (edited m e) → Allows m e → IsGivable e
    → reach_of m e ≡ reaches.Frames at s first last gone
    → IsReached (reaches.Frames at s first last gone) m (edited m e)
    → TakesFresh (reaches.Frames at s first last gone) fresh (ids_of p)
    → (group_of e ≡ groups.Frames → edited m e ≡ with_sample (instrument_number e) (sample_number e) (sample_changed e) m)
    → FreshFrames → sample_root_in (ids_of p) at s ≡ Some root
    → Touched p m e at s root first last gone fresh
touched p m e at s root first last gone fresh shows valid allows givable is reached takes made law root_is =
    let name = names m e at s first last gone allows is in
    let before = reached.before in
    let have = reached.made in
    let x = have.before in
    let yi = takes.there.instrument in
    let old = takes.there.holds.sample in
    let in_ids = takes.there.there in
    let in_it = takes.there.holds.there in
    let named = old_root p at s root yi old in_ids in_it root_is in
    let at_x : sample_in (instrument_at m (suc at)) s ≡ Some x
    = ap (λ (o : Option Instrument). sample_in o s) reached.there ∙ have.there in
    let at_e : sample_in (instrument_at m (instrument_number e)) (sample_number e) ≡ Some x
    = ap (λ (i : ℕ). sample_in (instrument_at m i) (sample_number e)) name.number
    ∙ ap (λ (k : ℕ). sample_in (instrument_at m (suc at)) k) name.sample ∙ at_x in
    let in_song = slice_get_within m.instruments at before reached.there in
    let now_there = ap (λ (ys : List Instrument). slice_get ys at) reached.all.instruments
    ∙ at_put at reached.after m.instruments (omega (arith, in_song)) in
    let in_before = slice_get_within before.samples s x have.there in
    let now_in = ap (λ (xs : List Sample). slice_get xs s) have.all ∙ at_put s have.after before.samples (omega (arith, in_before)) in
    let low = few_bodies (edited m e) at s reached.after have.after valid now_there now_in in
    record {
      sample = x;
      old = old;
      new = record { root = slice_index fresh 2; indexes = indexes_after first last gone fresh old.indexes };
      of = record {
        instrument = suc at;
        number = s;
        at = ap (λ (o : Option InstrumentIds). root_or_none (sample_ids_in o s)) in_ids
            ∙ ap (λ (o : Option SampleIds). root_or_none o) in_it ∙ ap (λ (r : ℕ). Some r) named;
        is = at_x;
      };
      ids = record {
        at = at;
        number = s;
        there = ap (λ (o : Option InstrumentIds). slice_get (samples_if o) s) in_ids ∙ in_it;
      };
      named = named;
      frames = has_named m e x at_e allows givable;
      stretch = takes.there.holds.stretch;
      refilled = law first last gone fresh old (slice_index fresh 2) takes.there.holds.stretch takes.count;
      few = omega (arith, have.change.count, have.change.within, low);
      samples = new_sample m e at s (instrument_number e) (sample_number e) before x name.number name.sample (made name.group)
          reached.there have.there;
      segments = new_segments p at s first last gone fresh yi old in_ids in_it;
    }
