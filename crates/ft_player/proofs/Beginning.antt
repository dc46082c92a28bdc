-- The sample that a note begins, by the words of the version.
use Rattle.std.proofs.Common.{◌≡◌, ℕ, zero, suc, ◌≤◌, ◌==◌, if◌then◌else◌, true, false, Option, None, Some, length, is_some, refl, sym, ap, subst, ◌∙◌, arith, inl, inr}
use Rattle.std.proofs.lemmas.Bool.{cond-false, ne_eqb, cases_cond}
use Rattle.std.proofs.lemmas.Option.{none-some, same_Some}
use Rattle.ft_types.specs.declared.module.Module.{Module}
use Rattle.ft_types.specs.declared.sample.Sample.{Sample}
use Rattle.ft_types.specs.declared.voice.SampleHead.{SampleHead}
use Rattle.ft_types.specs.Valid.{IsValidSample, IsValidHead}
use Rattle.ft_types.specs.Views.{Owned, begun, sounding, head_of, head_of_owned}
use Rattle.ft_image.specs.Read.{IsRootOf, mapped_sample, sample_at, sample_root_at}
use Rattle.ft_player.specs.declared.seat.KeptWord.{KeptWord}
use Rattle.ft_player.specs.declared.seat.Seat.{Seat}
use Rattle.ft_player.specs.declared.songs.Songs.{Songs}
use Rattle.ft_player.specs.Songs.{song_at, place_at}
use Rattle.ft_player.specs.Seats.{IsWordKept, IsSeatOf}
use Rattle.ft_player.proofs.Ranged.{sample_ranged}

-- what words say of it: its root and its head
pub record Read (songs : Songs) (version instrument note found : ℕ) (head : SampleHead) : Type 0 where
  pub sample : Sample
  pub is : sample_at (song_at songs version) instrument (mapped_sample (song_at songs version) instrument note) ≡ Some sample
  pub at : sample_root_at (place_at songs version) instrument (mapped_sample (song_at songs version) instrument note) ≡ Some found
  pub of : IsRootOf (place_at songs version) (song_at songs version) found sample
  pub headed : head ≡ head_of sample

some_of : (o : Option Sample) → true ≡ is_some o → (x : Sample) × (o ≡ Some x)
some_of None e = absurd cc
some_of (Some x) e = (x, refl)

none_of : (o : Option Sample) → false ≡ is_some o → o ≡ None
none_of None e = refl
none_of (Some x) e = absurd cc

pub read_of : (songs : Songs) (version instrument note found : ℕ) (head : SampleHead) (answer : Option ℕ)
    → answer ≡ Some found
    → answer ≡ sample_root_at (place_at songs version) instrument (mapped_sample (song_at songs version) instrument note)
    → is_some answer ≡ is_some (sample_at (song_at songs version) instrument (mapped_sample (song_at songs version) instrument note))
    → ((x : Sample) → IsRootOf (place_at songs version) (song_at songs version) found x → head ≡ head_of x)
    → Read songs version instrument note found head
read_of songs version instrument note found head answer is root missing headed =
    let song = song_at songs version in
    let number = mapped_sample song instrument note in
    let x = some_of (sample_at song instrument number) (ap is_some (sym is) ∙ missing) in
    let at = sym root ∙ is in
    let of : IsRootOf (place_at songs version) song found x.0
    = record { instrument = instrument; number = number; at = at; is = x.1 } in record {
      sample = x.0;
      is = x.1;
      at = at;
      of = of;
      headed = headed x.0 of;
    }

begun_by : (version : ℕ) (song : Module) (instrument note : ℕ)
    → begun version song instrument note
    ≡ sounding version instrument (mapped_sample song instrument note) (sample_at song instrument (mapped_sample song instrument note))
unfolding begun
begun_by version song instrument note = refl

-- there is no such sample
pub begins_none : (version : ℕ) (song : Module) (instrument note : ℕ)
    → false ≡ is_some (sample_at song instrument (mapped_sample song instrument note))
    → None ≡ begun version song instrument note
begins_none version song instrument note e =
    sym (begun_by version song instrument note
    ∙ ap (sounding version instrument (mapped_sample song instrument note))
    (none_of (sample_at song instrument (mapped_sample song instrument note)) e))

picked_none : (n : ℕ) (o : Option Owned) → (1 ≤ n → ⊥) → (if n == 0 then None else o) ≡ None
picked_none zero o none = refl
picked_none (suc n) o none = absurd (none (omega arith))

picked_some : (n : ℕ) (o : Option Owned) → 1 ≤ n → (if n == 0 then None else o) ≡ o
picked_some n o some = cond-false (n == 0) None o (ne_eqb n 0 (λ (e : n ≡ 0). omega (arith, e, some)))

-- it has no frames
pub begins_quiet : (songs : Songs) (version instrument note found : ℕ) (head : SampleHead)
    → (r : Read songs version instrument note found head) → (1 ≤ length r.sample.frames → ⊥)
    → None ≡ begun version (song_at songs version) instrument note
begins_quiet songs version instrument note found head r none =
    let song = song_at songs version in
    let number = mapped_sample song instrument note in
    sym (begun_by version song instrument note ∙ ap (sounding version instrument number) r.is
    ∙ picked_none (length r.sample.frames) (Some (record {
      origin = record { version = version; instrument = instrument; sample = number };
      sample = r.sample;
    })) none)

-- it has the head that was read
pub begins_head : (songs : Songs) (version instrument note found : ℕ) (head : SampleHead)
    → (r : Read songs version instrument note found head) → 1 ≤ length r.sample.frames
    → head_of_owned (begun version (song_at songs version) instrument note) ≡ Some head
begins_head songs version instrument note found head r some =
    let song = song_at songs version in
    let number = mapped_sample song instrument note in
    ap head_of_owned (begun_by version song instrument note ∙ ap (sounding version instrument number) r.is
    ∙ picked_some (length r.sample.frames) (Some (record {
      origin = record { version = version; instrument = instrument; sample = number };
      sample = r.sample;
    })) some)
    ∙ ap (λ (h : SampleHead). Some h) (sym r.headed)

-- its head is none that can sound
pub begins_unsound : (songs : Songs) (version instrument note found : ℕ) (head : SampleHead)
    → Read songs version instrument note found head
    → ((x : Sample) → IsRootOf (place_at songs version) (song_at songs version) found x → IsValidSample x)
    → (IsValidHead head → ⊥) → None ≡ begun version (song_at songs version) instrument note
begins_unsound songs version instrument note found head r valid none =
    begins_quiet songs version instrument note found head r
    (λ some. none (subst IsValidHead (sym r.headed) (sample_ranged r.sample (valid r.sample r.of) some)))

-- the seat of a head that can sound
pub new_seat : (songs : Songs) (seat : Seat)
    → Read songs seat.version seat.instrument seat.note seat.root seat.head
    → IsValidHead seat.head → ((word : KeptWord) → IsWordKept seat.words word → ⊥) → IsSeatOf songs seat
new_seat songs seat r valid none = record {
  head = begins_head songs seat.version seat.instrument seat.note seat.root seat.head r
      (subst (λ (x : SampleHead). 1 ≤ x.frames) r.headed valid.some_frames);
  root = r.at;
  kept = λ word k. absurd (none word k);
}

sample_picked : (n : ℕ) (x : Sample) (o owned : Owned) → o.sample ≡ x → (if n == 0 then None else Some o) ≡ Some owned
    → x ≡ owned.sample
sample_picked n x o owned is e =
    elim (cases_cond (n == 0) None (Some o) (Some owned) (sym e)) [
      | inl none ↦ absurd (none-some owned (sym none))
      | inr some ↦ sym is ∙ ap (λ (p : Owned). p.sample) (same_Some o owned (sym some))
    ]

sampled : (version instrument number : ℕ) (o : Option Sample) (owned : Owned)
    → sounding version instrument number o ≡ Some owned → o ≡ Some owned.sample
sampled version instrument number None owned e = absurd (none-some owned e)
sampled version instrument number (Some x) owned e =
    ap (λ (y : Sample). Some y) (sample_picked (length x.frames) x (record {
      origin = record { version = version; instrument = instrument; sample = number };
      sample = x;
    }) owned refl e)

-- a seat's sample is the one of its root
pub begun_sample : (version : ℕ) (song : Module) (instrument note : ℕ) (owned : Owned)
    → begun version song instrument note ≡ Some owned
    → sample_at song instrument (mapped_sample song instrument note) ≡ Some owned.sample
begun_sample version song instrument note owned e =
    sampled version instrument (mapped_sample song instrument note)
    (sample_at song instrument (mapped_sample song instrument note)) owned
    (sym (begun_by version song instrument note) ∙ e)
