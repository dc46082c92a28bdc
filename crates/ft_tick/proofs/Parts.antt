-- A tick between the seating of its voices and their gathering, seen from outside.
use Rattle.std.proofs.Common.{◌≡◌, ℕ, ◌≤◌, ◌<◌, ◌++◌, Bool, Option, None, List, length, map, take, get_or, is_some, ◌||◌, ap, sym, subst, ◌∙◌, arith}
use Rattle.std.proofs.lemmas.List.{length-append, length-map, length-take}
use Rattle.ft_types.specs.declared.voice.SampleHead.{SampleHead}
use Rattle.ft_types.specs.declared.voice.Voice.{Voice}
use Rattle.ft_replay.specs.declared.state.Channel.{Channel}
use Rattle.ft_replay.specs.declared.state.Control.{Control}
use Rattle.ft_replay.specs.State.{blank_channel}
use Rattle.ft_replay.specs.Calls.{KeepsForAll, KeepsVoices, AreVoicesKept, AreKept, IsExact, sounds_on}
use Rattle.ft_replay.specs.Range.{IsBetweenTicks, IsInRange, IsControlInRange, AreInRange}
use Rattle.ft_replay.specs.Standing.{seated, gathered, emptied}
use Rattle.ft_tick.proofs.Seating.{gathered_ascend, gathered_state}
use Rattle.ft_tick.proofs.Sitting.{seated_in_range, empty_in_range, none_taken, none_kept, seated_kept, seated_sounds}
use Rattle.ft_tick.proofs.Gathering.{gathered_in_range, gathered_kept, gathered_sounds, home_of, emptied_memory, emptied_voice}

-- the channels with their voices are in range
pub seats_in_range : (used : ℕ) (time : Control) (channels seats : List Channel) (voices : List Voice)
    → IsBetweenTicks used time channels voices → used ≤ length channels
    → seats ≡ seated (take used channels) voices → length seats ≡ used → IsInRange time seats
seats_in_range used time channels seats voices p le sits many = record {
  control = subst (λ (n : ℕ). IsControlInRange n time) (sym many) p.control;
  channels = subst AreInRange (sym sits) (seated_in_range 0 used (take used channels) voices p.ascend
      (omega (arith, length-take used channels)) p.voices
      (empty_in_range channels used le p.channels p.seats));
}

-- no channel has a voice before they sit down
taken_empty : (used : ℕ) (time : Control) (channels : List Channel) (voices : List Voice)
    → IsBetweenTicks used time channels voices
    → (c : ℕ) → c < length (take used channels) → (get_or (take used channels) c blank_channel).voice ≡ None
taken_empty used time channels voices p c lt =
    none_taken channels used p.seats c (omega (arith, length-take used channels))

-- what the seated channels keep, the voices keep
pub parts_keep :
    (before after : ℕ → SampleHead → Type 0) (held held_after : List Bool) (used : ℕ) (time next : Control)
    (channels seats made : List Channel) (voices out : List Voice)
    → IsBetweenTicks used time channels voices → used ≤ length channels → seats ≡ seated (take used channels) voices
    → length seats ≡ used → used ≡ length held
    → KeepsForAll before after held held_after seats made → IsInRange next made → out ≡ gathered made
    → KeepsVoices before after held held_after voices out
parts_keep before after held held_after used time next channels seats made voices out p le sits many wide k range o =
    let empty = taken_empty used time channels voices p in
    let as_many : length made ≡ used = k.many ∙ many in
    record {
      kept = λ v. subst (AreVoicesKept after) (sym o) (gathered_kept after made range.channels (k.kept
          (subst (AreKept before) (sym sits) (seated_kept before 0 used (take used channels) voices p.ascend (omega (arith, length-take used channels)) v (none_kept before (take used channels) empty)))));
      exact = λ c lt x.
          let inside : c < length made = omega arith in
          let below : c < length (take used channels) = omega (arith, length-take used channels) in
          let sat : IsExact held seats c = x
          ∙ ap (λ (v : Option Voice). is_some v || sounds_on c voices) (sym (empty c below))
          ∙ sym (seated_sounds (take used channels) voices c below)
          ∙ ap (λ (l : List Channel). is_some (get_or l c blank_channel).voice) (sym sits) in
          k.exact c (omega arith) sat ∙ gathered_sounds made c range.channels inside ∙ ap (sounds_on c) (sym o);
      wide = k.wide;
    }

-- the state after the voices are gathered
pub parts_range : (used : ℕ) (time : Control) (made left rest : List Channel) (out : List Voice) → used ≤ 32
    → used ≡ length made → IsInRange time made
    → left ≡ map emptied made → out ≡ gathered made → IsBetweenTicks used time (left ++ rest) out
parts_range used time made left rest out few many range l o = record {
  few = few;
  room = omega (arith, length-append left rest, ap (λ (x : List Channel). length x) l, length-map made emptied);
  control = subst (λ (n : ℕ). IsControlInRange n time) (sym many) range.control;
  channels = λ c lt. rw l (emptied_memory made rest c range.channels (omega arith));
  seats = λ c lt. rw l (emptied_voice made rest c (omega arith));
  ascend = rw (o, many) (gathered_ascend made (home_of made range.channels));
  voices = rw o (gathered_in_range made range.channels);
}

pub parts_back : (used : ℕ) (time : Control) (made left rest : List Channel) (out : List Voice) → used ≡ length made
    → IsInRange time made
    → left ≡ map emptied made → out ≡ gathered made → seated (take used (left ++ rest)) out ≡ made
parts_back used time made left rest out many range l o =
    rw (l, o) (gathered_state made rest used many (home_of made range.channels))
