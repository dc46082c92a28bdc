-- What a history that agrees with notes says of the reads.
use Rattle.std.proofs.Common.{◌≡◌, ℕ, List, [], ◌∷◌, ◌++◌, length, sym, refl, subst, Option, Some, None, All, IsSomeAnd}
use Rattle.std.proofs.Math.Seq.{take-append_seam}
use Rattle.std.proofs.lemmas.List.Elements.{All-take, All-pop}
use Rattle.ft_segments.specs.Packing.{word_at}
use Rattle.ft_segments.specs.Pins.{PinHolds}
use Rattle.ft_segments.specs.Walk.{IsOf}
use Rattle.ft_shared.specs.declared.law.Notes.{Notes}
use Rattle.ft_shared.specs.declared.law.Pin.{Pin}
use Rattle.ft_shared.specs.declared.law.PlacedVersion.{PlacedVersion}
use Rattle.ft_shared.specs.declared.law.TakenVersion.{TakenVersion}
use Rattle.ft_shared.specs.declared.law.WordRead.{WordRead}
use Rattle.ft_shared.specs.declared.law.WordStep.{WordStep}
use Rattle.ft_shared.specs.Counts.{pin_of}
use Rattle.ft_shared.specs.History.{placed_at, root_and_pool, IsReadable, HasRead, Agrees}
use Rattle.ft_shared.specs.Pass.{held_read, pin_read, note_word, note_pinned_word}

pub fewer_reads : (h : List PlacedVersion) (n : Notes) (more : List WordRead) (steps : List WordStep)
    → Agrees h (record n { reads = n.reads ++ more; steps = steps }) → Agrees h n
fewer_reads h n more steps a = record {
  looks = a.looks;
  takes = a.takes;
  held = a.held;
  reads = rw take-append_seam at (All-take (HasRead h) (length n.reads) (n.reads ++ more) a.reads);
}

-- the read at the end of a list
last-read : (h : List PlacedVersion) (reads : List WordRead) (r : WordRead) → All (HasRead h) (reads ++ r ∷ []) → HasRead h r
last-read h reads r a = (All-pop (HasRead h) (reads ++ r ∷ []) reads (Some r) refl a).1

-- what was read of a version that the history has
word-of : (h : List PlacedVersion) (r : WordRead) (placed : PlacedVersion) → HasRead h r → placed_at h r.version ≡ Some placed
    → IsReadable placed r.pin r.segment → r.word ≡ word_at placed.pool r.segment r.at
word-of h r placed has found readable =
    sym (subst (λ (o : Option PlacedVersion). IsSomeAnd o (λ q. IsReadable q r.pin r.segment → word_at q.pool r.segment r.at ≡ r.word))
    found has readable)

pub held_word : (h : List PlacedVersion) (n : Notes) (segment at word : ℕ) (taken : TakenVersion) (placed : PlacedVersion)
    → Agrees h (note_word n segment at word) → n.held ≡ Some taken → placed_at h taken.version ≡ Some placed
    → IsOf (root_and_pool placed) segment → word ≡ word_at placed.pool segment at
held_word h n segment at word taken placed a held found of =
    let r : WordRead = record { version = taken.version; pin = None; segment = segment; at = at; word = word } in
    word-of h r placed
    (last-read h n.reads r (subst (λ (o : Option TakenVersion). All (HasRead h) (n.reads ++ held_read o segment at word)) held a.reads))
    found of

pub pinned_word : (h : List PlacedVersion) (n : Notes) (channel segment at word : ℕ) (pin : Pin) (placed : PlacedVersion)
    → Agrees h (note_pinned_word n channel segment at word) → pin_of n channel ≡ Some pin
    → placed_at h pin.version ≡ Some placed → PinHolds (root_and_pool placed) pin.root segment → word ≡ word_at placed.pool segment at
pinned_word h n channel segment at word pin placed a stands found holds =
    let r : WordRead = record { version = pin.version; pin = Some pin.root; segment = segment; at = at; word = word } in
    word-of h r placed
    (last-read h n.reads r (subst (λ (o : Option Pin). All (HasRead h) (n.reads ++ pin_read o segment at word)) stands a.reads))
    found holds
