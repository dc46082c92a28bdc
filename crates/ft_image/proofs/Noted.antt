-- What views over passes may show after a read, and what they answer then.
use Rattle.std.proofs.Common.{◌≡◌, ℕ, List, [], ◌∷◌, ◌++◌, Some, sym, ap, subst, ◌∙◌}
use Rattle.ft_segments.specs.Packing.{word_at}
use Rattle.ft_segments.specs.Pins.{PinHolds}
use Rattle.ft_segments.specs.Walk.{Placed, IsOf}
use Rattle.ft_shared.specs.declared.law.Notes.{Notes}
use Rattle.ft_shared.specs.declared.law.Pin.{Pin}
use Rattle.ft_shared.specs.declared.law.PlacedVersion.{PlacedVersion}
use Rattle.ft_shared.specs.declared.law.TakenVersion.{TakenVersion}
use Rattle.ft_shared.specs.declared.law.WordRead.{WordRead}
use Rattle.ft_shared.specs.declared.law.WordStep.{WordStep}
use Rattle.ft_shared.specs.declared.law.WordStep.TheVariants.{Load}
use Rattle.ft_shared.specs.Layout.{segment_at}
use Rattle.ft_shared.specs.Counts.{pin_of}
use Rattle.ft_shared.specs.History.{placed_at, root_and_pool, Agrees}
use Rattle.ft_shared.specs.Pass.{ReaderState, held_read, pin_read, note_word, note_pinned_word}
use Rattle.ft_image.specs.Passes.{IsAgreed, MayShowHeld, MayShowPinned, after_reads, HasReadOn}

-- ---- the register's laws

abbrev pub AgreesWithFewer : Type 0
AgreesWithFewer = (history : List PlacedVersion) (notes : Notes) (more : List WordRead) (steps : List WordStep)
    → Agrees history (record notes { reads = notes.reads ++ more; steps = steps }) → Agrees history notes

abbrev pub HeldWord : Type 0
HeldWord = (history : List PlacedVersion) (notes : Notes) (segment at word : ℕ) (taken : TakenVersion) (placed : PlacedVersion)
    → Agrees history (note_word notes segment at word) → notes.held ≡ Some taken
    → placed_at history taken.version ≡ Some placed → IsOf (root_and_pool placed) segment
    → word ≡ word_at placed.pool segment at

abbrev pub PinnedWord : Type 0
PinnedWord = (history : List PlacedVersion) (notes : Notes) (channel segment at word : ℕ) (pin : Pin) (placed : PlacedVersion)
    → Agrees history (note_pinned_word notes channel segment at word) → pin_of notes channel ≡ Some pin
    → placed_at history pin.version ≡ Some placed → PinHolds (root_and_pool placed) pin.root segment
    → word ≡ word_at placed.pool segment at

-- ---- what was shown before a read

agreed_before : AgreesWithFewer → (notes : Notes) (reads : List WordRead) (steps : List WordStep) (number : ℕ) (placed : Placed)
    → IsAgreed (after_reads notes reads steps) number placed → IsAgreed notes number placed
agreed_before fewer notes reads steps number placed a = record {
  history = a.history;
  agrees = fewer a.history notes reads (notes.steps ++ steps) a.agrees;
  version = a.version;
  found = a.found;
  is = a.is;
}

pub held_before : AgreesWithFewer → (old new : ReaderState) → HasReadOn old new → (p : Placed) (s : ℕ) → MayShowHeld new p s
    → MayShowHeld old p s
held_before fewer old new on p s may =
    let now = subst (λ (x : ReaderState). MayShowHeld x p s) on.is may in (
      now.0,
      record {
        taken = now.1.taken;
        held = now.1.held;
        agreed = agreed_before fewer old.notes on.reads on.steps now.1.taken.version p now.1.agreed;
      },
      now.2,
    )

pub pinned_before : AgreesWithFewer → (old new : ReaderState) (channel : ℕ) → HasReadOn old new → (p : Placed) (s : ℕ)
    → MayShowPinned new channel p s → MayShowPinned old channel p s
pinned_before fewer old new channel on p s may =
    let now = subst (λ (x : ReaderState). MayShowPinned x channel p s) on.is may in (
      now.0,
      record {
        pin = now.1.pin;
        stands = now.1.stands;
        agreed = agreed_before fewer old.notes on.reads on.steps now.1.pin.version p now.1.agreed;
        holds = now.1.holds;
      },
    )

-- ---- a read

pub word_noted : (old new : ReaderState) (seg at word : ℕ) → new ≡ record old { notes = note_word old.notes seg at word }
    → HasReadOn old new
word_noted old new seg at word e = record {
  reads = held_read old.notes.held seg at word;
  steps = Load (segment_at old.notes.sizes seg at) ∷ [];
  is = e;
}

pub pinned_noted : (old new : ReaderState) (channel seg at word : ℕ)
    → new ≡ record old { notes = note_pinned_word old.notes channel seg at word } → HasReadOn old new
pinned_noted old new channel seg at word e = record {
  reads = pin_read (pin_of old.notes channel) seg at word;
  steps = Load (segment_at old.notes.sizes seg at) ∷ [];
  is = e;
}

pub held_answer : HeldWord → (old new : ReaderState) (seg at word : ℕ)
    → new ≡ record old { notes = note_word old.notes seg at word } → (p : Placed) → MayShowHeld new p seg
    → word ≡ word_at p.pool seg at
held_answer law old new seg at word e p may =
    let now = subst (λ (x : ReaderState). MayShowHeld x p seg) e may in
    let a = now.1.agreed in
    law a.history old.notes seg at word now.1.taken a.version a.agrees now.1.held a.found
    (subst (λ (q : Placed). IsOf q seg) (sym a.is) now.2)
    ∙ ap (λ (q : Placed). word_at q.pool seg at) a.is

pub pinned_answer : PinnedWord → (old new : ReaderState) (channel seg at word : ℕ)
    → new ≡ record old { notes = note_pinned_word old.notes channel seg at word } → (p : Placed) → MayShowPinned new channel p seg
    → word ≡ word_at p.pool seg at
pinned_answer law old new channel seg at word e p may =
    let now = subst (λ (x : ReaderState). MayShowPinned x channel p seg) e may in
    let a = now.1.agreed in
    law a.history old.notes channel seg at word now.1.pin a.version a.agrees now.1.stands a.found
    (subst (λ (q : Placed). PinHolds q now.1.pin.root seg) (sym a.is) now.1.holds)
    ∙ ap (λ (q : Placed). word_at q.pool seg at) a.is
