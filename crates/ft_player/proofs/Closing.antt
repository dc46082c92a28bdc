-- Pins that are taken away one after the other.
use Rattle.std.proofs.Common.{◌≡◌, ◌≤◌, ◌<◌, ◌+◌, ℕ, zero, suc, List, [], ◌∷◌, ◌++◌, Option, None, length, drop, replicate, slice_set, refl, sym, ap, subst, ◌∙◌, arith, append-nil, append_assoc}
use Rattle.std.proofs.lemmas.List.{length-append}
use Rattle.ft_shared.specs.declared.law.Pin.{Pin}
use Rattle.ft_shared.specs.declared.law.WordStep.{WordStep}
use Rattle.ft_shared.specs.Pass.{ReaderState}
use Rattle.ft_image.specs.Passes.{AreCounted}
use Rattle.ft_player.specs.Player.{HasClosed}

-- the first n pins are gone
abbrev pub cleared : ℕ → List (Option Pin) → List (Option Pin)
cleared zero pins = pins
cleared (suc n) pins = slice_set (cleared n pins) n None

one_more : (n : ℕ) (pins : List (Option Pin)) → n < length pins
    → slice_set (replicate n None ++ drop n pins) n None ≡ replicate (suc n) None ++ drop (suc n) pins
one_more n [] lt = absurd (omega arith)
one_more zero (pin ∷ pins) lt = refl
one_more (suc n) (pin ∷ pins) lt = ap (λ (l : List (Option Pin)). None ∷ l) (one_more n pins (omega arith))

front_gone : (n : ℕ) (pins : List (Option Pin)) → n ≤ length pins → cleared n pins ≡ replicate n None ++ drop n pins
front_gone zero pins le = refl
front_gone (suc n) pins le =
    ap (λ (l : List (Option Pin)). slice_set l n None) (front_gone n pins (omega arith)) ∙ one_more n pins (omega arith)

none_left : (pins : List (Option Pin)) → drop (length pins) pins ≡ []
none_left [] = refl
none_left (pin ∷ pins) = none_left pins

all_gone : (pins : List (Option Pin)) → cleared (length pins) pins ≡ replicate (length pins) None
all_gone pins =
    front_gone (length pins) pins (omega arith)
    ∙ ap (λ (l : List (Option Pin)). replicate (length pins) None ++ l) (none_left pins)
    ∙ append-nil (replicate (length pins) None)

-- that many pins were taken away, and all else but the steps is as it was
pub record IsCleared (n : ℕ) (old new : ReaderState) : Type 0 where
  pub steps : List WordStep
  pub is : new ≡ record old {
    notes = record old.notes { pins = cleared n old.notes.pins; steps = old.notes.steps ++ steps };
  }

pub clears_none : (pass : ReaderState) → IsCleared 0 pass pass
clears_none pass = record {
  steps = [];
  is = λ i. record pass {
    notes = record pass.notes { steps = sym (append-nil pass.notes.steps) i };
  };
}

clears_more : (n : ℕ) (a b c : ReaderState) (step : WordStep) → IsCleared n a b
    → c ≡ record b {
      notes = record b.notes { pins = slice_set b.notes.pins n None; steps = b.notes.steps ++ step ∷ [] };
    }
    → IsCleared (suc n) a c
clears_more n a b c step e f = record {
  steps = e.steps ++ step ∷ [];
  is = f ∙ (ap (λ (x : ReaderState). record x {
    notes = record x.notes { pins = slice_set x.notes.pins n None; steps = x.notes.steps ++ step ∷ [] };
  }) e.is
      ∙ (λ i. record a {
        notes = record a.notes {
          pins = cleared (suc n) a.notes.pins;
          steps = append_assoc a.notes.steps e.steps (step ∷ []) i;
        };
      }));
}

pub closed : (n : ℕ) (old new : ReaderState) → n ≡ length old.notes.pins → IsCleared n old new → HasClosed old new
closed n old new many e = record {
  steps = e.steps;
  is = e.is ∙ ap
      (λ (l : List (Option Pin)). record old {
        notes = record old.notes { pins = l; steps = old.notes.steps ++ e.steps };
      })
      (ap (λ (k : ℕ). cleared k old.notes.pins) many ∙ all_gone old.notes.pins);
}

suc_is : (n : ℕ) → suc n ≡ n + 1
suc_is n = omega arith

pub clears_next : (n : ℕ) (a b c : ReaderState) (step : WordStep) → IsCleared n a b
    → c ≡ record b {
      notes = record b.notes { pins = slice_set b.notes.pins n None; steps = b.notes.steps ++ step ∷ [] };
    }
    → IsCleared (n + 1) a c
clears_next n a b c step e f = subst (λ (k : ℕ). IsCleared k a c) (suc_is n) (clears_more n a b c step e f)

-- each of them is counted
pub counts_next : (a b c : ReaderState) (step : WordStep) (x y z : ℕ) → AreCounted a b x y
    → c.notes.steps ≡ b.notes.steps ++ step ∷ [] → z ≡ y + 1 → AreCounted a c x z
counts_next a b c step x y z before steps more =
    let long : length c.notes.steps ≡ length b.notes.steps + 1
    = ap (λ (l : List WordStep). length l) steps ∙ length-append b.notes.steps (step ∷ []) in omega (arith, before, long, more)
