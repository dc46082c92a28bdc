-- What holds of each, with one more.
use Rattle.std.proofs.Common.{◌≡◌, ℕ, ◌+◌, ◌≤◌, List, [], ◌∷◌, ◌++◌, All, refl}
use Rattle.std.proofs.lemmas.List.Elements.{All-nil, All-cons, All-push, All-same}
use Rattle.ft_text.specs.declared.record.HandEnd.{HandEnd}
use Rattle.ft_text.specs.Record.{Ascend}

pub all_alone : {X : Type 0} (P : X → Type 0) (x : X) → P x → All P (x ∷ [])
all_alone P x holds = All-cons P x [] holds (All-nil P)

pub all_pushed : {X : Type 0} (P : X → Type 0) (xs : List X) (x : X) (ys : List X) → ys ≡ xs ++ x ∷ [] → All P xs → P x → All P ys
all_pushed P xs x ys longer all holds = All-same P ys (xs ++ x ∷ []) longer (All-push P xs x all holds)

-- the least number of the next hand
abbrev pub next_hand : ℕ → List HandEnd → ℕ
next_hand least [] = least
next_hand least (end ∷ ends) = next_hand (end.hand + 1) ends

pub next_pushed : (least : ℕ) (ends : List HandEnd) (end : HandEnd) → next_hand least (ends ++ end ∷ []) ≡ end.hand + 1
next_pushed least [] end = refl
next_pushed least (first ∷ ends) end = next_pushed (first.hand + 1) ends end

pub ascend_pushed : (least : ℕ) (ends : List HandEnd) (end : HandEnd) → Ascend least ends → next_hand least ends ≤ end.hand
    → Ascend least (ends ++ end ∷ [])
ascend_pushed least [] end all above = (above, tt)
ascend_pushed least (first ∷ ends) end all above = (all.0, ascend_pushed (first.hand + 1) ends end all.1 above)
