-- The words of a fresh segment by its place among the fresh.
use Rattle.std.proofs.Common.{◌≡◌, ◌∙◌, ℕ, ◌+◌, ◌-◌, ◌*◌, ◌/◌, ◌<◌, ◌≤◌, List, ℤ, ap}
use Rattle.std.proofs.lemmas.Bool.{cond_below, cond_above}
use Rattle.ft_image.specs.Values.{frames_word}
use Rattle.ft_smpedit.specs.declared.slots.BodyRange.{BodyRange}
use Rattle.ft_smpedit.specs.Filled.{indexes_filled, index_word, slot_word}

pub slot_of_index : (range : BodyRange) (frames : List ℤ) (bodies : List ℕ) (slot k place : ℕ)
    → slot - 3 < indexes_filled range → k ≡ range.first / 1024 + (slot - 3)
    → index_word bodies k place ≡ slot_word range frames bodies slot place
slot_of_index range frames bodies slot k place lt is =
    ap (λ (k : ℕ). index_word bodies k place) is
    ∙ cond_below (slot - 3) (indexes_filled range) (index_word bodies (range.first / 1024 + (slot - 3)) place)
    (frames_word frames ((range.first + (slot - 3 - indexes_filled range)) * 256 + place)) lt

pub slot_of_body : (range : BodyRange) (frames : List ℤ) (bodies : List ℕ) (slot n place : ℕ)
    → indexes_filled range ≤ slot - 3 → n ≡ range.first + (slot - 3 - indexes_filled range)
    → frames_word frames (n * 256 + place) ≡ slot_word range frames bodies slot place
slot_of_body range frames bodies slot n place le is =
    cond_above (slot - 3) (indexes_filled range) (index_word bodies (range.first / 1024 + (slot - 3)) place)
    (frames_word frames ((range.first + (slot - 3 - indexes_filled range)) * 256 + place))
    (frames_word frames (n * 256 + place)) le (ap (λ (n : ℕ). frames_word frames (n * 256 + place)) is)
