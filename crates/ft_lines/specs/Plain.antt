-- Words that have no space, no LF and no `;`.
use Rattle.std.specs.Prelude.{ℕ, ◌==◌, ◌&&◌, not, Bool, List}
use Rattle.std.specs.List.{list_all}

abbrev pub is_plain : ℕ → Bool
is_plain b = not (b == 32) && not (b == 10) && not (b == 59)

-- bytes that are all plain
abbrev pub plain : List ℕ → Bool
plain w = list_all is_plain w

-- words that are all plain
abbrev pub all_plain : List (List ℕ) → Bool
all_plain words = list_all plain words
