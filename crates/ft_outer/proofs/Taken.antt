-- What a sink took, call after call: the lemmas of every loop over a sink.
use Rattle.std.proofs.Common.{◌≡◌, ℕ, List, [], ◌++◌, take, drop, Option, Some, None, refl, sym, ap, ◌∙◌, append_assoc}
use Rattle.std.proofs.lemmas.List.{append-nil, take-append-drop}
use Rattle.std.specs.Io.KnownBytes.{Appends, Keeps}
use Rattle.ft_outer.specs.Pieces.{TakesUpTo, TakesFront}

-- a sink that was not called took nothing
pub Appends-nil : (old : Option (List ℕ)) → Appends old old []
Appends-nil None = tt
Appends-nil (Some held) = sym (append-nil held)

-- some bytes, and then others
pub Appends-then : (a b c : Option (List ℕ)) (first second : List ℕ) → Appends a b first → Appends b c second
    → Appends a c (first ++ second)
Appends-then None b c first second p q = tt
Appends-then (Some a) None c first second p q = absurd p
Appends-then (Some a) (Some b) None first second p q = absurd q
Appends-then (Some a) (Some b) (Some c) first second p q =
    q ∙ ap (λ (held : List ℕ). held ++ second) p ∙ append_assoc a first second

-- some bytes, and then none
pub Keeps-then : (a b c : Option (List ℕ)) (bytes : List ℕ) → Appends a b bytes → Keeps b c → Appends a c bytes
Keeps-then None b c bytes p q = tt
Keeps-then (Some a) None c bytes p q = absurd p
Keeps-then (Some a) (Some b) None bytes p q = absurd q
Keeps-then (Some a) (Some b) (Some c) bytes p q = q ∙ p

-- before the first call all is left
pub nothing_yet : (old : Option (List ℕ)) (bytes : List ℕ) → TakesUpTo old old bytes bytes
nothing_yet old bytes = record { front = []; whole = refl; taken = Appends-nil old }

-- the sink takes n bytes more
pub goes_on : (a b c : Option (List ℕ)) (bytes rest : List ℕ) (n : ℕ) → TakesUpTo a b bytes rest
    → Appends b c (take n rest) → TakesUpTo a c bytes (drop n rest)
goes_on a b c bytes rest n so_far more = record {
  front = so_far.front ++ take n rest;
  whole =
      so_far.whole ∙ ap (λ (left : List ℕ). so_far.front ++ left) (sym (take-append-drop n rest))
      ∙ sym (append_assoc so_far.front (take n rest) (drop n rest));
  taken = Appends-then a b c so_far.front (take n rest) so_far.taken more;
}

-- the sink takes a whole piece more
pub goes_on_whole : (a b c : Option (List ℕ)) (bytes piece rest : List ℕ) → TakesUpTo a b bytes (piece ++ rest)
    → Appends b c piece → TakesUpTo a c bytes rest
goes_on_whole a b c bytes piece rest so_far more = record {
  front = so_far.front ++ piece;
  whole = so_far.whole ∙ sym (append_assoc so_far.front piece rest);
  taken = Appends-then a b c so_far.front piece so_far.taken more;
}

-- the sink takes a front of a piece more, and that is the end
pub ends_within : (a b c : Option (List ℕ)) (bytes piece rest : List ℕ) → TakesUpTo a b bytes (piece ++ rest)
    → TakesFront b c piece → TakesFront a c bytes
ends_within a b c bytes piece rest so_far (left, part) = (
  left ++ rest,
  record {
    front = so_far.front ++ part.front;
    whole =
        so_far.whole ∙ ap (λ (start : List ℕ). so_far.front ++ (start ++ rest)) part.whole
        ∙ ap (λ (tail : List ℕ). so_far.front ++ tail) (append_assoc part.front left rest)
        ∙ sym (append_assoc so_far.front part.front (left ++ rest));
    taken = Appends-then a b c so_far.front part.front so_far.taken part.taken;
  },
)

-- a call that fails takes nothing
pub stays : (a b c : Option (List ℕ)) (bytes rest : List ℕ) → TakesUpTo a b bytes rest → Keeps b c
    → TakesUpTo a c bytes rest
stays a b c bytes rest so_far kept = record {
  front = so_far.front;
  whole = so_far.whole;
  taken = Keeps-then a b c so_far.front so_far.taken kept;
}

-- once nothing is left the sink has taken all
pub all_taken : (a b : Option (List ℕ)) (bytes rest : List ℕ) → TakesUpTo a b bytes rest → rest ≡ [] → Appends a b bytes
all_taken a b bytes rest so_far none =
    rw (so_far.whole ∙ ap (λ (left : List ℕ). so_far.front ++ left) none ∙ append-nil so_far.front) so_far.taken
