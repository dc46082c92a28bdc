-- What a source gave, call after call: the lemmas of every loop over a source.
use Rattle.std.proofs.Common.{◌≡◌, ℕ, ◌+◌, List, [], ◌++◌, length, Option, Some, None, refl, sym, ap, ◌∙◌, append_assoc, arith, ◌<◌, ◌≤◌, ◌^◌, take, length-append}
use Rattle.std.proofs.lemmas.List.{append-nil, length-take}
use Rattle.std.specs.Io.KnownBytes.{Consumes, Keeps, IsAtEnd}
use Rattle.ft_outer.specs.Counts.{count_after}
use Rattle.ft_outer.specs.Pieces.{Gives, GivesAll, HasMore}

-- a source that was not called gave nothing
pub Consumes-nil : (old : Option (List ℕ)) → Consumes old old []
Consumes-nil None = tt
Consumes-nil (Some left) = refl

-- some bytes, and then others
pub Consumes-then : (a b c : Option (List ℕ)) (first second : List ℕ) → Consumes a b first → Consumes b c second
    → Consumes a c (first ++ second)
Consumes-then None b c first second p q = tt
Consumes-then (Some a) None c first second p q = absurd p
Consumes-then (Some a) (Some b) None first second p q = absurd q
Consumes-then (Some a) (Some b) (Some c) first second p q =
    p ∙ ap (λ (left : List ℕ). first ++ left) q ∙ sym (append_assoc first second c)

-- some bytes, and then none
pub Consumes-keeps : (a b c : Option (List ℕ)) (bytes : List ℕ) → Consumes a b bytes → Keeps b c → Consumes a c bytes
Consumes-keeps None b c bytes p q = tt
Consumes-keeps (Some a) None c bytes p q = absurd p
Consumes-keeps (Some a) (Some b) None bytes p q = absurd q
Consumes-keeps (Some a) (Some b) (Some c) bytes p q = p ∙ ap (λ (left : List ℕ). bytes ++ left) (sym q)

-- before the first call nothing was given
pub Gives-nil : (old : Option (List ℕ)) (before : ℕ) → Gives old old before before []
Gives-nil old before = record { consumed = Consumes-nil old; counted = omega arith }

-- the source gives some bytes more
pub Gives-then : (a b c : Option (List ℕ)) (before between now : ℕ) (first second : List ℕ)
    → Gives a b before between first → Gives b c between now second → Gives a c before now (first ++ second)
Gives-then a b c before between now first second p q = record {
  consumed = Consumes-then a b c first second p.consumed q.consumed;
  counted = omega (arith, p.counted, q.counted, length-append first second);
}

-- a call that fails gives nothing
pub Gives-keeps : (a b c : Option (List ℕ)) (before between now : ℕ) (bytes : List ℕ) → Gives a b before between bytes
    → Keeps b c → now ≡ between → Gives a c before now bytes
Gives-keeps a b c before between now bytes p kept same = record {
  consumed = Consumes-keeps a b c bytes p.consumed kept;
  counted = same ∙ p.counted;
}

-- a call that gave n bytes, where the count has room for them
pub Gives-read : (a b : Option (List ℕ)) (before now n : ℕ) (buffer : List ℕ) → Consumes a b (take n buffer)
    → now ≡ count_after before n → n ≤ length buffer → before + n < 2 ^ 64 → Gives a b before now (take n buffer)
Gives-read a b before now n buffer consumed counted fits room = record {
  consumed = consumed;
  counted = omega (arith, counted, length-take n buffer);
}

-- what was given up to an answer of 0 is all that was left
pub GivesAll-end : (a b c : Option (List ℕ)) (n : ℕ) (bytes buffer : List ℕ) → Consumes a b bytes
    → Consumes b c (take n buffer) → n ≡ 0 → IsAtEnd c → GivesAll a c bytes
GivesAll-end None b c n bytes buffer p q none end = tt
GivesAll-end (Some a) None c n bytes buffer p q none end = absurd p
GivesAll-end (Some a) (Some b) None n bytes buffer p q none end = absurd q
GivesAll-end (Some a) (Some b) (Some c) n bytes buffer p q none end =
    let nothing : b ≡ [] = q ∙ ap (λ (k : ℕ). take k buffer ++ c) none ∙ end in
    (sym (p ∙ ap (λ (rest : List ℕ). bytes ++ rest) nothing ∙ append-nil bytes), ap Some end)

-- a source that gave more than that many bytes had more
pub HasMore-gave : (old new : Option (List ℕ)) (before now most : ℕ) (bytes : List ℕ) → Gives old new before now bytes
    → before + most < now → HasMore old most
HasMore-gave None new before now most bytes p more = tt
HasMore-gave (Some file) None before now most bytes p more = absurd p.consumed
HasMore-gave (Some file) (Some left) before now most bytes p more =
    omega (arith, p.counted, more, ap length p.consumed, length-append bytes left)

-- so far the source gave these bytes, at most that many, and did not fail; there is a buffer for
-- the next
pub record HasRead (old new : Option (List ℕ)) (before now faults_before faults_now most : ℕ) (bytes buffer : List ℕ) :
    Type 0 where
  pub gave : Gives old new before now bytes
  pub kept : faults_now ≡ faults_before
  pub within : length bytes ≤ most
  pub some : 0 < length buffer
  pub few : length buffer ≤ 65536
