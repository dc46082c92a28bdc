-- The WAV file of a song: its head, and then its sound.
use Rattle.std.proofs.Common.{ℕ, ◌++◌, List, [], Option, sym, subst, Result, Ok, Err, OnOk, OnErr}
use Rattle.std.proofs.lemmas.List.{append-nil}
use Rattle.std.specs.Prelude.{IfOk}
use Rattle.std.specs.Io.KnownBytes.{Appends}
use Rattle.ft_outer.specs.Laws.{TakesNothingFirst, TakesPieceNext, TakesFrontLast}
use Rattle.ft_outer.specs.Pieces.{TakesUpTo, TakesFront}

-- a front of the first piece is a front of all
pub front_of_first : TakesNothingFirst → TakesFrontLast → (a b : Option (List ℕ)) (first second : List ℕ)
    → TakesFront a b first → TakesFront a b (first ++ second)
front_of_first nothing front a b first second part =
    front a a b (first ++ second) first second (nothing a (first ++ second)) part

-- the first piece, and a front of the second
pub front_of_second : TakesNothingFirst → TakesPieceNext → TakesFrontLast
    → (a b c : Option (List ℕ)) (first second : List ℕ) → Appends a b first → TakesFront b c second
    → TakesFront a c (first ++ second)
front_of_second nothing next front a b c first second took part =
    let so_far = next a a b (first ++ second) first second (nothing a (first ++ second)) took in
    front a b c (first ++ second) second []
    (subst (λ (rest : List ℕ). TakesUpTo a b (first ++ second) rest) (sym (append-nil second)) so_far) part

-- what is known of one answer, of another that follows from it
pub on_ok : {T E P Q : Type 0} (result : Result T E) → (P → Q) → OnOk result P → OnOk result Q
on_ok (Ok value) follows known = follows known
on_ok (Err fault) follows known = tt

pub on_err : {T E P Q : Type 0} (result : Result T E) → (P → Q) → OnErr result P → OnErr result Q
on_err (Ok value) follows known = tt
on_err (Err fault) follows known = follows known

pub if_ok : {T E : Type 0} {P Q : T → Type 0} (result : Result T E) → ((value : T) → P value → Q value) → IfOk result P
    → IfOk result Q
if_ok (Ok value) follows known = follows value known
if_ok (Err fault) follows known = tt
