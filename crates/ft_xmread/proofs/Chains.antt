-- Parts in `do` form, one after the other, are the same as pairs of parts that are seen as one value.
use Rattle.std.proofs.Common.{refl}
use Rattle.ft_xmread.specs.Reader.{FileReading, and_then, seen, give}
use Rattle.ft_xmread.proofs.Lawful.{Alike, both, next_alike}

abbrev pub do2 : {A B Z : Type 0} → FileReading A → FileReading B → (A → B → Z) → FileReading Z
do2 one two f = and_then one (λ a. and_then two (λ b. give (f a b)))

abbrev pub do3 : {A B C Z : Type 0} → FileReading A → FileReading B → FileReading C → (A → B → C → Z) → FileReading Z
do3 one two three f = and_then one (λ a. do2 two three (f a))

abbrev pub do4 : {A B C D Z : Type 0} → FileReading A → FileReading B → FileReading C → FileReading D → (A → B → C → D → Z) → FileReading Z
do4 one two three four f = and_then one (λ a. do3 two three four (f a))

abbrev pub do5 : {A B C D E Z : Type 0} → FileReading A → FileReading B → FileReading C → FileReading D → FileReading E
    → (A → B → C → D → E → Z) → FileReading Z
do5 one two three four five f = and_then one (λ a. do4 two three four five (f a))

abbrev pub both2 : {A B : Type 0} → FileReading A → FileReading B → FileReading (A × B)
both2 one two = both one (λ _. two)

abbrev pub both3 : {A B C : Type 0} → FileReading A → FileReading B → FileReading C → FileReading (A × (B × C))
both3 one two three = both one (λ _. both2 two three)

abbrev pub both4 : {A B C D : Type 0} → FileReading A → FileReading B → FileReading C → FileReading D → FileReading (A × (B × (C × D)))
both4 one two three four = both one (λ _. both3 two three four)

abbrev pub both5 : {A B C D E : Type 0} → FileReading A → FileReading B → FileReading C → FileReading D → FileReading E
    → FileReading (A × (B × (C × (D × E))))
both5 one two three four five = both one (λ _. both4 two three four five)

pub alike2 : {A B Z : Type 0} (one : FileReading A) (two : FileReading B) (f : A → B → Z)
    → Alike (do2 one two f) (seen (λ x. f x.0 x.1) (both2 one two))
alike2 one two f = next_alike (λ x. f x.0 x.1) one (λ _. two) (λ a. and_then two (λ b. give (f a b))) (λ a p. refl)

pub alike3 : {A B C Z : Type 0} (one : FileReading A) (two : FileReading B) (three : FileReading C) (f : A → B → C → Z)
    → Alike (do3 one two three f) (seen (λ x. f x.0 x.1.0 x.1.1) (both3 one two three))
alike3 one two three f =
    next_alike (λ x. f x.0 x.1.0 x.1.1) one (λ _. both2 two three) (λ a. do2 two three (f a))
    (λ a. alike2 two three (f a))

pub alike4 :
    {A B C D Z : Type 0} (one : FileReading A) (two : FileReading B) (three : FileReading C) (four : FileReading D)
    (f : A → B → C → D → Z)
    → Alike (do4 one two three four f) (seen (λ x. f x.0 x.1.0 x.1.1.0 x.1.1.1) (both4 one two three four))
alike4 one two three four f =
    next_alike (λ x. f x.0 x.1.0 x.1.1.0 x.1.1.1) one (λ _. both3 two three four) (λ a. do3 two three four (f a))
    (λ a. alike3 two three four (f a))

pub alike5 :
    {A B C D E Z : Type 0} (one : FileReading A) (two : FileReading B) (three : FileReading C) (four : FileReading D) (five : FileReading E)
    (f : A → B → C → D → E → Z)
    → Alike (do5 one two three four five f)
    (seen (λ x. f x.0 x.1.0 x.1.1.0 x.1.1.1.0 x.1.1.1.1) (both5 one two three four five))
alike5 one two three four five f =
    next_alike (λ x. f x.0 x.1.0 x.1.1.0 x.1.1.1.0 x.1.1.1.1) one (λ _. both4 two three four five)
    (λ a. do4 two three four five (f a)) (λ a. alike4 two three four five (f a))
