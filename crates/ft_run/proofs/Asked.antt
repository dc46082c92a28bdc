-- Words that are refused ask for nothing.
use Rattle.std.proofs.Common.{◌≡◌, ap, Result, Err, ℕ, List, [], ◌∷◌, Option, Some}
use Rattle.ft_words.specs.Answer.{AsksOf, IsAskedBy}
use Rattle.ft_words.specs.Refused.{FindsFault, IsRefused, verb_named}
use Rattle.ft_words.specs.declared.answer.Asked.{Asked}
use Rattle.ft_words.specs.declared.answer.Asked.TheVariants as ask
use Rattle.ft_words.specs.declared.fault.NamesFault.{NamesFault}
use Rattle.ft_words.specs.declared.fault.NamesFault.TheVariants as fault
use Rattle.ft_words.specs.declared.verb.Verb.{Verb}
use Rattle.ft_words.specs.declared.verb.Verb.TheVariants as verb

never_of : (v : Option Verb) (others : List (List ℕ)) (a : Asked) → FindsFault v others → AsksOf v others a → ⊥
never_of (Some verb.Step) others (ask.Step step) finds asked = finds asked.taken
never_of (Some verb.Copy) others ask.Copy finds asked = finds asked
never_of (Some verb.Gen) others (ask.Gen number) finds asked = finds asked.taken
never_of (Some verb.Import) others ask.Import finds asked = finds asked
never_of v others a finds asked = absurd asked

pub never_asked : (words : List (List ℕ)) (a : Asked) → IsRefused words → IsAskedBy words a → ⊥
never_asked [] a refused asked = asked
never_asked (word ∷ others) a refused asked = never_of (verb_named word) others a refused asked

abbrev pub as_answer : NamesFault → Result Asked NamesFault
as_answer f = Err f

pub usage_is : (f : NamesFault) → f ≡ fault.Usage → as_answer f ≡ as_answer fault.Usage
usage_is f e = ap as_answer e
