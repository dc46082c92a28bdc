-- Words ask for one thing.
use Rattle.std.proofs.Common.{ap, sym, ◌∙◌, ◌≡◌, ℕ, List, [], ◌∷◌, Option, Some, None, refl}
use Rattle.std.specs.Prelude.{unwrap_or}
use Rattle.std.specs.Str.Parse.{digits_value, without_leading_plus}
use Rattle.clap.specs.Words.{App, Text}
use Rattle.ft_words.specs.Answer.{AsksOf, AsksStep, IsAskedBy, IsNumberOf}
use Rattle.ft_words.specs.Commands.{gen_app, step_app}
use Rattle.ft_words.specs.Refused.{verb_named}
use Rattle.ft_words.specs.declared.answer.Asked.{Asked}
use Rattle.ft_words.specs.declared.answer.Asked.TheVariants as ask
use Rattle.ft_words.specs.declared.answer.Step.{Step}
use Rattle.ft_words.specs.declared.verb.Verb.{Verb}
use Rattle.ft_words.specs.declared.verb.Verb.TheVariants as verb

-- an argument has one number
one_number : (app : App) (others : List Text) (id : Text) (m n : ℕ) → IsNumberOf app others id m → IsNumberOf app others id n
    → m ≡ n
one_number app others id m n a b =
    let same : a.0 ≡ b.0 = ap (λ o. unwrap_or o a.0) (sym a.1 ∙ b.1) in
    a.2.1 ∙ ap (λ (t : Text). digits_value 10 (without_leading_plus t)) same ∙ sym b.2.1

same_step : (a b : Step) → a.rate ≡ b.rate → a.seconds ≡ b.seconds → a.segments ≡ b.segments → a ≡ b
same_step a b rate seconds segments =
    ap (λ (n : ℕ). record a { rate = n }) rate ∙ ap (λ (n : ℕ). record a { rate = b.rate; seconds = n }) seconds
    ∙ ap (λ (n : ℕ). record b { segments = n }) segments

one_step : (others : List Text) (a b : Step) → AsksStep others a → AsksStep others b → a ≡ b
one_step others a b h k = same_step a b (one_number step_app others _ _ _ h.rate k.rate)
    (one_number step_app others _ _ _ h.seconds k.seconds) (one_number step_app others _ _ _ h.segments k.segments)

one_of_verb : (v : Verb) (others : List Text) (a b : Asked) → AsksOf (Some v) others a → AsksOf (Some v) others b → a ≡ b
one_of_verb verb.Step others (ask.Step a) (ask.Step b) h k = ap ask.Step (one_step others a b h k)
one_of_verb verb.Step others (ask.Step a) b h k = absurd k
one_of_verb verb.Copy others ask.Copy ask.Copy h k = refl
one_of_verb verb.Copy others ask.Copy b h k = absurd k
one_of_verb verb.Gen others (ask.Gen m) (ask.Gen n) h k = ap ask.Gen (one_number gen_app others _ _ _ h.number k.number)
one_of_verb verb.Gen others (ask.Gen m) b h k = absurd k
one_of_verb verb.Import others ask.Import ask.Import h k = refl
one_of_verb verb.Import others ask.Import b h k = absurd k
one_of_verb v others a b h k = absurd h

one_of_some : (v : Option Verb) (others : List Text) (a b : Asked) → AsksOf v others a → AsksOf v others b → a ≡ b
one_of_some None others a b h k = absurd h
one_of_some (Some v) others a b h k = one_of_verb v others a b h k

pub asks_one : (words : List Text) (a b : Asked) → IsAskedBy words a → IsAskedBy words b → a ≡ b
asks_one [] a b h k = absurd h
asks_one (word ∷ others) a b h k = one_of_some (verb_named word) others a b h k
