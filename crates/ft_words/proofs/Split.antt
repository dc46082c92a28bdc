-- The first word and the others.
use Rattle.std.proofs.Common.{ap, ◌∙◌, ◌≡◌, ◌≢◌, List, [], Some, None, Result, IfOk, map, String, string_bytes, Global, sym, subst}
use Rattle.std.specs.List.{IsFirstAndRest}
use Rattle.std.proofs.lemmas.Result.{IfOk-weaker}
use Rattle.clap.specs.Words.{Text, fault_of}
use Rattle.ft_words.specs.Answer.{AsksOf, IsAskedBy}
use Rattle.ft_words.specs.Commands.{app_of_verb}
use Rattle.ft_words.specs.Files.{AreNamedBy, NamesOf}
use Rattle.ft_words.specs.Refused.{FindsFault, IsNoCommand, IsRefused, verb_named}
use Rattle.ft_words.specs.declared.answer.Asked.{Asked}
use Rattle.ft_words.specs.declared.answer.Asked.TheVariants as ask
use Rattle.ft_words.specs.declared.fault.NamesFault.{NamesFault}
use Rattle.ft_words.specs.declared.files.FileNames.{FileNames}
use Rattle.ft_words.specs.declared.verb.Verb.{Verb}
use Rattle.ft_words.specs.declared.verb.Verb.TheVariants as verb

named_taken : (v : Verb) (others : List Text) (files : FileNames) → NamesOf (Some v) others files
    → fault_of (app_of_verb v) others ≡ []
named_taken verb.Step others files h = h.taken
named_taken verb.Copy others files h = h.taken
named_taken verb.Gen others files h = h.taken
named_taken verb.Import others files h = h.taken

asked_taken : (v : Verb) (others : List Text) (a : Asked) → AsksOf (Some v) others a
    → fault_of (app_of_verb v) others ≡ []
asked_taken verb.Step others (ask.Step s) h = h.taken
asked_taken verb.Copy others ask.Copy h = h
asked_taken verb.Gen others (ask.Gen n) h = h.taken
asked_taken verb.Import others ask.Import h = h
asked_taken v others a h = absurd h

module _ (words others : List (String Global)) (first : String Global) (shown : Text) (v : Verb)
    (split : IsFirstAndRest words first others) (same : shown ≡ string_bytes first) (named : verb_named shown ≡ Some v)
  where
    pub refused_by : fault_of (app_of_verb v) (map string_bytes others) ≢ [] → IsRefused (map string_bytes words)
    refused_by fault = subst IsRefused (sym (ap (map string_bytes) split.0))
        (subst (λ o. FindsFault o (map string_bytes others)) (sym named ∙ ap verb_named same) fault)

    fault_by : IsRefused (map string_bytes words) → fault_of (app_of_verb v) (map string_bytes others) ≢ []
    fault_by h = subst (λ o. FindsFault o (map string_bytes others)) (ap verb_named (sym same) ∙ named)
        (subst IsRefused (ap (map string_bytes) split.0) h)

    pub some_command : IsNoCommand (map string_bytes words) → ⊥
    some_command none =
        let at : verb_named (string_bytes first) ≡ None = subst IsNoCommand (ap (map string_bytes) split.0) none in
        let both : Some v ≡ None = sym named ∙ ap verb_named same ∙ at in absurd cc

    pub named_by : (r : Result FileNames NamesFault) → IfOk r (NamesOf (Some v) (map string_bytes others))
        → IfOk r (AreNamedBy (map string_bytes words))
    named_by r h = IfOk-weaker r _ _ (λ files x. subst (λ ws. AreNamedBy ws files) (sym (ap (map string_bytes) split.0))
        (subst (λ o. NamesOf o (map string_bytes others) files) (sym named ∙ ap verb_named same) x)) h

    pub asked_by : (r : Result Asked NamesFault) → IfOk r (AsksOf (Some v) (map string_bytes others))
        → IfOk r (IsAskedBy (map string_bytes words))
    asked_by r h = IfOk-weaker r _ _ (λ a x. subst (λ ws. IsAskedBy ws a) (sym (ap (map string_bytes) split.0))
        (subst (λ o. AsksOf o (map string_bytes others) a) (sym named ∙ ap verb_named same) x)) h

    pub never_named : (r : Result FileNames NamesFault) → IfOk r (NamesOf (Some v) (map string_bytes others))
        → IsRefused (map string_bytes words) → IfOk r (λ _. ⊥)
    never_named r h refused = IfOk-weaker r _ _
        (λ files x. fault_by refused (named_taken v (map string_bytes others) files x)) h

    pub never_asked : (r : Result Asked NamesFault) → IfOk r (AsksOf (Some v) (map string_bytes others))
        → IsRefused (map string_bytes words) → IfOk r (λ _. ⊥)
    never_asked r h refused = IfOk-weaker r _ _ (λ a x. fault_by refused (asked_taken v (map string_bytes others) a x)) h
