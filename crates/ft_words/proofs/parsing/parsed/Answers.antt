use Rattle.std.proofs.Common.{refl, sym, ap, map, string_bytes, ◌≡◌, ◌∙◌, true, true≢false, inr}
use Rattle.clap.specs.Words.{App, fault_of, is_simple_and_free, kind_of, matches_of}
use Rattle.clap.specs.declared.error.kind.ErrorKind.TheVariants as kind
use Rattle.clap.proofs.WalkLemmas.{both}
use Rattle.ft_words.proofs.Chain.{all_simple, fault_told}
use Rattle.ft_words.proofs.parsing.parsed.Goals as goal

pub returns-in-Ok-try_get_matches_from-clause-exact : goal.returns-in-Ok-try_get_matches_from-clause-exact
returns-in-Ok-try_get_matches_from-clause-exact c =
    let shape = c.in-Ok.ensures in
    let ws = map string_bytes c.args.words.now in
    let free = ap is_simple_and_free shape ∙ all_simple c.args.verb in (
      ap (λ (a : App). fault_of a ws) (sym shape) ∙ c.in-Ok-try_get_matches_from.ensures.kinds free,
      (c.in-Ok-try_get_matches_from.ensures.matches (both _ _ free).0).0 ∙ ap (λ (a : App). matches_of a ws) shape,
    )

pub returns-clause-exact : goal.returns-clause-exact
returns-clause-exact c =
    let shape = c.in-Ok.ensures in
    let ws = map string_bytes c.args.words.now in
    let free = ap is_simple_and_free shape ∙ all_simple c.args.verb in
    let other : kind_of c.in-Err.error ≡ kind.OutOfMemory → ⊥ = λ memory.
    let same : c.eq.result ≡ true = rw (c.kind.ensures ∙ memory) at c.eq.ensures in
    true≢false (sym same ∙ c.if-eq.false) in
    inr (
      refl,
      λ none. fault_told _ c.in-Err.error (c.in-Err.ensures.kinds free) other
          (ap (λ (a : App). fault_of a ws) shape ∙ none),
    )
