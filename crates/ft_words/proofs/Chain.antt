-- A command that is built up argument by argument.
use Rattle.std.proofs.Common.{arith, ap, ap₂, ◌∙◌, ◌≡◌, ◌≢◌, [], ◌∷◌, suc, length, inl, inr, false, true, refl, codes}
use Rattle.clap.specs.Words.{AddsArg, App, Rule, app_of, rule_of, with_rule}
use Rattle.clap.specs.Words.{HasKind, Kinds, is_simple_and_free, kind_of}
use Rattle.clap.specs.declared.error.Error.{Error}
use Rattle.clap.specs.declared.error.kind.ErrorKind.TheVariants as kind
use Rattle.clap.specs.declared.builder.arg.Arg.{Arg}
use Rattle.clap.specs.declared.builder.command.Command.{Command}
use Rattle.ft_words.specs.Commands.{app_of_verb, bare_app, copy_app, file_rule, gen_app, import_app, number_rule, option_rule, step_app, numbers_within}
use Rattle.ft_words.specs.declared.verb.Verb.{Verb}
use Rattle.ft_words.specs.declared.verb.Verb.TheVariants as verb

-- one more argument
pub app_added : (old new : Command) (a : Arg) (p : App) (r : Rule) → AddsArg old a new
    → a.global ≡ false → app_of old ≡ p → rule_of a ≡ r → app_of new ≡ with_rule p r
app_added old new a p r added local was is = added.shape local ∙ ap₂ with_rule was is

pub copy_built : (p : App)
    → p ≡ with_rule (with_rule (bare_app (codes "copy")) (file_rule (codes "song"))) (file_rule (codes "out"))
    → p ≡ copy_app
unfolding copy_app
copy_built p e = e

pub import_built : (p : App)
    → p ≡ with_rule (with_rule (bare_app (codes "import")) (file_rule (codes "mod"))) (file_rule (codes "out"))
    → p ≡ import_app
unfolding import_app
import_built p e = e

pub gen_built : (p : App)
    → p
    ≡ with_rule (with_rule (bare_app (codes "gen")) (number_rule (codes "number") (numbers_within 0 4294967295)))
    (file_rule (codes "out")) → p ≡ gen_app
unfolding gen_app
gen_built p e = e

pub step_built : (p : App)
    → p ≡ with_rule (with_rule (with_rule (with_rule (with_rule (with_rule (bare_app (codes "step"))
    (file_rule (codes "song"))) (file_rule (codes "wav"))) (file_rule (codes "ledger")))
    (option_rule (codes "rate") (codes "44100") (numbers_within 8000 48000)))
    (option_rule (codes "seconds") (codes "60") (numbers_within 1 1200)))
    (option_rule (codes "segments") (codes "16384") (numbers_within 64 65535)) → p ≡ step_app
unfolding step_app
step_built p e = e

-- the four commands are of the kind of which the parser's answer is exact
pub all_simple : (v : Verb) → is_simple_and_free (app_of_verb v) ≡ true
unfolding step_app copy_app gen_app import_app
all_simple verb.Step = refl
all_simple verb.Copy = refl
all_simple verb.Gen = refl
all_simple verb.Import = refl

-- an error of a kind other than running out of memory names a fault
pub fault_told : (kinds : Kinds) (e : Error) → HasKind kinds e → (kind_of e ≡ kind.OutOfMemory → ⊥) → kinds ≢ []
fault_told [] e (inl memory) other = absurd (other memory)
fault_told [] e (inr among) other = absurd among
fault_told (k ∷ ks) e h other = λ same. let bad : suc (length ks) ≡ 0 = ap length same in absurd (omega arith)
