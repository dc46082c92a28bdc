-- The four commands, as `clap` reads them.
use Rattle.std.specs.Prelude.{ℕ, [], ◌∷◌, Some, true, codes, pos}
use Rattle.ft_types.specs.Limits.{lowest_rate, highest_rate}
use Rattle.clap.specs.Words.{App, Rule, Text, new_app, new_rule, with_rule}
use Rattle.clap.specs.Simple.{on_top}
use Rattle.clap.specs.declared.builder.action.ArgAction.TheVariants.{Set}
use Rattle.clap.specs.declared.builder.value_parser.ValueParser.{ValueParser}
use Rattle.clap.specs.declared.builder.value_parser.ValueParser.TheVariants as vp
use Rattle.ft_words.specs.declared.verb.Verb.{Verb}
use Rattle.ft_words.specs.declared.verb.Verb.TheVariants as verb

-- a name of a file, which has to be given
abbrev pub file_rule : Text → Rule
file_rule id = record (new_rule id) { action = Some Set; required = true }

-- a number, which has to be given
abbrev pub number_rule : Text → ValueParser → Rule
number_rule id parser =
    record (new_rule id) { action = Some Set; required = true; parser = Some parser }

-- `--id=N`, a number with a default
abbrev pub option_rule : Text → Text → ValueParser → Rule
option_rule id default parser = record (new_rule id) {
  long = Some id;
  action = Some Set;
  defaults = default ∷ [];
  parser = Some parser;
}

-- numbers from `low` to `high`
abbrev pub numbers_within : ℕ → ℕ → ValueParser
numbers_within low high = vp.Signed (pos low) (pos high)

-- a command without arguments, whose words leave out the program's name
abbrev pub bare_app : Text → App
bare_app name = on_top (λ s. record s { no_binary_name = true }) (new_app name)

-- `step SONG WAV LEDGER`, with a rate, a length in seconds, and the segments of the pool
unfoldable pub step_app : App
step_app =
    with_rule (with_rule (with_rule (with_rule (with_rule (with_rule (bare_app (codes "step"))
    (file_rule (codes "song"))) (file_rule (codes "wav"))) (file_rule (codes "ledger")))
    (option_rule (codes "rate") (codes "44100") (numbers_within lowest_rate highest_rate)))
    (option_rule (codes "seconds") (codes "60") (numbers_within 1 1200)))
    (option_rule (codes "segments") (codes "16384") (numbers_within 64 65535))

-- `copy SONG OUT`
unfoldable pub copy_app : App
copy_app = with_rule (with_rule (bare_app (codes "copy"))
    (file_rule (codes "song"))) (file_rule (codes "out"))

-- `gen NUMBER OUT`
unfoldable pub gen_app : App
gen_app = with_rule (with_rule (bare_app (codes "gen"))
    (number_rule (codes "number") (numbers_within 0 4294967295))) (file_rule (codes "out"))

-- `import MOD OUT`
unfoldable pub import_app : App
import_app = with_rule (with_rule (bare_app (codes "import"))
    (file_rule (codes "mod"))) (file_rule (codes "out"))

-- the shape of each command
abbrev pub app_of_verb : Verb → App
app_of_verb verb.Step = step_app
app_of_verb verb.Copy = copy_app
app_of_verb verb.Gen = gen_app
app_of_verb verb.Import = import_app
