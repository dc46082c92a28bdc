-- The arguments of the four commands, and what a parse gives for each.
use Rattle.std.proofs.Common.{ap, ◌≤◌, ◌<◌, ◌^◌, subst, Result, Ok, ◌∙◌, ◌≡◌, ℕ, true, true≢false, List, [], ◌∷◌, map, is_some, Option, Some, None, refl, sym, codes, string_bytes, String, Global}
use Rattle.std.specs.Prelude.{option_map, slice_get, unwrap_or}
use Rattle.std.specs.Str.Parse.{ParsesUnsigned}
use Rattle.std.specs.Borrow.{Bor}
use Rattle.clap.specs.Matches.{ReadsOne, first_value, found_of, one_text}
use Rattle.clap.specs.Lexer.{without_minus}
use Rattle.clap.proofs.CallerReads.{signed_reads}
use Rattle.clap.specs.Values.{Accepts}
use Rattle.clap.specs.Walk.{Rule, Text, first_of, one_of}
use Rattle.clap.specs.Simple.{App}
use Rattle.clap.proofs.WalkLemmas.{first_value-rows, one_text-rows}
use Rattle.clap.specs.declared.builder.action.ArgAction.TheVariants.{Set}
use Rattle.clap.specs.declared.parser.matches.ArgMatches.{ArgMatches}
use Rattle.ft_words.specs.Commands.{copy_app, file_rule, gen_app, import_app, number_rule, option_rule, step_app, numbers_within}
use Rattle.ft_words.specs.Answer.{IsNumberOf}
use Rattle.ft_words.specs.Files.{IsNamed}
use Rattle.ft_words.specs.Refused.{AreMatches, IsParseOf}
use Rattle.ft_words.proofs.Given.{always_comes, is_own, is_sound, only_at, value_given, value_passes}

-- r is the argument at k of a command of which each parse gives it a value
pub record IsArgument (a : App) (k : ℕ) (r : Rule) : Type 0 where
  pub sound : is_sound a ≡ true
  pub there : slice_get a.top.rules k ≡ Some r
  pub alone : only_at k r.id a.top.rules ≡ true
  pub set : r.action ≡ Some Set
  pub one : r.range ≡ None
  pub comes : always_comes r ≡ true
  pub own : is_own r.id ≡ true

pub step_song : IsArgument step_app 0 (file_rule (codes "song"))
unfolding step_app
step_song = record { sound = refl; there = refl; alone = refl; set = refl; one = refl; comes = refl; own = refl }

pub step_wav : IsArgument step_app 1 (file_rule (codes "wav"))
unfolding step_app
step_wav = record { sound = refl; there = refl; alone = refl; set = refl; one = refl; comes = refl; own = refl }

pub step_ledger : IsArgument step_app 2 (file_rule (codes "ledger"))
unfolding step_app
step_ledger = record { sound = refl; there = refl; alone = refl; set = refl; one = refl; comes = refl; own = refl }

pub step_rate : IsArgument step_app 3 (option_rule (codes "rate") (codes "44100") (numbers_within 8000 48000))
unfolding step_app
step_rate = record { sound = refl; there = refl; alone = refl; set = refl; one = refl; comes = refl; own = refl }

pub step_seconds : IsArgument step_app 4 (option_rule (codes "seconds") (codes "60") (numbers_within 1 1200))
unfolding step_app
step_seconds = record { sound = refl; there = refl; alone = refl; set = refl; one = refl; comes = refl; own = refl }

pub step_segments : IsArgument step_app 5 (option_rule (codes "segments") (codes "16384") (numbers_within 64 65535))
unfolding step_app
step_segments = record { sound = refl; there = refl; alone = refl; set = refl; one = refl; comes = refl; own = refl }

pub copy_song : IsArgument copy_app 0 (file_rule (codes "song"))
unfolding copy_app
copy_song = record { sound = refl; there = refl; alone = refl; set = refl; one = refl; comes = refl; own = refl }

pub copy_out : IsArgument copy_app 1 (file_rule (codes "out"))
unfolding copy_app
copy_out = record { sound = refl; there = refl; alone = refl; set = refl; one = refl; comes = refl; own = refl }

pub gen_number : IsArgument gen_app 0 (number_rule (codes "number") (numbers_within 0 4294967295))
unfolding gen_app
gen_number = record { sound = refl; there = refl; alone = refl; set = refl; one = refl; comes = refl; own = refl }

pub gen_out : IsArgument gen_app 1 (file_rule (codes "out"))
unfolding gen_app
gen_out = record { sound = refl; there = refl; alone = refl; set = refl; one = refl; comes = refl; own = refl }

pub import_mod : IsArgument import_app 0 (file_rule (codes "mod"))
unfolding import_app
import_mod = record { sound = refl; there = refl; alone = refl; set = refl; one = refl; comes = refl; own = refl }

pub import_out : IsArgument import_app 1 (file_rule (codes "out"))
unfolding import_app
import_out = record { sound = refl; there = refl; alone = refl; set = refl; one = refl; comes = refl; own = refl }

-- a parse has a text for the argument
pub text_given : (a : App) (k : ℕ) (r : Rule) (m : ArgMatches) → IsArgument a k r → IsParseOf a m
    → (t : Text) × (first_value (found_of m) r.id ≡ Some t)
text_given a k r m g h = value_given h.0 m h.2 a h.1 g.sound k r g.there g.alone g.set g.one g.comes g.own

-- so the getter of its text has an answer
pub text_never_none : (a : App) (k : ℕ) (r : Rule) (m : ArgMatches) (o : Option (Bor Text)) → IsArgument a k r
    → IsParseOf a m
    → option_map (λ s. s.now) o ≡ first_value (found_of m) r.id → o ≡ None → ⊥
text_never_none a k r m o g h read none =
    let t = text_given a k r m g h in
    true≢false
    (sym (ap is_some t.1) ∙ ap is_some (sym read)
    ∙ ap (λ (x : Option (Bor Text)). is_some (option_map (λ s. s.now) x)) none)

-- and its answer is the text in the exact matches
pub named_is : (a : App) (ws : List Text) (m : ArgMatches) (id : Text) (texts : List (String Global)) (s : Bor Text)
    → AreMatches a ws m
    → Some s.now ≡ first_value (found_of m) id → map string_bytes texts ≡ s.now ∷ [] → IsNamed a ws id texts
named_is a ws m id texts s exact read is =
    (s.now, ap (first_of id) (sym exact.1) ∙ sym (first_value-rows (found_of m) id) ∙ sym read, is)

-- ---- numbers

-- n is the number of the argument, and within the bounds of its parser
abbrev pub IsNumberIn : App → List Text → Text → ℕ → ℕ → ℕ → Type 0
IsNumberIn a ws id low high n = IsNumberOf a ws id n × (low ≤ n) × (n ≤ high)

-- where numbers have that many bits
module _ (E : Type 0) (ReadsNumber : Text → Result ℕ E → Type 0) (bits : ℕ)
    (only : (u : Text) (x : Result ℕ E) → ReadsNumber u x → ParsesUnsigned bits 10 u x)
    (a : App) (k : ℕ) (r : Rule) (ws : List Text) (m : ArgMatches) (low high : ℕ) (g : IsArgument a k r)
    (h : IsParseOf a m)
    (parser : r.parser ≡ Some (numbers_within low high)) (fits : high < 2 ^ bits)
    (o : Option ℕ) (reads : (t : Text) → one_text (found_of m) r.id ≡ Some t → ReadsOne ReadsNumber t o) where
  passed :
      (t : Text) × (one_text (found_of m) r.id ≡ Some (without_minus t))
      × Accepts r.ignore_case (numbers_within low high) t
  passed = value_passes h.0 m h.2 a h.1 g.sound k r g.there g.alone g.set g.one g.comes g.own (numbers_within low high)
      parser

  some_number : (n : ℕ) × (o ≡ Some n) × (low ≤ n) × (n ≤ high)
  some_number = signed_reads E ReadsNumber bits low high passed.0 o (reads (without_minus passed.0) passed.1) only fits
      passed.2

  -- the getter of the number has an answer
  pub number_never_none : o ≡ None → ⊥
  number_never_none none = true≢false (sym (ap is_some some_number.1) ∙ ap is_some none)

  -- and its answer is the number in the exact matches
  pub number_is : (n : ℕ) → AreMatches a ws m → o ≡ Some n → IsNumberIn a ws r.id low high n
  number_is n exact is =
      let same : some_number.0 ≡ n = ap (λ x. unwrap_or x n) (sym some_number.1 ∙ is) in
      let spelled : ReadsNumber (without_minus passed.0) (Ok n) =
      subst (λ x. ReadsOne ReadsNumber (without_minus passed.0) x) is (reads (without_minus passed.0) passed.1) in (
        (without_minus passed.0, ap (one_of r.id) (sym exact.1) ∙ sym (one_text-rows (found_of m) r.id) ∙ passed.1, ((only _ _ spelled).0.0, (only _ _ spelled).1)),
        subst (λ x. low ≤ x) same some_number.2,
        subst (λ x. x ≤ high) same some_number.3,
      )
