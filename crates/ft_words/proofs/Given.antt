-- What a parse gives for an argument that is required or has a default, by the shape of the command.
use Rattle.std.proofs.Common.{arith, ap, ◌∙◌, ◌≡◌, ◌<◌, ◌≤◌, ◌&&◌, ◌||◌, ℕ, zero, suc, Bool, true, false, true≢false, eqb-true, not, List, [], ◌∷◌, map, length, is_some, Option, Some, None, refl, sym, subst, inl, inr, codes}
use Rattle.std.specs.List.{All, list_all, slice_index_or}
use Rattle.std.specs.Prelude.{find, option_map, slice_get, bytes_eq, unwrap_or}
use Rattle.std.specs.Borrow.{Bor}
use Rattle.std.proofs.lemmas.Slice.Eq.{bytes_eq-Decides}
use Rattle.clap.specs.Facts.{Entry, EntryPasses, HasIn, HasReading, PassesArg, WantsDefault, args_of, groups_of, least_values, parser_of, parser_of_value, unwrap_or_range}
use Rattle.clap.specs.Built.{IsAuto, IsParsedFrom, IsPlain, IsPlainArg, SameRules}
use Rattle.clap.specs.Matches.{first_value, found_of, matched_of, one_text}
use Rattle.clap.specs.Values.{Accepts, read_as, reading_of}
use Rattle.clap.specs.Walk.{Rule, Text, is_empty, rule_of, texts}
use Rattle.clap.specs.Simple.{App, app_of}
use Rattle.clap.specs.Texts.{items_of}
use Rattle.clap.proofs.CallerLemmas.{default_present, entry_by_id, present_has_entry, required_present, same_rules_by_id}
use Rattle.clap.proofs.WalkLemmas.{both}
use Rattle.clap.specs.declared.builder.action.ArgAction.TheVariants.{Count, Set}
use Rattle.clap.specs.declared.builder.arg.Arg.{Arg}
use Rattle.clap.specs.declared.builder.command.Command.{Command}
use Rattle.clap.specs.declared.builder.command.Command.TheViews.{out-Command}
use Rattle.clap.specs.declared.builder.value_parser.ValueParser.{ValueParser}
use Rattle.clap.specs.declared.parser.matches.ArgMatches.{ArgMatches}
use Rattle.clap.specs.declared.parser.matches.MatchedArg.{MatchedArg}

-- ---- tests of a shape

abbrev pub is_sound : App → Bool
is_sound a = a.top.is_plain && (not a.top.subcommand_negates_reqs
    && (list_all (λ r. r.is_simple) a.top.rules && list_all (λ r. r.is_free) a.top.rules))

-- no rule but that at k has this id
abbrev pub only_at : ℕ → Text → List Rule → Bool
only_at k id [] = true
only_at zero id (r ∷ rs) = list_all (λ s. not (bytes_eq s.id id)) rs
only_at (suc k) id (r ∷ rs) = not (bytes_eq r.id id) && only_at k id rs

-- the id is no flag of clap's own
abbrev pub is_own : Text → Bool
is_own id = not (bytes_eq id []) && (not (bytes_eq id (codes "help")) && not (bytes_eq id (codes "version")))

-- the argument gets a value in each parse
abbrev pub always_comes : Rule → Bool
always_comes r = r.required || not (is_empty r.defaults)

-- ---- from a shape to the command

not_true : (b : Bool) → not b ≡ true → b ≡ false
not_true true e = sym e
not_true false e = refl

empty_is : {X : Type 0} (xs : List X) → is_empty xs ≡ true → xs ≡ []
empty_is [] e = refl
empty_is (x ∷ xs) e =
    let bad : suc (length xs) ≡ 0 = eqb-true _ _ e in
    absurd (omega arith)

none_is : {X : Type 0} (o : Option X) → not (is_some o) ≡ true → o ≡ None
none_is None e = refl
none_is (Some x) e = absurd (true≢false (sym e))

all_at : (t : Rule → Bool) (xs : List Arg) → list_all t (map rule_of xs) ≡ true → (k : ℕ) (d : Arg) → k < length xs
    → t (rule_of (slice_index_or xs k d)) ≡ true
all_at t [] e k d lt = absurd (omega arith)
all_at t (x ∷ xs) e zero d lt = (both _ _ e).0
all_at t (x ∷ xs) e (suc k) d lt = all_at t xs (both _ _ e).1 k d (omega arith)

plain_arg : (x : Arg) → (rule_of x).is_simple ≡ true → (rule_of x).is_free ≡ true → IsPlainArg x
plain_arg x simple free =
    let s1 = both _ _ simple in
    let s2 = both _ _ s1.1 in
    let s3 = both _ _ s2.1 in
    let f1 = both _ _ free in
    let f2 = both _ _ f1.1 in
    (not_true _ f1.0, empty_is _ f2.0, empty_is _ s1.0, empty_is _ s3.0)

delimits_nothing : (x : Arg) → (rule_of x).is_simple ≡ true → x.val_delim ≡ None
delimits_nothing x simple =
    let s1 = both (is_empty x.overrides.items) _ simple in
    let s2 = both (is_empty x.default_vals_ifs.items) _ s1.1 in
    let s3 = both (is_empty x.groups.items) _ s2.1 in
    let s4 = both (not (is_some x.val_delim)) _ s3.1 in
    none_is _ s4.0

some_defaults : (xs : List (Bor Text)) → not (is_empty (texts xs)) ≡ true → 0 < length xs
some_defaults [] e = absurd (true≢false (sym e))
some_defaults (x ∷ xs) e = omega arith

plain_of : (c : Command) → is_sound (app_of c) ≡ true → IsPlain c
plain_of c e =
    let e1 = both _ _ e in
    let e2 = both _ _ e1.1 in
    let e3 = both _ _ e2.1 in (
      λ k d lt.
          plain_arg (slice_index_or (args_of c) k d) (all_at (λ r. r.is_simple) (args_of c) e3.0 k d lt)
          (all_at (λ r. r.is_free) (args_of c) e3.1 k d lt),
      empty_is _ (both _ _ e1.0).0,
    )

no_globals : (c : Command) → is_sound (app_of c) ≡ true → (out-Command c).has_globals ≡ false
no_globals c e =
    let e1 = both _ _ (both _ _ e).0 in
    let e2 = both _ _ e1.1 in
    not_true _ (both _ _ e2.1).0

negates_nothing : (c : Command) → is_sound (app_of c) ≡ true → (out-Command c).subcommand_negates_reqs ≡ false
negates_nothing c e = not_true _ (both _ _ (both _ _ e).1).0

none_there : (k : ℕ) (r : Rule) → slice_get {X = Rule} [] k ≡ Some r → ⊥
none_there zero r e = true≢false (sym (ap is_some e))
none_there (suc k) r e = true≢false (sym (ap is_some e))

arg_at : (xs : List Arg) (k : ℕ) (r : Rule) → slice_get (map rule_of xs) k ≡ Some r
    → (x : Arg) × (k < length xs) × (rule_of (slice_index_or xs k x) ≡ r)
arg_at [] k r e = absurd (none_there k r e)
arg_at (x ∷ xs) zero r e = (x, omega arith, ap (λ o. unwrap_or o r) e)
arg_at (x ∷ xs) (suc k) r e =
    let rest : (y : Arg) × (k < length xs) × (rule_of (slice_index_or xs k y) ≡ r) = arg_at xs k r e in
    (rest.0, omega arith, rest.2)

none_of : (id : Text) (xs : List Arg) → list_all (λ s. not (bytes_eq s.id id)) (map rule_of xs) ≡ true
    → (j : ℕ) (d : Arg) → j < length xs → bytes_eq (slice_index_or xs j d).id.now id ≡ true → ⊥
none_of id xs e j d lt hit =
    true≢false (sym hit ∙ not_true _ (all_at (λ s. not (bytes_eq s.id id)) xs e j d lt))

alone_at : (xs : List Arg) (k : ℕ) (id : Text) → only_at k id (map rule_of xs) ≡ true
    → (j : ℕ) (d : Arg) → j < length xs → bytes_eq (slice_index_or xs j d).id.now id ≡ true → j ≡ k
alone_at [] k id e j d lt hit = absurd (omega arith)
alone_at (x ∷ xs) zero id e zero d lt hit = refl
alone_at (x ∷ xs) zero id e (suc j) d lt hit = absurd (none_of id xs e j d (omega arith) hit)
alone_at (x ∷ xs) (suc k) id e zero d lt hit = absurd (true≢false (sym hit ∙ not_true _ (both _ _ e).0))
alone_at (x ∷ xs) (suc k) id e (suc j) d lt hit = ap suc (alone_at xs k id (both _ _ e).1 j d (omega arith) hit)

-- ---- entries

has_in : (xs : List Entry) (id : Text) → HasIn xs id
    → is_some (option_map (λ e. e.1) (find (λ e. bytes_eq e.0.now id) xs)) ≡ true
has_in [] id h = absurd (omega (arith, h.1))
has_in (x ∷ xs) id h = go (bytes_eq x.0.now id) refl h (λ rest. has_in xs id rest)
  where
    go : (b : Bool) → bytes_eq x.0.now id ≡ b → HasIn (x ∷ xs) id
        → (HasIn xs id → is_some (option_map (λ e. e.1) (find (λ e. bytes_eq e.0.now id) xs)) ≡ true)
        → is_some (option_map (λ e. e.1) (find (λ e. bytes_eq e.0.now id) (x ∷ xs))) ≡ true
    go true e h rec = rw e refl
    go false e (zero, lt, at) rec = absurd (true≢false (sym (at x) ∙ e))
    go false e (suc i, lt, at) rec = rw e (rec (i, omega arith, at))

head_of : (P : Bor Text → Type 0) (vs : List (Bor Text)) → 0 < length vs → All P vs
    → (v : Bor Text) × (slice_get vs 0 ≡ Some v) × P v
head_of P [] lt h = absurd (omega arith)
head_of P (v ∷ vs) lt h = (v, refl, h 0 v (omega arith))

module _ (c : Command) (m : ArgMatches) (p : IsParsedFrom c m) (a : App) (is : app_of c ≡ a) (sound : is_sound a ≡ true)
    (k : ℕ) (r : Rule) (there : slice_get a.top.rules k ≡ Some r) (alone : only_at k r.id a.top.rules ≡ true)
    (set : r.action ≡ Some Set) (one : r.range ≡ None) (comes : always_comes r ≡ true) (own : is_own r.id ≡ true) where
  sound_c : is_sound (app_of c) ≡ true
  sound_c = ap is_sound is ∙ sound

  here : (x : Arg) × (k < length (args_of c)) × (rule_of (slice_index_or (args_of c) k x) ≡ r)
  here = arg_at (args_of c) k r (ap (λ (b : App). slice_get b.top.rules k) is ∙ there)

  abbrev mine : Arg
  mine = slice_index_or (args_of c) k here.0

  id_is : mine.id.now ≡ r.id
  id_is = ap (λ (s : Rule). s.id) here.2

  named : mine.id.now ≡ [] → ⊥
  named e = true≢false (sym (subst (λ t. is_own t ≡ true) (sym id_is ∙ e) own))

  not_auto : IsAuto mine → ⊥
  not_auto (inl e) = true≢false (sym (subst (λ t. is_own t ≡ true) (sym id_is ∙ e) own))
  not_auto (inr e) = true≢false (sym (subst (λ t. is_own t ≡ true) (sym id_is ∙ e) own))

  single : (j : ℕ) (e : Arg) → j < length (args_of c)
      → bytes_eq (slice_index_or (args_of c) j e).id.now mine.id.now ≡ true → j ≡ k
  single j e lt hit = alone_at (args_of c) k r.id (ap (λ (b : App). only_at k r.id b.top.rules) is ∙ alone) j e lt
      (subst (λ t. bytes_eq (slice_index_or (args_of c) j e).id.now t ≡ true) id_is hit)

  same_rules : (j : ℕ) (y : Arg) → j < length (args_of p.built) → slice_index_or (args_of p.built) j y ≡ y
      → bytes_eq y.id.now mine.id.now ≡ true → SameRules mine y
  same_rules = same_rules_by_id c m p k here.0 here.1 single not_auto

  is_set : mine.action ≡ Some Set
  is_set = ap (λ (s : Rule). s.action) here.2 ∙ set

  simple_here : (rule_of mine).is_simple ≡ true
  simple_here = all_at (λ s. s.is_simple) (args_of c) (both _ _ (both _ _ (both _ _ sound_c).1).1).0 k here.0 here.1

  no_ifs : mine.default_vals_ifs.items ≡ []
  no_ifs = empty_is _ (both _ _ (both _ _ simple_here).1).0

  no_delimiter : mine.val_delim ≡ None
  no_delimiter = delimits_nothing mine simple_here

  one_or_more : 1 ≤ least_values mine
  one_or_more =
      let e : least_values mine ≡ 1 =
      ap (λ o. (unwrap_or_range o).start_inclusive) (ap (λ (s : Rule). s.range) here.2 ∙ one) in
      omega arith

  wants : r.required ≡ false → WantsDefault mine
  wants optional =
      let many : not (is_empty r.defaults) ≡ true = rw optional at comes in
      (no_ifs, some_defaults (items_of mine.default_vals) (ap (λ (s : Rule). not (is_empty s.defaults)) here.2 ∙ many))

  present : is_some (matched_of (found_of m) mine.id.now) ≡ true
  present = go r.required refl
    where
      go : (b : Bool) → r.required ≡ b → is_some (matched_of (found_of m) mine.id.now) ≡ true
      go true e = present_has_entry (found_of m) mine.id.now
          (required_present c m p (plain_of c sound_c) (no_globals c sound_c) (negates_nothing c sound_c) k here.0
          here.1 (ap (λ (s : Rule). s.required) here.2 ∙ e))
      go false e = has_in (found_of m).entries.items mine.id.now
          (default_present c m p (no_globals c sound_c) k here.0 here.1 (wants e))

  abbrev Given : MatchedArg → Type 0
  Given x = (0 < length x.vals.items) × All (λ v. PassesArg p.built mine.id.now v.now) x.vals.items
      × HasReading p.built mine.id.now x.reading

  no_groups : groups_of p.built ≡ []
  no_groups = (p.from.plain (plain_of c sound_c)).1

  given_by : (e : Entry) → e.0.now ≡ mine.id.now → EntryPasses p.built e → Given e.1
  given_by e key pass =
      let no_group : e.1.is_group ≡ true → ⊥ = λ g. elim (pass.3 g) [
        | inl empty ↦ named (sym key ∙ empty)
        | inr lots ↦
            let bad : 0 < 0 = rw no_groups at lots in
            absurd (omega arith)
      ] in (
        elim pass.1 [
          | inl h ↦ absurd (no_group h.0)
          | inr (inl v) ↦ v
          | inr (inr (inl h)) ↦
              let s = same_rules h.1.0 h.1.1 h.1.2 h.1.3 (subst (λ t. bytes_eq h.1.1.id.now t ≡ true) key h.1.4.0) in
              let bad : Set ≡ Count = rw (s.action Set is_set) at h.1.4.1 in
              cc
          | inr (inr (inr h)) ↦
              let s = same_rules h.0 h.1 h.2 h.3 (subst (λ t. bytes_eq h.1.id.now t ≡ true) key h.4.0) in
              elim h.4.1 [
                | inl none ↦
                    let least = s.least is_set one_or_more in
                    absurd (omega arith)
                | inr has ↦
                    let bad : false ≡ true = rw (s.val_delim, no_delimiter) at has in
                    cc
              ]
        ],
        elim pass.0 [
          | inl g ↦ absurd (no_group g)
          | inr vals ↦ subst (λ t. All (λ v. PassesArg p.built t v.now) e.1.vals.items) key vals
        ],
        elim pass.4 [
          | inl g ↦ absurd (no_group g)
          | inr h ↦ subst (λ t. HasReading p.built t e.1.reading) key h
        ],
      )

  entry : (x : MatchedArg) × (matched_of (found_of m) mine.id.now ≡ Some x) × Given x
  entry = go (matched_of (found_of m) mine.id.now) refl present
    where
      go : (o : Option MatchedArg) → matched_of (found_of m) mine.id.now ≡ o
          → is_some (matched_of (found_of m) mine.id.now) ≡ true
          → (x : MatchedArg) × (matched_of (found_of m) mine.id.now ≡ Some x) × Given x
      go None e some = absurd (true≢false (sym some ∙ ap is_some e))
      go (Some x) e some =
          let got =
          entry_by_id (EntryPasses p.built) (found_of m).entries.items mine.id.now x
          (p.parsed (p.from.globals ∙ no_globals c sound_c)).values e in
          (x, e, subst Given got.1 (given_by got.0 ((bytes_eq-Decides got.0.0.now mine.id.now).0 got.2) got.3))

  -- the argument has a first value
  pub value_given : (t : Text) × (first_value (found_of m) r.id ≡ Some t)
  value_given =
      let first = head_of (λ v. PassesArg p.built mine.id.now v.now) entry.0.vals.items entry.2.0 entry.2.1 in
      (first.0.now, subst (λ t. first_value (found_of m) t ≡ Some first.0.now) id_is (rw (entry.1, first.1) refl))

  -- and its parser took that value
  pub value_passes : (q : ValueParser) → r.parser ≡ Some q
      → (t : Text) × (one_text (found_of m) r.id ≡ Some (read_as (reading_of q) t)) × Accepts r.ignore_case q t
  value_passes q parser =
      let first = head_of (λ v. PassesArg p.built mine.id.now v.now) entry.0.vals.items entry.2.0 entry.2.1 in
      let has : mine.value_parser ≡ Some q = ap (λ (s : Rule). s.parser) here.2 ∙ parser in
      let taken = first.2 in
      let s = same_rules taken.0 taken.1 taken.2 taken.3 taken.4.0 in
      let is_q : parser_of taken.1 ≡ q = ap parser_of_value (s.parser q has) in
      let case_is : taken.1.ignore_case ≡ r.ignore_case = s.ignore_case ∙ ap (λ (z : Rule). z.ignore_case) here.2 in
      let read = entry.2.2 in
      let z = same_rules read.0 read.1 read.2 read.3 read.4.0 in
      let how : entry.0.reading ≡ reading_of q = sym read.4.1 ∙ ap reading_of (ap parser_of_value (z.parser q has)) in (
        first.0.now,
        subst (λ t. one_text (found_of m) t ≡ Some (read_as (reading_of q) first.0.now)) id_is
            (rw (entry.1, first.1, how) refl),
        subst (λ (b : Bool). Accepts b q first.0.now) case_is
            (subst (λ (w : ValueParser). Accepts taken.1.ignore_case w first.0.now) is_q taken.4.1),
      )
