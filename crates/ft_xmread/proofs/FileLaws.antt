-- A whole file: which bytes give a song, and which fault others give.
use Rattle.std.proofs.Common.{◌≡◌, ℕ, ◌+◌, ◌<◌, Bool, true, false, cond, List, ◌++◌, length, get_or, set, take, drop, refl, sym, ap, subst, ◌∙◌, arith, Option, Some, None, Result, Ok, Err, inl, inr, append_assoc, ltb}
use Rattle.std.specs.Prelude.{nat_eq, slice_index, ◌||◌, ◌&&◌, ◌⊎◌}
use Rattle.std.proofs.lemmas.Bool.Decides.{nat_tests}
use Rattle.std.proofs.lemmas.Bool.{ltb-false, le-ltb}
use Rattle.std.proofs.lemmas.List.{get_or-take, ext_get_or, get_or-set_other}
use Rattle.ft_types.specs.declared.module.Module.{Module}
use Rattle.ft_format.specs.declared.layout.TheConstants.{IDENTIFICATION}
use Rattle.ft_format.specs.Fields.{AreBytes}
use Rattle.ft_format.specs.Spelling.{RawSong, identification_with, song_text, SongFits, module_of, Spells}
use Rattle.ft_xmread.specs.declared.fault.XmFault.{XmFault}
use Rattle.ft_xmread.specs.declared.fault.XmFault.TheVariants as faults
use Rattle.ft_xmread.specs.Identification.{stands, wrong_from, unless_wrong, identification_at}
use Rattle.ft_xmread.specs.Reader.{FilePlace, ◌>>=◌, field_at}
use Rattle.ft_xmread.specs.File.{song_spelled_at, value_of, song_in}
use Rattle.ft_xmread.specs.Song.{IsFirstWrong}
use Rattle.ft_xmread.proofs.Lawful.{field_again, bind_ok, field_law}
use Rattle.ft_xmread.proofs.Quiet.{fails, same_fault, value_quiet, song_quiet}
use Rattle.ft_xmread.proofs.Numbers.{eq_is}
use Rattle.ft_xmread.proofs.IdentifiedLaws.{AllFrom, first_is, all_are, is_first}
use Rattle.ft_xmread.proofs.SongLaws.{Parts, parts_text, PartsFit, meaning, song_law}

-- ---- the identification

abbrev pub IsLetter : ℕ → Type 0
IsLetter letter = (letter ≡ 77) ⊎ (letter ≡ 109)

-- the byte of a piece that passes is the identification's, but for the letter
other_place : (i : ℕ) → nat_eq i 9 ≡ false → i ≡ 9 → ⊥
other_place i e same = grind (arith, nat_tests)

same_byte : (x y k : ℕ) → ((nat_eq x y) || ((nat_eq k 9) && (nat_eq x 109))) ≡ true → nat_eq k 9 ≡ false → x ≡ y
same_byte x y k h other = grind (arith, nat_tests)

letter_step : (x : ℕ) (b : Bool) → nat_eq x 77 ≡ b → (b || nat_eq x 109) ≡ true → IsLetter x
letter_step x true e h = inl (eq_is x 77 e)
letter_step x false e h = inr (eq_is x 109 h)

letter_byte : (x : ℕ) → ((nat_eq x 77) || (nat_eq x 109)) ≡ true → IsLetter x
letter_byte x h = letter_step x (nat_eq x 77) refl h

-- the identification with the letter of a piece
abbrev with_letter_of : List ℕ → List ℕ
with_letter_of piece = set IDENTIFICATION 9 (get_or piece 9 0)

byte_step : (piece : List ℕ) (i : ℕ) (b : Bool) → nat_eq i 9 ≡ b → stands piece i ≡ true
    → get_or piece i 0 ≡ get_or (with_letter_of piece) i 0
byte_step piece i true e h =
    subst (λ (k : ℕ). get_or piece k 0 ≡ get_or (with_letter_of piece) k 0) (sym (eq_is i 9 e)) refl
byte_step piece i false e h =
    same_byte (get_or piece i 0) (get_or IDENTIFICATION i 0) i h e
    ∙ sym (get_or-set_other IDENTIFICATION 9 i (get_or piece 9 0) 0 (λ same. absurd (other_place i e same)))

identified : (piece : List ℕ) → length piece ≡ 17 → AllFrom piece 0 17 → piece ≡ identification_with (get_or piece 9 0)
identified piece len all =
    ext_get_or 0 piece (with_letter_of piece) len
    (λ i lt. byte_step piece i (nat_eq i 9) refl (all i (omega arith) (omega arith)))

unless_ok : (at : ℕ) (o : Option ℕ) (x y : ℕ × FilePlace) → unless_wrong at o x ≡ Ok y → (o ≡ None) × (x ≡ y)
unless_ok at None x y e = (refl, cc)
unless_ok at (Some k) x y e = absurd cc

abbrev front_of : List ℕ → FilePlace
front_of file = record { at = 0; left = file }

-- what was at the front of a file that passes
record Passed (file : List ℕ) (letter : ℕ × FilePlace) : Type 0 where
  is : IsLetter letter.0
  parts : file ≡ identification_with letter.0 ++ letter.1.left
  bytes : AreBytes letter.1.left

passed_step : (file piece left : List ℕ) (at : ℕ) → file ≡ piece ++ left → length piece ≡ 17 → AllFrom piece 0 17
    → AreBytes left → Passed file (get_or piece 9 0, record { at = at; left = left })
passed_step file piece left at e len all bytes = record {
  is = letter_byte (get_or piece 9 0) (all 9 (omega arith) (omega arith));
  parts = e ∙ ap (λ (l : List ℕ). l ++ left) (identified piece len all);
  bytes = bytes;
}

id_takes : (file : List ℕ) (letter : ℕ × FilePlace) → AreBytes file → identification_at (front_of file) ≡ Ok letter
    → Passed file letter
unfolding identification_at
id_takes file letter bytes e =
    let p = front_of file in
    let f = bind_ok (field_at 17 p) _ letter e in
    let t = (field_law 17).takes p f.0 bytes f.1 in
    let u = unless_ok 0 (wrong_from 0 17 f.0.0) (slice_index f.0.0 9, f.0.1) letter f.2 in
    subst (Passed file) u.1
    (passed_step file f.0.0 f.0.1.left f.0.1.at t.parts t.fits.0 (all_are f.0.0 0 17 u.0) t.bytes)

none_wrong : (letter : ℕ) → IsLetter letter → wrong_from 0 17 (identification_with letter) ≡ None
unfolding wrong_from
none_wrong letter (inl e) = rw e refl
none_wrong letter (inr e) = rw e refl

id_again : (letter : ℕ) (rest : List ℕ) → IsLetter letter
    → identification_at (front_of (identification_with letter ++ rest)) ≡ Ok (letter, record { at = 17; left = rest })
unfolding identification_at
id_again letter rest is = rw (field_again 0 (identification_with letter) rest 17 refl, none_wrong letter is) refl

-- a piece of the first 17 bytes has the same bytes
stands_in : (file : List ℕ) (k : ℕ) → k < 17 → stands (take 17 file) k ≡ stands file k
stands_in file k lt = rw (get_or-take 17 file k 0 lt) refl

unless_wrong_is : (o : Option ℕ) (x : ℕ × FilePlace) (at : ℕ) → unless_wrong 0 o x ≡ Err (faults.NotXm at) → o ≡ Some at
unless_wrong_is None x at e = absurd cc
unless_wrong_is (Some k) x at e = let same : 0 + k ≡ at = cc in ap (λ (i : ℕ). Some i) (omega (arith, same))

wrong_step : (file : List ℕ) (at : ℕ) (b : Bool) (x : ℕ × FilePlace) → ltb (length file) 17 ≡ b
    → cond b (Err (faults.Short 0 17)) (unless_wrong 0 (wrong_from 0 17 (take 17 file)) x) ≡ Err (faults.NotXm at)
    → IsFirstWrong file at
wrong_step file at true x b e = absurd cc
wrong_step file at false x b e =
    let f = first_is (take 17 file) 0 17 at (unless_wrong_is (wrong_from 0 17 (take 17 file)) x at e) in
    let within : at < 17 = omega (arith, f.high) in
    record {
      long = ltb-false (length file) 17 b;
      within = within;
      wrong = sym (stands_in file at within) ∙ f.wrong;
      before = λ k lt. sym (stands_in file k (omega arith)) ∙ f.before k (omega arith) lt;
    }

cond_bind : {A B : Type 0} (b : Bool) (d : XmFault) (x : A) (f : A → Result B XmFault)
    → (cond b (Err d) (Ok x) >>= f) ≡ cond b (Err d) (f x)
cond_bind true d x f = refl
cond_bind false d x f = refl

id_is : (file : List ℕ) → identification_at (front_of file)
    ≡ cond (ltb (length file) 17) (Err (faults.Short 0 17))
    (unless_wrong 0 (wrong_from 0 17 (take 17 file))
    (slice_index (take 17 file) 9, record { at = 0 + 17; left = drop 17 file }))
unfolding identification_at field_at
id_is file =
    cond_bind (ltb (length file) 17) (faults.Short 0 17) (take 17 file, record { at = 0 + 17; left = drop 17 file }) _

pub id_wrong : (file : List ℕ) (at : ℕ) → identification_at (front_of file) ≡ Err (faults.NotXm at)
    → IsFirstWrong file at
id_wrong file at e = wrong_step file at (ltb (length file) 17) _ refl (sym (id_is file) ∙ e)

pub wrong_id : (file : List ℕ) (at : ℕ) → IsFirstWrong file at
    → identification_at (front_of file) ≡ Err (faults.NotXm at)
unfolding identification_at field_at
wrong_id file at w =
    let long : ltb (length file) 17 ≡ false = le-ltb (length file) 17 w.long in
    let first = is_first (take 17 file) 0 17 at (record {
      low = omega arith;
      high = w.within;
      wrong = stands_in file at w.within ∙ w.wrong;
      before = λ j le lt. stands_in file j (omega (arith, w.within)) ∙ w.before j lt;
    }) in
    let same : 0 + at ≡ at = omega arith in
    rw (long, first) (ap (λ (i : ℕ). Err (faults.NotXm i)) same)

-- ---- what a file gives

value_ok : {A B : Type 0} (r : Result (A × B) XmFault) (value : A) → value_of r ≡ Ok value
    → (x : A × B) × (r ≡ Ok x) × (x.0 ≡ value)
value_ok (Ok x) value e = (x, refl, cc)
value_ok (Err f) value e = absurd cc

abbrev raw_of : ℕ → Parts → RawSong
raw_of letter x = record { letter = letter; header = x.0; patterns = x.1.0; instruments = x.1.1 }

abbrev parts_of : RawSong → Parts
parts_of raw = (raw.header, (raw.patterns, raw.instruments))

raw_fits : (letter : ℕ) (x : Parts) → IsLetter letter → PartsFit x → SongFits (raw_of letter x)
raw_fits letter x is f = record {
  letter = is;
  header = f.0;
  patterns_count = f.1.0.count;
  patterns = f.1.0.each;
  instruments_count = f.1.1.count;
  instruments = f.1.1.each;
}

parts_fit : (raw : RawSong) → SongFits raw → PartsFit (parts_of raw)
parts_fit raw fits = (
  fits.header,
  (
    record { count = fits.patterns_count; each = fits.patterns },
    record {
      count = fits.instruments_count;
      each = fits.instruments;
    },
  ),
)

pub gives_song : (file : List ℕ) (song : Module) → AreBytes file → song_in file ≡ Ok song → Spells file song
unfolding song_in song_text module_of
gives_song file song bytes e =
    let s = value_ok _ song e in
    let l = bind_ok (identification_at (front_of file)) _ s.0 s.1 in
    let i = id_takes file l.0 bytes l.1 in
    let t = song_law.takes l.0.1 s.0 i.bytes l.2 in
    record {
      raw = raw_of l.0.0 t.raw;
      surplus = s.0.1.left;
      fits = raw_fits l.0.0 t.raw i.is t.fits;
      text =
          i.parts ∙ ap (λ (x : List ℕ). identification_with l.0.0 ++ x) t.parts
          ∙ sym (append_assoc (identification_with l.0.0) (parts_text t.raw) s.0.1.left);
      means = t.value ∙ s.2;
    }

abbrev song_behind : ℕ × FilePlace → Result (Module × FilePlace) XmFault
song_behind letter = song_spelled_at letter.1

gives_step : (file : List ℕ) (raw : RawSong) (surplus : List ℕ) → SongFits raw
    → file ≡ identification_with raw.letter ++ (parts_text (parts_of raw) ++ surplus)
    → value_of (identification_at (front_of file) >>= song_behind) ≡ Ok (meaning (parts_of raw))
gives_step file raw surplus fits e =
    ap (λ (x : List ℕ). value_of (identification_at (front_of x) >>= song_behind)) e
    ∙ rw (
      id_again raw.letter (parts_text (parts_of raw) ++ surplus) fits.letter,
      song_law.again 17 (parts_of raw)
          surplus (parts_fit raw fits),
    ) refl

pub song_gives : (file : List ℕ) (song : Module) → Spells file song → song_in file ≡ Ok song
unfolding song_in song_text module_of
song_gives file song s =
    gives_step file s.raw s.surplus s.fits
    (s.text ∙ append_assoc (identification_with s.raw.letter) (parts_text (parts_of s.raw)) s.surplus)
    ∙ ap (λ (m : Module). Ok m) s.means

-- ---- the identification's fault

not_xm_step : (r : Result (ℕ × FilePlace) XmFault) (at : ℕ)
    → value_of (r >>= song_behind) ≡ fails {A = Module} (faults.NotXm at) → r ≡ Err (faults.NotXm at)
not_xm_step (Ok letter) at e = absurd (value_quiet (song_spelled_at letter.1) (faults.NotXm at) (song_quiet letter.1) e)
not_xm_step (Err d) at e = ap (λ (f : XmFault). Err f) (same_fault {A = Module} d (faults.NotXm at) e)

pub gives_wrong : (file : List ℕ) (at : ℕ) → song_in file ≡ Err (faults.NotXm at) → IsFirstWrong file at
unfolding song_in
gives_wrong file at e = id_wrong file at (not_xm_step (identification_at (front_of file)) at e)

-- ---- no running out of memory

abbrev Wants : {A : Type 0} → Result A XmFault → Type 0
Wants {A = A} r = r ≡ fails {A = A} faults.NoMemory

unless_has_memory : (at : ℕ) (o : Option ℕ) (x : ℕ × FilePlace) → Wants (unless_wrong at o x) → ⊥
unless_has_memory at None x e = absurd cc
unless_has_memory at (Some k) x e = absurd cc

id_step : (b : Bool) (o : Option ℕ) (x : ℕ × FilePlace) → Wants (cond b (Err (faults.Short 0 17)) (unless_wrong 0 o x)) → ⊥
id_step true o x e = absurd cc
id_step false o x e = unless_has_memory 0 o x e

id_has_memory : (file : List ℕ) → Wants (identification_at (front_of file)) → ⊥
id_has_memory file e = id_step (ltb (length file) 17) (wrong_from 0 17 (take 17 file)) _ (sym (id_is file) ∙ e)

memory_step : (r : Result (ℕ × FilePlace) XmFault) → (Wants r → ⊥) → Wants (value_of (r >>= song_behind)) → ⊥
memory_step (Ok letter) front e = absurd (value_quiet (song_spelled_at letter.1) faults.NoMemory (song_quiet letter.1) e)
memory_step (Err d) front e = front (ap (λ (f : XmFault). Err f) (same_fault {A = Module} d faults.NoMemory e))

pub has_memory : (file : List ℕ) → song_in file ≡ Err faults.NoMemory → ⊥
unfolding song_in
has_memory file e = memory_step (identification_at (front_of file)) (id_has_memory file) e
