-- The two laws of a part: what is spelled so is read, and what is read is spelled so. They hold
-- of each part that is made of lawful parts.
use Rattle.std.proofs.Common.{◌≡◌, ℕ, ◌+◌, ◌^◌, ◌<◌, ◌≤◌, Bool, true, false, cond, ltb, inl, inr, List, [], ◌∷◌, ◌++◌, length, take, drop, Result, Ok, Err, refl, sym, ap, subst, ◌∙◌, append_assoc, arith}
use Rattle.std.proofs.lemmas.Bool.{ltb-false, le-ltb, cases_lt}
use Rattle.std.proofs.lemmas.List.{append-nil, length-append, get_or-drop, get_or-take, get_or_past, length-take, take-append-drop}
use Rattle.std.proofs.lemmas.Nat.{le_bytes_2, le_bytes_4}
use Rattle.std.proofs.Math.Seq.{take-append_seam, drop-append_seam}
use Rattle.byteorder.specs.Endian.{little_number, little_bytes}
use Rattle.byteorder.specs.Numbers.{little_number-reads_back, length-bytes_low_first, little_from-lt}
use Rattle.std.specs.List.{flat_map}
use Rattle.std.proofs.Common.{All, zero, suc}
use Rattle.std.proofs.lemmas.List.Elements.{All-head, All-tail, All-nil, All-cons}
use Rattle.ft_format.specs.Fields.{byte, IsNumber, AreBytes, IsField, AllFit, FitsWithin, byte_if_text, IsByteIf}
use Rattle.ft_xmread.specs.declared.fault.XmFault.{XmFault}
use Rattle.ft_xmread.specs.declared.fault.XmFault.TheVariants.{Count}
use Rattle.std.specs.Prelude.{nat_lt}
use Rattle.ft_xmread.specs.Reader.{FilePlace, FileReading, ◌>>=◌, field_at, number_at, and_then, checked, seen, count_at, byte_if, piece_at, in_piece, times}

pub AreBytes-drop : (n : ℕ) (bytes : List ℕ) → AreBytes bytes → AreBytes (drop n bytes)
AreBytes-drop n bytes h i = rw get_or-drop (h (n + i))

pub AreBytes-take : (n : ℕ) (bytes : List ℕ) → AreBytes bytes → AreBytes (take n bytes)
AreBytes-take n bytes h i =
    elim (cases_lt i n) [
      | inl lt ↦ rw (get_or-take n bytes i 0 lt) (h i)
      | inr le ↦ rw (get_or_past (take n bytes) i 0 (omega (arith, length-take n bytes))) (omega arith)
    ]

-- what a part took from the front of a place
pub record Takes {A : Type 0} (text : A → List ℕ) (Fits : A → Type 0) (p : FilePlace) (x : A × FilePlace) : Type 0 where
  pub fits : Fits x.0
  pub parts : p.left ≡ text x.0 ++ x.1.left
  pub bytes : AreBytes x.1.left

pub record Lawful {A : Type 0} (one : FileReading A) (text : A → List ℕ) (Fits : A → Type 0) : Type 0 where
  pub again : (at : ℕ) (x : A) (rest : List ℕ) → Fits x
      → one (record { at = at; left = text x ++ rest }) ≡ Ok (x, record { at = at + length (text x); left = rest })
  pub takes : (p : FilePlace) (x : A × FilePlace) → AreBytes p.left → one p ≡ Ok x → Takes text Fits p x

-- ---- tools

pub bind_ok : {A B : Type 0} (r : Result A XmFault) (f : A → Result B XmFault) (y : B) → (r >>= f) ≡ Ok y
    → (x : A) × (r ≡ Ok x) × (f x ≡ Ok y)
bind_ok (Ok x) f y e = (x, refl, e)
bind_ok (Err d) f y e = absurd cc

pub passed : {A : Type 0} (b : Bool) (d : XmFault) (r : Result A XmFault) (y : A) → cond b (Err d) r ≡ Ok y
    → (b ≡ false) × (r ≡ Ok y)
passed true d r y e = absurd cc
passed false d r y e = (refl, e)

abbrev done : {A : Type 0} → A → Result A XmFault
done x = Ok x

pub ok_is : {A : Type 0} (x y : A) → done x ≡ done y → x ≡ y
ok_is x y e = cc

-- ---- fields and numbers

field_front : (at : ℕ) (piece rest : List ℕ)
    → field_at (length piece) (record { at = at; left = piece ++ rest })
    ≡ Ok (piece, record { at = at + length piece; left = rest })
unfolding field_at
field_front at piece rest =
    let long : ltb (length (piece ++ rest)) (length piece) ≡ false =
    le-ltb _ _ (omega (arith, length-append piece rest)) in
    rw (long, take-append_seam piece rest, drop-append_seam piece rest) refl

pub field_again : (at : ℕ) (piece rest : List ℕ) (n : ℕ) → length piece ≡ n
    → field_at n (record { at = at; left = piece ++ rest }) ≡ Ok (piece, record { at = at + length piece; left = rest })
field_again at piece rest n len =
    subst
    (λ (k : ℕ).
    field_at k (record { at = at; left = piece ++ rest })
    ≡ Ok (piece, record { at = at + length piece; left = rest })) len (field_front at piece rest)

field_takes : (n : ℕ) (p : FilePlace) (x : List ℕ × FilePlace) → AreBytes p.left → field_at n p ≡ Ok x
    → Takes (λ (l : List ℕ). l) (IsField n) p x
unfolding field_at
field_takes n p x fits e =
    let g = passed _ _ _ x e in
    let long : n ≤ length p.left = ltb-false _ _ g.0 in
    subst (λ (y : List ℕ × FilePlace). Takes (λ (l : List ℕ). l) (IsField n) p y)
    (ok_is (take n p.left, record { at = p.at + n; left = drop n p.left }) x g.1)
    (record {
      fits = (omega (arith, length-take n p.left), AreBytes-take n p.left fits);
      parts = sym (take-append-drop n p.left);
      bytes = AreBytes-drop n p.left fits;
    })

pub field_law : (n : ℕ) → Lawful (field_at n) (λ (l : List ℕ). l) (IsField n)
field_law n = record {
  again = λ at x rest fits. field_again at x rest n fits.0;
  takes = λ p x bytes e. field_takes n p x bytes e;
}

-- the bytes of a number that n bytes gave are these bytes
abbrev pub GivesBack : ℕ → Type 0
GivesBack n = (bytes : List ℕ) → length bytes ≡ n → AreBytes bytes → little_bytes n (little_number n bytes) ≡ bytes

pub back_1 : GivesBack 1
back_1 [] len fits = absurd (omega arith)
back_1 (x ∷ []) len fits = ap (λ (b : ℕ). b ∷ []) (omega (arith, fits 0))
back_1 (x ∷ y ∷ l) len fits = absurd (omega arith)

pub back_2 : GivesBack 2
back_2 bytes len fits = le_bytes_2 bytes (little_number 2 bytes) len fits (omega arith)

pub back_4 : GivesBack 4
back_4 bytes len fits = le_bytes_4 bytes (little_number 4 bytes) len fits (omega arith)

reads_back : (n v : ℕ) → v < 256 ^ n → little_number n (little_bytes n v) ≡ v
reads_back n v lt = ap (little_number n) (sym (append-nil (little_bytes n v))) ∙ little_number-reads_back n v [] lt

number_again : (n at v : ℕ) (rest : List ℕ) → v < 256 ^ n
    → number_at n (record { at = at; left = little_bytes n v ++ rest })
    ≡ Ok (v, record { at = at + length (little_bytes n v); left = rest })
unfolding number_at
number_again n at v rest lt =
    rw (field_again at (little_bytes n v) rest n (length-bytes_low_first 0 n v), reads_back n v lt) refl

number_takes : (n : ℕ) (p : FilePlace) (x : ℕ × FilePlace) → GivesBack n → AreBytes p.left → number_at n p ≡ Ok x
    → Takes (little_bytes n) (IsNumber n) p x
unfolding number_at
number_takes n p x back fits e =
    let a = bind_ok (field_at n p) (λ f. Ok (little_number n f.0, f.1)) x e in
    let t = field_takes n p a.0 fits a.1 in
    let made : ℕ × FilePlace = (little_number n a.0.0, a.0.1) in
    subst (λ (y : ℕ × FilePlace). Takes (little_bytes n) (IsNumber n) p y) (ok_is made x a.2)
    (record {
      fits = little_from-lt 0 n a.0.0 t.fits.1;
      parts = t.parts ∙ ap (λ (l : List ℕ). l ++ a.0.1.left) (sym (back a.0.0 t.fits.0 t.fits.1));
      bytes = t.bytes;
    })

pub number_law : (n : ℕ) → GivesBack n → Lawful (number_at n) (little_bytes n) (IsNumber n)
number_law n back = record {
  again = λ at x rest fits. number_again n at x rest fits;
  takes = λ p x bytes e. number_takes n p x back bytes e;
}

-- ---- a part and another

-- a part, and then another that may depend on it, and both of them
abbrev pub both : {A B : Type 0} → FileReading A → (A → FileReading B) → FileReading (A × B)
both one other p = do
  a ← one p
  b ← other a.0 a.1
  Ok ((a.0, b.0), b.1)

abbrev pub both_text : {A B : Type 0} → (A → List ℕ) → (A → B → List ℕ) → A × B → List ℕ
both_text t u x = t x.0 ++ u x.0 x.1

abbrev pub BothFit : {A B : Type 0} → (A → Type 0) → (A → B → Type 0) → A × B → Type 0
BothFit F G x = F x.0 × G x.0 x.1

both_again :
    {A B : Type 0} (one : FileReading A) (other : A → FileReading B) (t : A → List ℕ) (u : A → B → List ℕ) (F : A → Type 0)
    (G : A → B → Type 0)
    → Lawful one t F → ((a : A) → F a → Lawful (other a) (u a) (G a))
    → (at : ℕ) (a : A) (b : B) (rest : List ℕ) → F a → G a b
    → both one other (record { at = at; left = (t a ++ u a b) ++ rest })
    ≡ Ok ((a, b), record { at = at + length (t a ++ u a b); left = rest })
both_again {A = A} {B = B} one other t u F G law laws at a b rest f g =
    let n : at + length (t a ++ u a b) ≡ at + length (t a) + length (u a b) =
    omega (arith, length-append (t a) (u a b)) in
    ap (λ (left : List ℕ). both one other (record { at = at; left = left })) (append_assoc (t a) (u a b) rest)
    ∙ rw (law.again at a (u a b ++ rest) f, (laws a f).again (at + length (t a)) b rest g, n) refl

both_takes :
    {A B : Type 0} (one : FileReading A) (other : A → FileReading B) (t : A → List ℕ) (u : A → B → List ℕ) (F : A → Type 0)
    (G : A → B → Type 0)
    → Lawful one t F → ((a : A) → F a → Lawful (other a) (u a) (G a))
    → (p : FilePlace) (x : (A × B) × FilePlace) → AreBytes p.left → both one other p ≡ Ok x
    → Takes (both_text t u) (BothFit F G) p x
both_takes {A = A} {B = B} one other t u F G law laws p x bytes e =
    let a = bind_ok (one p) _ x e in
    let s = law.takes p a.0 bytes a.1 in
    let b = bind_ok (other a.0.0 a.0.1) _ x a.2 in
    let r = (laws a.0.0 s.fits).takes a.0.1 b.0 s.bytes b.1 in
    let made : (A × B) × FilePlace = ((a.0.0, b.0.0), b.0.1) in
    subst (λ (y : (A × B) × FilePlace). Takes (both_text t u) (BothFit F G) p y) (ok_is made x b.2)
    (record {
      fits = (s.fits, r.fits);
      parts =
          s.parts ∙ ap (λ (l : List ℕ). t a.0.0 ++ l) r.parts ∙ sym (append_assoc (t a.0.0) (u a.0.0 b.0.0) b.0.1.left);
      bytes = r.bytes;
    })

pub both_law :
    {A B : Type 0} (one : FileReading A) (other : A → FileReading B) (t : A → List ℕ) (u : A → B → List ℕ) (F : A → Type 0)
    (G : A → B → Type 0)
    → Lawful one t F → ((a : A) → F a → Lawful (other a) (u a) (G a))
    → Lawful (both one other) (both_text t u) (BothFit F G)
both_law one other t u F G law laws = record {
  again = λ at x rest fits. both_again one other t u F G law laws at x.0 x.1 rest fits.0 fits.1;
  takes = λ p x bytes e. both_takes one other t u F G law laws p x bytes e;
}

-- ---- a check

abbrev pub Passes : {A : Type 0} → (A → Type 0) → (A → Bool) → A → Type 0
Passes F is_bad x = F x × (is_bad x ≡ false)

checked_takes : {A : Type 0} (is_bad : A → Bool) (fault : ℕ → A → XmFault) (one : FileReading A) (t : A → List ℕ)
    (F : A → Type 0) → Lawful one t F
    → (p : FilePlace) (x : A × FilePlace) → AreBytes p.left → checked is_bad fault one p ≡ Ok x → Takes t (Passes F is_bad) p x
checked_takes {A = A} is_bad fault one t F law p x bytes e =
    let a = bind_ok (one p) _ x e in
    let s = law.takes p a.0 bytes a.1 in
    let b = passed _ _ _ x a.2 in
    subst (λ (y : A × FilePlace). Takes t (Passes F is_bad) p y) (ok_is a.0 x b.1)
    (record { fits = (s.fits, b.0); parts = s.parts; bytes = s.bytes })

pub checked_law : {A : Type 0} (is_bad : A → Bool) (fault : ℕ → A → XmFault) (one : FileReading A) (t : A → List ℕ)
    (F : A → Type 0) → Lawful one t F → Lawful (checked is_bad fault one) t (Passes F is_bad)
checked_law is_bad fault one t F law = record {
  again = λ at x rest fits. rw (law.again at x rest fits.0, fits.1) refl;
  takes = λ p x bytes e. checked_takes is_bad fault one t F law p x bytes e;
}

-- ---- another view

-- each value that fits is seen as one that fits and is spelled alike
abbrev pub IsSeen : {A B : Type 0} → (A → B) → (A → List ℕ) → (A → Type 0) → (B → List ℕ) → (B → Type 0) → Type 0
IsSeen {A = A} view t F u G = (x : A) → F x → G (view x) × (t x ≡ u (view x))

-- each value that fits is the view of one that fits and is spelled alike
abbrev pub IsView : {A B : Type 0} → (A → B) → (B → A) → (A → List ℕ) → (A → Type 0) → (B → List ℕ) → (B → Type 0)
    → Type 0
IsView {A = A} {B = B} view back t F u G = (y : B) → G y → F (back y) × (view (back y) ≡ y) × (t (back y) ≡ u y)

seen_again : {A B : Type 0} (view : A → B) (one : FileReading A) (t : A → List ℕ) (F : A → Type 0) → Lawful one t F
    → (at : ℕ) (x : A) (y : B) (text rest : List ℕ) → F x → view x ≡ y → t x ≡ text
    → seen view one (record { at = at; left = text ++ rest })
    ≡ Ok (y, record { at = at + length text; left = rest })
seen_again view one t F law at x y text rest f v e = rw (sym e, sym v) (rw (law.again at x rest f) refl)

seen_takes : {A B : Type 0} (view : A → B) (one : FileReading A) (t : A → List ℕ) (F : A → Type 0) (u : B → List ℕ)
    (G : B → Type 0) → Lawful one t F → IsSeen view t F u G
    → (p : FilePlace) (y : B × FilePlace) → AreBytes p.left → seen view one p ≡ Ok y → Takes u G p y
seen_takes {A = A} {B = B} view one t F u G law is_seen p y bytes e =
    let a = bind_ok (one p) _ y e in
    let s = law.takes p a.0 bytes a.1 in
    let made : B × FilePlace = (view a.0.0, a.0.1) in
    let w = is_seen a.0.0 s.fits in
    subst (λ (z : B × FilePlace). Takes u G p z) (ok_is made y a.2)
    (record { fits = w.0; parts = s.parts ∙ ap (λ (l : List ℕ). l ++ a.0.1.left) w.1; bytes = s.bytes })

pub seen_law :
    {A B : Type 0} (view : A → B) (back : B → A) (one : FileReading A) (t : A → List ℕ) (F : A → Type 0) (u : B → List ℕ)
    (G : B → Type 0)
    → Lawful one t F → IsSeen view t F u G → IsView view back t F u G → Lawful (seen view one) u G
seen_law view back one t F u G law is_seen is_view = record {
  again = λ at y rest fits. let v = is_view y fits in seen_again view one t F law at (back y) y (u y) rest v.0 v.1 v.2;
  takes = λ p y bytes e. seen_takes view one t F u G law is_seen p y bytes e;
}

-- values that fit by another name
pub refit_law : {A : Type 0} (one : FileReading A) (t : A → List ℕ) (F G : A → Type 0) → Lawful one t F
    → ((x : A) → F x → G x) → ((x : A) → G x → F x) → Lawful one t G
refit_law one t F G law there back = record {
  again = λ at x rest fits. law.again at x rest (back x fits);
  takes =
      λ p x bytes e.
      let s = law.takes p x bytes e in record { fits = there x.0 s.fits; parts = s.parts; bytes = s.bytes };
}

-- ---- more forms

-- two parts of which neither depends on the other
pub pair_law :
    {A B : Type 0} (one : FileReading A) (other : FileReading B) (t : A → List ℕ) (u : B → List ℕ) (F : A → Type 0)
    (G : B → Type 0)
    → Lawful one t F → Lawful other u G
    → Lawful (both one (λ _. other)) (both_text t (λ _ b. u b)) (BothFit F (λ _ b. G b))
pair_law one other t u F G law more = both_law one (λ _. other) t (λ _ b. u b) F (λ _ b. G b) law (λ _ _. more)

-- a value that is kept in another form
pub kept_law : {A B : Type 0} (view : A → B) (back : B → A) (one : FileReading A) (t : A → List ℕ) (F : A → Type 0)
    → Lawful one t F → ((x : A) → F x → back (view x) ≡ x) → ((y : B) → view (back y) ≡ y)
    → Lawful (seen view one) (λ y. t (back y)) (λ y. F (back y))
kept_law view back one t F law there here = seen_law view back one t F (λ y. t (back y)) (λ y. F (back y)) law
    (λ x f. (subst F (sym (there x f)) f, ap t (sym (there x f))))
    (λ y g. (g, here y, refl))

pub u8_law : Lawful (number_at 1) (little_bytes 1) (IsNumber 1)
u8_law = number_law 1 back_1

pub u16_law : Lawful (number_at 2) (little_bytes 2) (IsNumber 2)
u16_law = number_law 2 back_2

pub u32_law : Lawful (number_at 4) (little_bytes 4) (IsNumber 4)
u32_law = number_law 4 back_4

-- the same values with another text
pub text_law : {A : Type 0} (one : FileReading A) (t u : A → List ℕ) (F : A → Type 0) → Lawful one t F
    → ((x : A) → F x → t x ≡ u x) → Lawful one u F
text_law {A = A} one t u F law same = record {
  again =
      λ at x rest fits.
      subst
      (λ (text : List ℕ).
      one (record { at = at; left = text ++ rest }) ≡ Ok (x, record { at = at + length text; left = rest }))
      (same x fits) (law.again at x rest fits);
  takes = λ p x bytes e.
      let t = law.takes p x bytes e in
      record { fits = t.fits; parts = t.parts ∙ ap (λ (l : List ℕ). l ++ x.1.left) (same x.0 t.fits); bytes = t.bytes };
}

one_byte : (x : ℕ) → IsNumber 1 x → little_bytes 1 x ≡ byte x
one_byte x fits = ap (λ (b : ℕ). b ∷ []) (omega (arith, fits))

pub byte_law : Lawful (number_at 1) byte (IsNumber 1)
byte_law = text_law (number_at 1) (little_bytes 1) byte (IsNumber 1) u8_law one_byte

-- a number of two bytes up to a limit
abbrev pub IsCount : ℕ → ℕ → Type 0
IsCount most = Passes (IsNumber 2) (nat_lt most)

pub count_law : (most : ℕ) → Lawful (count_at most) (little_bytes 2) (IsCount most)
count_law most = checked_law (nat_lt most) Count (number_at 2) (little_bytes 2) (IsNumber 2) u16_law

-- ---- a byte that may be left out

none_takes : (p : FilePlace) (x : ℕ × FilePlace) → AreBytes p.left → byte_if false p ≡ Ok x
    → Takes (byte_if_text false) (IsByteIf false) p x
none_takes p x bytes e =
    let made : ℕ × FilePlace = (0, p) in
    subst (λ (y : ℕ × FilePlace). Takes (byte_if_text false) (IsByteIf false) p y) (ok_is made x e)
    (record { fits = refl; parts = refl; bytes = bytes })

pub no_text : (at : ℕ) → at + length {A = ℕ} [] ≡ at
no_text at = omega arith

pub byte_if_law : (b : Bool) → Lawful (byte_if b) (byte_if_text b) (IsByteIf b)
byte_if_law true =
    record {
      again = λ at x rest fits. byte_law.again at x rest fits;
      takes =
          λ p x bytes e.
          let t = byte_law.takes p x bytes e in record { fits = t.fits; parts = t.parts; bytes = t.bytes };
    }
byte_if_law false = record {
  again = λ at x rest fits. rw (fits, no_text at) refl;
  takes = λ p x bytes e. none_takes p x bytes e;
}

-- ---- a part of a piece

abbrev pub within_text : {A : Type 0} → (A → List ℕ) → A × List ℕ → List ℕ
within_text t x = t x.0 ++ x.1

within_takes : {A : Type 0} (n : ℕ) (one : FileReading A) (t : A → List ℕ) (F : A → Type 0) → Lawful one t F
    → (p : FilePlace) (x : (A × List ℕ) × FilePlace) → AreBytes p.left → in_piece n one p ≡ Ok x
    → Takes (within_text t) (FitsWithin n t F) p x
unfolding piece_at
within_takes {A = A} n one t F law p x bytes e =
    let g = bind_ok (piece_at n p) _ x e in
    let f = bind_ok (field_at n p) _ g.0 g.1 in
    let s = (field_law n).takes p f.0 bytes f.1 in
    let inner : FilePlace = record { at = p.at; left = f.0.0 } in
    let piece : FilePlace × FilePlace = (inner, f.0.1) in
    let same = ok_is piece g.0 f.2 in
    let a =
    bind_ok (one inner) _ x
    (subst (λ (y : FilePlace × FilePlace). (one y.0 >>= λ z. Ok ((z.0, z.1.left), y.1)) ≡ Ok x) (sym same) g.2) in
    let r = law.takes inner a.0 s.fits.1 a.1 in
    let made : (A × List ℕ) × FilePlace = ((a.0.0, a.0.1.left), f.0.1) in
    subst (λ (y : (A × List ℕ) × FilePlace). Takes (within_text t) (FitsWithin n t F) p y) (ok_is made x a.2)
    (record {
      fits = record { fits = r.fits; whole = sym (ap length r.parts) ∙ s.fits.0; bytes = r.bytes };
      parts = s.parts ∙ ap (λ (l : List ℕ). l ++ f.0.1.left) r.parts;
      bytes = s.bytes;
    })

pub within_law : {A : Type 0} (n : ℕ) (one : FileReading A) (t : A → List ℕ) (F : A → Type 0) → Lawful one t F
    → Lawful (in_piece n one) (within_text t) (FitsWithin n t F)
unfolding piece_at
within_law n one t F law = record {
  again = λ at x rest fits. rw (field_again at (t x.0 ++ x.1) rest n fits.whole, law.again at x.0 x.1 fits.fits) refl;
  takes = λ p x bytes e. within_takes n one t F law p x bytes e;
}

-- ---- a part many times

times_again : {A : Type 0} (one : ℕ → FileReading A) (t : A → List ℕ) (F : A → Type 0) → ((k : ℕ) → Lawful (one k) t F)
    → (first at : ℕ) (xs : List A) (rest : List ℕ) → All F xs
    → times one first (length xs) (record { at = at; left = flat_map t xs ++ rest })
    ≡ Ok (xs, record { at = at + length (flat_map t xs); left = rest })
unfolding times
times_again one t F law first at [] rest all = rw (no_text at) refl
times_again one t F law first at (x ∷ xs) rest all =
    let n : at + length (t x ++ flat_map t xs) ≡ at + length (t x) + length (flat_map t xs) =
    omega (arith, length-append (t x) (flat_map t xs)) in
    ap (λ (left : List ℕ). times one first (suc (length xs)) (record { at = at; left = left }))
    (append_assoc (t x) (flat_map t xs) rest)
    ∙ rw (
      (law first).again at x (flat_map t xs ++ rest) (All-head F x xs all),
      times_again one t F law (suc first)
          (at + length (t x)) xs rest (All-tail F x xs all),
      n,
    ) refl

times_takes : {A : Type 0} (one : ℕ → FileReading A) (t : A → List ℕ) (F : A → Type 0) → ((k : ℕ) → Lawful (one k) t F)
    → (first n : ℕ) (p : FilePlace) (x : List A × FilePlace) → AreBytes p.left → times one first n p ≡ Ok x
    → Takes (flat_map t) (AllFit n F) p x
unfolding times
times_takes {A = A} one t F law first zero p x bytes e =
    let made : List A × FilePlace = ([], p) in
    subst (λ (y : List A × FilePlace). Takes (flat_map t) (AllFit 0 F) p y) (ok_is made x e)
    (record { fits = record { count = refl; each = All-nil F }; parts = refl; bytes = bytes })
times_takes {A = A} one t F law first (suc n) p x bytes e =
    let a = bind_ok (one first p) _ x e in
    let s = (law first).takes p a.0 bytes a.1 in
    let b = bind_ok (times one (suc first) n a.0.1) _ x a.2 in
    let r = times_takes one t F law (suc first) n a.0.1 b.0 s.bytes b.1 in
    let made : List A × FilePlace = (a.0.0 ∷ b.0.0, b.0.1) in
    subst (λ (y : List A × FilePlace). Takes (flat_map t) (AllFit (suc n) F) p y) (ok_is made x b.2)
    (record {
      fits = record { count = ap suc r.fits.count; each = All-cons F a.0.0 b.0.0 s.fits r.fits.each };
      parts =
          s.parts ∙ ap (λ (l : List ℕ). t a.0.0 ++ l) r.parts
          ∙ sym (append_assoc (t a.0.0) (flat_map t b.0.0) b.0.1.left);
      bytes = r.bytes;
    })

pub times_law : {A : Type 0} (one : ℕ → FileReading A) (t : A → List ℕ) (F : A → Type 0) → ((k : ℕ) → Lawful (one k) t F)
    → (first n : ℕ) → Lawful (times one first n) (flat_map t) (AllFit n F)
times_law {A = A} one t F law first n = record {
  again =
      λ at xs rest fits.
      subst
      (λ (k : ℕ).
      times one first k (record { at = at; left = flat_map t xs ++ rest })
      ≡ Ok (xs, record { at = at + length (flat_map t xs); left = rest })) fits.count
      (times_again one t F law first at xs rest fits.each);
  takes = λ p x bytes e. times_takes one t F law first n p x bytes e;
}

-- ---- parts in `do` form

-- two readings that answer alike at each place
abbrev pub Alike : {A : Type 0} → FileReading A → FileReading A → Type 0
Alike one other = (p : FilePlace) → one p ≡ other p

pub alike_law : {A : Type 0} (one other : FileReading A) (t : A → List ℕ) (F : A → Type 0) → Alike one other
    → Lawful other t F → Lawful one t F
alike_law one other t F same law = record {
  again = λ at x rest fits. same (record { at = at; left = t x ++ rest }) ∙ law.again at x rest fits;
  takes = λ p x bytes e. law.takes p x bytes (sym (same p) ∙ e);
}

abbrev paired : {A B : Type 0} → A → B × FilePlace → Result ((A × B) × FilePlace) XmFault
paired a b = Ok ((a, b.0), b.1)

abbrev viewed : {A B : Type 0} → (A → B) → A × FilePlace → Result (B × FilePlace) XmFault
viewed view x = Ok (view x.0, x.1)

seen_both : {A B C : Type 0} (view : A × B → C) (a : A) (r : Result (B × FilePlace) XmFault)
    → (r >>= viewed (λ b. view (a, b))) ≡ ((r >>= paired a) >>= viewed view)
seen_both view a (Ok b) = refl
seen_both view a (Err f) = refl

next_step :
    {A B C : Type 0} (view : A × B → C) (other : A → FileReading B) (whole : A → FileReading C) (r : Result (A × FilePlace) XmFault)
    → ((a : A) → Alike (whole a) (seen (λ b. view (a, b)) (other a)))
    → (r >>= λ x. whole x.0 x.1) ≡ ((r >>= λ x. (other x.0 x.1 >>= paired x.0)) >>= viewed view)
next_step view other whole (Ok x) same = same x.0 x.1 ∙ seen_both view x.0 (other x.0 x.1)
next_step view other whole (Err f) same = refl

-- a part and a whole, where that sees what comes next
pub next_alike : {A B C : Type 0} (view : A × B → C) (one : FileReading A) (other : A → FileReading B) (whole : A → FileReading C)
    → ((a : A) → Alike (whole a) (seen (λ b. view (a, b)) (other a)))
    → Alike (and_then one whole) (seen view (both one other))
next_alike view one other whole same p = next_step view other whole (one p) same

seen_same_step : {A : Type 0} (r : Result (A × FilePlace) XmFault) → r ≡ (r >>= viewed (λ x. x))
seen_same_step (Ok x) = refl
seen_same_step (Err f) = refl

pub seen_same : {A : Type 0} (one : FileReading A) → Alike one (seen (λ x. x) one)
seen_same one p = seen_same_step (one p)
