-- The two laws of a reading whose values are brought into range: what is spelled so is read, and what
-- is read is spelled so. A part says a raw value, which has a text and a meaning.
use Rattle.std.proofs.Common.{◌≡◌, ℕ, zero, suc, ◌+◌, List, [], ◌∷◌, ◌++◌, length, map, All, Result, Ok, Err, refl, sym, ap, subst, ◌∙◌, append_assoc, arith}
use Rattle.std.specs.List.{flat_map}
use Rattle.std.proofs.lemmas.List.{length-append}
use Rattle.std.proofs.lemmas.List.Elements.{All-head, All-tail, All-nil, All-cons}
use Rattle.ft_format.specs.Fields.{AreBytes, AllFit, FitsWithin}
use Rattle.ft_xmread.specs.declared.fault.XmFault.{XmFault}
use Rattle.ft_xmread.specs.Reader.{FilePlace, FileReading, ◌>>=◌, field_at, seen, piece_at, in_piece, times}
use Rattle.ft_xmread.specs.Pattern.{or_overrun, inside}
use Rattle.ft_xmread.proofs.Lawful.{Lawful, Alike, both, bind_ok, ok_is, no_text, field_again, field_law}

-- the raw value whose text was at the front of a place
pub record Reached {R A : Type 0} (text : R → List ℕ) (Fits : R → Type 0) (means : R → A) (p : FilePlace) (x : A × FilePlace) :
    Type 0 where
  pub raw : R
  pub fits : Fits raw
  pub parts : p.left ≡ text raw ++ x.1.left
  pub value : means raw ≡ x.0
  pub bytes : AreBytes x.1.left

pub record Spelled {R A : Type 0} (one : FileReading A) (text : R → List ℕ) (Fits : R → Type 0) (means : R → A) : Type 0
  where
    pub again : (at : ℕ) (raw : R) (rest : List ℕ) → Fits raw
        → one (record { at = at; left = text raw ++ rest })
        ≡ Ok (means raw, record { at = at + length (text raw); left = rest })
    pub takes : (p : FilePlace) (x : A × FilePlace) → AreBytes p.left → one p ≡ Ok x → Reached text Fits means p x

abbrev pub same : {A : Type 0} → A → A
same x = x

-- ---- a part that means what it says

pub lawful_spelled : {A : Type 0} (one : FileReading A) (t : A → List ℕ) (F : A → Type 0) → Lawful one t F
    → Spelled one t F same
lawful_spelled one t F law = record {
  again = λ at x rest fits. law.again at x rest fits;
  takes =
      λ p x bytes e.
      let s = law.takes p x bytes e in
      record { raw = x.0; fits = s.fits; parts = s.parts; value = refl; bytes = s.bytes };
}

-- ---- another view

seen_takes : {R A B : Type 0} (view : A → B) (one : FileReading A) (t : R → List ℕ) (F : R → Type 0) (m : R → A)
    → Spelled one t F m
    → (p : FilePlace) (y : B × FilePlace) → AreBytes p.left → seen view one p ≡ Ok y → Reached t F (λ r. view (m r)) p y
seen_takes {A = A} {B = B} view one t F m law p y bytes e =
    let a = bind_ok (one p) _ y e in
    let s = law.takes p a.0 bytes a.1 in
    let made : B × FilePlace = (view a.0.0, a.0.1) in
    subst (λ (z : B × FilePlace). Reached t F (λ r. view (m r)) p z) (ok_is made y a.2)
    (record { raw = s.raw; fits = s.fits; parts = s.parts; value = ap view s.value; bytes = s.bytes })

pub seen_spelled : {R A B : Type 0} (view : A → B) (one : FileReading A) (t : R → List ℕ) (F : R → Type 0) (m : R → A)
    → Spelled one t F m → Spelled (seen view one) t F (λ r. view (m r))
seen_spelled view one t F m law = record {
  again = λ at r rest fits. rw (law.again at r rest fits) refl;
  takes = λ p y bytes e. seen_takes view one t F m law p y bytes e;
}

-- ---- another raw value

-- each raw value that fits is one of the other kind, with the same text and meaning
abbrev pub IsRecast : {R S A : Type 0} → (R → S) → (R → List ℕ) → (R → Type 0) → (R → A) → (S → List ℕ) → (S → Type 0)
    → (S → A) → Type 0
IsRecast {R = R} to t F m u G n = (r : R) → F r → G (to r) × (t r ≡ u (to r)) × (m r ≡ n (to r))

recast_again : {R A : Type 0} (one : FileReading A) (t : R → List ℕ) (F : R → Type 0) (m : R → A) → Spelled one t F m
    → (at : ℕ) (r : R) (text rest : List ℕ) (x : A) → F r → text ≡ t r → x ≡ m r
    → one (record { at = at; left = text ++ rest }) ≡ Ok (x, record { at = at + length text; left = rest })
recast_again one t F m law at r text rest x fits e f = rw (e, f) (law.again at r rest fits)

pub recast :
    {R S A : Type 0} (to : R → S) (back : S → R) (one : FileReading A) (t : R → List ℕ) (F : R → Type 0) (m : R → A)
    (u : S → List ℕ) (G : S → Type 0) (n : S → A)
    → Spelled one t F m → IsRecast to t F m u G n → IsRecast back u G n t F m → Spelled one u G n
recast {R = R} {S = S} to back one t F m u G n law there here = record {
  again = λ at s rest fits. let h = here s fits in recast_again one t F m law at (back s) (u s) rest (n s) h.0 h.1 h.2;
  takes = λ p x bytes e.
      let k = law.takes p x bytes e in
      let h = there k.raw k.fits in
      record { raw = to k.raw; fits = h.0; parts = k.parts ∙ ap (λ (l : List ℕ). l ++ x.1.left) h.1; value = sym h.2 ∙ k.value; bytes = k.bytes };
}

-- ---- a part and another

both_again :
    {R S A B : Type 0} (one : FileReading A) (other : A → FileReading B) (t : R → List ℕ) (u : R → S → List ℕ) (F : R → Type 0)
    (G : R → S → Type 0) (m : R → A) (n : R → S → B)
    → Spelled one t F m → ((r : R) → F r → Spelled (other (m r)) (u r) (G r) (n r))
    → (at : ℕ) (r : R) (s : S) (rest : List ℕ) → F r → G r s
    → both one other (record { at = at; left = (t r ++ u r s) ++ rest })
    ≡ Ok ((m r, n r s), record { at = at + length (t r ++ u r s); left = rest })
both_again one other t u F G m n law laws at r s rest f g =
    let k : at + length (t r ++ u r s) ≡ at + length (t r) + length (u r s) =
    omega (arith, length-append (t r) (u r s)) in
    ap (λ (left : List ℕ). both one other (record { at = at; left = left })) (append_assoc (t r) (u r s) rest)
    ∙ rw (law.again at r (u r s ++ rest) f, (laws r f).again (at + length (t r)) s rest g, k) refl

both_takes :
    {R S A B : Type 0} (one : FileReading A) (other : A → FileReading B) (t : R → List ℕ) (u : R → S → List ℕ) (F : R → Type 0)
    (G : R → S → Type 0) (m : R → A) (n : R → S → B)
    → Spelled one t F m → ((r : R) → F r → Spelled (other (m r)) (u r) (G r) (n r))
    → (p : FilePlace) (x : (A × B) × FilePlace) → AreBytes p.left → both one other p ≡ Ok x
    → Reached (λ (y : R × S). t y.0 ++ u y.0 y.1) (λ y. F y.0 × G y.0 y.1) (λ y. (m y.0, n y.0 y.1)) p x
both_takes {R = R} {S = S} {A = A} {B = B} one other t u F G m n law laws p x bytes e =
    let a = bind_ok (one p) _ x e in
    let s = law.takes p a.0 bytes a.1 in
    let b = bind_ok (other a.0.0 a.0.1) _ x a.2 in
    let moved : other (m s.raw) a.0.1 ≡ Ok b.0 = ap (λ (v : A). other v a.0.1) s.value ∙ b.1 in
    let r = (laws s.raw s.fits).takes a.0.1 b.0 s.bytes moved in
    let made : (A × B) × FilePlace = ((a.0.0, b.0.0), b.0.1) in
    let left : (m s.raw, n s.raw r.raw) ≡ (a.0.0, b.0.0) =
    ap (λ (v : A). (v, n s.raw r.raw)) s.value ∙ ap (λ (v : B). (a.0.0, v)) r.value in
    subst
    (λ (y : (A × B) × FilePlace).
    Reached (λ (z : R × S). t z.0 ++ u z.0 z.1) (λ z. F z.0 × G z.0 z.1) (λ z. (m z.0, n z.0 z.1)) p y)
    (ok_is made x b.2)
    (record {
      raw = (s.raw, r.raw);
      fits = (s.fits, r.fits);
      parts =
          s.parts ∙ ap (λ (l : List ℕ). t s.raw ++ l) r.parts ∙ sym (append_assoc (t s.raw) (u s.raw r.raw) b.0.1.left);
      value = left;
      bytes = r.bytes;
    })

pub both_spelled :
    {R S A B : Type 0} (one : FileReading A) (other : A → FileReading B) (t : R → List ℕ) (u : R → S → List ℕ) (F : R → Type 0)
    (G : R → S → Type 0) (m : R → A) (n : R → S → B)
    → Spelled one t F m → ((r : R) → F r → Spelled (other (m r)) (u r) (G r) (n r))
    → Spelled (both one other) (λ (y : R × S). t y.0 ++ u y.0 y.1) (λ y. F y.0 × G y.0 y.1) (λ y. (m y.0, n y.0 y.1))
both_spelled one other t u F G m n law laws = record {
  again = λ at y rest fits. both_again one other t u F G m n law laws at y.0 y.1 rest fits.0 fits.1;
  takes = λ p x bytes e. both_takes one other t u F G m n law laws p x bytes e;
}

-- two parts of which neither depends on the other
pub pair_spelled :
    {R S A B : Type 0} (one : FileReading A) (other : FileReading B) (t : R → List ℕ) (u : S → List ℕ) (F : R → Type 0)
    (G : S → Type 0) (m : R → A) (n : S → B)
    → Spelled one t F m → Spelled other u G n
    → Spelled (both one (λ _. other)) (λ (y : R × S). t y.0 ++ u y.1) (λ y. F y.0 × G y.1) (λ y. (m y.0, n y.1))
pair_spelled one other t u F G m n law more =
    both_spelled one (λ _. other) t (λ _ s. u s) F (λ _ s. G s) m (λ _ s. n s) law (λ _ _. more)

-- ---- a part of a piece

within_takes : {R A : Type 0} (k : ℕ) (one : FileReading A) (t : R → List ℕ) (F : R → Type 0) (m : R → A)
    → Spelled one t F m
    → (p : FilePlace) (x : (A × List ℕ) × FilePlace) → AreBytes p.left → in_piece k one p ≡ Ok x
    → Reached (λ (y : R × List ℕ). t y.0 ++ y.1) (FitsWithin k t F) (λ y. (m y.0, y.1)) p x
unfolding piece_at
within_takes {R = R} {A = A} k one t F m law p x bytes e =
    let g = bind_ok (piece_at k p) _ x e in
    let f = bind_ok (field_at k p) _ g.0 g.1 in
    let s = (field_law k).takes p f.0 bytes f.1 in
    let inner : FilePlace = record { at = p.at; left = f.0.0 } in
    let piece : FilePlace × FilePlace = (inner, f.0.1) in
    let same_piece = ok_is piece g.0 f.2 in
    let a =
    bind_ok (one inner) _ x
    (subst (λ (y : FilePlace × FilePlace). (one y.0 >>= λ z. Ok ((z.0, z.1.left), y.1)) ≡ Ok x) (sym same_piece) g.2) in
    let r = law.takes inner a.0 s.fits.1 a.1 in
    let made : (A × List ℕ) × FilePlace = ((a.0.0, a.0.1.left), f.0.1) in
    subst
    (λ (y : (A × List ℕ) × FilePlace).
    Reached (λ (z : R × List ℕ). t z.0 ++ z.1) (FitsWithin k t F) (λ z. (m z.0, z.1)) p y) (ok_is made x a.2)
    (record {
      raw = (r.raw, a.0.1.left);
      fits = record { fits = r.fits; whole = sym (ap length r.parts) ∙ s.fits.0; bytes = r.bytes };
      parts = s.parts ∙ ap (λ (l : List ℕ). l ++ f.0.1.left) r.parts;
      value = ap (λ (v : A). (v, a.0.1.left)) r.value;
      bytes = s.bytes;
    })

pub within_spelled : {R A : Type 0} (k : ℕ) (one : FileReading A) (t : R → List ℕ) (F : R → Type 0) (m : R → A)
    → Spelled one t F m
    → Spelled (in_piece k one) (λ (y : R × List ℕ). t y.0 ++ y.1) (FitsWithin k t F) (λ y. (m y.0, y.1))
unfolding piece_at
within_spelled k one t F m law = record {
  again = λ at y rest fits. rw (field_again at (t y.0 ++ y.1) rest k fits.whole, law.again at y.0 y.1 fits.fits) refl;
  takes = λ p x bytes e. within_takes k one t F m law p x bytes e;
}

-- ---- a part that ends inside its data

inside_ok : {A : Type 0} (pattern at : ℕ) (r : Result A XmFault) (x : A) → or_overrun pattern at r ≡ Ok x → r ≡ Ok x
inside_ok pattern at (Ok y) x e = e
inside_ok pattern at (Err f) x e = absurd cc

pub inside_spelled : {R A : Type 0} (pattern : ℕ) (one : FileReading A) (t : R → List ℕ) (F : R → Type 0) (m : R → A)
    → Spelled one t F m → Spelled (inside pattern one) t F m
inside_spelled pattern one t F m law = record {
  again = λ at r rest fits. rw (law.again at r rest fits) refl;
  takes = λ p x bytes e. law.takes p x bytes (inside_ok pattern p.at _ x e);
}

-- ---- a part many times

times_again : {R A : Type 0} (one : ℕ → FileReading A) (t : R → List ℕ) (F : R → Type 0) (m : R → A)
    → ((k : ℕ) → Spelled (one k) t F m)
    → (first at : ℕ) (rs : List R) (rest : List ℕ) → All F rs
    → times one first (length rs) (record { at = at; left = flat_map t rs ++ rest })
    ≡ Ok (map m rs, record { at = at + length (flat_map t rs); left = rest })
unfolding times
times_again one t F m law first at [] rest all = rw (no_text at) refl
times_again one t F m law first at (r ∷ rs) rest all =
    let n : at + length (t r ++ flat_map t rs) ≡ at + length (t r) + length (flat_map t rs) =
    omega (arith, length-append (t r) (flat_map t rs)) in
    ap (λ (left : List ℕ). times one first (suc (length rs)) (record { at = at; left = left }))
    (append_assoc (t r) (flat_map t rs) rest)
    ∙ rw (
      (law first).again at r (flat_map t rs ++ rest) (All-head F r rs all),
      times_again one t F m law (suc first)
          (at + length (t r)) rs rest (All-tail F r rs all),
      n,
    ) refl

times_takes : {R A : Type 0} (one : ℕ → FileReading A) (t : R → List ℕ) (F : R → Type 0) (m : R → A)
    → ((k : ℕ) → Spelled (one k) t F m)
    → (first n : ℕ) (p : FilePlace) (x : List A × FilePlace) → AreBytes p.left → times one first n p ≡ Ok x
    → Reached (flat_map t) (AllFit n F) (map m) p x
unfolding times
times_takes {A = A} one t F m law first zero p x bytes e =
    let made : List A × FilePlace = ([], p) in
    subst (λ (y : List A × FilePlace). Reached (flat_map t) (AllFit 0 F) (map m) p y) (ok_is made x e)
    (record { raw = []; fits = record { count = refl; each = All-nil F }; parts = refl; value = refl; bytes = bytes })
times_takes {A = A} one t F m law first (suc n) p x bytes e =
    let a = bind_ok (one first p) _ x e in
    let s = (law first).takes p a.0 bytes a.1 in
    let b = bind_ok (times one (suc first) n a.0.1) _ x a.2 in
    let r = times_takes one t F m law (suc first) n a.0.1 b.0 s.bytes b.1 in
    let made : List A × FilePlace = (a.0.0 ∷ b.0.0, b.0.1) in
    subst (λ (y : List A × FilePlace). Reached (flat_map t) (AllFit (suc n) F) (map m) p y) (ok_is made x b.2)
    (record {
      raw = s.raw ∷ r.raw;
      fits = record { count = ap suc r.fits.count; each = All-cons F s.raw r.raw s.fits r.fits.each };
      parts =
          s.parts ∙ ap (λ (l : List ℕ). t s.raw ++ l) r.parts
          ∙ sym (append_assoc (t s.raw) (flat_map t r.raw) b.0.1.left);
      value = ap (λ (v : A). v ∷ map m r.raw) s.value ∙ ap (λ (l : List A). a.0.0 ∷ l) r.value;
      bytes = r.bytes;
    })

pub times_spelled : {R A : Type 0} (one : ℕ → FileReading A) (t : R → List ℕ) (F : R → Type 0) (m : R → A)
    → ((k : ℕ) → Spelled (one k) t F m)
    → (first n : ℕ) → Spelled (times one first n) (flat_map t) (AllFit n F) (map m)
times_spelled {A = A} one t F m law first n = record {
  again =
      λ at rs rest fits.
      subst
      (λ (k : ℕ).
      times one first k (record { at = at; left = flat_map t rs ++ rest })
      ≡ Ok (map m rs, record { at = at + length (flat_map t rs); left = rest })) fits.count
      (times_again one t F m law first at rs rest fits.each);
  takes = λ p x bytes e. times_takes one t F m law first n p x bytes e;
}

-- ---- a part that answers alike

pub alike_spelled : {R A : Type 0} (one other : FileReading A) (t : R → List ℕ) (F : R → Type 0) (m : R → A)
    → Alike one other → Spelled other t F m → Spelled one t F m
alike_spelled one other t F m same law = record {
  again = λ at r rest fits. same (record { at = at; left = t r ++ rest }) ∙ law.again at r rest fits;
  takes = λ p x bytes e. law.takes p x bytes (sym (same p) ∙ e);
}
