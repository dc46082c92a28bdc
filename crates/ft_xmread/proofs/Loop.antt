-- Reading parts one after the other, as a loop does.
use Rattle.std.proofs.Common.{◌≡◌, ℕ, suc, ◌-◌, ◌+◌, ◌≤◌, ◌<◌, List, [], ◌∷◌, ◌++◌, Result, Ok, Err, refl, sym, ap, ◌∙◌, append_assoc, arith}
use Rattle.std.proofs.lemmas.List.{append-nil}
use Rattle.ft_xmread.specs.declared.fault.XmFault.{XmFault}
use Rattle.ft_xmread.specs.declared.fault.XmFault.TheVariants as faults
use Rattle.ft_xmread.specs.Reader.{FilePlace, FileReading, ◌>>=◌, FileFails, times}

-- what was read before, and what is still read
abbrev pub with_front : {A : Type 0} → List A → Result (List A × FilePlace) XmFault → Result (List A × FilePlace) XmFault
with_front front read = read >>= λ x. Ok (front ++ x.0, x.1)

pub regroup : {A : Type 0} (front : List A) (x : A) (read : Result (List A × FilePlace) XmFault)
    → with_front front (read >>= λ y. Ok (x ∷ y.0, y.1)) ≡ with_front (front ++ x ∷ []) read
regroup {A = A} front x (Ok y) = ap (λ (xs : List A). Ok (xs, y.1)) (simp append_assoc)
regroup front x (Err f) = refl

pub goes_on : {A : Type 0} (one : ℕ → FileReading A) (front : List A) (count i : ℕ) (p : FilePlace) (x : A) (after : FilePlace)
    (total : Result (List A × FilePlace) XmFault) → i < count → one i p ≡ Ok (x, after)
    → with_front front (times one i (count - i) p) ≡ total
    → with_front (front ++ x ∷ []) (times one (i + 1) (count - (i + 1)) after) ≡ total
unfolding times
goes_on {A = A} one front count i p x after total lt h so_far =
    let k : count - i ≡ suc (count - (i + 1)) = omega arith in
    let next : suc i ≡ i + 1 = omega arith in
    let step : with_front front (times one i (count - i) p)
    ≡ with_front (front ++ x ∷ []) (times one (suc i) (count - (i + 1)) after) =
    rw (k, h) (regroup front x (times one (suc i) (count - (i + 1)) after)) in
    sym (step ∙ ap (λ (j : ℕ). with_front (front ++ x ∷ []) (times one j (count - (i + 1)) after)) next) ∙ so_far

ends : {A : Type 0} (one : ℕ → FileReading A) (e : XmFault) (front : List A) (count i : ℕ) (p : FilePlace)
    (total : Result (List A × FilePlace) XmFault) → i < count → one i p ≡ Err e
    → with_front front (times one i (count - i) p) ≡ total → total ≡ Err e
unfolding times
ends one e front count i p total lt h so_far =
    let k : count - i ≡ suc (count - (i + 1)) = omega arith in
    let step : with_front front (times one i (count - i) p) ≡ Err e = rw (k, h) refl in
    sym so_far ∙ step

pub is_done : {A : Type 0} (one : ℕ → FileReading A) (front : List A) (count i : ℕ) (p : FilePlace)
    (total : Result (List A × FilePlace) XmFault) → count ≤ i → with_front front (times one i (count - i) p) ≡ total
    → total ≡ Ok (front, p)
unfolding times
is_done {A = A} one front count i p total le so_far =
    let k : count - i ≡ 0 = omega arith in
    let step : with_front front (times one i (count - i) p) ≡ Ok (front, p) =
    rw k (ap (λ (xs : List A). Ok (xs, p)) (append-nil front)) in
    sym so_far ∙ step

pub fails_on : {A : Type 0} (one : ℕ → FileReading A) (e : XmFault) (front : List A) (count i : ℕ) (p : FilePlace)
    (total : Result (List A × FilePlace) XmFault) → i < count → FileFails e (one i p)
    → with_front front (times one i (count - i) p) ≡ total → FileFails e total
fails_on one faults.NoMemory front count i p total lt h so_far = tt
fails_on one (faults.NotXm at) front count i p total lt h so_far =
    ends one (faults.NotXm at) front count i p total lt h so_far
fails_on one (faults.Version found) front count i p total lt h so_far =
    ends one (faults.Version found) front count i p total lt h so_far
fails_on one (faults.Short at need) front count i p total lt h so_far =
    ends one (faults.Short at need) front count i p total lt h so_far
fails_on one (faults.Count at found) front count i p total lt h so_far =
    ends one (faults.Count at found) front count i p total lt h so_far
fails_on one (faults.Packing pattern found) front count i p total lt h so_far =
    ends one (faults.Packing pattern found) front count i p total lt h so_far
fails_on one (faults.CellOverrun pattern at) front count i p total lt h so_far =
    ends one (faults.CellOverrun pattern at) front count i p total lt h so_far
fails_on one (faults.Stereo instrument sample) front count i p total lt h so_far =
    ends one (faults.Stereo instrument sample) front count i p total lt h so_far
fails_on one (faults.TooLong instrument sample frames) front count i p total lt h so_far =
    ends one (faults.TooLong instrument sample frames) front count i p total lt h so_far
