-- Reading the data of samples one after the other, as a loop does.
use Rattle.std.proofs.Common.{◌≡◌, ℕ, ◌+◌, ◌≤◌, ◌<◌, List, [], ◌∷◌, ◌++◌, length, get_or, drop, Result, Ok, Err, refl, sym, ap, ◌∙◌}
use Rattle.std.proofs.lemmas.List.{append-nil, drop_more, drop_all}
use Rattle.ft_types.specs.declared.sample.Sample.{Sample}
use Rattle.ft_format.specs.declared.sample.SampleHeader.{SampleHeader}
use Rattle.ft_format.specs.Sample.{sample_from}
use Rattle.ft_xmread.specs.declared.fault.XmFault.{XmFault}
use Rattle.ft_xmread.specs.declared.fault.XmFault.TheVariants as faults
use Rattle.ft_xmread.specs.Reader.{FilePlace, FileFails, field_at}
use Rattle.ft_xmread.specs.Instrument.{samples_spelled_at}
use Rattle.ft_xmread.proofs.Loop.{with_front, regroup}

-- what is past the last header
abbrev pub no_header : SampleHeader
no_header =
    record {
      length = 0;
      loop_start = 0;
      loop_len = 0;
      volume = 0;
      finetune = 0;
      kind = 0;
      panning = 0;
      relative = 0;
      skipped = 0;
      name = [];
    }

pub samples_go_on : (headers : List SampleHeader) (front : List Sample) (i : ℕ) (p : FilePlace) (steps : List ℕ)
    (after : FilePlace) (total : Result (List Sample × FilePlace) XmFault) → i < length headers
    → field_at (get_or headers i no_header).length p ≡ Ok (steps, after)
    → with_front front (samples_spelled_at (drop i headers) p) ≡ total
    → with_front (front ++ sample_from (get_or headers i no_header) steps ∷ [])
    (samples_spelled_at (drop (i + 1) headers) after) ≡ total
unfolding samples_spelled_at
samples_go_on headers front i p steps after total lt h so_far =
    let step : with_front front (samples_spelled_at (drop i headers) p)
    ≡ with_front (front ++ sample_from (get_or headers i no_header) steps ∷ [])
    (samples_spelled_at (drop (i + 1) headers) after) =
    rw (drop_more headers i no_header lt, h)
    (regroup front (sample_from (get_or headers i no_header) steps) (samples_spelled_at (drop (i + 1) headers) after)) in
    sym step ∙ so_far

samples_end : (headers : List SampleHeader) (e : XmFault) (front : List Sample) (i : ℕ) (p : FilePlace)
    (total : Result (List Sample × FilePlace) XmFault) → i < length headers
    → with_front front (samples_spelled_at (drop i headers) p) ≡ total → field_at (get_or headers i no_header).length p ≡ Err e
    → total ≡ Err e
unfolding samples_spelled_at
samples_end headers e front i p total lt so_far h =
    let step : with_front front (samples_spelled_at (drop i headers) p) ≡ Err e =
    rw (drop_more headers i no_header lt, h) refl in
    sym so_far ∙ step

-- a fault of a part that is the fault of the whole
fails_alike : {A B : Type 0} (one : Result A XmFault) (total : Result B XmFault) (e : XmFault)
    → (one ≡ Err e → total ≡ Err e) → FileFails e one → FileFails e total
fails_alike one total faults.NoMemory same h = tt
fails_alike one total (faults.NotXm at) same h = same h
fails_alike one total (faults.Version found) same h = same h
fails_alike one total (faults.Short at need) same h = same h
fails_alike one total (faults.Count at found) same h = same h
fails_alike one total (faults.Packing pattern found) same h = same h
fails_alike one total (faults.CellOverrun pattern at) same h = same h
fails_alike one total (faults.Stereo instrument sample) same h = same h
fails_alike one total (faults.TooLong instrument sample frames) same h = same h

pub samples_fail_on : (headers : List SampleHeader) (e : XmFault) (front : List Sample) (i : ℕ) (p : FilePlace)
    (total : Result (List Sample × FilePlace) XmFault) → i < length headers
    → FileFails e (field_at (get_or headers i no_header).length p)
    → with_front front (samples_spelled_at (drop i headers) p) ≡ total → FileFails e total
samples_fail_on headers e front i p total lt h so_far =
    fails_alike (field_at (get_or headers i no_header).length p) total e
    (samples_end headers e front i p total lt so_far) h

pub samples_done : (headers : List SampleHeader) (front : List Sample) (i : ℕ) (p : FilePlace)
    (total : Result (List Sample × FilePlace) XmFault) → length headers ≤ i
    → with_front front (samples_spelled_at (drop i headers) p) ≡ total → total ≡ Ok (front, p)
unfolding samples_spelled_at
samples_done headers front i p total le so_far =
    let step : with_front front (samples_spelled_at (drop i headers) p) ≡ Ok (front, p) =
    rw (drop_all i headers le) (ap (λ (xs : List Sample). Ok (xs, p)) (append-nil front)) in
    sym so_far ∙ step
