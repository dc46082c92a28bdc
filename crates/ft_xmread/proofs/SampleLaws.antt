-- The two laws of the samples of an instrument: all headers, and then the data of each.
use Rattle.std.proofs.Common.{◌≡◌, ℕ, ◌+◌, Bool, List, [], ◌∷◌, ◌++◌, length, map, All, suc, Ok, refl, sym, ap, subst, ◌∙◌, append_assoc, arith}
use Rattle.std.specs.Prelude.{nat_lt}
use Rattle.std.specs.List.{flat_map}
use Rattle.std.proofs.lemmas.List.{append-nil, length-append}
use Rattle.std.proofs.lemmas.List.Elements.{All-head, All-tail, All-nil, All-cons}
use Rattle.ft_types.specs.declared.sample.Sample.{Sample}
use Rattle.ft_format.specs.declared.sample.SampleHeader.{SampleHeader}
use Rattle.ft_format.specs.Fields.{IsNumber, AreBytes, IsField, AllFit, FitsWithin}
use Rattle.ft_format.specs.Sample.{sample_header_text, is_stereo, frame_count, SampleHeaderFits, RawSample, RawSampleFits, sample_from}
use Rattle.ft_xmread.specs.declared.fault.XmFault.TheVariants.{Stereo, TooLong}
use Rattle.ft_xmread.specs.Reader.{FilePlace, FileReading, field_at, number_at, and_then, seen, times, in_piece}
use Rattle.ft_xmread.specs.Sample.{sample_fields_at, sample_header_at}
use Rattle.ft_xmread.specs.Instrument.{samples_spelled_at, headers_and_samples_at}
use Rattle.ft_xmread.proofs.Numbers.{not_lt, fits_limit}
use Rattle.ft_xmread.proofs.Chains.{do5, both5, alike5}
use Rattle.ft_xmread.proofs.Lawful.{Lawful, Alike, both, alike_law, next_alike, seen_same, Passes, within_text, bind_ok, ok_is, no_text, field_again, field_law, byte_law, u32_law, pair_law, kept_law, within_law, checked_law, seen_law, refit_law, times_law}
use Rattle.ft_xmread.proofs.Spelled.{Reached, Spelled, same, alike_spelled, lawful_spelled, seen_spelled, recast, both_spelled}

-- ---- a header

abbrev Fields : Type 0
Fields = ℕ × (ℕ × (ℕ × (ℕ × (ℕ × (ℕ × (ℕ × (ℕ × (ℕ × List ℕ))))))))

abbrev fields_of : SampleHeader → Fields
fields_of h = (
  h.length,
  (h.loop_start, (h.loop_len, (h.volume, (h.finetune, (h.kind, (h.panning, (h.relative, (h.skipped, h.name)))))))),
)

abbrev make : Fields → SampleHeader
make x = record {
  length = x.0;
  loop_start = x.1.0;
  loop_len = x.1.1.0;
  volume = x.1.1.1.0;
  finetune = x.1.1.1.1.0;
  kind = x.1.1.1.1.1.0;
  panning = x.1.1.1.1.1.1.0;
  relative = x.1.1.1.1.1.1.1.0;
  skipped = x.1.1.1.1.1.1.1.1.0;
  name = x.1.1.1.1.1.1.1.1.1;
}

abbrev FieldsFit : SampleHeader → Type 0
FieldsFit h = IsNumber 4 h.length × (IsNumber 4 h.loop_start × (IsNumber 4 h.loop_len
    × (IsNumber 1 h.volume × (IsNumber 1 h.finetune × (IsNumber 1 h.kind × (IsNumber 1 h.panning × (IsNumber 1 h.relative × (IsNumber 1 h.skipped × IsField 22 h.name))))))))

-- the last five fields, and those before them one at a time
abbrev last_parts : FileReading (ℕ × (ℕ × (ℕ × (ℕ × List ℕ))))
last_parts = both5 (number_at 1) (number_at 1) (number_at 1) (number_at 1) (field_at 22)

abbrev fields_parts : FileReading SampleHeader
fields_parts =
    seen make
    (both (number_at 4)
    (λ _.
    both (number_at 4)
    (λ _. both (number_at 4) (λ _. both (number_at 1) (λ _. both (number_at 1) (λ _. last_parts))))))

abbrev made : ℕ → ℕ → ℕ → ℕ → ℕ → ℕ → ℕ → ℕ → ℕ → List ℕ → SampleHeader
made length loop_start loop_len volume finetune kind panning relative skipped name = record {
  length = length;
  loop_start = loop_start;
  loop_len = loop_len;
  volume = volume;
  finetune = finetune;
  kind = kind;
  panning = panning;
  relative = relative;
  skipped = skipped;
  name = name;
}

abbrev last5 : ℕ → ℕ → ℕ → ℕ → ℕ → FileReading SampleHeader
last5 a b d e f = do5 (number_at 1) (number_at 1) (number_at 1) (number_at 1) (field_at 22) (made a b d e f)

abbrev last6 : ℕ → ℕ → ℕ → ℕ → FileReading SampleHeader
last6 a b d e = and_then (number_at 1) (last5 a b d e)

abbrev last7 : ℕ → ℕ → ℕ → FileReading SampleHeader
last7 a b d = and_then (number_at 1) (last6 a b d)

abbrev last8 : ℕ → ℕ → FileReading SampleHeader
last8 a b = and_then (number_at 4) (last7 a b)

abbrev last9 : ℕ → FileReading SampleHeader
last9 a = and_then (number_at 4) (last8 a)

abbrev Last6 : Type 0
Last6 = ℕ × (ℕ × (ℕ × (ℕ × (ℕ × List ℕ))))

alike6 : (a b d e : ℕ)
    → Alike (last6 a b d e) (seen (λ (x : Last6). make (a, (b, (d, (e, x))))) (both (number_at 1) (λ _. last_parts)))
alike6 a b d e = next_alike (λ (x : Last6). make (a, (b, (d, (e, x))))) (number_at 1) (λ _. last_parts) (last5 a b d e)
    (λ f. alike5 (number_at 1) (number_at 1) (number_at 1) (number_at 1) (field_at 22) (made a b d e f))

alike7 : (a b d : ℕ)
    → Alike (last7 a b d)
    (seen (λ (x : ℕ × Last6). make (a, (b, (d, x))))
    (both (number_at 1) (λ _. both (number_at 1) (λ _. last_parts))))
alike7 a b d =
    next_alike (λ (x : ℕ × Last6). make (a, (b, (d, x)))) (number_at 1) (λ _. both (number_at 1) (λ _. last_parts))
    (last6 a b d) (alike6 a b d)

alike8 : (a b : ℕ)
    → Alike (last8 a b)
    (seen (λ (x : ℕ × (ℕ × Last6)). make (a, (b, x)))
    (both (number_at 4) (λ _. both (number_at 1) (λ _. both (number_at 1) (λ _. last_parts)))))
alike8 a b =
    next_alike (λ (x : ℕ × (ℕ × Last6)). make (a, (b, x))) (number_at 4)
    (λ _. both (number_at 1) (λ _. both (number_at 1) (λ _. last_parts))) (last7 a b) (alike7 a b)

alike9 : (a : ℕ)
    → Alike (last9 a)
    (seen (λ (x : ℕ × (ℕ × (ℕ × Last6))). make (a, x))
    (both (number_at 4)
    (λ _. both (number_at 4) (λ _. both (number_at 1) (λ _. both (number_at 1) (λ _. last_parts))))))
alike9 a =
    next_alike (λ (x : ℕ × (ℕ × (ℕ × Last6))). make (a, x)) (number_at 4)
    (λ _. both (number_at 4) (λ _. both (number_at 1) (λ _. both (number_at 1) (λ _. last_parts)))) (last8 a) (alike8 a)

fields_alike : Alike sample_fields_at fields_parts
unfolding sample_fields_at
fields_alike =
    next_alike make (number_at 4)
    (λ _.
    both (number_at 4)
    (λ _. both (number_at 4) (λ _. both (number_at 1) (λ _. both (number_at 1) (λ _. last_parts))))) last9 alike9

parts_fields_law : Lawful fields_parts sample_header_text FieldsFit
unfolding sample_header_text
parts_fields_law = kept_law make fields_of _ _ _
    (pair_law _ _ _ _ _ _ u32_law (pair_law _ _ _ _ _ _ u32_law (pair_law _ _ _ _ _ _ u32_law (pair_law _ _ _ _ _ _
    byte_law (pair_law _ _ _ _ _ _ byte_law
    (pair_law _ _ _ _ _ _ byte_law (pair_law _ _ _ _ _ _ byte_law (pair_law _ _ _ _ _ _ byte_law (pair_law _ _ _ _ _ _ byte_law (field_law 22))))))))))
    (λ _ _. refl) (λ _. refl)

fields_law : Lawful sample_fields_at sample_header_text FieldsFit
fields_law = alike_law sample_fields_at fields_parts sample_header_text FieldsFit fields_alike parts_fields_law

abbrev name_fits : (h : SampleHeader) → FieldsFit h → IsField 22 h.name
name_fits h f = f.1.1.1.1.1.1.1.1.1

fields_length : (h : SampleHeader) → length h.name ≡ 22 → length (sample_header_text h) ≡ 40
unfolding sample_header_text
fields_length h e = omega (arith, e)

nothing : (l m : List ℕ) (n : ℕ) → length (l ++ m) ≡ n → length l ≡ n → m ≡ []
nothing l [] n e f = refl
nothing l (x ∷ m) n e f = absurd (omega (arith, length-append l (x ∷ m), e, f))

-- 40 bytes leave no surplus
whole_law :
    Lawful (seen (λ (x : SampleHeader × List ℕ). x.0) (in_piece 40 sample_fields_at)) sample_header_text FieldsFit
whole_law =
    seen_law (λ (x : SampleHeader × List ℕ). x.0) (λ h. (h, [])) (in_piece 40 sample_fields_at)
    (within_text sample_header_text) (FitsWithin 40 sample_header_text FieldsFit) sample_header_text FieldsFit
    (within_law 40 sample_fields_at sample_header_text FieldsFit fields_law)
    (λ x f. let none = nothing (sample_header_text x.0) x.1 40 f.whole (fields_length x.0 (name_fits x.0 f.fits).0) in
    (f.fits, ap (λ (l : List ℕ). sample_header_text x.0 ++ l) none ∙ append-nil (sample_header_text x.0)))
    (λ h g. (
      record { fits = g; whole = ap length (append-nil (sample_header_text h)) ∙ fields_length h (name_fits h g).0; bytes = λ i. omega arith },
      refl,
      append-nil (sample_header_text h),
    ))

abbrev too_long : SampleHeader → Bool
too_long header = nat_lt 3932160 (frame_count header)

header_law : (instrument number : ℕ) → Lawful (sample_header_at instrument number) sample_header_text SampleHeaderFits
unfolding sample_header_at
header_law instrument number =
    refit_law _ sample_header_text (Passes (Passes FieldsFit is_stereo) too_long) SampleHeaderFits
    (checked_law too_long (λ _ header. TooLong instrument number (frame_count header)) _ sample_header_text
    (Passes FieldsFit is_stereo)
    (checked_law is_stereo (λ _ _. Stereo instrument number) _ sample_header_text FieldsFit whole_law))
    (λ x f. let a = f.0.0 in record {
      length = a.0;
      loop_start = a.1.0;
      loop_len = a.1.1.0;
      volume = a.1.1.1.0;
      finetune = a.1.1.1.1.0;
      kind = a.1.1.1.1.1.0;
      panning = a.1.1.1.1.1.1.0;
      relative = a.1.1.1.1.1.1.1.0;
      skipped = a.1.1.1.1.1.1.1.1.0;
      name = name_fits x a;
      mono = f.0.1;
      few_frames = fits_limit 3932160 (frame_count x) f.1;
    })
    (λ x g. (
      ((g.length, (g.loop_start, (g.loop_len, (g.volume, (g.finetune, (g.kind, (g.panning, (g.relative, (g.skipped, g.name))))))))), g.mono),
      not_lt 3932160 (frame_count x) g.few_frames,
    ))

-- ---- the data

abbrev header_of : RawSample → SampleHeader
header_of raw = raw.header

abbrev steps_of : RawSample → List ℕ
steps_of raw = raw.steps

abbrev mean_of : RawSample → Sample
mean_of raw = sample_from raw.header raw.steps

abbrev StepsFit : RawSample → Type 0
StepsFit raw = IsField raw.header.length raw.steps

-- the data of samples with these headers
pub record DataFits (headers : List SampleHeader) (raws : List RawSample) : Type 0 where
  pub headed : map header_of raws ≡ headers
  pub each : All StepsFit raws

samples_again : (at : ℕ) (raws : List RawSample) (rest : List ℕ) → All StepsFit raws
    → samples_spelled_at (map header_of raws) (record { at = at; left = flat_map steps_of raws ++ rest })
    ≡ Ok (map mean_of raws, record { at = at + length (flat_map steps_of raws); left = rest })
unfolding samples_spelled_at
samples_again at [] rest all = rw (no_text at) refl
samples_again at (raw ∷ raws) rest all =
    let fits = All-head StepsFit raw raws all in
    let n : at + length (raw.steps ++ flat_map steps_of raws) ≡ at + length raw.steps + length (flat_map steps_of raws) =
    omega (arith, length-append raw.steps (flat_map steps_of raws)) in
    ap (λ (left : List ℕ). samples_spelled_at (map header_of (raw ∷ raws)) (record { at = at; left = left }))
    (append_assoc raw.steps (flat_map steps_of raws) rest)
    ∙ rw (
      field_again at raw.steps (flat_map steps_of raws ++ rest) raw.header.length fits.0,
      samples_again
          (at + length raw.steps) raws rest (All-tail StepsFit raw raws all),
      n,
    ) refl

samples_takes : (headers : List SampleHeader) (p : FilePlace) (x : List Sample × FilePlace) → AreBytes p.left
    → samples_spelled_at headers p ≡ Ok x → Reached (flat_map steps_of) (DataFits headers) (map mean_of) p x
unfolding samples_spelled_at
samples_takes [] p x bytes e =
    let made : List Sample × FilePlace = ([], p) in
    subst (λ (y : List Sample × FilePlace). Reached (flat_map steps_of) (DataFits []) (map mean_of) p y) (ok_is made x e)
    (record {
      raw = [];
      fits = record { headed = refl; each = All-nil StepsFit };
      parts = refl;
      value = refl;
      bytes = bytes;
    })
samples_takes (header ∷ headers) p x bytes e =
    let a = bind_ok (field_at header.length p) _ x e in
    let s = (field_law header.length).takes p a.0 bytes a.1 in
    let b = bind_ok (samples_spelled_at headers a.0.1) _ x a.2 in
    let r = samples_takes headers a.0.1 b.0 s.bytes b.1 in
    let raw : RawSample = record { header = header; steps = a.0.0 } in
    let made : List Sample × FilePlace = (sample_from header a.0.0 ∷ b.0.0, b.0.1) in
    subst (λ (y : List Sample × FilePlace). Reached (flat_map steps_of) (DataFits (header ∷ headers)) (map mean_of) p y)
    (ok_is made x b.2)
    (record {
      raw = raw ∷ r.raw;
      fits = record {
        headed = ap (λ (l : List SampleHeader). header ∷ l) r.fits.headed;
        each = All-cons StepsFit raw r.raw s.fits r.fits.each;
      };
      parts =
          s.parts ∙ ap (λ (l : List ℕ). a.0.0 ++ l) r.parts
          ∙ sym (append_assoc a.0.0 (flat_map steps_of r.raw) b.0.1.left);
      value = ap (λ (l : List Sample). sample_from header a.0.0 ∷ l) r.value;
      bytes = r.bytes;
    })

samples_law : (headers : List SampleHeader)
    → Spelled (samples_spelled_at headers) (flat_map steps_of) (DataFits headers) (map mean_of)
samples_law headers = record {
  again =
      λ at raws rest fits.
      subst
      (λ (l : List SampleHeader).
      samples_spelled_at l (record { at = at; left = flat_map steps_of raws ++ rest })
      ≡ Ok (map mean_of raws, record { at = at + length (flat_map steps_of raws); left = rest })) fits.headed
      (samples_again at raws rest fits.each);
  takes = λ p x bytes e. samples_takes headers p x bytes e;
}

-- ---- headers and data

abbrev Parts : Type 0
Parts = List SampleHeader × List RawSample

abbrev parts_text : Parts → List ℕ
parts_text x = flat_map sample_header_text x.0 ++ flat_map steps_of x.1

abbrev PartsFit : ℕ → Parts → Type 0
PartsFit count x = AllFit count SampleHeaderFits x.0 × DataFits x.0 x.1

abbrev parts_mean : Parts → List SampleHeader × List Sample
parts_mean x = (x.0, map mean_of x.1)

parts_law : (number count : ℕ)
    → Spelled (both (times (sample_header_at number) 0 count) samples_spelled_at) parts_text (PartsFit count) parts_mean
parts_law number count = both_spelled (times (sample_header_at number) 0 count) samples_spelled_at
    (flat_map sample_header_text) (λ _ raws. flat_map steps_of raws) (AllFit count SampleHeaderFits)
    (λ headers. DataFits headers) same (λ _. map mean_of)
    (lawful_spelled (times (sample_header_at number) 0 count) (flat_map sample_header_text)
    (AllFit count SampleHeaderFits)
    (times_law (sample_header_at number) sample_header_text SampleHeaderFits (header_law number) 0 count))
    (λ headers _. samples_law headers)

-- the text of the headers of samples
abbrev headers_text : List RawSample → List ℕ
headers_text raws = flat_map (λ raw. sample_header_text raw.header) raws

same_headers : (raws : List RawSample) → flat_map sample_header_text (map header_of raws) ≡ headers_text raws
same_headers [] = refl
same_headers (raw ∷ raws) = ap (λ (l : List ℕ). sample_header_text raw.header ++ l) (same_headers raws)

heads_fit : (raws : List RawSample) → All RawSampleFits raws → All SampleHeaderFits (map header_of raws)
heads_fit [] all = All-nil SampleHeaderFits
heads_fit (raw ∷ raws) all =
    All-cons SampleHeaderFits raw.header (map header_of raws) (All-head RawSampleFits raw raws all).header
    (heads_fit raws (All-tail RawSampleFits raw raws all))

steps_fit : (raws : List RawSample) → All RawSampleFits raws → All StepsFit raws
steps_fit raws all = λ k d lt. (all k d lt).steps

raws_fit : (raws : List RawSample) → All SampleHeaderFits (map header_of raws) → All StepsFit raws
    → All RawSampleFits raws
raws_fit [] heads all = All-nil RawSampleFits
raws_fit (raw ∷ raws) heads all = All-cons RawSampleFits raw raws
    (record {
      header = All-head SampleHeaderFits raw.header (map header_of raws) heads;
      steps = All-head StepsFit raw raws all;
    })
    (raws_fit raws (All-tail SampleHeaderFits raw.header (map header_of raws) heads) (All-tail StepsFit raw raws all))

count_headers : (raws : List RawSample) → length (map header_of raws) ≡ length raws
count_headers [] = refl
count_headers (raw ∷ raws) = ap suc (count_headers raws)

abbrev pub samples_text : List RawSample → List ℕ
samples_text raws = headers_text raws ++ flat_map (λ raw. raw.steps) raws

seen_parts : (count : ℕ) (x : Parts) → PartsFit count x
    → AllFit count RawSampleFits x.1 × (parts_text x ≡ samples_text x.1) × (map mean_of x.1 ≡ map mean_of x.1)
seen_parts count x f =
    let heads = subst (λ (l : List SampleHeader). AllFit count SampleHeaderFits l) (sym f.1.headed) f.0 in (
      record { count = sym (count_headers x.1) ∙ heads.count; each = raws_fit x.1 heads.each f.1.each },
      ap (λ (l : List SampleHeader). flat_map sample_header_text l ++ flat_map steps_of x.1) (sym f.1.headed)
          ∙ ap (λ (l : List ℕ). l ++ flat_map steps_of x.1) (same_headers x.1),
      refl,
    )

parts_seen : (count : ℕ) (raws : List RawSample) → AllFit count RawSampleFits raws
    → PartsFit count (map header_of raws, raws) × (samples_text raws ≡ parts_text (map header_of raws, raws))
    × (map mean_of raws ≡ map mean_of raws)
parts_seen count raws g = (
  (
    record { count = count_headers raws ∙ g.count; each = heads_fit raws g.each },
    record { headed = refl; each = steps_fit raws g.each },
  ),
  ap (λ (l : List ℕ). l ++ flat_map steps_of raws) (sym (same_headers raws)),
  refl,
)

all_alike : (number count : ℕ)
    → Alike (headers_and_samples_at number count)
    (seen (λ (x : List SampleHeader × List Sample). x.1) (both (times (sample_header_at number) 0 count) samples_spelled_at))
unfolding headers_and_samples_at
all_alike number count =
    next_alike (λ (x : List SampleHeader × List Sample). x.1) (times (sample_header_at number) 0 count) samples_spelled_at
    samples_spelled_at (λ headers. seen_same (samples_spelled_at headers))

pub samples_of_law : (number count : ℕ)
    → Spelled (headers_and_samples_at number count) samples_text (AllFit count RawSampleFits) (map mean_of)
samples_of_law number count =
    alike_spelled (headers_and_samples_at number count) _ samples_text (AllFit count RawSampleFits) (map mean_of)
    (all_alike number count) (recast (λ (x : Parts). x.1) (λ raws. (map header_of raws, raws)) _ parts_text
    (PartsFit count) (λ x. map mean_of x.1) samples_text (AllFit count RawSampleFits) (map mean_of)
    (seen_spelled (λ (x : List SampleHeader × List Sample). x.1)
    (both (times (sample_header_at number) 0 count) samples_spelled_at) parts_text (PartsFit count) parts_mean
    (parts_law number count))
    (seen_parts count) (parts_seen count))
