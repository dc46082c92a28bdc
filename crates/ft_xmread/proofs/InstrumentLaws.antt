-- The two laws of an instrument.
use Rattle.std.proofs.Common.{◌≡◌, ℕ, ◌-◌, ◌≤◌, Bool, true, false, not, cond, List, [], ◌++◌, map, refl, arith}
use Rattle.std.specs.Prelude.{nat_lt, nat_eq, ◌&&◌}
use Rattle.std.proofs.lemmas.Bool.Decides.{nat_tests}
use Rattle.ft_types.specs.declared.instrument.Instrument.{Instrument}
use Rattle.ft_types.specs.declared.sample.Sample.{Sample}
use Rattle.ft_format.specs.declared.instrument.InstrumentHead.{InstrumentHead}
use Rattle.ft_format.specs.declared.instrument.Extra.{Extra}
use Rattle.ft_format.specs.declared.layout.TheConstants.{NO_EXTRA}
use Rattle.ft_format.specs.Fields.{four_bytes, IsNumber, IsField, AllFit, FitsWithin}
use Rattle.ft_format.specs.Sample.{RawSample, RawSampleFits, sample_from}
use Rattle.ft_format.specs.Instrument.{head_text, HeadFits, extra_text, ExtraFits, RawRest, RawInstrument, rest_text, instrument_text, LongFits, ShortFits, RestFits, RawInstrumentFits, instrument_with, instrument_of}
use Rattle.ft_xmread.specs.declared.fault.XmFault.TheVariants.{Count}
use Rattle.ft_xmread.specs.Reader.{FileReading, field_at, number_at, count_at, checked, seen, in_piece}
use Rattle.ft_xmread.specs.Instrument.{head_at, is_cut, sized_head_at, extra_at, headers_and_samples_at, short_rest_at, long_rest_at, rest_at, instrument_spelled_at}
use Rattle.ft_xmread.proofs.Numbers.{not_lt, fits_limit}
use Rattle.ft_xmread.proofs.Chains.{both4, alike2, alike4}
use Rattle.ft_xmread.proofs.Lawful.{Lawful, Alike, both, alike_law, next_alike, seen_same, IsCount, Passes, field_law, byte_law, u32_law, count_law, pair_law, kept_law, checked_law, refit_law}
use Rattle.ft_xmread.proofs.Spelled.{Spelled, same, alike_spelled, lawful_spelled, seen_spelled, recast, both_spelled, pair_spelled, within_spelled}
use Rattle.ft_xmread.proofs.ExtraLaws.{extra_law}
use Rattle.ft_xmread.proofs.SampleLaws.{samples_text, samples_of_law}

-- ---- the head

abbrev Head : Type 0
Head = InstrumentHead

abbrev low_size : ℕ → Bool
low_size size = nat_lt size 29

abbrev FieldsFit : Head → Type 0
FieldsFit head =
    Passes (IsNumber 4) low_size head.size × (IsField 22 head.name × (IsNumber 1 head.kind × IsCount 16 head.samples))

abbrev make_head : ℕ → List ℕ → ℕ → ℕ → Head
make_head size name kind samples = record { size = size; name = name; kind = kind; samples = samples }

abbrev head_parts : FileReading Head
head_parts =
    seen (λ x. make_head x.0 x.1.0 x.1.1.0 x.1.1.1)
    (both4 (checked low_size Count (number_at 4)) (field_at 22) (number_at 1) (count_at 16))

head_alike : Alike head_at head_parts
unfolding head_at
head_alike = alike4 (checked low_size Count (number_at 4)) (field_at 22) (number_at 1) (count_at 16) make_head

parts_head_law : Lawful head_parts head_text FieldsFit
parts_head_law = kept_law _ (λ head. (head.size, (head.name, (head.kind, head.samples)))) _ _ _
    (pair_law _ _ _ _ _ _ (checked_law low_size Count (number_at 4) four_bytes (IsNumber 4) u32_law)
    (pair_law _ _ _ _ _ _ (field_law 22) (pair_law _ _ _ _ _ _ byte_law (count_law 16))))
    (λ _ _. refl) (λ _. refl)

fields_law : Lawful head_at head_text FieldsFit
fields_law = alike_law head_at head_parts head_text FieldsFit head_alike parts_head_law

long_head : (samples size : ℕ) → (not (nat_eq samples 0) && nat_lt size 241) ≡ false → 1 ≤ samples → 241 ≤ size
long_head samples size e some = grind (arith, nat_tests)

not_cut : (samples size : ℕ) → (1 ≤ samples → 241 ≤ size) → (not (nat_eq samples 0) && nat_lt size 241) ≡ false
not_cut samples size long = grind (arith, nat_tests)

head_law : Lawful sized_head_at head_text HeadFits
unfolding sized_head_at
head_law = refit_law _ head_text (Passes FieldsFit is_cut) HeadFits
    (checked_law is_cut (λ at head. Count at head.size) head_at head_text FieldsFit fields_law)
    (λ x f. record {
      size = f.0.0.0;
      whole = fits_limit x.size 29 f.0.0.1;
      long = long_head x.samples x.size f.1;
      name = f.0.1.0;
      kind = f.0.1.1.0;
      samples = fits_limit 16 x.samples f.0.1.1.1.1;
    })
    (λ x g. (
      ((g.size, not_lt x.size 29 g.whole), (g.name, (g.kind, (omega (arith, g.samples), not_lt 16 x.samples g.samples)))),
      not_cut x.samples x.size g.long,
    ))

-- ---- what follows the first 29 bytes

abbrev mean_of : RawSample → Sample
mean_of raw = sample_from raw.header raw.steps

abbrev rest_mean : Head → RawRest → Instrument
rest_mean head rest = instrument_with head rest.extra (map mean_of rest.samples)

abbrev short_at : Head → FileReading Instrument
short_at head = seen (λ (_ : List ℕ). instrument_with head NO_EXTRA []) (field_at (head.size - 29))

abbrev short_of : List ℕ → RawRest
short_of skipped = record { extra = NO_EXTRA; skipped = skipped; samples = [] }

short_means : (head : Head) (extra : Extra) (samples : List RawSample) → extra ≡ NO_EXTRA → samples ≡ []
    → instrument_with head extra (map mean_of samples) ≡ instrument_with head NO_EXTRA []
short_means head extra samples e f = rw (e, f) refl

short_law : (head : Head) → Spelled (short_at head) (rest_text true) (ShortFits head.size) (rest_mean head)
short_law head =
    recast short_of (λ rest. rest.skipped) (short_at head) (λ l. l) (IsField (head.size - 29))
    (λ _. instrument_with head NO_EXTRA []) (rest_text true) (ShortFits head.size) (rest_mean head)
    (seen_spelled (λ (_ : List ℕ). instrument_with head NO_EXTRA []) (field_at (head.size - 29)) (λ l. l)
    (IsField (head.size - 29)) same
    (lawful_spelled (field_at (head.size - 29)) (λ l. l) (IsField (head.size - 29)) (field_law (head.size - 29))))
    (λ x f. (record { extra = refl; skipped = f; samples = refl }, refl, refl))
    (λ y g. (g.skipped, refl, short_means head y.extra y.samples g.extra g.samples))

abbrev Long : Type 0
Long = (Extra × List ℕ) × List RawSample

abbrev long_text : Long → List ℕ
long_text x = (extra_text x.0.0 ++ x.0.1) ++ samples_text x.1

abbrev PartsFit : Head → Long → Type 0
PartsFit head x = FitsWithin (head.size - 29) extra_text ExtraFits x.0 × AllFit head.samples RawSampleFits x.1

abbrev long_mean : Long → (Extra × List ℕ) × List Sample
long_mean x = ((x.0.0, x.0.1), map mean_of x.1)

abbrev parts_at : ℕ → Head → FileReading ((Extra × List ℕ) × List Sample)
parts_at number head = both (in_piece (head.size - 29) extra_at) (λ _. headers_and_samples_at number head.samples)

parts_law : (number : ℕ) (head : Head) → Spelled (parts_at number head) long_text (PartsFit head) long_mean
parts_law number head = pair_spelled (in_piece (head.size - 29) extra_at) (headers_and_samples_at number head.samples)
    (λ (x : Extra × List ℕ). extra_text x.0 ++ x.1) samples_text (FitsWithin (head.size - 29) extra_text ExtraFits)
    (AllFit head.samples RawSampleFits) (λ x. (x.0, x.1)) (map mean_of)
    (within_spelled (head.size - 29) extra_at extra_text ExtraFits same
    (lawful_spelled extra_at extra_text ExtraFits extra_law))
    (samples_of_law number head.samples)

abbrev long_from : Head → (Extra × List ℕ) × List Sample → Instrument
long_from head x = instrument_with head x.0.0 x.1

abbrev long_of : Long → RawRest
long_of x = record { extra = x.0.0; skipped = x.0.1; samples = x.1 }

abbrev long_parts : RawRest → Long
long_parts rest = ((rest.extra, rest.skipped), rest.samples)

long_law : (number : ℕ) (head : Head)
    → Spelled (seen (long_from head) (parts_at number head)) (rest_text false) (LongFits head.size head.samples)
    (rest_mean head)
long_law number head =
    recast long_of long_parts (seen (long_from head) (parts_at number head)) long_text (PartsFit head)
    (λ x. long_from head (long_mean x)) (rest_text false) (LongFits head.size head.samples) (rest_mean head)
    (seen_spelled (long_from head) (parts_at number head) long_text (PartsFit head) long_mean (parts_law number head))
    (λ x f. (record { extra = f.0; samples = f.1 }, refl, refl))
    (λ y g. ((g.extra, g.samples), refl, refl))

abbrev rest_if : Bool → ℕ → Head → FileReading Instrument
rest_if none number head p = cond none (short_rest_at head p) (long_rest_at number head p)

short_alike : (head : Head) → Alike (short_rest_at head) (short_at head)
short_alike head p = refl

long_alike : (number : ℕ) (head : Head)
    → Alike (long_rest_at number head) (seen (long_from head) (parts_at number head))
long_alike number head =
    alike2 (in_piece (head.size - 29) extra_at) (headers_and_samples_at number head.samples)
    (λ extra samples. instrument_with head extra.0 samples)

short_rest_law : (head : Head) → Spelled (short_rest_at head) (rest_text true) (ShortFits head.size) (rest_mean head)
short_rest_law head =
    alike_spelled (short_rest_at head) (short_at head) (rest_text true) (ShortFits head.size) (rest_mean head)
    (short_alike head) (short_law head)

long_rest_law : (number : ℕ) (head : Head)
    → Spelled (long_rest_at number head) (rest_text false) (LongFits head.size head.samples) (rest_mean head)
long_rest_law number head =
    alike_spelled (long_rest_at number head) (seen (long_from head) (parts_at number head)) (rest_text false)
    (LongFits head.size head.samples) (rest_mean head) (long_alike number head) (long_law number head)

rest_if_law : (none : Bool) (number : ℕ) (head : Head)
    → Spelled (rest_if none number head) (rest_text none) (RestFits none head) (rest_mean head)
rest_if_law true number head = record {
  again = λ at raw rest fits. (short_rest_law head).again at raw rest fits;
  takes =
      λ p x bytes e.
      let t = (short_rest_law head).takes p x bytes e in
      record { raw = t.raw; fits = t.fits; parts = t.parts; value = t.value; bytes = t.bytes };
}
rest_if_law false number head = record {
  again = λ at raw rest fits. (long_rest_law number head).again at raw rest fits;
  takes =
      λ p x bytes e.
      let t = (long_rest_law number head).takes p x bytes e in
      record { raw = t.raw; fits = t.fits; parts = t.parts; value = t.value; bytes = t.bytes };
}

-- ---- the whole

abbrev Whole : Type 0
Whole = Head × RawRest

abbrev whole_text : Whole → List ℕ
whole_text x = head_text x.0 ++ rest_text (nat_eq x.0.samples 0) x.1

abbrev WholeFits : Whole → Type 0
WholeFits x = HeadFits x.0 × RestFits (nat_eq x.0.samples 0) x.0 x.1

abbrev whole_mean : Whole → Head × Instrument
whole_mean x = (x.0, rest_mean x.0 x.1)

whole_law : (number : ℕ) → Spelled (both sized_head_at (rest_at number)) whole_text WholeFits whole_mean
whole_law number =
    both_spelled sized_head_at (rest_at number) head_text (λ head. rest_text (nat_eq head.samples 0)) HeadFits
    (λ head. RestFits (nat_eq head.samples 0) head) same rest_mean
    (lawful_spelled sized_head_at head_text HeadFits head_law)
    (λ head _. rest_if_law (nat_eq head.samples 0) number head)

abbrev raw_of : Whole → RawInstrument
raw_of x = record { head = x.0; rest = x.1 }

abbrev whole_of : RawInstrument → Whole
whole_of raw = (raw.head, raw.rest)

instrument_alike : (number : ℕ)
    → Alike (instrument_spelled_at number) (seen (λ (x : Head × Instrument). x.1) (both sized_head_at (rest_at number)))
unfolding instrument_spelled_at
instrument_alike number =
    next_alike (λ (x : Head × Instrument). x.1) sized_head_at (rest_at number) (rest_at number)
    (λ head. seen_same (rest_at number head))

pub instrument_law : (number : ℕ)
    → Spelled (instrument_spelled_at number) instrument_text RawInstrumentFits instrument_of
unfolding instrument_text
instrument_law number =
    alike_spelled (instrument_spelled_at number) _ _ RawInstrumentFits instrument_of (instrument_alike number) (recast
    raw_of whole_of _ whole_text WholeFits (λ x. (whole_mean x).1) _ RawInstrumentFits instrument_of
    (seen_spelled (λ (x : Head × Instrument). x.1) (both sized_head_at (rest_at number)) whole_text WholeFits whole_mean
    (whole_law number))
    (λ x f. (record { head = f.0; rest = f.1 }, refl, refl))
    (λ y g. ((g.head, g.rest), refl, refl)))
