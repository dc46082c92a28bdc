-- The canonical bytes, part by part, and how many they are.
use Rattle.std.proofs.Common.{◌≡◌, ℕ, ◌+◌, ◌-◌, ◌≤◌, Bool, true, false, cond, List, [], ◌++◌, length, map, replicate, refl, sym, ap, ◌∙◌, append_assoc, arith}
use Rattle.std.specs.Prelude.{nat_eq}
use Rattle.std.specs.List.{list_all, flat_map}
use Rattle.std.proofs.lemmas.List.{append-nil, length-append, length-replicate}
use Rattle.std.proofs.lemmas.List.Folds.{flat_map-map}
use Rattle.std.proofs.lemmas.Bool.Decides.{nat_tests}
use Rattle.ft_types.specs.declared.module.Module.{Module}
use Rattle.ft_types.specs.declared.pattern.Cell.{Cell}
use Rattle.ft_types.specs.declared.instrument.Instrument.{Instrument}
use Rattle.ft_types.specs.declared.sample.Sample.{Sample}
use Rattle.ft_types.specs.Valid.{IsValid, IsValidInstrument}
use Rattle.ft_format.specs.declared.layout.TheConstants.{ORDER_TABLE, UNUSED}
use Rattle.ft_format.specs.Header.{header_text}
use Rattle.ft_format.specs.Pattern.{raw_cell_text, pattern_text}
use Rattle.ft_format.specs.Sample.{sample_header_text}
use Rattle.ft_format.specs.Instrument.{head_text, extra_text, rest_text, instrument_text}
use Rattle.ft_format.specs.Spelling.{identification_with, song_text}
use Rattle.ft_format.specs.Canon.{is_empty_cell, raw_cell_of, cell_bytes, raw_pattern_of, pattern_bytes, raw_sample_of, sample_header_bytes, sample_data, instrument_head_of, extra_of, rest_of, raw_instrument_of, instrument_bytes, raw_header_of, header_bytes, canon}
use Rattle.ft_format.specs.Laws.{CanonicalParts, CanonicalSizes}
use Rattle.ft_format.proofs.Patterns.{pattern_length}
use Rattle.ft_format.proofs.Samples.{sample_header_length, data_length}
use Rattle.ft_format.proofs.Instruments.{extra_length}

-- ---- parts

cells_by : (empty : Bool) (cells : List Cell)
    → flat_map raw_cell_text (cond empty [] (map raw_cell_of cells)) ≡ cond empty [] (flat_map cell_bytes cells)
cells_by true cells = refl
cells_by false cells = flat_map-map raw_cell_text raw_cell_of cells

headers_again : (samples : List Sample)
    → flat_map (λ sample. sample_header_text sample.header) (map raw_sample_of samples)
    ≡ flat_map sample_header_bytes samples
headers_again samples = flat_map-map (λ sample. sample_header_text sample.header) raw_sample_of samples

steps_again : (samples : List Sample)
    → flat_map (λ sample. sample.steps) (map raw_sample_of samples) ≡ flat_map sample_data samples
steps_again samples = flat_map-map (λ sample. sample.steps) raw_sample_of samples

-- what follows a head, where the test says whether there are samples
abbrev rest_bytes : Bool → Instrument → List ℕ
rest_bytes none i = rest_text none (rest_of none i)

some_rest : (i : Instrument)
    → rest_bytes false i
    ≡ extra_text (extra_of i)
    ++ (replicate UNUSED 0 ++ (flat_map sample_header_bytes i.samples ++ flat_map sample_data i.samples))
some_rest i =
    ap
    (λ (l : List ℕ).
    (extra_text (extra_of i) ++ replicate UNUSED 0)
    ++ (l ++ flat_map (λ sample. sample.steps) (map raw_sample_of i.samples))) (headers_again i.samples)
    ∙ ap
    (λ (l : List ℕ).
    (extra_text (extra_of i) ++ replicate UNUSED 0) ++ (flat_map sample_header_bytes i.samples ++ l))
    (steps_again i.samples)
    ∙ append_assoc (extra_text (extra_of i)) (replicate UNUSED 0)
    (flat_map sample_header_bytes i.samples ++ flat_map sample_data i.samples)

is_none : (n : ℕ) → n ≡ 0 → nat_eq n 0 ≡ true
is_none n e = rw e refl

is_some : (n : ℕ) → 1 ≤ n → nat_eq n 0 ≡ false
is_some n le = grind (arith, nat_tests)

without_parts : (i : Instrument) → length i.samples ≡ 0 → instrument_bytes i ≡ head_text (instrument_head_of i)
unfolding instrument_text
without_parts i e =
    ap (λ (none : Bool). head_text (instrument_head_of i) ++ rest_bytes none i) (is_none (length i.samples) e)
    ∙ append-nil (head_text (instrument_head_of i))

with_parts : (i : Instrument) → 1 ≤ length i.samples
    → instrument_bytes i
    ≡ head_text (instrument_head_of i)
    ++ (extra_text (extra_of i)
    ++ (replicate UNUSED 0 ++ (flat_map sample_header_bytes i.samples ++ flat_map sample_data i.samples)))
unfolding instrument_text
with_parts i le =
    ap (λ (none : Bool). head_text (instrument_head_of i) ++ rest_bytes none i) (is_some (length i.samples) le)
    ∙ ap (λ (l : List ℕ). head_text (instrument_head_of i) ++ l) (some_rest i)

file_parts : (song : Module)
    → canon song
    ≡ header_bytes song ++ (flat_map pattern_bytes song.patterns ++ flat_map instrument_bytes song.instruments)
unfolding canon song_text
file_parts song =
    ap
    (λ (l : List ℕ).
    identification_with 77
    ++ (header_text (raw_header_of song)
    ++ (l ++ flat_map instrument_text (map raw_instrument_of song.instruments))))
    (flat_map-map pattern_text raw_pattern_of song.patterns)
    ∙ ap
    (λ (l : List ℕ).
    identification_with 77 ++ (header_text (raw_header_of song) ++ (flat_map pattern_bytes song.patterns ++ l)))
    (flat_map-map instrument_text raw_instrument_of song.instruments)
    ∙ sym
    (append_assoc (identification_with 77) (header_text (raw_header_of song))
    (flat_map pattern_bytes song.patterns ++ flat_map instrument_bytes song.instruments))

pub parts : CanonicalParts
parts =
    record {
      cells = λ cells. cells_by (list_all is_empty_cell cells) cells;
      without = without_parts;
      with = with_parts;
      file = file_parts;
    }

-- ---- sizes

header_length : (song : Module) → IsValid song → length (header_bytes song) ≡ 336
unfolding header_text
header_length song v =
    simp length-append
    (omega
    (arith, v.name.len, v.tracker.len, v.few_orders, length-replicate {A = ℕ} (ORDER_TABLE - length song.orders) 0))

head_length : (i : Instrument) → IsValidInstrument i → length (head_text (instrument_head_of i)) ≡ 29
head_length i v = simp length-append (omega (arith, v.name.len))

without_length : (i : Instrument) → IsValidInstrument i → length i.samples ≡ 0 → length (instrument_bytes i) ≡ 29
without_length i v e = ap length (without_parts i e) ∙ head_length i v

with_length : (i : Instrument) → IsValidInstrument i → 1 ≤ length i.samples
    → length (instrument_bytes i)
    ≡ 263 + length (flat_map sample_header_bytes i.samples) + length (flat_map sample_data i.samples)
with_length i v le =
    let headers = flat_map sample_header_bytes i.samples in
    let steps = flat_map sample_data i.samples in
    let zeros : List ℕ = replicate UNUSED 0 in
    let extra = extra_text (extra_of i) in
    let head = head_text (instrument_head_of i) in
    omega (
      arith,
      ap length (with_parts i le),
      length-append head (extra ++ (zeros ++ (headers ++ steps))),
      length-append extra (zeros ++ (headers ++ steps)),
      length-append zeros (headers ++ steps),
      length-append headers steps,
      head_length i v,
      extra_length i v,
    )

file_length : (song : Module) → IsValid song
    → length (canon song)
    ≡ 336 + length (flat_map pattern_bytes song.patterns) + length (flat_map instrument_bytes song.instruments)
file_length song v =
    let patterns = flat_map pattern_bytes song.patterns in
    let instruments = flat_map instrument_bytes song.instruments in
    omega (
      arith,
      ap length (file_parts song),
      length-append (header_bytes song) (patterns ++ instruments),
      length-append
          patterns instruments,
      header_length song v,
    )

pub sizes : CanonicalSizes
sizes = record {
  header = header_length;
  pattern = pattern_length;
  sample_header = sample_header_length;
  steps = data_length;
  without = without_length;
  with = with_length;
  file = file_length;
}
