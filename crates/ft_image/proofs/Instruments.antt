-- What readers find in the words of an instrument.
use Rattle.std.proofs.Common.{◌≡◌, ℕ, zero, suc, ◌+◌, ◌-◌, ◌*◌, ◌/◌, ◌%◌, ◌<◌, ◌≤◌, true, false, List, [], ◌∷◌, Option, Some, None, get_or, length, refl, sym, ap, subst, ◌∙◌, arith, inl, inr}
use Rattle.std.specs.Prelude.{All, slice_index, is_some, ◌==◌, if◌then◌else◌}
use Rattle.std.specs.List.{slice_get}
use Rattle.std.proofs.lemmas.Bool.{cases_lt}
use Rattle.std.proofs.lemmas.Option.{slice_get_within, get_or_from_slice_get, slice_get_past, none-some}
use Rattle.ft_types.specs.declared.module.Module.{Module}
use Rattle.ft_types.specs.declared.instrument.Instrument.{Instrument}
use Rattle.ft_types.specs.declared.instrument.Envelope.{Envelope}
use Rattle.ft_types.specs.declared.instrument.Point.{Point}
use Rattle.ft_types.specs.Valid.{IsValidInstrument, IsValidPoint}
use Rattle.ft_types.specs.Views.{instrument_at, number_in, sample_in}
use Rattle.ft_segments.specs.Packing.{digit, bytes_word, word_at, id_at}
use Rattle.ft_segments.specs.Walk.{SampleIds, InstrumentIds, Placed, IsOf, ids_of, instruments_in, samples_in, sample_walk, instrument_walk}
use Rattle.ft_image.specs.Values.{count_bytes, envelope_bytes, points_word, no_point}
use Rattle.ft_image.specs.Shown.{Shows}
use Rattle.ft_image.specs.Read.{HasInstrument, mapped_sample, sample_at, sample_root_at, sample_ids_in, root_or_none}
use Rattle.ft_image.proofs.Lists.{stored}
use Rattle.ft_image.proofs.Packed.{byte-read, first-read}
use Rattle.ft_image.proofs.Walked.{instrument_at_walk, of_instrument, instrument_root_of, sample_at_walk, sample_walk_root}
use Rattle.ft_image.proofs.Found.{counts_read}

-- ---- roots

-- an instrument, by the id that the song root has of it
pub has_instrument : (p : Placed) (m : Module) (number root found : ℕ) → Shows p m → p.root ≡ root → 1 ≤ number
    → number ≤ length m.instruments → found ≡ id_at p.pool root 104 (number - 1) → HasInstrument p m number found
has_instrument p m zero root found shows is one le at = absurd (omega arith)
has_instrument p m (suc k) root found shows is one le at =
    let x = stored m.instruments k (omega arith) in
    let count : instruments_in p.pool p.root ≡ length m.instruments
    = (counts_read p m p.root (word_at p.pool p.root 1) shows refl refl).1 in
    let less : suc k - 1 ≡ k = omega arith in
    let id : id_at p.pool p.root 104 k ≡ found
    = ap (λ (r : ℕ). id_at p.pool r 104 k) is ∙ sym (at ∙ ap (λ (i : ℕ). id_at p.pool root 104 i) less) in
    let named : slice_get (ids_of p).instruments k ≡ Some (instrument_walk p.pool found)
    = instrument_at_walk p k (omega arith) ∙ ap (λ (r : ℕ). Some (instrument_walk p.pool r)) id in
    record {
      instrument = x.0;
      stored = x.1;
      named = named;
      shown = shows.stands.instruments.each k x.0 (instrument_walk p.pool found) x.1 named;
    }

pub no_instrument : (m : Module) (number : ℕ) → length m.instruments < number → instrument_at m number ≡ None
no_instrument m zero lt = absurd (omega arith)
no_instrument m (suc k) lt = slice_get_past m.instruments k (omega arith)

pub instrument_uses_of : (p : Placed) (m : Module) (number found s : ℕ) → HasInstrument p m number found
    → 1 ≤ Rattle.ft_segments.specs.Walk.instrument_uses s (instrument_walk p.pool found) → IsOf p s
instrument_uses_of p m zero found s has one = absurd (none-some (instrument_walk p.pool found) has.named)
instrument_uses_of p m (suc k) found s has one = of_instrument p k s (instrument_walk p.pool found) has.named one

pub instrument_is : (p : Placed) (m : Module) (number found : ℕ) → HasInstrument p m number found → IsOf p found
instrument_is p m number found has =
    instrument_uses_of p m number found found has (instrument_root_of found (instrument_walk p.pool found) refl)

pub instrument_valid : (p : Placed) (m : Module) (number found : ℕ) → Shows p m → (has : HasInstrument p m number found)
    → IsValidInstrument has.instrument
instrument_valid p m zero found shows has = absurd (none-some has.instrument has.stored)
instrument_valid p m (suc k) found shows has =
    subst IsValidInstrument (get_or_from_slice_get m.instruments k has.instrument has.instrument has.stored)
    (shows.valid.instruments k has.instrument (slice_get_within m.instruments k has.instrument has.stored))

-- ---- bytes of the first two words

cons_low : (x : ℕ) (xs : List ℕ) → x < 256 → All (λ byte. byte < 256) xs → All (λ byte. byte < 256) (x ∷ xs)
cons_low x xs low rest zero d lt = low
cons_low x xs low rest (suc k) d lt = rest k d (omega arith)

none_low : All (λ byte. byte < 256) []
none_low k d lt = absurd (omega arith)

seven_low : (b c d e f g h : ℕ) → b < 256 → c < 256 → d < 256 → e < 256 → f < 256 → g < 256 → h < 256
    → All (λ byte. byte < 256) (b ∷ c ∷ d ∷ e ∷ f ∷ g ∷ h ∷ [])
seven_low b c d e f g h lb lc ld le lf lg lh =
    cons_low b (c ∷ d ∷ e ∷ f ∷ g ∷ h ∷ []) lb (cons_low c (d ∷ e ∷ f ∷ g ∷ h ∷ []) lc
    (cons_low d (e ∷ f ∷ g ∷ h ∷ []) ld (cons_low e (f ∷ g ∷ h ∷ []) le (cons_low f (g ∷ h ∷ []) lf
    (cons_low g (h ∷ []) lg (cons_low h [] lh none_low))))))

counts_low : (x : Instrument) → IsValidInstrument x → All (λ byte. byte < 256) (count_bytes x)
counts_low x valid =
    let a = valid.few_samples in
    let b = valid.volume.count in
    let c = valid.panning.count in
    let d = valid.vibrato.kind in
    let e = valid.vibrato.depth in
    let f = valid.vibrato.rate in
    seven_low (length x.samples) x.volume.count x.panning.count x.vibrato.kind x.vibrato.sweep x.vibrato.depth x.vibrato.rate
    (omega arith) (omega arith) (omega arith) (omega arith) valid.vibrato.sweep (omega arith) (omega arith)

places_low : (x : Instrument) → IsValidInstrument x → All (λ byte. byte < 256) (envelope_bytes x)
places_low x valid =
    let a = valid.volume.sustain in
    let b = valid.volume.loop_start in
    let c = valid.volume.loop_end in
    let d = valid.volume.flags in
    let e = valid.panning.sustain in
    let f = valid.panning.loop_start in
    let g = valid.panning.loop_end in
    let h = valid.panning.flags in
    cons_low x.volume.sustain
    (x.volume.loop_start ∷ x.volume.loop_end ∷ x.volume.flags ∷ x.panning.sustain ∷ x.panning.loop_start
    ∷ x.panning.loop_end ∷ x.panning.flags ∷ [])
    (omega arith)
    (seven_low x.volume.loop_start x.volume.loop_end x.volume.flags x.panning.sustain
    x.panning.loop_start x.panning.loop_end x.panning.flags
    (omega arith) (omega arith) (omega arith) (omega arith) (omega arith) (omega arith) (omega arith))

pub count_read : (x : Instrument) (word i : ℕ) → IsValidInstrument x → word ≡ bytes_word (count_bytes x) 0 → i < 8
    → digit 256 word i ≡ slice_index (count_bytes x) i
count_read x word i valid is lt = first-read (count_bytes x) word i (counts_low x valid) is lt

pub place_read : (x : Instrument) (word i : ℕ) → IsValidInstrument x → word ≡ bytes_word (envelope_bytes x) 0 → i < 8
    → digit 256 word i ≡ slice_index (envelope_bytes x) i
place_read x word i valid is lt = first-read (envelope_bytes x) word i (places_low x valid) is lt

abbrev pub chosen : ℕ → Instrument → Envelope
chosen which x = if which == 0 then x.volume else x.panning

pub envelope_read : (x : Instrument) (counts places which : ℕ) → which ≤ 1 → IsValidInstrument x
    → counts ≡ bytes_word (count_bytes x) 0 → places ≡ bytes_word (envelope_bytes x) 0
    → (digit 256 counts (1 + which) ≡ (chosen which x).count)
    × (digit 256 places (4 * which) ≡ (chosen which x).sustain)
    × (digit 256 places (4 * which + 1) ≡ (chosen which x).loop_start)
    × (digit 256 places (4 * which + 2) ≡ (chosen which x).loop_end)
    × (digit 256 places (4 * which + 3) ≡ (chosen which x).flags)
envelope_read x counts places zero le valid c p = (
  count_read x counts 1 valid c (omega arith),
  place_read x places 0 valid p (omega arith),
  place_read x places 1 valid p (omega arith),
  place_read x places 2 valid p (omega arith),
  place_read x places 3 valid p (omega arith),
)
envelope_read x counts places (suc zero) le valid c p = (
  count_read x counts 2 valid c (omega arith),
  place_read x places 4 valid p (omega arith),
  place_read x places 5 valid p (omega arith),
  place_read x places 6 valid p (omega arith),
  place_read x places 7 valid p (omega arith),
)
envelope_read x counts places (suc (suc which)) le valid c p = absurd (omega arith)

-- ---- points

-- one of the two points of a word
abbrev pub word_point : ℕ → ℕ → Point
word_point word half = record { x = digit 65536 word (half * 2); y = digit 65536 word (half * 2 + 1) }

quarters : (a b c d word : ℕ) → a < 65536 → b < 65536 → c < 65536 → d < 65536
    → word ≡ a + 65536 * (b + 65536 * (c + 65536 * d))
    → (digit 65536 word 0 ≡ a) × (digit 65536 word 1 ≡ b) × (digit 65536 word 2 ≡ c) × (digit 65536 word 3 ≡ d)
quarters a b c d word la lb lc ld is = (omega arith, omega arith, omega arith, omega arith)

pub point_back : (points : List Point) (word j : ℕ) → length points ≡ 12 → All IsValidPoint points → j < 12
    → word ≡ points_word points (j / 2) → word_point word (j % 2) ≡ get_or points j no_point
unfolding points_word
point_back points word j len are lt is =
    let h = j / 2 in
    let low = are (2 * h) no_point (omega arith) in
    let high = are (2 * h + 1) no_point (omega arith) in
    let p = get_or points (2 * h) no_point in
    let q = get_or points (2 * h + 1) no_point in
    let px = low.x in
    let py = low.y in
    let qx = high.x in
    let qy = high.y in
    let four = quarters p.x p.y q.x q.y word px (omega arith) qx (omega arith) is in
    elim (cases_lt (j % 2) 1) [
      | inl e ↦
          let half : j % 2 ≡ 0 = omega arith in
          let place : 2 * h ≡ j = omega arith in
          let first : word_point word 0 ≡ p = rw (four.0, four.1) refl in
          ap (λ (n : ℕ). word_point word n) half ∙ first ∙ ap (λ (n : ℕ). get_or points n no_point) place
      | inr e ↦
          let half : j % 2 ≡ 1 = omega arith in
          let place : 2 * h + 1 ≡ j = omega arith in
          let second : word_point word 1 ≡ q = rw (four.2, four.3) refl in
          ap (λ (n : ℕ). word_point word n) half ∙ second ∙ ap (λ (n : ℕ). get_or points n no_point) place
    ]

-- ---- roots of samples

pub map_read : (p : Placed) (m : Module) (number found note word : ℕ) → Shows p m → (has : HasInstrument p m number found)
    → note < 96 → word ≡ word_at p.pool found (6 + note / 8) → digit 256 word (note % 8) ≡ mapped_sample m number note
map_read p m number found note word shows has lt w =
    let valid = instrument_valid p m number found shows has in
    let low : All (λ byte. byte < 256) has.instrument.map = λ k d l. let a = valid.map k d l in omega arith in
    byte-read has.instrument.map word note low (w ∙ has.shown.notes (note / 8) (omega arith))
    ∙ sym (ap (λ (x : Option Instrument). number_in x note) has.stored)

pub samples_read : (p : Placed) (m : Module) (number found word : ℕ) → Shows p m → (has : HasInstrument p m number found)
    → word ≡ word_at p.pool found 0 → digit 256 word 0 ≡ length has.instrument.samples
samples_read p m number found word shows has w =
    count_read has.instrument word 0 (instrument_valid p m number found shows has) (w ∙ has.shown.counts) (omega arith)

-- the root of a sample, by the id that the instrument has of it
pub sample_found : (p : Placed) (m : Module) (number found n : ℕ) → Shows p m → (has : HasInstrument p m number found)
    → n < length has.instrument.samples → sample_root_at p number n ≡ Some (id_at p.pool found 30 n)
sample_found p m number found n shows has lt =
    let count : samples_in p.pool found ≡ length has.instrument.samples
    = samples_read p m number found (word_at p.pool found 0) shows has refl in
    ap (λ (ids : Option InstrumentIds). root_or_none (sample_ids_in ids n)) has.named
    ∙ ap root_or_none (sample_at_walk p.pool found n (omega arith))
    ∙ ap (λ (r : ℕ). Some r) (sample_walk_root p.pool (id_at p.pool found 30 n))

pub sample_there : (p : Placed) (m : Module) (number found n : ℕ) → (has : HasInstrument p m number found)
    → n < length has.instrument.samples → is_some (sample_at m number n) ≡ true
sample_there p m number found n has lt =
    ap (λ (x : Option Instrument). is_some (sample_in x n)) has.stored
    ∙ ap is_some (stored has.instrument.samples n lt).1

pub sample_absent : (p : Placed) (m : Module) (number found n : ℕ) → Shows p m → (has : HasInstrument p m number found)
    → length has.instrument.samples ≤ n → (sample_root_at p number n ≡ None) × (is_some (sample_at m number n) ≡ false)
sample_absent p m number found n shows has le =
    let ids = instrument_walk p.pool found in
    let count : length ids.samples ≡ length has.instrument.samples = has.shown.each.count in (
      ap (λ (all : Option InstrumentIds). root_or_none (sample_ids_in all n)) has.named
          ∙ ap root_or_none (slice_get_past ids.samples n (omega arith)),
      ap (λ (x : Option Instrument). is_some (sample_in x n)) has.stored
          ∙ ap is_some (slice_get_past has.instrument.samples n le),
    )

-- where there is no instrument there is no sample
pub nothing : (p : Placed) (m : Module) (number n : ℕ) → Shows p m → instrument_at m number ≡ None
    → (sample_root_at p number n ≡ None) × (is_some (sample_at m number n) ≡ false)
nothing p m zero n shows none = (refl, refl)
nothing p m (suc k) n shows none =
    let count : length (ids_of p).instruments ≡ length m.instruments = shows.stands.instruments.count in (
      elim (cases_lt k (length m.instruments)) [
        | inl lt ↦ absurd (let x = stored m.instruments k lt in none-some x.0 (sym none ∙ x.1))
        | inr le ↦ ap (λ (all : Option InstrumentIds). root_or_none (sample_ids_in all n))
            (slice_get_past (ids_of p).instruments k (omega arith))
      ],
      ap (λ (x : Option Instrument). is_some (sample_in x n)) none,
    )

-- a version has the root of a sample exactly where the song has the sample
pub alike : (p : Placed) (m : Module) (number n : ℕ) → Shows p m
    → is_some (sample_root_at p number n) ≡ is_some (sample_at m number n)
alike p m zero n shows = refl
alike p m (suc k) n shows =
    elim (cases_lt k (length m.instruments)) [
      | inl lt ↦
          let found = id_at p.pool p.root 104 (suc k - 1) in
          let has = has_instrument p m (suc k) p.root found shows refl (omega arith) (omega arith) refl in
          elim (cases_lt n (length has.instrument.samples)) [
            | inl in_it ↦
                ap is_some (sample_found p m (suc k) found n shows has in_it)
                ∙ sym (sample_there p m (suc k) found n has in_it)
            | inr past ↦
                let absent = sample_absent p m (suc k) found n shows has past in
                ap is_some absent.0 ∙ sym absent.1
          ]
      | inr le ↦
          let none = nothing p m (suc k) n shows (no_instrument m (suc k) (omega arith)) in
          ap is_some none.0 ∙ sym none.1
    ]
