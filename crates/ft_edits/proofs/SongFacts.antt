-- Where a change of a part keeps the song valid.
use Rattle.std.proofs.Common.{◌≡◌, ℕ, zero, suc, ◌-◌, ◌<◌, ◌≤◌, List, Option, Some, length, All, ap, sym, ◌∙◌, subst, arith}
use Rattle.std.specs.Prelude.{slice_get}
use Rattle.ft_types.specs.declared.module.Module.{Module}
use Rattle.ft_types.specs.declared.pattern.Pattern.{Pattern}
use Rattle.ft_types.specs.declared.instrument.Instrument.{Instrument}
use Rattle.ft_types.specs.declared.sample.Sample.{Sample}
use Rattle.ft_types.specs.Valid.{IsValid, IsValidPattern, IsValidInstrument, IsValidSample}
use Rattle.ft_types.specs.Views.{instrument_at, sample_in}
use Rattle.ft_edits.specs.Lists.{changed_at}
use Rattle.ft_edits.specs.Faults.{samples_at, sample_count, frames_at, sample_length}
use Rattle.ft_edits.specs.Patterns.{with_pattern}
use Rattle.ft_edits.specs.Instruments.{with_instrument}
use Rattle.ft_edits.specs.Samples.{with_sample}
use Rattle.ft_edits.proofs.ListFacts.{length-changed, all-changed}

-- the song with these patterns and instruments in place of its own
pub with_valid_patterns : (song : Module) (patterns : List Pattern) → IsValid song
    → length patterns ≤ 256 → All (IsValidPattern song.channels) patterns
    → IsValid (record song { patterns = patterns })
with_valid_patterns song patterns v few all = record {
  name = v.name;
  tracker = v.tracker;
  some_orders = v.some_orders;
  few_orders = v.few_orders;
  orders = v.orders;
  restart = v.restart;
  some_channels = v.some_channels;
  few_channels = v.few_channels;
  some_tempo = v.some_tempo;
  low_tempo = v.low_tempo;
  some_bpm = v.some_bpm;
  low_bpm = v.low_bpm;
  few_patterns = few;
  patterns = all;
  few_instruments = v.few_instruments;
  instruments = v.instruments;
}

pub with_valid_instruments : (song : Module) (instruments : List Instrument) → IsValid song
    → length instruments ≤ 128 → All IsValidInstrument instruments → IsValid (record song { instruments = instruments })
with_valid_instruments song instruments v few all = record {
  name = v.name;
  tracker = v.tracker;
  some_orders = v.some_orders;
  few_orders = v.few_orders;
  orders = v.orders;
  restart = v.restart;
  some_channels = v.some_channels;
  few_channels = v.few_channels;
  some_tempo = v.some_tempo;
  low_tempo = v.low_tempo;
  some_bpm = v.some_bpm;
  low_bpm = v.low_bpm;
  few_patterns = v.few_patterns;
  patterns = v.patterns;
  few_instruments = few;
  instruments = all;
}

pub with_valid_orders : (song : Module) (orders : List ℕ) (restart : ℕ) → IsValid song
    → 1 ≤ length orders → length orders ≤ 256 → All (λ order. order < 256) orders → restart < length orders
    → IsValid (record song { orders = orders; restart = restart })
with_valid_orders song orders restart v some few all below = record {
  name = v.name;
  tracker = v.tracker;
  some_orders = some;
  few_orders = few;
  orders = all;
  restart = below;
  some_channels = v.some_channels;
  few_channels = v.few_channels;
  some_tempo = v.some_tempo;
  low_tempo = v.low_tempo;
  some_bpm = v.some_bpm;
  low_bpm = v.low_bpm;
  few_patterns = v.few_patterns;
  patterns = v.patterns;
  few_instruments = v.few_instruments;
  instruments = v.instruments;
}

-- the pattern that is changed may be known
pub row_kept : (song : Module) (p : ℕ) (change : Pattern → Pattern) → IsValid song
    → ((pattern : Pattern) → slice_get song.patterns p ≡ Some pattern → IsValidPattern song.channels pattern
    → IsValidPattern song.channels (change pattern))
    → IsValid (with_pattern p change song)
row_kept song p change v keeps =
    with_valid_patterns song (changed_at p change song.patterns) v
    (subst (λ n. n ≤ 256) (sym (length-changed change p song.patterns)) v.few_patterns)
    (all-changed (IsValidPattern song.channels) change p song.patterns v.patterns keeps)

pub pattern_kept : (song : Module) (p : ℕ) (change : Pattern → Pattern) → IsValid song
    → ((pattern : Pattern) → IsValidPattern song.channels pattern → IsValidPattern song.channels (change pattern))
    → IsValid (with_pattern p change song)
pattern_kept song p change v keeps = row_kept song p change v (λ pattern found valid. keeps pattern valid)

-- an instrument whose number isn't 0 is that of the list
found_at : (song : Module) (i : ℕ) (instrument : Instrument) → 0 < i
    → slice_get song.instruments (i - 1) ≡ Some instrument
    → instrument_at song i ≡ Some instrument
found_at song zero instrument some found = absurd (omega (arith, some))
found_at song (suc i) instrument some found =
    let e : suc i - 1 ≡ i = omega arith in subst (λ n. slice_get song.instruments n ≡ Some instrument) e found

pub instrument_kept : (song : Module) (i : ℕ) (change : Instrument → Instrument) → IsValid song → 0 < i
    → ((instrument : Instrument) → instrument_at song i ≡ Some instrument → IsValidInstrument instrument
    → IsValidInstrument (change instrument))
    → IsValid (with_instrument i change song)
instrument_kept song i change v some keeps =
    with_valid_instruments song (changed_at (i - 1) change song.instruments) v
    (subst (λ n. n ≤ 128) (sym (length-changed change (i - 1) song.instruments)) v.few_instruments)
    (all-changed IsValidInstrument change (i - 1) song.instruments v.instruments
    (λ instrument found valid. keeps instrument (found_at song i instrument some found) valid))

-- how many samples there are is known of the instrument itself
pub count_of : (song : Module) (i n : ℕ) (instrument : Instrument) → instrument_at song i ≡ Some instrument
    → n < samples_at song i → n < length instrument.samples
count_of song i n instrument found some = subst (λ (it : Option Instrument). n < sample_count it) found some

pub with_valid_samples : (instrument : Instrument) (samples : List Sample) → IsValidInstrument instrument
    → 1 ≤ length samples → length samples ≤ 16 → All IsValidSample samples
    → IsValidInstrument (record instrument { samples = samples })
with_valid_samples instrument samples v some few all = record {
  name = v.name;
  map_len = v.map_len;
  map = v.map;
  volume = v.volume;
  panning = v.panning;
  vibrato = v.vibrato;
  fadeout = v.fadeout;
  few_samples = few;
  samples = all;
  without = λ none. absurd (omega (arith, none, some));
}

pub sample_kept : (song : Module) (i s : ℕ) (change : Sample → Sample) → IsValid song → 0 < i → s < samples_at song i
    → ((sample : Sample) → sample_in (instrument_at song i) s ≡ Some sample → IsValidSample sample
    → IsValidSample (change sample))
    → IsValid (with_sample i s change song)
sample_kept song i s change v some there keeps =
    instrument_kept song i
    (λ (instrument : Instrument). record instrument { samples = changed_at s change instrument.samples }) v some
    (λ instrument found valid.
    let same = length-changed change s instrument.samples in
    let count = count_of song i s instrument found there in
    with_valid_samples instrument (changed_at s change instrument.samples) valid
    (omega (arith, same, count)) (omega (arith, same, valid.few_samples))
    (all-changed IsValidSample change s instrument.samples valid.samples
    (λ sample at kept. keeps sample (ap (λ (it : Option Instrument). sample_in it s) found ∙ at) kept)))

-- and how many frames, of the sample
pub frames_of : (song : Module) (i s : ℕ) (sample : Sample) → sample_in (instrument_at song i) s ≡ Some sample
    → frames_at song i s ≡ length sample.frames
frames_of song i s sample found = ap sample_length found
