-- A song as it is written.
use Rattle.std.proofs.Common.{sym, ◌≡◌, ℕ, ◌-◌, ◌%◌, ◌<◌, ◌≤◌, Bool, true, false, cond, List, [], ◌++◌, length, map, take, replicate, All, refl, ap, ◌∙◌, arith, append_assoc, inl}
use Rattle.std.specs.Prelude.{nat_lt, ◌==◌, max}
use Rattle.std.proofs.lemmas.List.{append-nil, length-append, length-map, length-replicate}
use Rattle.std.proofs.lemmas.List.Elements.{All-map, All-append, All-replicate}
use Rattle.std.proofs.Math.Seq.{take-append_seam}
use Rattle.std.proofs.lemmas.Bool.Decides.{nat_tests}
use Rattle.ft_types.specs.declared.module.Module.{Module}
use Rattle.ft_types.specs.declared.pattern.Pattern.{Pattern}
use Rattle.ft_types.specs.declared.instrument.Instrument.{Instrument}
use Rattle.ft_types.specs.Valid.{IsValid}
use Rattle.ft_format.specs.Fields.{AreBytes, brought}
use Rattle.ft_format.specs.Header.{HeaderFits, orders_of, song_from}
use Rattle.ft_format.specs.Pattern.{RawPatternFits, pattern_of}
use Rattle.ft_format.specs.Instrument.{RawInstrumentFits, instrument_of}
use Rattle.ft_format.specs.Spelling.{song_text, SongFits, module_of}
use Rattle.ft_format.specs.Canon.{order_table, settings_of, raw_header_of, raw_pattern_of, raw_instrument_of, raw_song_of, canon}
use Rattle.ft_format.specs.Laws.{CanonicalIsSpelled}
use Rattle.ft_format.proofs.Bytes.{bytes_of, field_of}
use Rattle.ft_format.proofs.Lists.{map_back}
use Rattle.ft_format.proofs.Patterns.{pattern_fits, pattern_means}
use Rattle.ft_format.proofs.Instruments.{instrument_fits, instrument_means}

-- ---- it fits

table_length : (orders : List ℕ) → length orders ≤ 256 → length (order_table orders) ≡ 256
table_length orders le =
    omega
    (arith, length-append orders (replicate (256 - length orders) 0), length-replicate {A = ℕ} (256 - length orders) 0)

table_bytes : (orders : List ℕ) → All (λ order. order < 256) orders → AreBytes (order_table orders)
table_bytes orders h =
    bytes_of (order_table orders)
    (All-append (λ byte. byte < 256) orders (replicate (256 - length orders) 0) h
    (All-replicate (λ byte. byte < 256) (256 - length orders) 0 (omega arith)))

small_flags : (linear : Bool) → cond linear 1 0 < 65536
small_flags true = omega arith
small_flags false = omega arith

header_fits : (song : Module) → IsValid song → HeaderFits (raw_header_of song)
header_fits song v = record {
  titles = record { name = field_of 20 song.name v.name; mark = omega arith; tracker = field_of 20 song.tracker v.tracker };
  sizes = record {
    size = omega arith;
    some_table = omega arith;
    length = v.few_orders;
    restart = omega (arith, v.restart, v.few_orders);
    some_channels = v.some_channels;
    few_channels = v.few_channels;
  };
  settings = record {
    patterns = v.few_patterns;
    instruments = v.few_instruments;
    flags = omega (arith, small_flags song.linear);
    tempo = omega (arith, v.low_tempo);
    bpm = omega (arith, v.low_bpm);
  };
  orders = (table_length song.orders v.few_orders, table_bytes song.orders v.orders);
}

song_fits : (song : Module) → IsValid song → SongFits (raw_song_of song)
song_fits song v = record {
  letter = inl refl;
  header = header_fits song v;
  patterns_count = length-map song.patterns raw_pattern_of;
  patterns =
      All-map (RawPatternFits song.channels) raw_pattern_of song.patterns
      (λ k d lt. pattern_fits song.channels _ v.some_channels v.few_channels (v.patterns k d lt));
  instruments_count = length-map song.instruments raw_instrument_of;
  instruments =
      All-map RawInstrumentFits raw_instrument_of song.instruments (λ k d lt. instrument_fits _ (v.instruments k d lt));
}

-- ---- what it means

abbrev make : List ℕ → List ℕ → ℕ → ℕ → Bool → ℕ → ℕ → List ℕ → List Pattern → List Instrument → Module
make name tracker restart channels linear tempo bpm orders patterns instruments = record {
  name = name;
  tracker = tracker;
  restart = restart;
  channels = channels;
  linear = linear;
  tempo = tempo;
  bpm = bpm;
  orders = orders;
  patterns = patterns;
  instruments = instruments;
}

same_song :
    (song : Module) (restart : ℕ) (linear : Bool) (tempo bpm : ℕ) (orders : List ℕ) (patterns : List Pattern)
    (instruments : List Instrument)
    → restart ≡ song.restart → linear ≡ song.linear → tempo ≡ song.tempo → bpm ≡ song.bpm → orders ≡ song.orders
    → patterns ≡ song.patterns → instruments ≡ song.instruments
    → make song.name song.tracker restart song.channels linear tempo bpm orders patterns instruments ≡ song
same_song song restart linear tempo bpm orders patterns instruments a b c d e f g = rw (a, b, c, d, e, f, g) refl

kept_restart : (restart n : ℕ) → restart < n → cond (nat_lt restart n) restart 0 ≡ restart
kept_restart restart n lt = grind (arith, nat_tests)

linear_again : (linear : Bool) → (cond linear 1 0 % 2 == 1) ≡ linear
linear_again true = refl
linear_again false = refl

in_range : (low high x : ℕ) → low ≤ x → x ≤ high → brought low high x ≡ x
in_range low high x above below = omega (arith, above, below)

some_length : (n : ℕ) → 1 ≤ n → max 1 n ≡ n
some_length n le = omega (arith, le)

orders_again : (orders : List ℕ) → 1 ≤ length orders → orders_of (max 1 (length orders)) (order_table orders) ≡ orders
orders_again orders some =
    let zeros = replicate (256 - length orders) 0 in
    ap (λ (n : ℕ). take n ((orders ++ zeros) ++ replicate 256 0)) (some_length (length orders) some)
    ∙ ap (λ (l : List ℕ). take (length orders) l) (append_assoc orders zeros (replicate 256 0))
    ∙ take-append_seam orders (zeros ++ replicate 256 0)

song_means : (song : Module) → IsValid song → module_of (raw_song_of song) ≡ song
unfolding module_of song_from
song_means song v =
    let n = max 1 (length song.orders) in
    let channels = song.channels in
    same_song song (cond (nat_lt song.restart n) song.restart 0) ((settings_of song).flags % 2 == 1)
    (brought 1 31 song.tempo) (brought 32 255 song.bpm) (orders_of n (order_table song.orders))
    (map (pattern_of channels) (map raw_pattern_of song.patterns))
    (map instrument_of (map raw_instrument_of song.instruments))
    (kept_restart song.restart n (omega (arith, v.restart))) (linear_again song.linear)
    (in_range 1 31 song.tempo v.some_tempo v.low_tempo) (in_range 32 255 song.bpm v.some_bpm v.low_bpm)
    (orders_again song.orders v.some_orders)
    (map_back (pattern_of channels) raw_pattern_of song.patterns
    (λ k d lt. pattern_means channels _ v.some_channels (v.patterns k d lt)))
    (map_back instrument_of raw_instrument_of song.instruments (λ k d lt. instrument_means _ (v.instruments k d lt)))

text_again : (song : Module) → canon song ≡ song_text (raw_song_of song) ++ []
unfolding canon
text_again song = sym (append-nil (song_text (raw_song_of song)))

pub canonical_spelled : CanonicalIsSpelled
canonical_spelled song v =
    record {
      raw = raw_song_of song;
      surplus = [];
      fits = song_fits song v;
      text = text_again song;
      means = song_means song v;
    }
