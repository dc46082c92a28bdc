-- What readers find in the words of a version that shows a song.
use Rattle.std.proofs.Common.{◌≡◌, ℕ, ◌+◌, ◌*◌, ◌/◌, ◌%◌, ◌<◌, ◌≤◌, Bool, true, false, eqb, lt-ltb, le-ltb, Option, Some, get_or, length, refl, sym, ap, subst, ◌∙◌, arith}
use Rattle.std.specs.Prelude.{slice_index}
use Rattle.std.specs.List.{slice_get}
use Rattle.std.proofs.lemmas.Nat.{mul-le, mul-add-lt}
use Rattle.std.proofs.Math.Nat.{mul_comm}
use Rattle.std.proofs.lemmas.Option.{slice_get_within, get_or_from_slice_get, slice_get_past, unwrap_or-slice_get}
use Rattle.std.proofs.lemmas.List.FromFn.{length-map-range_with_len}
use Rattle.ft_types.specs.declared.module.Module.{Module}
use Rattle.ft_types.specs.declared.pattern.Pattern.{Pattern}
use Rattle.ft_types.specs.declared.pattern.Cell.{Cell}
use Rattle.ft_types.specs.Valid.{IsValid, IsValidCell, IsValidPattern}
use Rattle.ft_types.specs.Blocks.{pieces_of}
use Rattle.ft_types.specs.Views.{song_head_of, order_at, row_count, rows_at, cell_in, cell_at, empty_cell}
use Rattle.ft_segments.specs.Packing.{digit, word_at, id_at}
use Rattle.ft_segments.specs.Walk.{Placed, IsOf, ids_of, channels_in, patterns_in, pattern_walk}
use Rattle.ft_image.specs.Values.{bit, head_word, counts_word, cell_word}
use Rattle.ft_image.specs.Shown.{Shows}
use Rattle.ft_image.specs.Read.{HasPattern}
use Rattle.ft_image.proofs.Lists.{stored, below_at}
use Rattle.ft_image.proofs.Packed.{byte-read}
use Rattle.ft_image.proofs.Walked.{at_root, pattern_at_walk, of_pattern, pattern_root_of, pattern_body_of}

-- ---- the song root

pub bit-le : (b : Bool) → bit b ≤ 1
bit-le true = omega arith
bit-le false = omega arith

pub flag : (b : Bool) (word : ℕ) → word ≡ bit b → eqb word 1 ≡ b
flag true word is = rw is refl
flag false word is = rw is refl

pub head_back : (m : Module) (word : ℕ) → IsValid m → word ≡ head_word m
    → (word % 65536 ≡ length m.orders)
    × (word / 65536 % 65536 ≡ m.restart)
    × (word / 4294967296 % 256 ≡ m.channels)
    × (word / 1099511627776 % 256 ≡ bit m.linear)
    × (word / 281474976710656 % 256 ≡ m.tempo)
    × (word / 72057594037927936 % 256 ≡ m.bpm)
unfolding head_word
head_back m word valid is =
    let l = valid.few_orders in
    let r = valid.restart in
    let c = valid.few_channels in
    let t = valid.low_tempo in
    let b = valid.low_bpm in
    let f = bit-le m.linear in
    (omega arith, omega arith, omega arith, omega arith, omega arith, omega arith)

pub song_head_read : (m : Module) (word : ℕ) → IsValid m → word ≡ head_word m
    → record {
      length = word % 65536;
      restart = word / 65536 % 65536;
      tempo = word / 281474976710656 % 256;
      bpm = word / 72057594037927936 % 256;
      linear = eqb (word / 1099511627776 % 256) 1;
    } ≡ song_head_of m
song_head_read m word valid is =
    let b = head_back m word valid is in
    rw (b.0, b.1, b.4, b.5, flag m.linear (word / 1099511627776 % 256) b.3) refl

pub order_read : (p : Placed) (m : Module) (root pos word : ℕ) → Shows p m → p.root ≡ root → pos < length m.orders
    → word ≡ word_at p.pool root (8 + pos / 8) → digit 256 word (pos % 8) ≡ order_at m pos
order_read p m root pos word shows is lt w =
    let few = shows.valid.few_orders in
    byte-read m.orders word pos shows.valid.orders
    (w ∙ at_root p root (8 + pos / 8) is ∙ shows.stands.root.orders (pos / 8) (omega arith))

pub channels_read : (p : Placed) (m : Module) (root word : ℕ) → Shows p m → p.root ≡ root
    → word ≡ word_at p.pool root 0 → word / 4294967296 % 256 ≡ m.channels
channels_read p m root word shows is w =
    (head_back m word shows.valid (w ∙ at_root p root 0 is ∙ shows.stands.root.head)).2

-- ---- patterns

pub counts_back : (m : Module) (word : ℕ) → IsValid m → word ≡ counts_word m
    → (word % 65536 ≡ length m.patterns) × (word / 65536 % 65536 ≡ length m.instruments)
unfolding counts_word
counts_back m word valid is =
    let p = valid.few_patterns in
    let i = valid.few_instruments in
    (omega arith, omega arith)

pub counts_read : (p : Placed) (m : Module) (root word : ℕ) → Shows p m → p.root ≡ root
    → word ≡ word_at p.pool root 1
    → (word % 65536 ≡ length m.patterns) × (word / 65536 % 65536 ≡ length m.instruments)
counts_read p m root word shows is w =
    counts_back m word shows.valid (w ∙ at_root p root 1 is ∙ shows.stands.root.counts)

channels_walk : (p : Placed) (m : Module) → Shows p m → channels_in p.pool p.root ≡ m.channels
channels_walk p m shows =
    let e = channels_read p m p.root (word_at p.pool p.root 0) shows refl refl in omega arith

-- a stored pattern, by the id that the song root has of it
pub has_pattern : (p : Placed) (m : Module) (k root found : ℕ) → Shows p m → p.root ≡ root → k < length m.patterns
    → found ≡ id_at p.pool root 40 k → HasPattern p m k found
has_pattern p m k root found shows is lt at =
    let one = stored m.patterns k lt in
    let count : patterns_in p.pool p.root ≡ length m.patterns
    = (counts_read p m p.root (word_at p.pool p.root 1) shows refl refl).0 in
    let id : id_at p.pool p.root 40 k ≡ found = ap (λ (r : ℕ). id_at p.pool r 40 k) is ∙ sym at in
    let named : slice_get (ids_of p).patterns k ≡ Some (pattern_walk p.pool m.channels found)
    = pattern_at_walk p k (omega arith) ∙ ap (λ (c : ℕ). Some (pattern_walk p.pool c (id_at p.pool p.root 40 k))) (channels_walk p m shows)
    ∙ ap (λ (r : ℕ). Some (pattern_walk p.pool m.channels r)) id in
    record {
      pattern = one.0;
      stored = one.1;
      named = named;
      shown = shows.stands.patterns.each k one.0 (pattern_walk p.pool m.channels found) one.1 named;
    }

pub pattern_is : (p : Placed) (m : Module) (k found : ℕ) → HasPattern p m k found → IsOf p found
pattern_is p m k found has =
    let ids = pattern_walk p.pool m.channels found in
    of_pattern p k found ids has.named (pattern_root_of found ids refl)

pub rows_read : (p : Placed) (m : Module) (k found word : ℕ) → Shows p m → (has : HasPattern p m k found)
    → word ≡ word_at p.pool found 0 → (word % 65536 ≡ rows_at m k) × (rows_at m k ≡ has.pattern.rows)
rows_read p m k found word shows has w =
    let few = (shows.valid.patterns k has.pattern (slice_get_within m.patterns k has.pattern has.stored)) in
    let same : get_or m.patterns k has.pattern ≡ has.pattern = get_or_from_slice_get m.patterns k has.pattern has.pattern has.stored in
    let valid : IsValidPattern m.channels has.pattern = subst (IsValidPattern m.channels) same few in
    let is = w ∙ has.shown.rows in
    let low = valid.few_rows in
    let rows : rows_at m k ≡ has.pattern.rows = ap row_count has.stored in
    (omega arith, rows)

pub no_rows : (m : Module) (k : ℕ) → length m.patterns ≤ k → rows_at m k ≡ 64
no_rows m k le = ap row_count (slice_get_past m.patterns k le)

-- ---- cells

pub cell_back : (c : Cell) (word : ℕ) → IsValidCell c → word ≡ cell_word c
    → record {
      note = word % 256;
      instrument = word / 256 % 256;
      volume = word / 65536 % 256;
      effect = word / 16777216 % 256;
      parameter = word / 4294967296 % 256;
    } ≡ c
unfolding cell_word
cell_back c word valid is =
    let low = valid.note in
    let i = valid.instrument in
    let v = valid.volume in
    let x = valid.effect in
    let q = valid.parameter in
    let n0 : word % 256 ≡ c.note = omega arith in
    let n1 : word / 256 % 256 ≡ c.instrument = omega arith in
    let n2 : word / 65536 % 256 ≡ c.volume = omega arith in
    let n3 : word / 16777216 % 256 ≡ c.effect = omega arith in
    let n4 : word / 4294967296 % 256 ≡ c.parameter = omega arith in
    rw (n0, n1, n2, n3, n4) refl

pub no_cell : (m : Module) (k row channel : ℕ) → length m.patterns ≤ k → cell_at m k row channel ≡ empty_cell
no_cell m k row channel le =
    ap (λ (x : Option Pattern). cell_in m.channels x row channel) (slice_get_past m.patterns k le)

pub cell_past : (p : Placed) (m : Module) (k found row channel : ℕ) → HasPattern p m k found → rows_at m k ≤ row
    → cell_at m k row channel ≡ empty_cell
cell_past p m k found row channel has le =
    let rows : rows_at m k ≡ has.pattern.rows = ap row_count has.stored in
    let past : has.pattern.rows ≤ row = omega arith in
    ap (λ (x : Option Pattern). cell_in m.channels x row channel) has.stored ∙ (rw (le-ltb row has.pattern.rows past) refl)

cell_within : (p : Placed) (m : Module) (k found row channel : ℕ) → (has : HasPattern p m k found) → row < has.pattern.rows
    → cell_at m k row channel ≡ get_or has.pattern.cells (row * m.channels + channel) empty_cell
cell_within p m k found row channel has lt =
    ap (λ (x : Option Pattern). cell_in m.channels x row channel) has.stored
    ∙ (rw (lt-ltb row has.pattern.rows lt) (unwrap_or-slice_get has.pattern.cells (row * m.channels + channel) empty_cell))

pub pattern_valid : (p : Placed) (m : Module) (k found : ℕ) → Shows p m → (has : HasPattern p m k found)
    → IsValidPattern m.channels has.pattern
pattern_valid p m k found shows has =
    subst (IsValidPattern m.channels) (get_or_from_slice_get m.patterns k has.pattern has.pattern has.stored)
    (shows.valid.patterns k has.pattern (slice_get_within m.patterns k has.pattern has.stored))

-- the number of a cell, and the body that has it
pub number_low : (p : Placed) (m : Module) (k found row channel : ℕ) → Shows p m → (has : HasPattern p m k found)
    → row < rows_at m k → channel < m.channels
    → (row * m.channels + channel < has.pattern.rows * m.channels) × (has.pattern.rows * m.channels ≤ 8192)
number_low p m k found row channel shows has r c =
    let valid = pattern_valid p m k found shows has in
    let rows : rows_at m k ≡ has.pattern.rows = ap row_count has.stored in
    let n : row * m.channels + channel < has.pattern.rows * m.channels
    = subst (λ (z : ℕ). row * m.channels + channel < z) (mul_comm m.channels has.pattern.rows)
    (mul-add-lt row m.channels channel has.pattern.rows (omega arith) c) in
    (n, mul-le has.pattern.rows m.channels 256 32 valid.few_rows shows.valid.few_channels)

pub body_named : (p : Placed) (m : Module) (k found b : ℕ) → Shows p m → (has : HasPattern p m k found)
    → b < pieces_of (has.pattern.rows * m.channels) 256
    → slice_get (pattern_walk p.pool m.channels found).bodies b ≡ Some (id_at p.pool found 1 b)
body_named p m k found b shows has lt =
    let count = has.shown.count in
    let same : length (pattern_walk p.pool m.channels found).bodies ≡ pieces_of (word_at p.pool found 0 * m.channels) 256
    = length-map-range_with_len (λ i. id_at p.pool found 1 i) 0 (pieces_of (word_at p.pool found 0 * m.channels) 256) in
    below_at (pieces_of (word_at p.pool found 0 * m.channels) 256) (λ i. id_at p.pool found 1 i) b (omega arith)

pub body_is : (p : Placed) (m : Module) (k found b body : ℕ) → Shows p m → (has : HasPattern p m k found)
    → b < pieces_of (has.pattern.rows * m.channels) 256 → body ≡ id_at p.pool found 1 b → IsOf p body
body_is p m k found b body shows has lt is =
    let ids = pattern_walk p.pool m.channels found in
    of_pattern p k body ids has.named
    (pattern_body_of body b ids (body_named p m k found b shows has lt ∙ ap (λ (s : ℕ). Some s) (sym is)))

pub cell_read : (p : Placed) (m : Module) (k found row channel number body word : ℕ) → Shows p m → (has : HasPattern p m k found)
    → row < rows_at m k → channel < m.channels → number ≡ row * m.channels + channel
    → body ≡ id_at p.pool found 1 (number / 256) → word ≡ word_at p.pool body (number % 256)
    → IsValidCell (cell_at m k row channel) × (word ≡ cell_word (cell_at m k row channel))
cell_read p m k found row channel number body word shows has r c n at w =
    let low = number_low p m k found row channel shows has r c in
    let valid = pattern_valid p m k found shows has in
    let rows : rows_at m k ≡ has.pattern.rows = ap row_count has.stored in
    let cells = has.pattern.cells in
    let here : number < length cells = omega (arith, valid.whole) in
    let b : number / 256 < pieces_of (has.pattern.rows * m.channels) 256 = omega arith in
    let within : number / 256 < length (pattern_walk p.pool m.channels found).bodies = omega (arith, has.shown.count) in
    let named = body_named p m k found (number / 256) shows has b in
    let is : slice_index (pattern_walk p.pool m.channels found).bodies (number / 256) ≡ body
    = get_or_from_slice_get (pattern_walk p.pool m.channels found).bodies (number / 256) (id_at p.pool found 1 (number / 256)) 0 named
    ∙ sym at in
    let whole : number / 256 * 256 + number % 256 ≡ number = omega arith in
    let one : cell_at m k row channel ≡ get_or cells number empty_cell
    = cell_within p m k found row channel has (omega arith) ∙ ap (λ (i : ℕ). get_or cells i empty_cell) (sym n) in (
      subst IsValidCell (sym one) (valid.cells number empty_cell here),
      w ∙ ap (λ (s : ℕ). word_at p.pool s (number % 256)) (sym is)
          ∙ has.shown.cells (number / 256) (number % 256) within (omega arith)
          ∙ ap (λ (i : ℕ). cell_word (get_or cells i empty_cell)) whole
          ∙ ap cell_word (sym one),
    )
