-- An edit changes nothing of a song but what it reaches.
use Rattle.std.proofs.Common.{◌≡◌, ◌≢◌, ℕ, ◌+◌, ◌-◌, ◌*◌, ◌/◌, ◌==◌, ◌<◌, ◌≤◌, Bool, true, false, List, ◌∷◌, Option, None, Some, length, take, refl, ap, sym, subst, ◌∙◌, arith}
use Rattle.std.specs.Prelude.{◌&&◌, nat_lt, nat_le, slice_get, if◌then◌else◌}
use Rattle.std.proofs.lemmas.Bool.Decides.{nat_tests}
use Rattle.std.proofs.lemmas.List.{get_or-set_other}
use Rattle.std.proofs.lemmas.Nat.{mul-add-lt}
use Rattle.std.proofs.Math.Nat.{mul_comm}
use Rattle.ft_types.specs.declared.module.Module.{Module}
use Rattle.ft_types.specs.declared.pattern.Pattern.{Pattern}
use Rattle.ft_types.specs.declared.pattern.Cell.{Cell}
use Rattle.ft_types.specs.declared.instrument.Instrument.{Instrument}
use Rattle.ft_types.specs.declared.instrument.Envelope.{Envelope}
use Rattle.ft_types.specs.declared.sample.Sample.{Sample}
use Rattle.ft_types.specs.declared.edit.Edit.TheVariants as edits
use Rattle.ft_types.specs.declared.edit_fault.EditFault.{EditFault}
use Rattle.ft_types.specs.Blocks.{pieces_of}
use Rattle.ft_types.specs.Views.{empty_cell, rows_at}
use Rattle.ft_edits.specs.Lists.{changed_at, without_last}
use Rattle.ft_edits.specs.Faults.{unless, first_cause, block_of, samples_at, frames_at, sample_count}
use Rattle.ft_edits.specs.Patterns.{with_pattern, with_cell, empty_pattern}
use Rattle.ft_edits.specs.Instruments.{with_instrument, with_envelope, with_head, with_point, zero_instrument, named_only}
use Rattle.ft_edits.specs.Samples.{with_sample, new_sample, with_new_sample, without_sample, with_loop, without_frames, with_new_frames, turned, scaled, with_bits}
use Rattle.ft_changes.specs.declared.reach.Reach.TheVariants as reaches
use Rattle.ft_changes.specs.Parts.{put}
use Rattle.ft_changes.specs.Reaches.{whole_pattern}
use Rattle.ft_changes.specs.Reached.{HasPatterns, HasInstruments, IsFramesChange, IsInstrumentReached, IsBareReached, HaveSample, HaveFrames, frames_if, AreTheSame, AreWithoutLast, IsReached}
use Rattle.ft_changes.specs.Laws.{EditReaches}
use Rattle.ft_changes.proofs.Places.{changed_is_put, pushed_is_put, none_there, below}
use Rattle.ft_changes.proofs.Causes.{passed, passed_all, both, low, most, pattern_there, InstrumentThere, instrument_passed, SampleThere, sample_passed}
use Rattle.ft_changes.proofs.FramesChanged.{cut_changes, paste_changes, bits_change, turned_changes, turned_none, scaled_changes, scaled_none}

-- ---- patterns

patterns_put : (song : Module) (p : ℕ) (change : Pattern → Pattern) (x : Pattern) → slice_get song.patterns p ≡ Some x
    → HasPatterns (put p (change x) song.patterns) song (with_pattern p change song)
patterns_put song p change x found = record {
  channels = refl;
  patterns = changed_is_put song.patterns p change x found;
  instruments = refl;
}

-- a pattern that keeps its number of rows, or gets another
whole : (song : Module) (p rows : ℕ) (change : Pattern → Pattern) → p < length song.patterns
    → ((x : Pattern) → rows_at song p ≡ x.rows → (change x).rows ≡ rows)
    → IsReached (whole_pattern song p rows) song (with_pattern p change song)
whole song p rows change lt same =
    let one = pattern_there song p lt in
    record {
      there = omega (arith, lt);
      after = change one.pattern;
      all = patterns_put song p change one.pattern one.there;
      count = ap (λ n. pieces_of (n * song.channels) 256) (sym (same one.pattern one.rows));
    }

pattern_passed : (song : Module) (p : ℕ) (fault : EditFault) (causes : List (Option EditFault))
    → first_cause (unless (nat_lt p (length song.patterns)) fault ∷ causes) ≡ None
    → (p < length song.patterns) × (first_cause causes ≡ None)
pattern_passed song p fault causes none =
    let a = passed (nat_lt p (length song.patterns)) fault causes none in
    (low p (length song.patterns) a.0, a.1)

row_passed : (song : Module) (p r : ℕ) (fault : EditFault) (causes : List (Option EditFault))
    → first_cause (unless (nat_lt r (rows_at song p)) fault ∷ causes) ≡ None
    → (r < rows_at song p) × (first_cause causes ≡ None)
row_passed song p r fault causes none =
    let a = passed (nat_lt r (rows_at song p)) fault causes none in
    (low r (rows_at song p) a.0, a.1)

cell_reaches : (song : Module) (p r c : ℕ) (cell : Cell) → p < length song.patterns → r < rows_at song p → c < song.channels
    → IsReached (reaches.Cell p ((r * song.channels + c) / 256)) song (with_pattern p (with_cell song.channels r c cell) song)
cell_reaches song p r c cell there row channel =
    let one = pattern_there song p there in
    let x = one.pattern in
    let place = r * song.channels + c in
    let below_rows : r < x.rows = omega (arith, row, one.rows) in
    let lt : place < x.rows * song.channels =
    subst (λ n. place < n) (mul_comm song.channels x.rows) (mul-add-lt r song.channels c x.rows below_rows channel) in
    record {
      before = x;
      there = one.there;
      after = with_cell song.channels r c cell x;
      all = patterns_put song p (with_cell song.channels r c cell) x one.there;
      change = record {
        there = omega (arith, lt);
        rows = refl;
        cells = λ k ne.
            let apart : k ≢ place = λ e. ne (ap (λ n. n / 256) e) in
            get_or-set_other x.cells place k cell empty_cell apart;
      };
    }

-- ---- instruments

instruments_put : (song : Module) (i : ℕ) (change : Instrument → Instrument) (x : Instrument)
    → slice_get song.instruments (i - 1) ≡ Some x
    → HasInstruments (put (i - 1) (change x) song.instruments) song (with_instrument i change song)
instruments_put song i change x found = record {
  channels = refl;
  patterns = refl;
  instruments = changed_is_put song.instruments (i - 1) change x found;
}

instrument_reaches : (song : Module) (i : ℕ) (change : Instrument → Instrument) (Made : List Sample → List Sample → Type 0)
    → (one : InstrumentThere song i) → Made one.instrument.samples (change one.instrument).samples
    → IsInstrumentReached Made (i - 1) song (with_instrument i change song)
instrument_reaches song i change Made one made = record {
  before = one.instrument;
  there = one.there;
  after = change one.instrument;
  all = instruments_put song i change one.instrument one.there;
  made = made;
}

bare_reaches : (song : Module) (i : ℕ) → InstrumentThere song i
    → IsBareReached (i - 1) song (with_instrument i (λ instrument. zero_instrument) song)
bare_reaches song i one = record {
  there = omega (arith, below song.instruments (i - 1) one.instrument one.there);
  after = zero_instrument;
  all = instruments_put song i (λ instrument. zero_instrument) one.instrument one.there;
  none = refl;
}

envelope_keeps : (first : Bool) (change : Envelope → Envelope) (x : Instrument)
    → (if first then record x { volume = change x.volume } else record x { panning = change x.panning }).samples ≡ x.samples
envelope_keeps true change x = refl
envelope_keeps false change x = refl

-- ---- samples

new_sample_made : (song : Module) (i : ℕ) (one : InstrumentThere song i)
    → HaveSample (samples_at song i) one.instrument.samples (with_new_sample one.instrument).samples
new_sample_made song i one =
    let xs = one.instrument.samples in
    let n : samples_at song i ≡ length xs = ap sample_count one.named in
    record {
      there = omega (arith, n);
      after = new_sample;
      all = pushed_is_put xs new_sample ∙ ap (λ k. put k new_sample xs) (sym n);
      frames = sym (ap (λ k. frames_if (slice_get xs k)) n ∙ ap frames_if (none_there xs));
    }

without_if : (x : Instrument) (few : Bool) → (few ≡ nat_le (length x.samples) 1)
    → (if few then named_only x.name else record x { samples = without_last x.samples }).samples ≡ without_last x.samples
without_if x true is =
    let le = most (length x.samples) 1 (sym is) in
    let n : length x.samples - 1 ≡ 0 = omega (arith, le) in
    sym (ap (λ k. take k x.samples) n)
without_if x false is = refl

-- a sample changed, whose frames stay
kept_reaches : (song : Module) (i s : ℕ) (change : Sample → Sample) (one : SampleThere song i s)
    → (change one.sample).frames ≡ one.sample.frames
    → IsReached (reaches.Sample (i - 1) s) song (with_sample i s change song)
kept_reaches song i s change one same =
    let xs = one.of.instrument.samples in
    instrument_reaches song i (λ (x : Instrument). record x { samples = changed_at s change x.samples }) (HaveSample s) one.of
    (record {
      there = omega (arith, below xs s one.sample one.there);
      after = change one.sample;
      all = changed_is_put xs s change one.sample one.there;
      frames = same ∙ sym (ap frames_if one.there);
    })

-- a sample whose frames change
framed_reaches : (song : Module) (i s first last gone : ℕ) (change : Sample → Sample) (one : SampleThere song i s)
    → IsFramesChange first last gone one.sample (change one.sample)
    → IsReached (reaches.Frames (i - 1) s first last gone) song (with_sample i s change song)
framed_reaches song i s first last gone change one changes =
    let xs = one.of.instrument.samples in
    instrument_reaches song i (λ (x : Instrument). record x { samples = changed_at s change x.samples })
    (HaveFrames s first last gone) one.of
    (record {
      before = one.sample;
      there = one.there;
      after = change one.sample;
      all = changed_is_put xs s change one.sample one.there;
      change = changes;
    })

framed_passed : (song : Module) (i s from to : ℕ) (fault : EditFault) (causes : List (Option EditFault))
    → (one : SampleThere song i s)
    → first_cause (unless (nat_le from to && nat_le to (frames_at song i s)) fault ∷ causes) ≡ None
    → (from ≤ to) × (to ≤ length one.sample.frames)
framed_passed song i s from to fault causes one none =
    let p = passed (nat_le from to && nat_le to (frames_at song i s)) fault causes none in
    let b = both (nat_le from to) (nat_le to (frames_at song i s)) p.0 in
    let high = most to (frames_at song i s) b.1 in
    (most from to b.0, omega (arith, high, one.frames))

-- frames between two places
between_if : (song : Module) (i s from to : ℕ) (change : Sample → Sample) (one : SampleThere song i s)
    → (none : Bool) → none ≡ (from == to)
    → (from ≡ to → (change one.sample).frames ≡ one.sample.frames)
    → (from < to → IsFramesChange (from / 1024) (pieces_of to 1024) (pieces_of to 1024) one.sample (change one.sample))
    → from ≤ to
    → IsReached (if none then reaches.Sample (i - 1) s else reaches.Frames (i - 1) s (from / 1024) (pieces_of to 1024) (pieces_of to 1024))
    song (with_sample i s change song)
between_if song i s from to change one true is same changes le =
    let e : from ≡ to = grind (arith, nat_tests) in
    kept_reaches song i s change one (same e)
between_if song i s from to change one false is same changes le =
    let lt : from < to = grind (arith, nat_tests) in
    framed_reaches song i s (from / 1024) (pieces_of to 1024) (pieces_of to 1024) change one (changes lt)

-- ---- each edit

block_passed : (song : Module) (p r c h w : ℕ) → first_cause (block_of song p r c h w) ≡ None → p < length song.patterns
block_passed song p r c h w none = (pattern_passed song p _ _ none).0

orders_stay : (song next : Module) → next.channels ≡ song.channels → next.patterns ≡ song.patterns → next.instruments ≡ song.instruments
    → HasPatterns song.patterns song next
orders_stay song next a b c = record { channels = a; patterns = b; instruments = c }

pub edit_reaches : EditReaches
-- patterns
edit_reaches song (edits.Cell p r c note ins vol eff par) valid none =
    let a = pattern_passed song p _ _ none in
    let b = row_passed song p r _ _ a.1 in
    let d = passed (nat_lt c song.channels) _ _ b.1 in
    cell_reaches song p r c (record { note = note; instrument = ins; volume = vol; effect = eff; parameter = par })
    a.0 b.0 (low c song.channels d.0)
edit_reaches song (edits.Rows p n) valid none =
    whole song p n _ (pattern_passed song p _ _ none).0 (λ x is. refl)
edit_reaches song (edits.Insrow p r) valid none =
    whole song p (rows_at song p) _ (pattern_passed song p _ _ none).0 (λ x is. sym is)
edit_reaches song (edits.Delrow p r) valid none =
    whole song p (rows_at song p) _ (pattern_passed song p _ _ none).0 (λ x is. sym is)
edit_reaches song (edits.Clear p r c h w) valid none =
    whole song p (rows_at song p) _ (block_passed song p r c h w none) (λ x is. sym is)
edit_reaches song (edits.Transpose p r c h w d) valid none =
    whole song p (rows_at song p) _ (block_passed song p r c h w none) (λ x is. sym is)
edit_reaches song (edits.Copy p r c h w q r2 c2) valid none =
    let b = passed_all (block_of song p r c h w) (block_of song q r2 c2 h w) none in
    whole song q (rows_at song q) _ (block_passed song q r2 c2 h w b.1) (λ x is. sym is)
-- the song
edit_reaches song (edits.Order position p) valid none = orders_stay song _ refl refl refl
edit_reaches song (edits.Insorder position p) valid none = orders_stay song _ refl refl refl
edit_reaches song (edits.Delorder position) valid none = orders_stay song _ refl refl refl
edit_reaches song (edits.Restart position) valid none = orders_stay song _ refl refl refl
edit_reaches song (edits.Tempo n) valid none = orders_stay song _ refl refl refl
edit_reaches song (edits.Bpm n) valid none = orders_stay song _ refl refl refl
edit_reaches song (edits.Title name) valid none = orders_stay song _ refl refl refl
edit_reaches song (edits.Newpat n) valid none = record {
  there = omega arith;
  after = empty_pattern song.channels n;
  all = record {
    channels = refl;
    patterns = pushed_is_put song.patterns (empty_pattern song.channels n);
    instruments = refl;
  };
  count = refl;
}
edit_reaches song edits.Delpat valid none = record { channels = refl; patterns = refl; instruments = refl }
-- instruments
edit_reaches song edits.Newins valid none = record {
  there = omega arith;
  after = zero_instrument;
  all = record {
    channels = refl;
    patterns = refl;
    instruments = pushed_is_put song.instruments zero_instrument;
  };
  none = refl;
}
edit_reaches song (edits.Clearins i) valid none = bare_reaches song i (instrument_passed song i _ _ none).0
edit_reaches song (edits.Insname i name) valid none =
    instrument_reaches song i _ AreTheSame (instrument_passed song i _ _ none).0 refl
edit_reaches song (edits.Map i n k) valid none =
    instrument_reaches song i _ AreTheSame (instrument_passed song i _ _ none).0 refl
edit_reaches song (edits.Env i w count sus ls le flags) valid none =
    let one = (instrument_passed song i _ _ none).0 in
    instrument_reaches song i (with_envelope w (with_head count sus ls le flags)) AreTheSame one
    (envelope_keeps (w == 0) (with_head count sus ls le flags) one.instrument)
edit_reaches song (edits.Point i w k x y) valid none =
    let one = (instrument_passed song i _ _ none).0 in
    instrument_reaches song i (with_envelope w (with_point k (record { x = x; y = y }))) AreTheSame one
    (envelope_keeps (w == 0) (with_point k (record { x = x; y = y })) one.instrument)
edit_reaches song (edits.Vib i kind sweep depth rate) valid none =
    instrument_reaches song i _ AreTheSame (instrument_passed song i _ _ none).0 refl
edit_reaches song (edits.Fade i n) valid none =
    instrument_reaches song i _ AreTheSame (instrument_passed song i _ _ none).0 refl
-- samples
edit_reaches song (edits.Newsmp i) valid none =
    let one = (instrument_passed song i _ _ none).0 in
    instrument_reaches song i with_new_sample (HaveSample (samples_at song i)) one (new_sample_made song i one)
edit_reaches song (edits.Delsmp i) valid none =
    let one = (instrument_passed song i _ _ none).0 in
    instrument_reaches song i without_sample AreWithoutLast one
    (without_if one.instrument (nat_le (length one.instrument.samples) 1) refl)
edit_reaches song (edits.Smpname i s name) valid none =
    kept_reaches song i s _ (sample_passed song i s _ none).0 refl
edit_reaches song (edits.Smp i s vol fine rel pan) valid none =
    kept_reaches song i s _ (sample_passed song i s _ none).0 refl
edit_reaches song (edits.Loop i s kind start len) valid none =
    kept_reaches song i s (with_loop kind start len) (sample_passed song i s _ none).0 refl
-- frames
edit_reaches song (edits.Cut i s from to) valid none =
    let a = sample_passed song i s _ none in
    let b = framed_passed song i s from to _ _ a.0 a.1 in
    let change = cut_changes a.0.sample from to b.0 b.1 in
    framed_reaches song i s _ _ _ (without_frames from to) a.0
    (subst (λ n. IsFramesChange (from / 1024) (pieces_of (n - (to - from)) 1024) (pieces_of n 1024) a.0.sample
    (without_frames from to a.0.sample))
    (sym a.0.frames) change)
edit_reaches song (edits.Paste i s at new) valid none =
    let a = sample_passed song i s _ none in
    let b = framed_passed song i s at at _ _ a.0 a.1 in
    let change = paste_changes a.0.sample at new b.1 in
    framed_reaches song i s _ _ _ (with_new_frames at new) a.0
    (subst (λ n. IsFramesChange (at / 1024) (pieces_of (n + length new) 1024) (pieces_of n 1024) a.0.sample
    (with_new_frames at new a.0.sample))
    (sym a.0.frames) change)
edit_reaches song (edits.Reverse i s from to) valid none =
    let a = sample_passed song i s _ none in
    let b = framed_passed song i s from to _ _ a.0 a.1 in
    between_if song i s from to (turned from to) a.0 (from == to) refl
    (λ e. subst (λ n. (turned from n a.0.sample).frames ≡ a.0.sample.frames) e (turned_none a.0.sample from))
    (λ lt. turned_changes a.0.sample from to lt b.1) b.0
edit_reaches song (edits.Scale i s from to n d) valid none =
    let a = sample_passed song i s _ none in
    let b = framed_passed song i s from to _ _ a.0 a.1 in
    between_if song i s from to (scaled from to n d) a.0 (from == to) refl
    (λ e. subst (λ m. (scaled from m n d a.0.sample).frames ≡ a.0.sample.frames) e (scaled_none a.0.sample from n d))
    (λ lt. scaled_changes a.0.sample from to n d lt b.1) b.0
edit_reaches song (edits.Bits i s b) valid none =
    let a = sample_passed song i s _ none in
    let change = bits_change a.0.sample b in
    framed_reaches song i s _ _ _ (with_bits b) a.0
    (subst (λ n. IsFramesChange 0 (pieces_of n 1024) (pieces_of n 1024) a.0.sample (with_bits b a.0.sample))
    (sym a.0.frames) change)
