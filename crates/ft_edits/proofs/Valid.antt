-- An edit of a valid song that isn't refused gives a valid song.
use Rattle.std.proofs.Common.{◌≡◌, ℕ, suc, ◌+◌, ◌-◌, ◌<◌, ◌≤◌, Bool, true, false, cond, List, [], ◌∷◌, ◌++◌, Option, None, Some, Result, Ok, Err, length, take, drop, set, All, refl, subst, arith}
use Rattle.std.specs.Prelude.{FitsSigned, nat_lt, nat_le, ◌==◌, ◌&&◌, ◌||◌, insert, remove}
use Rattle.std.proofs.lemmas.List.{length-take, length-drop, length-append, length-set}
use Rattle.std.proofs.lemmas.List.Elements.{All-nil, All-cons, All-head, All-tail, All-take, All-drop, All-append, All-set}
use Rattle.ft_types.specs.declared.module.Module.{Module}
use Rattle.ft_types.specs.declared.pattern.Pattern.{Pattern}
use Rattle.ft_types.specs.declared.pattern.Cell.{Cell}
use Rattle.ft_types.specs.declared.instrument.Instrument.{Instrument}
use Rattle.ft_types.specs.declared.sample.Sample.{Sample}
use Rattle.ft_types.specs.declared.edit.Edit.{Edit}
use Rattle.ft_types.specs.declared.edit.Edit.TheVariants as edits
use Rattle.ft_types.specs.declared.edit_fault.EditFault.{EditFault}
use Rattle.ft_types.specs.declared.edit_fault.EditFault.TheVariants.{NoPattern, NoRow, NoChannel}
use Rattle.ft_types.specs.Valid.{IsValid, IsValidPattern, IsValidInstrument, width_of}
use Rattle.ft_types.specs.Views.{rows_at, row_count, empty_cell}
use Rattle.ft_edits.specs.Lists.{without_last}
use Rattle.ft_edits.specs.Faults.{first_cause, fault_of, sampled, framed, samples_at, sample_count, frames_at, wide_at, width_in, missing_instrument, missing_sample, missing_row, missing_channel, out_of_range}
use Rattle.ft_edits.specs.Patterns.{with_cell, with_rows, with_new_row, without_row, empty_pattern, with_block, moved_cell, copied}
use Rattle.ft_edits.specs.Instruments.{zero_instrument, with_map, with_envelope, with_head, with_point}
use Rattle.ft_edits.specs.Samples.{with_new_sample, without_sample, with_loop, without_frames, with_new_frames, turned, scaled, with_bits}
use Rattle.ft_edits.specs.Edited.{edited, without_order}
use Rattle.ft_edits.specs.Given.{HoldsFields}
use Rattle.ft_edits.specs.Apply.{BatchRefusal, unless_fault, apply, go_on, apply_from, apply_batch}
use Rattle.ft_edits.specs.Versions.{left_by, module_at}
use Rattle.ft_edits.specs.Laws.{EditedIsValid, AppliedIsValid, BatchIsValid, VersionsAreValid}
use Rattle.ft_types.specs.declared.journal.Entry.{Entry}
use Rattle.ft_edits.proofs.Causes.{passed, both, low, most, ranged}
use Rattle.ft_edits.proofs.SongFacts.{with_valid_patterns, with_valid_instruments, with_valid_orders, pattern_kept, instrument_kept, sample_kept, count_of, frames_of, row_kept}
use Rattle.ft_edits.proofs.PatternFacts.{empty_valid, empty_pattern_valid, cell_kept, rows_kept, new_row_kept, without_row_kept, block_kept, moved_kept, copied_valid}
use Rattle.ft_edits.proofs.InstrumentFacts.{zero_valid, name_kept, map_kept, vibrato_kept, fadeout_kept, envelope_kept, head_kept, point_kept}
use Rattle.ft_edits.proofs.SampleFacts.{new_sample_kept, without_kept, sample_name_kept, sample_head_kept, loop_kept, cut_kept, paste_kept, turned_kept, scaled_kept, bits_kept, given_fit}

-- ---- what the causes of a group rule out

record HasInstrument (song : Module) (i : ℕ) (causes : List (Option EditFault)) : Type 0 where
  some : 0 < i
  rest : first_cause causes ≡ None

has_instrument : (song : Module) (i : ℕ) (causes : List (Option EditFault))
    → first_cause (missing_instrument song i ∷ causes) ≡ None → HasInstrument song i causes
has_instrument song i causes none =
    let p = passed (nat_lt 0 i && nat_le i (length song.instruments)) _ causes none in
    record { some = low 0 i (both (nat_lt 0 i) (nat_le i (length song.instruments)) p.0).0; rest = p.1 }

record HasSample (song : Module) (i s : ℕ) (causes : List (Option EditFault)) : Type 0 where
  some : 0 < i
  there : s < samples_at song i
  rest : first_cause causes ≡ None

has_sample : (song : Module) (i s : ℕ) (causes : List (Option EditFault))
    → first_cause (sampled song i s causes) ≡ None → HasSample song i s causes
has_sample song i s causes none =
    let h = has_instrument song i (missing_sample song i s ∷ causes) none in
    let p = passed (nat_lt s (samples_at song i)) _ causes h.rest in
    record { some = h.some; there = low s (samples_at song i) p.0; rest = p.1 }

record HasFrames (song : Module) (i s from to : ℕ) (causes : List (Option EditFault)) : Type 0 where
  some : 0 < i
  there : s < samples_at song i
  order : from ≤ to
  below : to ≤ frames_at song i s
  rest : first_cause causes ≡ None

has_frames : (song : Module) (i s from to : ℕ) (causes : List (Option EditFault))
    → first_cause (framed song i s from to causes) ≡ None → HasFrames song i s from to causes
has_frames song i s from to causes none =
    let h = has_sample song i s _ none in
    let p = passed (nat_le from to && nat_le to (frames_at song i s)) _ causes h.rest in
    let b = both (nat_le from to) (nat_le to (frames_at song i s)) p.0 in
    record {
      some = h.some;
      there = h.there;
      order = most from to b.0;
      below = most to (frames_at song i s) b.1;
      rest = p.1;
    }

-- ---- the song

with_restart : (b : Bool) (song : Module) (orders : List ℕ) → nat_lt song.restart (length orders) ≡ b → IsValid song
    → 1 ≤ length orders → length orders ≤ 256 → All (λ order. order < 256) orders
    → IsValid (record song { orders = orders; restart = cond b song.restart 0 })
with_restart true song orders is v some few all =
    with_valid_orders song orders song.restart v some few all (low song.restart (length orders) is)
with_restart false song orders is v some few all = with_valid_orders song orders 0 v some few all some

order_gone : (song : Module) (position : ℕ) → IsValid song → position < length song.orders → 1 < length song.orders
    → IsValid (without_order position song)
order_gone song position v there more =
    let orders = remove song.orders position in
    let front = length-take position song.orders in
    let back = length-drop (suc position) song.orders in
    let both_parts = length-append (take position song.orders) (drop (suc position) song.orders) in
    with_restart (nat_lt song.restart (length orders)) song orders refl v
    (omega (arith, front, back, both_parts, there, more)) (omega (arith, front, back, both_parts, there, v.few_orders))
    (All-append (λ order. order < 256) (take position song.orders) (drop (suc position) song.orders)
    (All-take (λ order. order < 256) position song.orders v.orders)
    (All-drop (λ order. order < 256) (suc position) song.orders v.orders))

order_new : (song : Module) (position p : ℕ) → IsValid song → p < 256 → position ≤ length song.orders
    → length song.orders + 1 ≤ 256
    → IsValid (record song { orders = insert song.orders position p })
order_new song position p v byte there few =
    let rest : List ℕ = p ∷ drop position song.orders in
    let len = length-append (take position song.orders) rest in
    let front = length-take position song.orders in
    let back = length-drop position song.orders in
    with_valid_orders song (take position song.orders ++ rest) song.restart v
    (omega (arith, len, front, back, there)) (omega (arith, len, front, back, there, few))
    (All-append (λ order. order < 256) (take position song.orders) rest
    (All-take (λ order. order < 256) position song.orders v.orders)
    (All-cons (λ order. order < 256) p (drop position song.orders) byte (All-drop (λ order. order < 256) position song.orders v.orders)))
    (omega (arith, len, front, back, there, v.restart))

order_set : (song : Module) (position p : ℕ) → IsValid song → p < 256
    → IsValid (record song { orders = set song.orders position p })
order_set song position p v byte =
    let same = length-set song.orders position p in
    with_valid_orders song (set song.orders position p) song.restart v
    (omega (arith, same, v.some_orders)) (omega (arith, same, v.few_orders))
    (All-set (λ order. order < 256) song.orders position p byte v.orders) (omega (arith, same, v.restart))

-- ---- each edit

pub edited_valid : EditedIsValid
edited_valid song (edits.Cell p r c note ins vol eff par) v f none =
    let s =
    passed (nat_lt p (length song.patterns)) (NoPattern p)
    (missing_row song p r ∷ missing_channel song c ∷ out_of_range 1 0 97 note ∷ []) none in
    let t =
    passed (nat_lt r (rows_at song p)) (NoRow r (rows_at song p)) (missing_channel song c ∷ out_of_range 1 0 97 note ∷ []) s.1
    in
    let u = passed (nat_lt c song.channels) (NoChannel c) (out_of_range 1 0 97 note ∷ []) t.1 in
    let n = ranged 1 0 97 note [] u.1 in
    let cell : Cell = record { note = note; instrument = ins; volume = vol; effect = eff; parameter = par } in
    pattern_kept song p (with_cell song.channels r c cell) v
    (λ pattern valid. cell_kept song.channels r c cell pattern
    (record { note = n.1; instrument = f.0; volume = f.1; effect = f.2; parameter = f.3 }) valid)
edited_valid song (edits.Rows p n) v f none =
    let s = passed (nat_lt p (length song.patterns)) (NoPattern p) (out_of_range 2 1 256 n ∷ []) none in
    let h = ranged 2 1 256 n [] s.1 in
    pattern_kept song p (with_rows song.channels n) v (λ pattern valid. rows_kept song.channels n pattern h.0 h.1 valid)
edited_valid song (edits.Insrow p r) v f none =
    pattern_kept song p (with_new_row song.channels r) v (λ pattern valid. new_row_kept song.channels r pattern valid)
edited_valid song (edits.Delrow p r) v f none =
    let s = passed (nat_lt p (length song.patterns)) (NoPattern p) (missing_row song p r ∷ []) none in
    let t = passed (nat_lt r (rows_at song p)) (NoRow r (rows_at song p)) [] s.1 in
    row_kept song p (without_row song.channels r) v
    (λ pattern found valid. without_row_kept song.channels r pattern
    (subst (λ (it : Option Pattern). r < row_count it) found (low r (rows_at song p) t.0)) valid)
edited_valid song (edits.Clear p r c h w) v f none =
    pattern_kept song p (with_block song.channels r c h w (λ row channel cell. empty_cell)) v
    (λ pattern valid.
    block_kept song.channels r c h w (λ row channel cell. empty_cell) pattern (λ row channel cell old. empty_valid)
    valid)
edited_valid song (edits.Transpose p r c h w d) v f none =
    pattern_kept song p (with_block song.channels r c h w (λ row channel cell. moved_cell d cell)) v
    (λ pattern valid. block_kept song.channels r c h w (λ row channel cell. moved_cell d cell) pattern
    (λ row channel cell old. moved_kept d cell old) valid)
edited_valid song (edits.Copy p r c h w q r2 c2) v f none =
    let change : ℕ → ℕ → Cell → Cell = λ row channel cell. copied song p r c r2 c2 row channel in
    pattern_kept song q (with_block song.channels r2 c2 h w change) v
    (λ pattern valid. block_kept song.channels r2 c2 h w change pattern
    (λ row channel cell old. copied_valid song p r c r2 c2 row channel v) valid)
edited_valid song (edits.Order position p) v f none = order_set song position p v f
edited_valid song (edits.Insorder position p) v f none =
    let s = passed (nat_lt position (length song.orders + 1)) _ _ none in
    let t = passed (nat_le (length song.orders + 1) 256) _ _ s.1 in
    let below = low position (length song.orders + 1) s.0 in
    order_new song position p v f (omega (arith, below)) (most (length song.orders + 1) 256 t.0)
edited_valid song (edits.Delorder position) v f none =
    let s = passed (nat_lt position (length song.orders)) _ _ none in
    let t = passed (nat_lt 1 (length song.orders)) _ _ s.1 in
    order_gone song position v (low position (length song.orders) s.0) (low 1 (length song.orders) t.0)
edited_valid song (edits.Restart position) v f none =
    let s = passed (nat_lt position (length song.orders)) _ _ none in
    with_valid_orders song song.orders position v v.some_orders v.few_orders v.orders
    (low position (length song.orders) s.0)
edited_valid song (edits.Tempo n) v f none =
    let h = ranged 4 1 31 n [] none in
    record {
      name = v.name;
      tracker = v.tracker;
      some_orders = v.some_orders;
      few_orders = v.few_orders;
      orders = v.orders;
      restart = v.restart;
      some_channels = v.some_channels;
      few_channels = v.few_channels;
      some_tempo = h.0;
      low_tempo = h.1;
      some_bpm = v.some_bpm;
      low_bpm = v.low_bpm;
      few_patterns = v.few_patterns;
      patterns = v.patterns;
      few_instruments = v.few_instruments;
      instruments = v.instruments;
    }
edited_valid song (edits.Bpm n) v f none =
    let h = ranged 5 32 255 n [] none in
    record {
      name = v.name;
      tracker = v.tracker;
      some_orders = v.some_orders;
      few_orders = v.few_orders;
      orders = v.orders;
      restart = v.restart;
      some_channels = v.some_channels;
      few_channels = v.few_channels;
      some_tempo = v.some_tempo;
      low_tempo = v.low_tempo;
      some_bpm = h.0;
      low_bpm = h.1;
      few_patterns = v.few_patterns;
      patterns = v.patterns;
      few_instruments = v.few_instruments;
      instruments = v.instruments;
    }
edited_valid song (edits.Title name) v f none =
    record {
      name = f;
      tracker = v.tracker;
      some_orders = v.some_orders;
      few_orders = v.few_orders;
      orders = v.orders;
      restart = v.restart;
      some_channels = v.some_channels;
      few_channels = v.few_channels;
      some_tempo = v.some_tempo;
      low_tempo = v.low_tempo;
      some_bpm = v.some_bpm;
      low_bpm = v.low_bpm;
      few_patterns = v.few_patterns;
      patterns = v.patterns;
      few_instruments = v.few_instruments;
      instruments = v.instruments;
    }
edited_valid song (edits.Newpat n) v f none =
    let s = passed (nat_le (length song.patterns + 1) 256) _ _ none in
    let few = most (length song.patterns + 1) 256 s.0 in
    let h = ranged 2 1 256 n [] s.1 in
    let len = length-append song.patterns (empty_pattern song.channels n ∷ []) in
    with_valid_patterns song (song.patterns ++ empty_pattern song.channels n ∷ []) v (omega (arith, few, len))
    (All-append (IsValidPattern song.channels) song.patterns (empty_pattern song.channels n ∷ []) v.patterns
    (All-cons (IsValidPattern song.channels) (empty_pattern song.channels n) []
    (empty_pattern_valid song.channels n h.0 h.1) (All-nil (IsValidPattern song.channels))))
edited_valid song edits.Delpat v f none =
    with_valid_patterns song (without_last song.patterns) v
    (omega (arith, v.few_patterns, length-take (length song.patterns - 1) song.patterns))
    (All-take (IsValidPattern song.channels) (length song.patterns - 1) song.patterns v.patterns)
edited_valid song edits.Newins v f none =
    let s = passed (nat_le (length song.instruments + 1) 128) _ _ none in
    let few = most (length song.instruments + 1) 128 s.0 in
    let len = length-append song.instruments (zero_instrument ∷ []) in
    with_valid_instruments song (song.instruments ++ zero_instrument ∷ []) v (omega (arith, few, len))
    (All-append IsValidInstrument song.instruments (zero_instrument ∷ []) v.instruments
    (All-cons IsValidInstrument zero_instrument [] zero_valid (All-nil IsValidInstrument)))
edited_valid song (edits.Clearins i) v f none =
    let h = has_instrument song i [] none in
    instrument_kept song i (λ instrument. zero_instrument) v h.some (λ instrument found valid. zero_valid)
edited_valid song (edits.Insname i name) v f none =
    let h = has_instrument song i [] none in
    instrument_kept song i (λ (instrument : Instrument). record instrument { name = name }) v h.some
    (λ instrument found valid. name_kept name instrument f valid)
edited_valid song (edits.Map i n k) v f none =
    let h = has_sample song i 0 _ none in
    let a = ranged 7 0 95 n _ h.rest in
    let b = ranged 13 0 15 k _ a.2 in
    instrument_kept song i (with_map n k) v h.some
    (λ instrument found valid. map_kept n k instrument b.1 (count_of song i 0 instrument found h.there) valid)
edited_valid song (edits.Env i w count sus ls le flags) v f none =
    let h = has_sample song i 0 _ none in
    let a = ranged 18 0 1 w _ h.rest in
    let b = ranged 6 0 12 count _ a.2 in
    let c = ranged 7 0 11 sus _ b.2 in
    let d = ranged 7 0 11 ls _ c.2 in
    let e = ranged 7 0 11 le _ d.2 in
    let g = ranged 8 0 7 flags _ e.2 in
    instrument_kept song i (with_envelope w (with_head count sus ls le flags)) v h.some
    (λ instrument found valid. envelope_kept w (with_head count sus ls le flags) instrument
    (λ envelope good. head_kept count sus ls le flags envelope b.1 c.1 d.1 e.1 g.1 good)
    (count_of song i 0 instrument found h.there) valid)
edited_valid song (edits.Point i w k x y) v f none =
    let h = has_sample song i 0 _ none in
    let a = ranged 18 0 1 w _ h.rest in
    let b = ranged 7 0 11 k _ a.2 in
    let c = ranged 9 0 64 y _ b.2 in
    instrument_kept song i (with_envelope w (with_point k (record { x = x; y = y }))) v h.some
    (λ instrument found valid. envelope_kept w (with_point k (record { x = x; y = y })) instrument
    (λ envelope good. point_kept k (record { x = x; y = y }) envelope (record { x = f; y = c.1 }) good)
    (count_of song i 0 instrument found h.there) valid)
edited_valid song (edits.Vib i kind sweep depth rate) v f none =
    let h = has_sample song i 0 _ none in
    let a = ranged 10 0 3 kind _ h.rest in
    let b = ranged 11 0 15 depth _ a.2 in
    let c = ranged 12 0 63 rate _ b.2 in
    instrument_kept song i (λ (instrument : Instrument).
    record instrument { vibrato = record { kind = kind; sweep = sweep; depth = depth; rate = rate } }) v h.some
    (λ instrument found valid. vibrato_kept (record { kind = kind; sweep = sweep; depth = depth; rate = rate })
    instrument
    (record { kind = a.1; sweep = f; depth = b.1; rate = c.1 }) (count_of song i 0 instrument found h.there) valid)
edited_valid song (edits.Fade i n) v f none =
    let h = has_sample song i 0 _ none in
    instrument_kept song i (λ (instrument : Instrument). record instrument { fadeout = n }) v h.some
    (λ instrument found valid. fadeout_kept n instrument f (count_of song i 0 instrument found h.there) valid)
edited_valid song (edits.Newsmp i) v f none =
    let h = has_instrument song i _ none in
    let s = passed (nat_le (samples_at song i + 1) 16) _ _ h.rest in
    let few = most (samples_at song i + 1) 16 s.0 in
    instrument_kept song i with_new_sample v h.some
    (λ instrument found valid.
    new_sample_kept instrument (subst (λ (it : Option Instrument). sample_count it + 1 ≤ 16) found few) valid)
edited_valid song (edits.Delsmp i) v f none =
    let h = has_sample song i 0 _ none in
    instrument_kept song i without_sample v h.some (λ instrument found valid. without_kept instrument valid)
edited_valid song (edits.Smpname i s name) v f none =
    let h = has_sample song i s _ none in
    sample_kept song i s (λ (sample : Sample). record sample { name = name }) v h.some h.there
    (λ sample found valid. sample_name_kept name sample f valid)
edited_valid song (edits.Smp i s vol fine rel pan) v f none =
    let h = has_sample song i s _ none in
    let a = ranged 9 0 64 vol _ h.rest in
    sample_kept song i s
    (λ (sample : Sample). record sample { volume = vol; finetune = fine; relative = rel; panning = pan }) v h.some
    h.there
    (λ sample found valid. sample_head_kept vol fine rel pan sample a.1 f.0 f.1 f.2 valid)
edited_valid song (edits.Loop i s kind start len) v f none =
    let h = has_sample song i s _ none in
    let a = ranged 10 0 2 kind _ h.rest in
    let b = passed ((kind == 0) || ((nat_lt 0 len) && nat_le (start + len) (frames_at song i s))) _ _ a.2 in
    sample_kept song i s (with_loop kind start len) v h.some h.there
    (λ sample found valid. loop_kept kind start len sample a.1
    (subst (λ n. ((kind == 0) || ((nat_lt 0 len) && nat_le (start + len) n)) ≡ true) (frames_of song i s sample found)
    b.0) valid)
edited_valid song (edits.Cut i s from to) v f none =
    let h = has_frames song i s from to _ none in
    sample_kept song i s (without_frames from to) v h.some h.there
    (λ sample found valid. cut_kept from to sample h.order valid)
edited_valid song (edits.Paste i s at frames) v f none =
    let h = has_frames song i s at at _ none in
    let p = passed (nat_le (frames_at song i s + length frames) 3932160) _ _ h.rest in
    let few = most (frames_at song i s + length frames) 3932160 p.0 in
    sample_kept song i s (with_new_frames at frames) v h.some h.there
    (λ sample found valid. paste_kept at frames sample
    (subst (λ n. n + length frames ≤ 3932160) (frames_of song i s sample found) few)
    (subst (λ (it : Option Sample). All (FitsSigned (width_of (width_in it))) frames) found
    (given_fit (wide_at song i s) frames f p.1)) valid)
edited_valid song (edits.Reverse i s from to) v f none =
    let h = has_frames song i s from to _ none in
    sample_kept song i s (turned from to) v h.some h.there
    (λ sample found valid.
    turned_kept from to sample h.order (subst (λ n. to ≤ n) (frames_of song i s sample found) h.below) valid)
edited_valid song (edits.Scale i s from to n d) v f none =
    let h = has_frames song i s from to _ none in
    sample_kept song i s (scaled from to n d) v h.some h.there
    (λ sample found valid.
    scaled_kept from to n d sample h.order (subst (λ n. to ≤ n) (frames_of song i s sample found) h.below) valid)
edited_valid song (edits.Bits i s b) v f none =
    let h = has_sample song i s _ none in
    sample_kept song i s (with_bits b) v h.some h.there (λ sample found valid. bits_kept b sample valid)

-- ---- applied

not_refused : (cause : Option EditFault) (song next : Module) → unless_fault cause song ≡ Ok next
    → (cause ≡ None) × (song ≡ next)
not_refused None song next is = (refl, cc)
not_refused (Some fault) song next is = absurd cc

pub applied_valid : AppliedIsValid
unfolding apply
applied_valid song next edit v f is =
    let h = not_refused (fault_of song edit) (edited song edit) next is in
    subst IsValid h.1 (edited_valid song edit v f h.0)

after_one : (at : ℕ) (rest : Module → Result Module BatchRefusal) (answer : Result Module EditFault) (next : Module)
    → go_on at rest answer ≡ Ok next → (middle : Module) × (answer ≡ Ok middle) × (rest middle ≡ Ok next)
after_one at rest (Ok middle) next is = (middle, refl, is)
after_one at rest (Err fault) next is = absurd cc

batch_from : (at : ℕ) (batch : List Edit) (song next : Module) → IsValid song → All HoldsFields batch
    → apply_from at batch song ≡ Ok next → IsValid next
batch_from at [] song next v all is = let same : song ≡ next = cc in subst IsValid same v
batch_from at (edit ∷ batch) song next v all is =
    let h = after_one at (apply_from (at + 1) batch) (apply song edit) next is in
    batch_from (at + 1) batch h.0 next (applied_valid song h.0 edit v (All-head HoldsFields edit batch all) h.1)
    (All-tail HoldsFields edit batch all) h.2

pub batch_valid : BatchIsValid
batch_valid song next batch v all is = batch_from 0 batch song next v all is

left_valid : (song : Module) (answer : Result Module BatchRefusal) → IsValid song
    → ((next : Module) → answer ≡ Ok next → IsValid next)
    → IsValid (left_by song answer)
left_valid song (Ok next) v keeps = keeps next refl
left_valid song (Err refusal) v keeps = v

either : (b : Bool) (first second : Module) → IsValid first → IsValid second → IsValid (cond b first second)
either true first second v w = v
either false first second v w = w

pub versions_valid : VersionsAreValid
versions_valid song [] version v all = v
versions_valid song (entry ∷ entries) version v all =
    let batches : Entry → Type 0 = λ (entry : Entry). All HoldsFields entry.batch in
    let rest = All-tail batches entry entries all in
    either (nat_le entry.version version) (module_at (left_by song (apply_batch song entry.batch)) entries version)
    (module_at song entries version)
    (versions_valid (left_by song (apply_batch song entry.batch)) entries version
    (left_valid song (apply_batch song entry.batch) v
    (λ next is. batch_valid song next entry.batch v (All-head batches entry entries all) is)) rest)
    (versions_valid song entries version v rest)
