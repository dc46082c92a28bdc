-- The words of an instrument, one of whose parts is another.
use Rattle.std.proofs.Common.{◌≡◌, ◌≢◌, ℕ, zero, suc, get_or, eq-eqb, ne_eqb, ◌+◌, ◌*◌, ◌/◌, ◌%◌, subst, ◌<◌, ◌≤◌, List, [], ◌∷◌, length, set, replicate, refl, sym, ◌∙◌, arith, inl, inr}
use Rattle.std.specs.Prelude.{slice_index, All}
use Rattle.std.proofs.lemmas.Bool.{cases_lt}
use Rattle.std.proofs.lemmas.List.{get_or-replicate, get_or_past, get_or-set_same, get_or-set_other, length-replicate, length-set}
use Rattle.std.proofs.lemmas.List.Elements.{All-cons, All-nil}
use Rattle.ft_types.specs.Valid.{IsValidInstrument, IsValidPoint}
use Rattle.ft_types.specs.declared.instrument.Instrument.{Instrument}
use Rattle.ft_types.specs.declared.instrument.Point.{Point}
use Rattle.ft_types.specs.declared.sample.Sample.{Sample}
use Rattle.ft_segments.specs.Packing.{bytes_word, ids_word}
use Rattle.ft_image.specs.Values.{count_bytes, envelope_bytes, points_word, listed_point}
use Rattle.ft_image.specs.Changed.{IsOneChanged}
use Rattle.ft_edits.specs.Instruments.{zero_point, zero_instrument, with_map, with_envelope, with_head, with_point}
use Rattle.ft_roots.specs.RootWords.{HasRow, ZeroFrom, HasInstrumentWords}
use Rattle.ft_roots.proofs.Rows.{one_stays, one_put, row_stays, row_put, zeros_stay}
use Rattle.ft_roots.proofs.Places.{zero_bytes, zero_words, no_ids, three_put, three_stay, three_before}

-- what the words of an instrument are made of
pub record Parts : Type 0 where
  pub counts : List ℕ
  pub envelopes : List ℕ
  pub fadeout : ℕ
  pub name : List ℕ
  pub notes : List ℕ
  pub volume : List Point
  pub panning : List Point
  pub ids : List ℕ

pub record HasParts (words : List ℕ) (parts : Parts) : Type 0 where
  pub counts : slice_index words 0 ≡ bytes_word parts.counts 0
  pub envelopes : slice_index words 1 ≡ bytes_word parts.envelopes 0
  pub fadeout : slice_index words 2 ≡ parts.fadeout
  pub name : HasRow words 3 3 (bytes_word parts.name)
  pub notes : HasRow words 6 12 (bytes_word parts.notes)
  pub volume : HasRow words 18 6 (points_word parts.volume)
  pub panning : HasRow words 24 6 (points_word parts.panning)
  pub sample_ids : HasRow words 30 4 (ids_word parts.ids)
  pub others : ZeroFrom words 34

abbrev pub parts_of : Instrument → List ℕ → Parts
parts_of x ids = record {
  counts = count_bytes x;
  envelopes = envelope_bytes x;
  fadeout = x.fadeout;
  name = x.name;
  notes = x.map;
  volume = x.volume.points;
  panning = x.panning.points;
  ids = ids;
}

pub in_parts : (words : List ℕ) (x : Instrument) (ids : List ℕ) → HasInstrumentWords words x ids → HasParts words (parts_of x ids)
in_parts words x ids has = record {
  counts = has.counts;
  envelopes = has.envelopes;
  fadeout = has.fadeout;
  name = has.name;
  notes = has.notes;
  volume = has.volume;
  panning = has.panning;
  sample_ids = has.sample_ids;
  others = has.others;
}

pub of_parts : (words : List ℕ) (x : Instrument) (ids : List ℕ) → HasParts words (parts_of x ids) → HasInstrumentWords words x ids
of_parts words x ids has = record {
  counts = has.counts;
  envelopes = has.envelopes;
  fadeout = has.fadeout;
  name = has.name;
  notes = has.notes;
  volume = has.volume;
  panning = has.panning;
  sample_ids = has.sample_ids;
  others = has.others;
}

-- ---- one part put in place of another

pub counts_put : (words : List ℕ) (parts : Parts) (w : ℕ) (new : List ℕ) → length words ≡ 256 → w ≡ bytes_word new 0
    → HasParts words parts → HasParts (set words 0 w) (record parts { counts = new })
counts_put words parts w new long is has = record {
  counts = one_put words 0 w (omega (arith, long)) ∙ is;
  envelopes = one_stays words 0 w 1 (λ e. absurd (omega (arith, e))) ∙ has.envelopes;
  fadeout = one_stays words 0 w 2 (λ e. absurd (omega (arith, e))) ∙ has.fadeout;
  name = row_stays words 0 w 3 3 (bytes_word parts.name) (inl (omega arith)) has.name;
  notes = row_stays words 0 w 6 12 (bytes_word parts.notes) (inl (omega arith)) has.notes;
  volume = row_stays words 0 w 18 6 (points_word parts.volume) (inl (omega arith)) has.volume;
  panning = row_stays words 0 w 24 6 (points_word parts.panning) (inl (omega arith)) has.panning;
  sample_ids = row_stays words 0 w 30 4 (ids_word parts.ids) (inl (omega arith)) has.sample_ids;
  others = zeros_stay words 0 w 34 (omega arith) has.others;
}

pub envelopes_put : (words : List ℕ) (parts : Parts) (w : ℕ) (new : List ℕ) → length words ≡ 256 → w ≡ bytes_word new 0
    → HasParts words parts → HasParts (set words 1 w) (record parts { envelopes = new })
envelopes_put words parts w new long is has = record {
  counts = one_stays words 1 w 0 (λ e. absurd (omega (arith, e))) ∙ has.counts;
  envelopes = one_put words 1 w (omega (arith, long)) ∙ is;
  fadeout = one_stays words 1 w 2 (λ e. absurd (omega (arith, e))) ∙ has.fadeout;
  name = row_stays words 1 w 3 3 (bytes_word parts.name) (inl (omega arith)) has.name;
  notes = row_stays words 1 w 6 12 (bytes_word parts.notes) (inl (omega arith)) has.notes;
  volume = row_stays words 1 w 18 6 (points_word parts.volume) (inl (omega arith)) has.volume;
  panning = row_stays words 1 w 24 6 (points_word parts.panning) (inl (omega arith)) has.panning;
  sample_ids = row_stays words 1 w 30 4 (ids_word parts.ids) (inl (omega arith)) has.sample_ids;
  others = zeros_stay words 1 w 34 (omega arith) has.others;
}

pub fadeout_put : (words : List ℕ) (parts : Parts) (w : ℕ) → length words ≡ 256
    → HasParts words parts → HasParts (set words 2 w) (record parts { fadeout = w })
fadeout_put words parts w long has = record {
  counts = one_stays words 2 w 0 (λ e. absurd (omega (arith, e))) ∙ has.counts;
  envelopes = one_stays words 2 w 1 (λ e. absurd (omega (arith, e))) ∙ has.envelopes;
  fadeout = one_put words 2 w (omega (arith, long));
  name = row_stays words 2 w 3 3 (bytes_word parts.name) (inl (omega arith)) has.name;
  notes = row_stays words 2 w 6 12 (bytes_word parts.notes) (inl (omega arith)) has.notes;
  volume = row_stays words 2 w 18 6 (points_word parts.volume) (inl (omega arith)) has.volume;
  panning = row_stays words 2 w 24 6 (points_word parts.panning) (inl (omega arith)) has.panning;
  sample_ids = row_stays words 2 w 30 4 (ids_word parts.ids) (inl (omega arith)) has.sample_ids;
  others = zeros_stay words 2 w 34 (omega arith) has.others;
}

pub name_put : (words : List ℕ) (parts : Parts) (a w : ℕ) (new : List ℕ) → length words ≡ 256 → a < 3 → w ≡ bytes_word new a
    → ((k : ℕ) → k ≢ a → bytes_word new k ≡ bytes_word parts.name k)
    → HasParts words parts → HasParts (set words (3 + a) w) (record parts { name = new })
name_put words parts a w new long lt is same has = record {
  counts = one_stays words (3 + a) w 0 (λ e. absurd (omega (arith, e))) ∙ has.counts;
  envelopes = one_stays words (3 + a) w 1 (λ e. absurd (omega (arith, e))) ∙ has.envelopes;
  fadeout = one_stays words (3 + a) w 2 (λ e. absurd (omega (arith, e))) ∙ has.fadeout;
  name = row_put words 3 3 a w (bytes_word parts.name) (bytes_word new) (omega (arith, long, lt)) has.name is same;
  notes = row_stays words (3 + a) w 6 12 (bytes_word parts.notes) (inl (omega (arith, lt))) has.notes;
  volume = row_stays words (3 + a) w 18 6 (points_word parts.volume) (inl (omega (arith, lt))) has.volume;
  panning = row_stays words (3 + a) w 24 6 (points_word parts.panning) (inl (omega (arith, lt))) has.panning;
  sample_ids = row_stays words (3 + a) w 30 4 (ids_word parts.ids) (inl (omega (arith, lt))) has.sample_ids;
  others = zeros_stay words (3 + a) w 34 (omega (arith, lt)) has.others;
}

pub notes_put : (words : List ℕ) (parts : Parts) (a w : ℕ) (new : List ℕ) → length words ≡ 256 → a < 12 → w ≡ bytes_word new a
    → ((k : ℕ) → k ≢ a → bytes_word new k ≡ bytes_word parts.notes k)
    → HasParts words parts → HasParts (set words (6 + a) w) (record parts { notes = new })
notes_put words parts a w new long lt is same has = record {
  counts = one_stays words (6 + a) w 0 (λ e. absurd (omega (arith, e))) ∙ has.counts;
  envelopes = one_stays words (6 + a) w 1 (λ e. absurd (omega (arith, e))) ∙ has.envelopes;
  fadeout = one_stays words (6 + a) w 2 (λ e. absurd (omega (arith, e))) ∙ has.fadeout;
  name = row_stays words (6 + a) w 3 3 (bytes_word parts.name) (inr (omega arith)) has.name;
  notes = row_put words 6 12 a w (bytes_word parts.notes) (bytes_word new) (omega (arith, long, lt)) has.notes is same;
  volume = row_stays words (6 + a) w 18 6 (points_word parts.volume) (inl (omega (arith, lt))) has.volume;
  panning = row_stays words (6 + a) w 24 6 (points_word parts.panning) (inl (omega (arith, lt))) has.panning;
  sample_ids = row_stays words (6 + a) w 30 4 (ids_word parts.ids) (inl (omega (arith, lt))) has.sample_ids;
  others = zeros_stay words (6 + a) w 34 (omega (arith, lt)) has.others;
}

pub volume_put : (words : List ℕ) (parts : Parts) (a w : ℕ) (new : List Point) → length words ≡ 256 → a < 6 → w ≡ points_word new a
    → ((k : ℕ) → k ≢ a → points_word new k ≡ points_word parts.volume k)
    → HasParts words parts → HasParts (set words (18 + a) w) (record parts { volume = new })
volume_put words parts a w new long lt is same has = record {
  counts = one_stays words (18 + a) w 0 (λ e. absurd (omega (arith, e))) ∙ has.counts;
  envelopes = one_stays words (18 + a) w 1 (λ e. absurd (omega (arith, e))) ∙ has.envelopes;
  fadeout = one_stays words (18 + a) w 2 (λ e. absurd (omega (arith, e))) ∙ has.fadeout;
  name = row_stays words (18 + a) w 3 3 (bytes_word parts.name) (inr (omega arith)) has.name;
  notes = row_stays words (18 + a) w 6 12 (bytes_word parts.notes) (inr (omega arith)) has.notes;
  volume = row_put words 18 6 a w (points_word parts.volume) (points_word new) (omega (arith, long, lt)) has.volume is same;
  panning = row_stays words (18 + a) w 24 6 (points_word parts.panning) (inl (omega (arith, lt))) has.panning;
  sample_ids = row_stays words (18 + a) w 30 4 (ids_word parts.ids) (inl (omega (arith, lt))) has.sample_ids;
  others = zeros_stay words (18 + a) w 34 (omega (arith, lt)) has.others;
}

pub panning_put : (words : List ℕ) (parts : Parts) (a w : ℕ) (new : List Point) → length words ≡ 256 → a < 6 → w ≡ points_word new a
    → ((k : ℕ) → k ≢ a → points_word new k ≡ points_word parts.panning k)
    → HasParts words parts → HasParts (set words (24 + a) w) (record parts { panning = new })
panning_put words parts a w new long lt is same has = record {
  counts = one_stays words (24 + a) w 0 (λ e. absurd (omega (arith, e))) ∙ has.counts;
  envelopes = one_stays words (24 + a) w 1 (λ e. absurd (omega (arith, e))) ∙ has.envelopes;
  fadeout = one_stays words (24 + a) w 2 (λ e. absurd (omega (arith, e))) ∙ has.fadeout;
  name = row_stays words (24 + a) w 3 3 (bytes_word parts.name) (inr (omega arith)) has.name;
  notes = row_stays words (24 + a) w 6 12 (bytes_word parts.notes) (inr (omega arith)) has.notes;
  volume = row_stays words (24 + a) w 18 6 (points_word parts.volume) (inr (omega arith)) has.volume;
  panning = row_put words 24 6 a w (points_word parts.panning) (points_word new) (omega (arith, long, lt)) has.panning is same;
  sample_ids = row_stays words (24 + a) w 30 4 (ids_word parts.ids) (inl (omega (arith, lt))) has.sample_ids;
  others = zeros_stay words (24 + a) w 34 (omega (arith, lt)) has.others;
}

pub sample_ids_put : (words : List ℕ) (parts : Parts) (a w : ℕ) (new : List ℕ) → length words ≡ 256 → a < 4 → w ≡ ids_word new a
    → ((k : ℕ) → k ≢ a → ids_word new k ≡ ids_word parts.ids k)
    → HasParts words parts → HasParts (set words (30 + a) w) (record parts { ids = new })
sample_ids_put words parts a w new long lt is same has = record {
  counts = one_stays words (30 + a) w 0 (λ e. absurd (omega (arith, e))) ∙ has.counts;
  envelopes = one_stays words (30 + a) w 1 (λ e. absurd (omega (arith, e))) ∙ has.envelopes;
  fadeout = one_stays words (30 + a) w 2 (λ e. absurd (omega (arith, e))) ∙ has.fadeout;
  name = row_stays words (30 + a) w 3 3 (bytes_word parts.name) (inr (omega arith)) has.name;
  notes = row_stays words (30 + a) w 6 12 (bytes_word parts.notes) (inr (omega arith)) has.notes;
  volume = row_stays words (30 + a) w 18 6 (points_word parts.volume) (inr (omega arith)) has.volume;
  panning = row_stays words (30 + a) w 24 6 (points_word parts.panning) (inr (omega arith)) has.panning;
  sample_ids = row_put words 30 4 a w (ids_word parts.ids) (ids_word new) (omega (arith, long, lt)) has.sample_ids is same;
  others = zeros_stay words (30 + a) w 34 (omega (arith, lt)) has.others;
}

-- ---- ids of samples

-- an id put in place of another, in its word
pub ids_changed : (words : List ℕ) (x : Instrument) (ids new : List ℕ) (at n w : ℕ) → length words ≡ 256 → at < 16 → n ≡ at / 4
    → w ≡ ids_word new n → ((k : ℕ) → k ≢ at / 4 → ids_word new k ≡ ids_word ids k)
    → HasInstrumentWords words x ids → HasInstrumentWords (set words (30 + n) w) x new
ids_changed words x ids new at n w long lt here is same has =
    of_parts (set words (30 + n) w) x new
    (sample_ids_put words (parts_of x ids) n w new long (omega (arith, here, lt)) is
    (λ k ne. same k (λ e. ne (e ∙ sym here)))
    (in_parts words x ids has))

-- what is known of the place of an id, as its word wants it
pub in_word : (at id : ℕ) (row new : List ℕ) → IsOneChanged at id row new → IsOneChanged (at / 4 * 4 + at % 4) id row new
in_word at id row new changed = let e : at ≡ at / 4 * 4 + at % 4 = omega arith in subst (λ (n : ℕ). IsOneChanged n id row new) e changed

-- ---- counts

-- the first word, where there are that many samples
abbrev counted : Instrument → ℕ → List ℕ
counted x n =
    n ∷ x.volume.count ∷ x.panning.count ∷ x.vibrato.kind ∷ x.vibrato.sweep ∷ x.vibrato.depth ∷ x.vibrato.rate ∷ []

counted_word : (x : Instrument) (n : ℕ) → bytes_word (counted x n) 0 ≡ n + bytes_word (counted x 0) 0
unfolding bytes_word
counted_word x n = omega arith

pub count_changed : (words : List ℕ) (x : Instrument) (samples : List Sample) (ids : List ℕ) (w : ℕ) → length words ≡ 256
    → w + length x.samples ≡ slice_index words 0 + length samples
    → HasInstrumentWords words x ids → HasInstrumentWords (set words 0 w) (record x { samples = samples }) ids
count_changed words x samples ids w long is has =
    let old = counted_word x (length x.samples) in
    let new = counted_word x (length samples) in
    let was : slice_index words 0 ≡ bytes_word (counted x (length x.samples)) 0 = has.counts in
    let now : w ≡ bytes_word (counted x (length samples)) 0 = omega (arith, old, new, was, is) in
    of_parts (set words 0 w) (record x { samples = samples }) ids
    (counts_put words (parts_of x ids) w (counted x (length samples)) long now (in_parts words x ids has))

-- it has its place there
pub count_low : (words : List ℕ) (x : Instrument) (ids : List ℕ) → HasInstrumentWords words x ids → length x.samples < 16
    → slice_index words 0 < 18446744073709551616 → slice_index words 0 + 1 < 18446744073709551616
unfolding bytes_word
count_low words x ids has few fits =
    let is : slice_index words 0 ≡ bytes_word (counted x (length x.samples)) 0 = has.counts in
    omega (arith, is, few, fits)

pub count_there : (words : List ℕ) (x : Instrument) (ids : List ℕ) → HasInstrumentWords words x ids
    → length x.samples ≤ slice_index words 0
count_there words x ids has =
    let is : slice_index words 0 ≡ bytes_word (counted x (length x.samples)) 0 = has.counts in
    omega (arith, counted_word x (length x.samples), is)

-- ---- an instrument that says nothing but its name

-- no point is anything but 0
no_points : (k : ℕ) → points_word (replicate 12 zero_point) k ≡ 0
unfolding points_word
no_points k =
    let point : (j : ℕ) → listed_point (replicate 12 zero_point) j ≡ zero_point = λ j. elim (cases_lt j 12) [
      | inl lt ↦ get_or-replicate 12 j zero_point zero_point lt
      | inr ge ↦ get_or_past (replicate 12 zero_point) j zero_point (omega (arith, length-replicate {A = Point} 12 zero_point))
    ] in
    rw (point (2 * k), point (2 * k + 1)) refl

pub bare_has : HasInstrumentWords (replicate 256 0) zero_instrument []
unfolding bytes_word
bare_has = record {
  counts = zero_words 0;
  envelopes = zero_words 1;
  fadeout = zero_words 2;
  name = λ k lt. zero_words (3 + k) ∙ sym (zero_bytes 22 k);
  notes = λ k lt. zero_words (6 + k) ∙ sym (zero_bytes 96 k);
  volume = λ k lt. zero_words (18 + k) ∙ sym (no_points k);
  panning = λ k lt. zero_words (24 + k) ∙ sym (no_points k);
  sample_ids = λ k lt. zero_words (30 + k) ∙ sym (no_ids k);
  others = λ k ge lt. zero_words k;
}

-- a name put in place of another
pub name_changed : (words : List ℕ) (x : Instrument) (ids name : List ℕ) (a b d : ℕ) → length words ≡ 256
    → a ≡ bytes_word name 0 → b ≡ bytes_word name 1 → d ≡ bytes_word name 2
    → HasInstrumentWords words x ids
    → HasInstrumentWords (set (set (set words 3 a) 4 b) 5 d) (record x { name = name }) ids
name_changed words x ids name a b d long first second third has = record {
  counts = three_before words a b d 0 (omega arith) ∙ has.counts;
  envelopes = three_before words a b d 1 (omega arith) ∙ has.envelopes;
  fadeout = three_before words a b d 2 (omega arith) ∙ has.fadeout;
  name = three_put words a b d (bytes_word name) long first second third;
  notes = three_stay words a b d 6 12 (bytes_word x.map) (omega arith) has.notes;
  volume = three_stay words a b d 18 6 (points_word x.volume.points) (omega arith) has.volume;
  panning = three_stay words a b d 24 6 (points_word x.panning.points) (omega arith) has.panning;
  sample_ids = three_stay words a b d 30 4 (ids_word ids) (omega arith) has.sample_ids;
  others = zeros_stay _ 5 d 34 (omega arith) (zeros_stay _ 4 b 34 (omega arith) (zeros_stay words 3 a 34 (omega arith) has.others));
}

-- ---- bytes of the first two words, and of the note map

-- four numbers below another, before such numbers
four_under : (most a b d e : ℕ) (more : List ℕ) → a < most → b < most → d < most → e < most → All (λ n. n < most) more
    → All (λ n. n < most) (a ∷ b ∷ d ∷ e ∷ more)
four_under most a b d e more la lb ld le are =
    let low = λ (n : ℕ). n < most in
    All-cons low a (b ∷ d ∷ e ∷ more) la (All-cons low b (d ∷ e ∷ more) lb (All-cons low d (e ∷ more) ld (All-cons low e more le are)))

three_under : (most a b d : ℕ) → a < most → b < most → d < most → All (λ n. n < most) (a ∷ b ∷ d ∷ [])
three_under most a b d la lb ld =
    let low = λ (n : ℕ). n < most in
    All-cons low a (b ∷ d ∷ []) la (All-cons low b (d ∷ []) lb (All-cons low d [] ld (All-nil low)))

pub counts_low : (x : Instrument) → IsValidInstrument x → All (λ b. b < 256) (count_bytes x)
counts_low x valid =
    let v = valid.vibrato in
    four_under 256 (length x.samples) x.volume.count x.panning.count x.vibrato.kind
    (x.vibrato.sweep ∷ x.vibrato.depth ∷ x.vibrato.rate ∷ [])
    (omega (arith, valid.few_samples)) (omega (arith, valid.volume.count)) (omega (arith, valid.panning.count)) (omega (arith, v.kind))
    (three_under 256 x.vibrato.sweep x.vibrato.depth x.vibrato.rate v.sweep (omega (arith, v.depth)) (omega (arith, v.rate)))

pub envelopes_low : (x : Instrument) → IsValidInstrument x → All (λ b. b < 256) (envelope_bytes x)
envelopes_low x valid =
    let v = valid.volume in
    let p = valid.panning in
    four_under 256 x.volume.sustain x.volume.loop_start x.volume.loop_end x.volume.flags
    (x.panning.sustain ∷ x.panning.loop_start ∷ x.panning.loop_end ∷ x.panning.flags ∷ [])
    (omega (arith, v.sustain)) (omega (arith, v.loop_start)) (omega (arith, v.loop_end)) (omega (arith, v.flags))
    (four_under 256 x.panning.sustain x.panning.loop_start x.panning.loop_end x.panning.flags []
    (omega (arith, p.sustain)) (omega (arith, p.loop_start)) (omega (arith, p.loop_end)) (omega (arith, p.flags))
    (All-nil (λ (n : ℕ). n < 256)))

pub map_low : (x : Instrument) → IsValidInstrument x → All (λ b. b < 256) x.map
map_low x valid = λ k d lt. let few : get_or x.map k d ≤ 15 = valid.map k d lt in omega (arith, few)

-- what is known of the place of a byte, as its word wants it
pub in_bytes : (at b : ℕ) (row new : List ℕ) → IsOneChanged at b row new → IsOneChanged (at / 8 * 8 + at % 8) b row new
in_bytes at b row new changed = let e : at ≡ at / 8 * 8 + at % 8 = omega arith in subst (λ (n : ℕ). IsOneChanged n b row new) e changed

pub note_changed : (words : List ℕ) (x : Instrument) (ids : List ℕ) (n k at w : ℕ) → length words ≡ 256 → n ≤ 95 → at ≡ n / 8
    → w ≡ bytes_word (set x.map n k) at → ((j : ℕ) → j ≢ n / 8 → bytes_word (set x.map n k) j ≡ bytes_word x.map j)
    → HasInstrumentWords words x ids → HasInstrumentWords (set words (6 + at) w) (with_map n k x) ids
note_changed words x ids n k at w long low here is same has =
    of_parts (set words (6 + at) w) (with_map n k x) ids
    (notes_put words (parts_of x ids) at w (set x.map n k) long (omega (arith, here, low)) is
    (λ j ne. same j (λ e. ne (e ∙ sym here)))
    (in_parts words x ids has))

-- ---- counts and places of an envelope

pub volume_changed : (words : List ℕ) (x : Instrument) (ids : List ℕ) (which count s ls le flags a b : ℕ) → length words ≡ 256 → which ≡ 0
    → a ≡ bytes_word (set (count_bytes x) 1 count) 0
    → b ≡ bytes_word (set (set (set (set (envelope_bytes x) 0 s) 1 ls) 2 le) 3 flags) 0
    → HasInstrumentWords words x ids
    → HasInstrumentWords (set (set words 0 a) 1 b) (with_envelope which (with_head count s ls le flags) x) ids
volume_changed words x ids which count s ls le flags a b long none first second has =
    let y : Instrument = record x { volume = with_head count s ls le flags x.volume } in
    let one = counts_put words (parts_of x ids) a (set (count_bytes x) 1 count) long first (in_parts words x ids has) in
    let p : Parts = record (parts_of x ids) { counts = set (count_bytes x) 1 count } in
    let two = envelopes_put (set words 0 a) p b (set (set (set (set (envelope_bytes x) 0 s) 1 ls) 2 le) 3 flags)
    (length-set words 0 a ∙ long) second one in
    rw (eq-eqb which 0 none) (of_parts (set (set words 0 a) 1 b) y ids two)

pub panning_changed : (words : List ℕ) (x : Instrument) (ids : List ℕ) (which count s ls le flags a b : ℕ) → length words ≡ 256 → which ≢ 0
    → a ≡ bytes_word (set (count_bytes x) 2 count) 0
    → b ≡ bytes_word (set (set (set (set (envelope_bytes x) 4 s) 5 ls) 6 le) 7 flags) 0
    → HasInstrumentWords words x ids
    → HasInstrumentWords (set (set words 0 a) 1 b) (with_envelope which (with_head count s ls le flags) x) ids
panning_changed words x ids which count s ls le flags a b long some first second has =
    let y : Instrument = record x { panning = with_head count s ls le flags x.panning } in
    let one = counts_put words (parts_of x ids) a (set (count_bytes x) 2 count) long first (in_parts words x ids has) in
    let p : Parts = record (parts_of x ids) { counts = set (count_bytes x) 2 count } in
    let two = envelopes_put (set words 0 a) p b (set (set (set (set (envelope_bytes x) 4 s) 5 ls) 6 le) 7 flags)
    (length-set words 0 a ∙ long) second one in
    rw (ne_eqb which 0 some) (of_parts (set (set words 0 a) 1 b) y ids two)

-- ---- points

-- four numbers of two points
abbrev pub four_of : List Point → ℕ → List ℕ
four_of points j =
    (listed_point points (2 * j)).x
    ∷ (listed_point points (2 * j)).y
    ∷ (listed_point points (2 * j + 1)).x
    ∷ (listed_point points (2 * j + 1)).y
    ∷ []

pub point_row : (points : List Point) (j : ℕ) → points_word points j ≡ ids_word (four_of points j) 0
unfolding points_word ids_word
point_row points j = omega arith

pub four_low : (points : List Point) (j : ℕ) → All IsValidPoint points → All (λ n. n < 65536) (four_of points j)
four_low points j are =
    let point : (i : ℕ) → IsValidPoint (listed_point points i) = λ i. elim (cases_lt i (length points)) [
      | inl lt ↦ are i zero_point lt
      | inr ge ↦ rw (get_or_past points i zero_point ge) (record { x = omega arith; y = omega arith })
    ] in
    let a = point (2 * j) in
    let b = point (2 * j + 1) in
    four_under 65536 (listed_point points (2 * j)).x (listed_point points (2 * j)).y (listed_point points (2 * j + 1)).x
    (listed_point points (2 * j + 1)).y [] a.x (omega (arith, a.y)) b.x (omega (arith, b.y)) (All-nil (λ (n : ℕ). n < 65536))

-- a point that is set, and the others
point_there : (points : List Point) (n : ℕ) (p : Point) → n < length points → listed_point (set points n p) n ≡ p
point_there points n p lt = get_or-set_same points n p zero_point lt

point_other : (points : List Point) (n i : ℕ) (p : Point) → i ≢ n → listed_point (set points n p) i ≡ listed_point points i
point_other points n i p ne = get_or-set_other points n i p zero_point ne

pub points_stay : (points : List Point) (n j : ℕ) (p : Point) → j ≢ n / 2 → points_word (set points n p) j ≡ points_word points j
unfolding points_word
points_stay points n j p ne =
    rw (
      point_other points n (2 * j) p (λ e. ne (omega (arith, e))),
      point_other points n (2 * j + 1) p (λ e. ne (omega (arith, e))),
    ) refl

-- the first or the second point of a word set
pub point_set : (points : List Point) (j k x y : ℕ) → 2 * j + 1 < length points → k < 2
    → ids_word (set (set (four_of points j) (2 * k) x) (2 * k + 1) y) 0
    ≡ points_word (set points (2 * j + k) (record { x = x; y = y })) j
unfolding points_word ids_word
point_set points j zero x y lt few =
    let p : Point = record { x = x; y = y } in
    let here : 2 * j + 0 ≡ 2 * j = omega arith in
    rw (
      here,
      point_there points (2 * j) p (omega arith),
      point_other points (2 * j) (2 * j + 1) p (λ e. absurd (omega (arith, e))),
    ) (omega arith)
point_set points j (suc zero) x y lt few =
    let p : Point = record { x = x; y = y } in
    rw (
      point_there points (2 * j + 1) p lt,
      point_other points (2 * j + 1) (2 * j) p (λ e. absurd (omega (arith, e))),
    ) (omega arith)
point_set points j (suc (suc k)) x y lt few = absurd (omega arith)

-- the word of a point in place of another
pub volume_point : (words : List ℕ) (x : Instrument) (ids : List ℕ) (which n at w : ℕ) (p : Point)
    → length words ≡ 256 → which ≡ 0 → n ≤ 11 → at ≡ n / 2 → w ≡ points_word (set x.volume.points n p) at
    → HasInstrumentWords words x ids → HasInstrumentWords (set words (18 + at) w) (with_envelope which (with_point n p) x) ids
volume_point words x ids which n at w p long none low here is has =
    let y : Instrument = record x { volume = with_point n p x.volume } in
    let put = volume_put words (parts_of x ids) at w (set x.volume.points n p) long (omega (arith, here, low)) is
    (λ j ne. points_stay x.volume.points n j p (λ e. ne (e ∙ sym here))) (in_parts words x ids has) in
    rw (eq-eqb which 0 none) (of_parts (set words (18 + at) w) y ids put)

pub panning_point : (words : List ℕ) (x : Instrument) (ids : List ℕ) (which n at w : ℕ) (p : Point)
    → length words ≡ 256 → which ≢ 0 → n ≤ 11 → at ≡ n / 2 → w ≡ points_word (set x.panning.points n p) at
    → HasInstrumentWords words x ids → HasInstrumentWords (set words (24 + at) w) (with_envelope which (with_point n p) x) ids
panning_point words x ids which n at w p long some low here is has =
    let y : Instrument = record x { panning = with_point n p x.panning } in
    let put = panning_put words (parts_of x ids) at w (set x.panning.points n p) long (omega (arith, here, low)) is
    (λ j ne. points_stay x.panning.points n j p (λ e. ne (e ∙ sym here))) (in_parts words x ids has) in
    rw (ne_eqb which 0 some) (of_parts (set words (24 + at) w) y ids put)

-- ---- other samples

pub samples_changed : (words : List ℕ) (x : Instrument) (samples : List Sample) (ids : List ℕ) → length samples ≡ length x.samples
    → HasInstrumentWords words x ids → HasInstrumentWords words (record x { samples = samples }) ids
samples_changed words x samples ids same has = record {
  counts = rw same has.counts;
  envelopes = has.envelopes;
  fadeout = has.fadeout;
  name = has.name;
  notes = has.notes;
  volume = has.volume;
  panning = has.panning;
  sample_ids = has.sample_ids;
  others = has.others;
}
