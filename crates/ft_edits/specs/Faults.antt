-- Why an edit is refused: for each edit its causes, in the order in which they are answered.
use Rattle.std.specs.Prelude.{ℕ, ◌+◌, ◌-◌, ◌&&◌, ◌||◌, Bool, true, false, List, [], ◌∷◌, ◌++◌, Option, None, Some, ℤ, pos, negsuc, length, nat_lt, nat_le, nat_eq, if◌then◌else◌}
use Rattle.ft_types.specs.declared.module.Module.{Module}
use Rattle.ft_types.specs.declared.instrument.Instrument.{Instrument}
use Rattle.ft_types.specs.declared.sample.Sample.{Sample}
use Rattle.ft_types.specs.declared.edit.Edit.{Edit}
use Rattle.ft_types.specs.declared.edit.Edit.TheVariants as edits
use Rattle.ft_types.specs.declared.edit_fault.EditFault.{EditFault}
use Rattle.ft_types.specs.declared.edit_fault.EditFault.TheVariants.{NoPattern, NoRow, NoChannel, NoOrder, NoInstrument, Range, TooMany, NoSample, Cut}
use Rattle.ft_types.specs.Views.{rows_at, instrument_at, sample_in}
use Rattle.ft_types.specs.Limits.{most_frames, most_instruments, most_orders, most_patterns, most_rows, most_samples}
use Rattle.ft_edits.specs.Numbers.{field_bits, field_bpm, field_count, field_depth, field_divisor, field_flags, field_frame, field_index, field_kind, field_length, field_level, field_map, field_note, field_rate, field_rows, field_size, field_tempo, field_which, kind_frames, kind_instruments, kind_orders, kind_patterns, kind_samples}

-- ---- causes

-- a cause for which the edit is refused, unless this holds
abbrev pub unless : Bool → EditFault → Option EditFault
unless true fault = None
unless false fault = Some fault

-- the first cause of these, if there is one
abbrev pub first_cause : List (Option EditFault) → Option EditFault
first_cause [] = None
first_cause (None ∷ causes) = first_cause causes
first_cause (Some fault ∷ causes) = Some fault

-- unless the pattern is stored
abbrev pub missing_pattern : Module → ℕ → Option EditFault
missing_pattern song p = unless (nat_lt p (length song.patterns)) (NoPattern p)

-- unless it has this row
abbrev pub missing_row : Module → ℕ → ℕ → Option EditFault
missing_row song p row = unless (nat_lt row (rows_at song p)) (NoRow row (rows_at song p))

-- unless the song has this channel
abbrev pub missing_channel : Module → ℕ → Option EditFault
missing_channel song c = unless (nat_lt c song.channels) (NoChannel c)

-- unless the order position is below this
abbrev pub missing_order : ℕ → ℕ → Option EditFault
missing_order limit position = unless (nat_lt position limit) (NoOrder position)

-- unless the number of this field is in a range
abbrev pub out_of_range : ℕ → ℕ → ℕ → ℕ → Option EditFault
out_of_range field low high found =
    unless (nat_le low found && nat_le found high) (Range field (pos found))

-- unless there would be at most that many
abbrev pub over_limit : ℕ → ℕ → ℕ → Option EditFault
over_limit what most count = unless (nat_le count most) (TooMany what count)

-- unless the instrument is there; they count from 1
abbrev pub missing_instrument : Module → ℕ → Option EditFault
missing_instrument song i =
    unless (nat_lt 0 i && nat_le i (length song.instruments)) (NoInstrument i)

-- how many samples an instrument has, and how many frames one of them
abbrev pub sample_count : Option Instrument → ℕ
sample_count None = 0
sample_count (Some instrument) = length instrument.samples

abbrev pub samples_at : Module → ℕ → ℕ
samples_at song i = sample_count (instrument_at song i)

abbrev pub sample_length : Option Sample → ℕ
sample_length None = 0
sample_length (Some sample) = length sample.frames

abbrev pub frames_at : Module → ℕ → ℕ → ℕ
frames_at song i s = sample_length (sample_in (instrument_at song i) s)

abbrev pub width_in : Option Sample → Bool
width_in None = false
width_in (Some sample) = sample.wide

-- whether the sample is wide
abbrev pub wide_at : Module → ℕ → ℕ → Bool
wide_at song i s = width_in (sample_in (instrument_at song i) s)

-- unless the instrument has this sample
abbrev pub missing_sample : Module → ℕ → ℕ → Option EditFault
missing_sample song i s = unless (nat_lt s (samples_at song i)) (NoSample i s)

-- a frame of 8 bits
abbrev pub is_narrow : ℤ → Bool
is_narrow (pos n) = nat_le n 127
is_narrow (negsuc n) = nat_le n 127

-- the first frame that isn't one
abbrev pub first_wide_frame : List ℤ → Option EditFault
first_wide_frame [] = None
first_wide_frame (frame ∷ frames) =
    if is_narrow frame then first_wide_frame frames else Some (Range field_frame frame)

-- ---- groups of them

-- a block: the pattern, a size that isn't 0, its last row, its last channel
abbrev pub block_of : Module → ℕ → ℕ → ℕ → ℕ → ℕ → List (Option EditFault)
block_of song p r c h w =
    missing_pattern song p
    ∷ unless (nat_lt 0 h && nat_lt 0 w) (Range field_size (pos 0))
    ∷ missing_row song p (r + h - 1)
    ∷ missing_channel song (c + w - 1)
    ∷ []

-- an instrument that has a sample
abbrev pub with_samples : Module → ℕ → List (Option EditFault) → List (Option EditFault)
with_samples song i causes = missing_instrument song i ∷ missing_sample song i 0 ∷ causes

-- a sample
abbrev pub sampled : Module → ℕ → ℕ → List (Option EditFault) → List (Option EditFault)
sampled song i s causes = missing_instrument song i ∷ missing_sample song i s ∷ causes

-- frames of a sample
abbrev pub framed : Module → ℕ → ℕ → ℕ → ℕ → List (Option EditFault) → List (Option EditFault)
framed song i s from to causes =
    sampled song i s
    (unless (nat_le from to && nat_le to (frames_at song i s))
    (Cut from to (frames_at song i s)) ∷ causes)

-- ---- the causes of each edit

abbrev pub causes_of : Module → Edit → List (Option EditFault)
-- patterns
causes_of song (edits.Cell p r c note ins vol eff par) =
    missing_pattern song p
    ∷ missing_row song p r
    ∷ missing_channel song c
    ∷ out_of_range field_note 0 97 note
    ∷ []
causes_of song (edits.Rows p n) =
    missing_pattern song p ∷ out_of_range field_rows 1 most_rows n ∷ []
causes_of song (edits.Insrow p r) = missing_pattern song p ∷ missing_row song p r ∷ []
causes_of song (edits.Delrow p r) = missing_pattern song p ∷ missing_row song p r ∷ []
causes_of song (edits.Clear p r c h w) = block_of song p r c h w
causes_of song (edits.Transpose p r c h w d) = block_of song p r c h w
causes_of song (edits.Copy p r c h w q r2 c2) = block_of song p r c h w ++ block_of song q r2 c2 h w
-- the song
causes_of song (edits.Order position p) = missing_order (length song.orders) position ∷ []
causes_of song (edits.Insorder position p) =
    missing_order (length song.orders + 1) position
    ∷ over_limit kind_orders most_orders (length song.orders + 1)
    ∷ []
causes_of song (edits.Delorder position) =
    missing_order (length song.orders) position
    ∷ unless (nat_lt 1 (length song.orders)) (Range field_length (pos 0))
    ∷ []
causes_of song (edits.Restart position) = missing_order (length song.orders) position ∷ []
causes_of song (edits.Tempo n) = out_of_range field_tempo 1 31 n ∷ []
causes_of song (edits.Bpm n) = out_of_range field_bpm 32 255 n ∷ []
causes_of song (edits.Title name) = []
causes_of song (edits.Newpat n) =
    over_limit kind_patterns most_patterns (length song.patterns + 1)
    ∷ out_of_range field_rows 1 most_rows n
    ∷ []
causes_of song edits.Delpat = unless (nat_lt 0 (length song.patterns)) (NoPattern 0) ∷ []
-- instruments
causes_of song edits.Newins =
    over_limit kind_instruments most_instruments (length song.instruments + 1) ∷ []
causes_of song (edits.Clearins i) = missing_instrument song i ∷ []
causes_of song (edits.Insname i name) = missing_instrument song i ∷ []
causes_of song (edits.Map i n k) =
    with_samples song i
    (out_of_range field_index 0 95 n ∷ out_of_range field_map 0 15 k ∷ [])
causes_of song (edits.Env i w count sus ls le flags) =
    with_samples song i
    (out_of_range field_which 0 1 w
    ∷ out_of_range field_count 0 12 count
    ∷ out_of_range field_index 0 11 sus
    ∷ out_of_range field_index 0 11 ls
    ∷ out_of_range field_index 0 11 le
    ∷ out_of_range field_flags 0 7 flags
    ∷ [])
causes_of song (edits.Point i w k x y) =
    with_samples song i
    (out_of_range field_which 0 1 w
    ∷ out_of_range field_index 0 11 k
    ∷ out_of_range field_level 0 64 y
    ∷ [])
causes_of song (edits.Vib i kind sweep depth rate) =
    with_samples song i
    (out_of_range field_kind 0 3 kind
    ∷ out_of_range field_depth 0 15 depth
    ∷ out_of_range field_rate 0 63 rate
    ∷ [])
causes_of song (edits.Fade i n) = with_samples song i []
-- samples
causes_of song (edits.Newsmp i) =
    missing_instrument song i ∷ over_limit kind_samples most_samples (samples_at song i + 1) ∷ []
causes_of song (edits.Delsmp i) = with_samples song i []
causes_of song (edits.Smpname i s name) = sampled song i s []
causes_of song (edits.Smp i s vol fine rel pan) =
    sampled song i s (out_of_range field_level 0 64 vol ∷ [])
causes_of song (edits.Loop i s kind start len) =
    sampled song i s (out_of_range field_kind 0 2 kind
    ∷ unless (nat_eq kind 0 || (nat_lt 0 len && nat_le (start + len) (frames_at song i s)))
    (Cut start (start + len) (frames_at song i s))
    ∷ [])
-- frames
causes_of song (edits.Cut i s from to) = framed song i s from to []
causes_of song (edits.Paste i s at frames) =
    framed song i s at at
    (over_limit kind_frames most_frames (frames_at song i s + length frames)
    ∷ (if wide_at song i s then None else first_wide_frame frames)
    ∷ [])
causes_of song (edits.Reverse i s from to) = framed song i s from to []
causes_of song (edits.Scale i s from to n d) =
    framed song i s from to (unless (nat_lt 0 d) (Range field_divisor (pos 0)) ∷ [])
causes_of song (edits.Bits i s b) =
    sampled song i s (unless (nat_eq b 8 || nat_eq b 16) (Range field_bits (pos b)) ∷ [])

-- the fault of an edit of a song, if there is one
abbrev pub fault_of : Module → Edit → Option EditFault
fault_of song edit = first_cause (causes_of song edit)
