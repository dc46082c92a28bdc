-- What an edit makes of the one pattern, instrument or sample that it names. Other edits leave it.
use Rattle.std.specs.Prelude.{ℕ}
use Rattle.ft_types.specs.declared.module.Module.{Module}
use Rattle.ft_types.specs.declared.pattern.Pattern.{Pattern}
use Rattle.ft_types.specs.declared.pattern.Cell.{Cell}
use Rattle.ft_types.specs.declared.instrument.Instrument.{Instrument}
use Rattle.ft_types.specs.declared.instrument.Envelope.{Envelope}
use Rattle.ft_types.specs.declared.sample.Sample.{Sample}
use Rattle.ft_types.specs.declared.edit.Edit.{Edit}
use Rattle.ft_types.specs.declared.edit.Edit.TheVariants as edits
use Rattle.ft_types.specs.Views.{empty_cell}
use Rattle.ft_edits.specs.Patterns.{with_cell, with_rows, with_new_row, without_row, with_block, moved_cell, copied}
use Rattle.ft_edits.specs.Instruments.{zero_instrument, with_map, with_envelope, with_head, with_point}
use Rattle.ft_edits.specs.Samples.{with_new_sample, without_sample, with_loop, without_frames, with_new_frames, turned, scaled, with_bits}

-- a cell of the block
abbrev pub cell_changed : Edit → Cell → Cell
cell_changed (edits.Clear p r c h w) cell = empty_cell
cell_changed (edits.Transpose p r c h w d) cell = moved_cell d cell
cell_changed _ cell = cell

-- rows and single cells of a pattern, in a song of that many channels
abbrev pub rows_changed : ℕ → Edit → Pattern → Pattern
rows_changed channels (edits.Cell p r c note ins vol eff par) pattern =
    with_cell channels r c
    (record { note = note; instrument = ins; volume = vol; effect = eff; parameter = par })
    pattern
rows_changed channels (edits.Rows p n) pattern = with_rows channels n pattern
rows_changed channels (edits.Insrow p r) pattern = with_new_row channels r pattern
rows_changed channels (edits.Delrow p r) pattern = without_row channels r pattern
rows_changed channels _ pattern = pattern

-- a pattern, in this song
abbrev pub pattern_changed : Module → Edit → Pattern → Pattern
pattern_changed song (edits.Clear p r c h w) pattern =
    with_block song.channels r c h w (λ row channel cell. empty_cell) pattern
pattern_changed song (edits.Transpose p r c h w d) pattern =
    with_block song.channels r c h w (λ row channel cell. moved_cell d cell) pattern
pattern_changed song (edits.Copy p r c h w q r2 c2) pattern =
    with_block song.channels r2 c2 h w
    (λ row channel cell. copied song p r c r2 c2 row channel) pattern
pattern_changed song edit pattern = rows_changed song.channels edit pattern

abbrev pub envelope_changed : Edit → Envelope → Envelope
envelope_changed (edits.Env i w count sus ls le flags) envelope =
    with_head count sus ls le flags envelope
envelope_changed (edits.Point i w k x y) envelope = with_point k (record { x = x; y = y }) envelope
envelope_changed _ envelope = envelope

abbrev pub instrument_changed : Edit → Instrument → Instrument
instrument_changed (edits.Clearins i) instrument = zero_instrument
instrument_changed (edits.Insname i name) instrument = record instrument { name = name }
instrument_changed (edits.Map i n k) instrument = with_map n k instrument
instrument_changed (edits.Env i w count sus ls le flags) instrument =
    with_envelope w (with_head count sus ls le flags) instrument
instrument_changed (edits.Point i w k x y) instrument =
    with_envelope w (with_point k (record { x = x; y = y })) instrument
instrument_changed (edits.Vib i kind sweep depth rate) instrument = record instrument
    { vibrato = record { kind = kind; sweep = sweep; depth = depth; rate = rate } }
instrument_changed (edits.Fade i n) instrument = record instrument { fadeout = n }
instrument_changed (edits.Newsmp i) instrument = with_new_sample instrument
instrument_changed (edits.Delsmp i) instrument = without_sample instrument
instrument_changed _ instrument = instrument

abbrev pub sample_changed : Edit → Sample → Sample
sample_changed (edits.Smpname i s name) sample = record sample { name = name }
sample_changed (edits.Smp i s vol fine rel pan) sample =
    record sample { volume = vol; finetune = fine; relative = rel; panning = pan }
sample_changed (edits.Loop i s kind start len) sample = with_loop kind start len sample
sample_changed (edits.Cut i s from to) sample = without_frames from to sample
sample_changed (edits.Paste i s at new) sample = with_new_frames at new sample
sample_changed (edits.Reverse i s from to) sample = turned from to sample
sample_changed (edits.Scale i s from to n d) sample = scaled from to n d sample
sample_changed (edits.Bits i s b) sample = with_bits b sample
sample_changed _ sample = sample

-- ---- which one it names; 0 where it names none

-- the pattern that is changed; of a copy the one that it is written to
abbrev pub pattern_number : Edit → ℕ
pattern_number (edits.Cell p r c note ins vol eff par) = p
pattern_number (edits.Rows p n) = p
pattern_number (edits.Insrow p r) = p
pattern_number (edits.Delrow p r) = p
pattern_number (edits.Clear p r c h w) = p
pattern_number (edits.Transpose p r c h w d) = p
pattern_number (edits.Copy p r c h w q r2 c2) = q
pattern_number _ = 0

-- from 1
abbrev pub instrument_number : Edit → ℕ
instrument_number (edits.Clearins i) = i
instrument_number (edits.Insname i name) = i
instrument_number (edits.Map i n k) = i
instrument_number (edits.Env i w count sus ls le flags) = i
instrument_number (edits.Point i w k x y) = i
instrument_number (edits.Vib i kind sweep depth rate) = i
instrument_number (edits.Fade i n) = i
instrument_number (edits.Newsmp i) = i
instrument_number (edits.Delsmp i) = i
instrument_number (edits.Smpname i s name) = i
instrument_number (edits.Smp i s vol fine rel pan) = i
instrument_number (edits.Loop i s kind start len) = i
instrument_number (edits.Cut i s from to) = i
instrument_number (edits.Paste i s at new) = i
instrument_number (edits.Reverse i s from to) = i
instrument_number (edits.Scale i s from to n d) = i
instrument_number (edits.Bits i s b) = i
instrument_number _ = 0

-- from 0
abbrev pub sample_number : Edit → ℕ
sample_number (edits.Smpname i s name) = s
sample_number (edits.Smp i s vol fine rel pan) = s
sample_number (edits.Loop i s kind start len) = s
sample_number (edits.Cut i s from to) = s
sample_number (edits.Paste i s at new) = s
sample_number (edits.Reverse i s from to) = s
sample_number (edits.Scale i s from to n d) = s
sample_number (edits.Bits i s b) = s
sample_number _ = 0
