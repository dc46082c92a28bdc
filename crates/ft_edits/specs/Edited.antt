-- What an edit makes of a song that doesn't refuse it.
use Rattle.std.specs.Prelude.{ℕ, [], ◌∷◌, ◌++◌, length, set, remove, insert, nat_lt, if◌then◌else◌}
use Rattle.ft_types.specs.declared.module.Module.{Module}
use Rattle.ft_types.specs.declared.instrument.Instrument.{Instrument}
use Rattle.ft_types.specs.declared.sample.Sample.{Sample}
use Rattle.ft_types.specs.declared.edit.Edit.{Edit}
use Rattle.ft_types.specs.declared.edit.Edit.TheVariants as edits
use Rattle.ft_types.specs.Views.{empty_cell}
use Rattle.ft_edits.specs.Lists.{without_last}
use Rattle.ft_edits.specs.Patterns.{with_pattern, with_cell, with_rows, with_new_row, without_row, empty_pattern, with_block, moved_cell, copied}
use Rattle.ft_edits.specs.Instruments.{with_instrument, zero_instrument, with_map, with_envelope, with_head, with_point}
use Rattle.ft_edits.specs.Samples.{with_sample, with_new_sample, without_sample, with_loop, without_frames, with_new_frames, turned, scaled, with_bits}

-- a restart past the end is 0
abbrev pub without_order : ℕ → Module → Module
without_order position song = record song {
  orders = remove song.orders position;
  restart = if nat_lt song.restart (length (remove song.orders position)) then song.restart else 0;
}

abbrev pub edited : Module → Edit → Module
-- patterns
edited song (edits.Cell p r c note ins vol eff par) =
    with_pattern p
    (with_cell song.channels r c
    (record { note = note; instrument = ins; volume = vol; effect = eff; parameter = par }))
    song
edited song (edits.Rows p n) = with_pattern p (with_rows song.channels n) song
edited song (edits.Insrow p r) = with_pattern p (with_new_row song.channels r) song
edited song (edits.Delrow p r) = with_pattern p (without_row song.channels r) song
edited song (edits.Clear p r c h w) =
    with_pattern p (with_block song.channels r c h w (λ row channel cell. empty_cell)) song
edited song (edits.Transpose p r c h w d) =
    with_pattern p (with_block song.channels r c h w (λ row channel cell. moved_cell d cell)) song
edited song (edits.Copy p r c h w q r2 c2) =
    with_pattern q
    (with_block song.channels r2 c2 h w
    (λ row channel cell. copied song p r c r2 c2 row channel)) song
-- the song
edited song (edits.Order position p) = record song { orders = set song.orders position p }
edited song (edits.Insorder position p) = record song { orders = insert song.orders position p }
edited song (edits.Delorder position) = without_order position song
edited song (edits.Restart position) = record song { restart = position }
edited song (edits.Tempo n) = record song { tempo = n }
edited song (edits.Bpm n) = record song { bpm = n }
edited song (edits.Title name) = record song { name = name }
edited song (edits.Newpat n) =
    record song { patterns = song.patterns ++ empty_pattern song.channels n ∷ [] }
edited song edits.Delpat = record song { patterns = without_last song.patterns }
-- instruments
edited song edits.Newins = record song { instruments = song.instruments ++ zero_instrument ∷ [] }
edited song (edits.Clearins i) = with_instrument i (λ instrument. zero_instrument) song
edited song (edits.Insname i name) =
    with_instrument i (λ (instrument : Instrument). record instrument { name = name }) song
edited song (edits.Map i n k) = with_instrument i (with_map n k) song
edited song (edits.Env i w count sus ls le flags) =
    with_instrument i (with_envelope w (with_head count sus ls le flags)) song
edited song (edits.Point i w k x y) =
    with_instrument i (with_envelope w (with_point k (record { x = x; y = y }))) song
edited song (edits.Vib i kind sweep depth rate) =
    with_instrument i (λ (instrument : Instrument).
    record instrument
    { vibrato = record { kind = kind; sweep = sweep; depth = depth; rate = rate } }) song
edited song (edits.Fade i n) =
    with_instrument i (λ (instrument : Instrument). record instrument { fadeout = n }) song
-- samples
edited song (edits.Newsmp i) = with_instrument i with_new_sample song
edited song (edits.Delsmp i) = with_instrument i without_sample song
edited song (edits.Smpname i s name) =
    with_sample i s (λ (sample : Sample). record sample { name = name }) song
edited song (edits.Smp i s vol fine rel pan) =
    with_sample i s
    (λ (sample : Sample).
    record sample { volume = vol; finetune = fine; relative = rel; panning = pan }) song
edited song (edits.Loop i s kind start len) = with_sample i s (with_loop kind start len) song
-- frames
edited song (edits.Cut i s from to) = with_sample i s (without_frames from to) song
edited song (edits.Paste i s at frames) = with_sample i s (with_new_frames at frames) song
edited song (edits.Reverse i s from to) = with_sample i s (turned from to) song
edited song (edits.Scale i s from to n d) = with_sample i s (scaled from to n d) song
edited song (edits.Bits i s b) = with_sample i s (with_bits b) song
