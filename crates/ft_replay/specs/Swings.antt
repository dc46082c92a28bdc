-- What swings by a wave: vibrato, tremolo, and the steps of an arpeggio.
use Rattle.std.specs.Prelude.{ℕ, ◌+◌, ◌*◌, ◌/◌, ◌%◌, ◌==◌, ℤ, pos, negsuc, ◌-ℤ◌, min, nat_abs, if◌then◌else◌}
use Rattle.ft_tables.specs.Waves.{wave_of}
use Rattle.ft_replay.specs.declared.state.Channel.{Channel}

-- a size with the sign of another number
abbrev pub signed_as : ℤ → ℕ → ℤ
signed_as (pos n) size = pos size
signed_as (negsuc n) size = pos 0 -ℤ pos size

-- that many parts of a wave, rounded towards 0
unfoldable pub parts_of : ℤ → ℕ → ℕ → ℤ
parts_of height depth parts = signed_as height (nat_abs height * depth / parts)

-- kinds by four: a sine, a ramp, and twice a square
abbrev pub wave_kind : ℕ → ℕ
wave_kind kind = min (kind % 4) 2

-- ---- vibrato

abbrev pub with_vibrato_speed : ℕ → Channel → Channel
with_vibrato_speed speed channel =
    if speed == 0 then channel else record channel { vib_speed = speed }

abbrev pub with_vibrato_depth : ℕ → Channel → Channel
with_vibrato_depth depth channel =
    if depth == 0 then channel else record channel { vib_depth = depth }

abbrev pub vibrato : Channel → Channel
vibrato channel = record channel {
  vib_off = parts_of (wave_of (wave_kind channel.vib_kind) channel.vib_pos) channel.vib_depth 32;
  vib_pos = (channel.vib_pos + channel.vib_speed) % 64;
}

-- ---- tremolo

abbrev pub with_tremolo_speed : ℕ → Channel → Channel
with_tremolo_speed speed channel =
    if speed == 0 then channel else record channel { trem_speed = speed }

abbrev pub with_tremolo_depth : ℕ → Channel → Channel
with_tremolo_depth depth channel =
    if depth == 0 then channel else record channel { trem_depth = depth }

abbrev pub tremolo : Channel → Channel
tremolo channel = record channel {
  trem_off =
      parts_of (wave_of (wave_kind channel.trem_kind) channel.trem_pos) channel.trem_depth 64;
  trem_pos = (channel.trem_pos + channel.trem_speed) % 64;
}

-- ---- arpeggio

-- the note, the first number of semitones above it, and the second, in turn
abbrev pub arpeggio : ℕ → ℕ → ℕ → Channel → Channel
arpeggio u x y channel =
    record channel { arp = if u % 3 == 0 then 0 else (if u % 3 == 1 then x else y) }
