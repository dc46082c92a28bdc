-- Worked rows of the definitions, by computation.
use Rattle.std.proofs.Common.{◌≡◌, ◌^◌, pos, negsuc, true, false, refl}
use Rattle.ft_tables.specs.Pitch.{linear_period_of, amiga_period_of, linear_frequency_of, amiga_frequency_of, frequency16_of, power_at, step_of}
use Rattle.ft_tables.specs.Waves.{wave_of}

-- C-4, C#4, and finetunes on both sides
c_4 : linear_period_of 48 (pos 0) ≡ 4608
unfolding linear_period_of
c_4 = refl

c_sharp_4 : linear_period_of 49 (pos 0) ≡ 4544
unfolding linear_period_of
c_sharp_4 = refl

tuned_down : linear_period_of 48 (negsuc 0) ≡ 4609
unfolding linear_period_of
tuned_down = refl

amiga_c_4 : amiga_period_of 48 (pos 0) ≡ 1712
unfolding amiga_period_of
amiga_c_4 = refl

-- half a semitone up, and a whole one down
amiga_tuned_up : amiga_period_of 48 (pos 64) ≡ 1664
unfolding amiga_period_of
amiga_tuned_up = refl

amiga_tuned_down : amiga_period_of 48 (negsuc 127) ≡ 1812
unfolding amiga_period_of
amiga_tuned_down = refl

frequency_c_4 : frequency16_of true 4608 ≡ 548077568
unfolding frequency16_of linear_frequency_of power_at
frequency_c_4 = refl

amiga_frequency_c_4 : frequency16_of false 1712 ≡ 548077568
unfolding frequency16_of amiga_frequency_of
amiga_frequency_c_4 = refl

frequency_c_sharp_4 : frequency16_of true 4544 ≡ 580668179
unfolding frequency16_of linear_frequency_of power_at
frequency_c_sharp_4 = refl

-- at its own rate a sample moves by one frame
one_frame : step_of true 8363 4608 ≡ 2 ^ 32
unfolding step_of frequency16_of linear_frequency_of power_at
one_frame = refl

-- the sine at its top, and as far below half a wave later
sine_top : wave_of 0 16 ≡ pos 255
unfolding wave_of
sine_top = refl

sine_bottom : wave_of 0 48 ≡ negsuc 254
unfolding wave_of
sine_bottom = refl

ramp_down_end : wave_of 1 63 ≡ negsuc 248
unfolding wave_of
ramp_down_end = refl
