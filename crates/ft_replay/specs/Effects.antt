-- Which effect a cell has, by its effect byte and its parameter, and by its volume byte.
use Rattle.std.specs.Prelude.{ℕ, ◌≤◌, ◌+◌, ◌-◌, ◌*◌, ◌/◌, ◌%◌, ◌==◌, ◌&&◌, not, nat_le, if◌then◌else◌}
use Rattle.ft_types.specs.declared.pattern.Cell.{Cell}
use Rattle.ft_replay.specs.declared.effect.Effect.{Effect}
use Rattle.ft_replay.specs.declared.effect.Effect.TheVariants.{Nothing, Arpeggio, PortamentoUp, PortamentoDown, TonePortamento, Vibrato, TonePortamentoSlide, VibratoSlide, Tremolo, Panning, SampleOffset, VolumeSlide, Jump, Volume, Break, FinePortamentoUp, FinePortamentoDown, Glissando, VibratoWave, Finetune, PatternLoop, TremoloWave, Retrigger, FineVolumeUp, FineVolumeDown, NoteCut, NoteDelay, PatternDelay, Tempo, Bpm, GlobalVolume, GlobalSlide, KeyOff, EnvelopePosition, PanningSlide, MultiRetrigger, Tremor, ExtraFineUp, ExtraFineDown}
use Rattle.ft_replay.specs.declared.effect.VolumeEffect.{VolumeEffect}
use Rattle.ft_replay.specs.declared.effect.VolumeEffect.TheVariants as column

-- a parameter has two digits
abbrev pub high : ℕ → ℕ
high parameter = parameter / 16

abbrev pub low : ℕ → ℕ
low parameter = parameter % 16

-- ---- the effect byte

-- an arpeggio by nothing is none
abbrev pub arpeggio_of : ℕ → Effect
arpeggio_of parameter =
    if parameter == 0 then Nothing else Arpeggio (high parameter) (low parameter)

-- a row in decimal digits; past 63 it is the first
abbrev pub decimal_row : ℕ → ℕ
decimal_row parameter =
    if nat_le (10 * high parameter + low parameter) 63 then 10 * high parameter + low parameter
    else 0

-- E, by its first digit
unfoldable pub extended : ℕ → ℕ → Effect
extended digit y =
    if digit == 1 then FinePortamentoUp y
    else (if digit == 2 then FinePortamentoDown y
    else (if digit == 3 then Glissando (not (y == 0))
    else (if digit == 4 then VibratoWave (y % 8)
    else (if digit == 5 then Finetune y
    else (if digit == 6 then PatternLoop y
    else (if digit == 7 then TremoloWave (y % 8)
    else (if digit == 9 then Retrigger y
    else (if digit == 10 then FineVolumeUp y
    else (if digit == 11 then FineVolumeDown y
    else (if digit == 12 then NoteCut y
    else (if digit == 13 then (if y == 0 then Nothing else NoteDelay y)
    else (if digit == 14 then PatternDelay y
    else Nothing))))))))))))

-- F: ticks per row, or beats per minute
abbrev pub speed : ℕ → Effect
speed parameter =
    if parameter == 0 then Nothing
    else (if nat_le parameter 31 then Tempo parameter else Bpm parameter)

-- X, by its first digit
abbrev pub extra_fine : ℕ → ℕ → Effect
extra_fine digit y =
    if digit == 1 then ExtraFineUp y else (if digit == 2 then ExtraFineDown y else Nothing)

-- 0 to 9, and A to F
unfoldable pub digit_effect : ℕ → ℕ → Effect
digit_effect number parameter =
    if number == 0 then arpeggio_of parameter
    else (if number == 1 then PortamentoUp parameter
    else (if number == 2 then PortamentoDown parameter
    else (if number == 3 then TonePortamento parameter
    else (if number == 4 then Vibrato (high parameter) (low parameter)
    else (if number == 5 then TonePortamentoSlide parameter
    else (if number == 6 then VibratoSlide parameter
    else (if number == 7 then Tremolo (high parameter) (low parameter)
    else (if number == 8 then Panning parameter
    else (if number == 9 then SampleOffset parameter
    else (if number == 10 then VolumeSlide parameter
    else (if number == 11 then Jump parameter
    else (if number == 12 then Volume parameter
    else (if number == 13 then Break (decimal_row parameter)
    else (if number == 14 then extended (high parameter) (low parameter)
    else speed parameter))))))))))))))

-- G to X
unfoldable pub letter_effect : ℕ → ℕ → Effect
letter_effect number parameter =
    if number == 16 then GlobalVolume parameter
    else (if number == 17 then GlobalSlide parameter
    else (if number == 20 then KeyOff parameter
    else (if number == 21 then EnvelopePosition parameter
    else (if number == 25 then PanningSlide parameter
    else (if number == 27 then MultiRetrigger (high parameter) (low parameter)
    else (if number == 29 then Tremor parameter
    else (if number == 33 then extra_fine (high parameter) (low parameter)
    else Nothing)))))))

unfoldable pub effect_of : ℕ → ℕ → Effect
effect_of number parameter =
    if nat_le number 15 then digit_effect number parameter else letter_effect number parameter

abbrev pub effect_in : Cell → Effect
effect_in cell = effect_of cell.effect cell.parameter

-- the digits of an effect are digits, and the numbers of F in their range
abbrev pub IsEffect : Effect → Type 0
IsEffect (Arpeggio x y) = (x ≤ 15) × (y ≤ 15)
IsEffect (Vibrato speed depth) = (speed ≤ 15) × (depth ≤ 15)
IsEffect (Tremolo speed depth) = (speed ≤ 15) × (depth ≤ 15)
IsEffect (FinePortamentoUp speed) = speed ≤ 15
IsEffect (FinePortamentoDown speed) = speed ≤ 15
IsEffect (VibratoWave kind) = kind ≤ 7
IsEffect (Finetune tune) = tune ≤ 15
IsEffect (PatternLoop times) = times ≤ 15
IsEffect (TremoloWave kind) = kind ≤ 7
IsEffect (PatternDelay rows) = rows ≤ 15
IsEffect (Tempo ticks) = (1 ≤ ticks) × (ticks ≤ 31)
IsEffect (Bpm bpm) = 32 ≤ bpm
IsEffect (MultiRetrigger change interval) = (change ≤ 15) × (interval ≤ 15)
IsEffect effect = Unit {0}

-- ---- the volume byte

unfoldable pub volume_effect_of : ℕ → VolumeEffect
volume_effect_of volume =
    if nat_le 16 volume && nat_le volume 80 then column.Volume (volume - 16)
    else (if high volume == 6 then column.SlideDown (low volume)
    else (if high volume == 7 then column.SlideUp (low volume)
    else (if high volume == 8 then column.FineDown (low volume)
    else (if high volume == 9 then column.FineUp (low volume)
    else (if high volume == 10 then column.VibratoSpeed (low volume)
    else (if high volume == 11 then column.Vibrato (low volume)
    else (if high volume == 12 then column.Panning (16 * low volume)
    else (if high volume == 13 then column.PanningLeft (low volume)
    else (if high volume == 14 then column.PanningRight (low volume)
    else (if high volume == 15 then column.TonePortamento (16 * low volume)
    else column.Nothing))))))))))

abbrev pub IsVolumeEffect : VolumeEffect → Type 0
IsVolumeEffect (column.Volume volume) = volume ≤ 64
IsVolumeEffect (column.VibratoSpeed speed) = speed ≤ 15
IsVolumeEffect (column.Vibrato depth) = depth ≤ 15
IsVolumeEffect effect = Unit {0}
