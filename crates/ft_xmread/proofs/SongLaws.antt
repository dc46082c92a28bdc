-- The two laws of what follows the identification.
use Rattle.std.proofs.Common.{ℕ, ◌+◌, List, ◌++◌, map}
use Rattle.std.specs.List.{flat_map}
use Rattle.ft_types.specs.declared.module.Module.{Module}
use Rattle.ft_types.specs.declared.pattern.Pattern.{Pattern}
use Rattle.ft_types.specs.declared.instrument.Instrument.{Instrument}
use Rattle.ft_format.specs.Fields.{AllFit}
use Rattle.ft_format.specs.Header.{RawHeader, header_text, HeaderFits, song_from as made_song}
use Rattle.ft_format.specs.Pattern.{RawPattern, pattern_text, RawPatternFits, pattern_of}
use Rattle.ft_format.specs.Instrument.{RawInstrument, instrument_text, RawInstrumentFits, instrument_of}
use Rattle.ft_xmread.specs.Reader.{FileReading, seen, times}
use Rattle.ft_xmread.specs.Header.{header_at}
use Rattle.ft_xmread.specs.Pattern.{pattern_at}
use Rattle.ft_xmread.specs.Instrument.{instrument_spelled_at}
use Rattle.ft_xmread.specs.File.{song_spelled_at}
use Rattle.ft_xmread.proofs.HeaderLaws.{header_law}
use Rattle.ft_xmread.proofs.PatternLaws.{pattern_law}
use Rattle.ft_xmread.proofs.InstrumentLaws.{instrument_law}
use Rattle.ft_xmread.proofs.Chains.{do2, alike2}
use Rattle.ft_xmread.proofs.Lawful.{Alike, both, next_alike}
use Rattle.ft_xmread.proofs.Spelled.{Spelled, same, alike_spelled, lawful_spelled, seen_spelled, both_spelled, pair_spelled, times_spelled}

-- a header, patterns and instruments
abbrev pub Parts : Type 0
Parts = RawHeader × (List RawPattern × List RawInstrument)

abbrev pub parts_text : Parts → List ℕ
parts_text x = header_text x.0 ++ (flat_map pattern_text x.1.0 ++ flat_map instrument_text x.1.1)

abbrev pub PartsFit : Parts → Type 0
PartsFit x =
    HeaderFits x.0
    × (AllFit x.0.settings.patterns (RawPatternFits x.0.sizes.channels) x.1.0
    × AllFit x.0.settings.instruments RawInstrumentFits x.1.1)

abbrev parts_mean : Parts → RawHeader × (List Pattern × List Instrument)
parts_mean x = (x.0, (map (pattern_of x.0.sizes.channels) x.1.0, map instrument_of x.1.1))

abbrev behind : RawHeader → FileReading (List Pattern × List Instrument)
behind raw =
    both (times (pattern_at raw.sizes.channels) 0 raw.settings.patterns)
    (λ _. times (λ k. instrument_spelled_at (k + 1)) 0 raw.settings.instruments)

behind_law : (raw : RawHeader) → Spelled (behind raw)
    (λ (x : List RawPattern × List RawInstrument). flat_map pattern_text x.0 ++ flat_map instrument_text x.1)
    (λ x.
    AllFit raw.settings.patterns (RawPatternFits raw.sizes.channels) x.0
    × AllFit raw.settings.instruments RawInstrumentFits x.1)
    (λ x. (map (pattern_of raw.sizes.channels) x.0, map instrument_of x.1))
behind_law raw =
    pair_spelled (times (pattern_at raw.sizes.channels) 0 raw.settings.patterns)
    (times (λ k. instrument_spelled_at (k + 1)) 0 raw.settings.instruments)
    (flat_map pattern_text) (flat_map instrument_text)
    (AllFit raw.settings.patterns (RawPatternFits raw.sizes.channels))
    (AllFit raw.settings.instruments RawInstrumentFits)
    (map (pattern_of raw.sizes.channels)) (map instrument_of)
    (times_spelled (pattern_at raw.sizes.channels) pattern_text (RawPatternFits raw.sizes.channels)
    (pattern_of raw.sizes.channels) (pattern_law raw.sizes.channels) 0 raw.settings.patterns)
    (times_spelled (λ k. instrument_spelled_at (k + 1)) instrument_text RawInstrumentFits instrument_of
    (λ k. instrument_law (k + 1)) 0 raw.settings.instruments)

abbrev parts_at : FileReading (RawHeader × (List Pattern × List Instrument))
parts_at = both header_at behind

parts_law : Spelled parts_at parts_text PartsFit parts_mean
parts_law = both_spelled header_at behind header_text (λ _ x. flat_map pattern_text x.0 ++ flat_map instrument_text x.1)
    HeaderFits
    (λ raw x.
    AllFit raw.settings.patterns (RawPatternFits raw.sizes.channels) x.0
    × AllFit raw.settings.instruments RawInstrumentFits x.1)
    same (λ raw x. (map (pattern_of raw.sizes.channels) x.0, map instrument_of x.1))
    (lawful_spelled header_at header_text HeaderFits header_law) (λ raw _. behind_law raw)

abbrev song_of_parts : RawHeader × (List Pattern × List Instrument) → Module
song_of_parts x = made_song x.0 x.1.0 x.1.1

-- what these parts mean
abbrev pub meaning : Parts → Module
meaning x = song_of_parts (parts_mean x)

song_alike : Alike song_spelled_at (seen song_of_parts parts_at)
unfolding song_spelled_at
song_alike = next_alike song_of_parts header_at behind
    (λ raw.
    do2 (times (pattern_at raw.sizes.channels) 0 raw.settings.patterns)
    (times (λ k. instrument_spelled_at (k + 1)) 0 raw.settings.instruments) (made_song raw))
    (λ raw.
    alike2 (times (pattern_at raw.sizes.channels) 0 raw.settings.patterns)
    (times (λ k. instrument_spelled_at (k + 1)) 0 raw.settings.instruments) (made_song raw))

pub song_law : Spelled song_spelled_at parts_text PartsFit meaning
song_law =
    alike_spelled song_spelled_at (seen song_of_parts parts_at) parts_text PartsFit meaning song_alike
    (seen_spelled song_of_parts parts_at parts_text PartsFit parts_mean parts_law)
