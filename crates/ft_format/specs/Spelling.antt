-- Which bytes spell a module: a header, the patterns, the instruments, and any bytes behind them.
-- Each part says values in fields of given sizes, and these, brought into the ranges of a valid
-- module, are the module's.
use Rattle.std.specs.Prelude.{◌≡◌, ◌⊎◌, ℕ, ◌+◌, List, ◌∷◌, ◌++◌, take, drop, length, All, map, flat_map}
use Rattle.ft_types.specs.declared.module.Module.{Module}
use Rattle.ft_format.specs.declared.layout.TheConstants.{IDENTIFICATION, LETTER, CAPITAL, SMALL}
use Rattle.ft_format.specs.Header.{RawHeader, header_text, HeaderFits, song_from}
use Rattle.ft_format.specs.Pattern.{RawPattern, pattern_text, RawPatternFits, pattern_of}
use Rattle.ft_format.specs.Instrument.{RawInstrument, instrument_text, RawInstrumentFits, instrument_of}

-- what a whole file says
pub record RawSong : Type 0 where
  pub letter : ℕ
  pub header : RawHeader
  pub patterns : List RawPattern
  pub instruments : List RawInstrument

-- the bytes of the identification, with this letter in its place
abbrev pub identification_with : ℕ → List ℕ
identification_with letter = take LETTER IDENTIFICATION ++ letter ∷ drop (LETTER + 1) IDENTIFICATION

unfoldable pub song_text : RawSong → List ℕ
song_text raw = identification_with raw.letter ++ (header_text raw.header
    ++ (flat_map pattern_text raw.patterns ++ flat_map instrument_text raw.instruments))

-- the letter is M or m, and there are as many patterns and instruments as the header says
pub record SongFits (raw : RawSong) : Type 0 where
  pub letter : (raw.letter ≡ CAPITAL) ⊎ (raw.letter ≡ SMALL)
  pub header : HeaderFits raw.header
  pub patterns_count : length raw.patterns ≡ raw.header.settings.patterns
  pub patterns : All (RawPatternFits raw.header.sizes.channels) raw.patterns
  pub instruments_count : length raw.instruments ≡ raw.header.settings.instruments
  pub instruments : All RawInstrumentFits raw.instruments

unfoldable pub module_of : RawSong → Module
module_of raw = song_from raw.header (map (pattern_of raw.header.sizes.channels) raw.patterns)
    (map instrument_of raw.instruments)

pub record Spells (bytes : List ℕ) (song : Module) : Type 0 where
  pub raw : RawSong
  pub surplus : List ℕ
  pub fits : SongFits raw
  pub text : bytes ≡ song_text raw ++ surplus
  pub means : module_of raw ≡ song
