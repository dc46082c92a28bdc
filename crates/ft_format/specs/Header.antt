-- The header behind the identification: what a file says, its bytes, and what it means.
use Rattle.std.specs.Prelude.{ℕ, ◌≤◌, ◌-◌, ◌%◌, List, ◌++◌, take, replicate, max, nat_lt, ◌==◌, if◌then◌else◌}
use Rattle.ft_types.specs.declared.module.Module.{Module}
use Rattle.ft_types.specs.declared.pattern.Pattern.{Pattern}
use Rattle.ft_types.specs.declared.instrument.Instrument.{Instrument}
use Rattle.ft_format.specs.declared.header.Titles.{Titles}
use Rattle.ft_format.specs.declared.header.Sizes.{Sizes}
use Rattle.ft_format.specs.declared.header.Settings.{Settings}
use Rattle.ft_format.specs.declared.layout.TheConstants.{VERSION, BEFORE_ORDERS, LEAST_HEADER_SIZE}
use Rattle.ft_format.specs.declared.limits.TheConstants.{MOST_ORDERS, MOST_CHANNELS, MOST_PATTERNS, MOST_INSTRUMENTS}
use Rattle.ft_format.specs.Fields.{byte, two_bytes, four_bytes, IsNumber, IsField, brought}

-- the fields, and an order table of any length
pub record RawHeader : Type 0 where
  pub titles : Titles
  pub sizes : Sizes
  pub settings : Settings
  pub orders : List ℕ

-- ---- how it is spelled

abbrev pub titles_text : Titles → List ℕ
titles_text titles = titles.name ++ (byte titles.mark ++ titles.tracker)

abbrev pub sizes_text : Sizes → List ℕ
sizes_text sizes =
    two_bytes VERSION
    ++ (four_bytes sizes.size
    ++ (two_bytes sizes.length ++ (two_bytes sizes.restart ++ two_bytes sizes.channels)))

abbrev pub settings_text : Settings → List ℕ
settings_text settings = two_bytes settings.patterns
    ++ (two_bytes settings.instruments
    ++ (two_bytes settings.flags ++ (two_bytes settings.tempo ++ two_bytes settings.bpm)))

unfoldable pub header_text : RawHeader → List ℕ
header_text raw =
    titles_text raw.titles ++ (sizes_text raw.sizes ++ (settings_text raw.settings ++ raw.orders))

-- ---- what its fields can hold

pub record TitlesFit (titles : Titles) : Type 0 where
  pub name : IsField 20 titles.name
  pub mark : IsNumber 1 titles.mark
  pub tracker : IsField 20 titles.tracker

pub record SizesFit (sizes : Sizes) : Type 0 where
  pub size : IsNumber 4 sizes.size
  pub some_table : LEAST_HEADER_SIZE ≤ sizes.size
  pub length : sizes.length ≤ MOST_ORDERS
  pub restart : IsNumber 2 sizes.restart
  pub some_channels : 1 ≤ sizes.channels
  pub few_channels : sizes.channels ≤ MOST_CHANNELS

pub record SettingsFit (settings : Settings) : Type 0 where
  pub patterns : settings.patterns ≤ MOST_PATTERNS
  pub instruments : settings.instruments ≤ MOST_INSTRUMENTS
  pub flags : IsNumber 2 settings.flags
  pub tempo : IsNumber 2 settings.tempo
  pub bpm : IsNumber 2 settings.bpm

-- the size counts from its own field on
pub record HeaderFits (raw : RawHeader) : Type 0 where
  pub titles : TitlesFit raw.titles
  pub sizes : SizesFit raw.sizes
  pub settings : SettingsFit raw.settings
  pub orders : IsField (raw.sizes.size - BEFORE_ORDERS) raw.orders

-- ---- what it means

-- a song length of 0 is read as 1
abbrev pub length_of : Sizes → ℕ
length_of sizes = max 1 sizes.length

-- a restart past the song is 0
abbrev pub restart_of : Sizes → ℕ
restart_of sizes = if nat_lt sizes.restart (length_of sizes) then sizes.restart else 0

-- orders that the table doesn't hold are 0, and what it holds beyond the song is dropped
abbrev pub orders_of : ℕ → List ℕ → List ℕ
orders_of count table = take count (table ++ replicate MOST_ORDERS 0)

unfoldable pub song_from : RawHeader → List Pattern → List Instrument → Module
song_from raw patterns instruments = record {
  name = raw.titles.name;
  tracker = raw.titles.tracker;
  restart = restart_of raw.sizes;
  channels = raw.sizes.channels;
  linear = raw.settings.flags % 2 == 1;
  tempo = brought 1 31 raw.settings.tempo;
  bpm = brought 32 255 raw.settings.bpm;
  orders = orders_of (length_of raw.sizes) raw.orders;
  patterns = patterns;
  instruments = instruments;
}
