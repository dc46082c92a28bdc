-- The header behind the identification, field by field.
use Rattle.std.specs.Prelude.{◌≡◌, ◌≤◌, ℕ, ◌+◌, ◌-◌, length, nat_lt, not, ◌==◌, ◌||◌}
use Rattle.ft_format.specs.declared.header.Titles.{Titles}
use Rattle.ft_format.specs.declared.header.Sizes.{Sizes}
use Rattle.ft_format.specs.declared.header.Settings.{Settings}
use Rattle.ft_format.specs.declared.layout.TheConstants.{VERSION as KNOWN, BEFORE_ORDERS, LEAST_HEADER_SIZE}
use Rattle.ft_format.specs.declared.limits.TheConstants.{MOST_ORDERS, MOST_CHANNELS, MOST_PATTERNS, MOST_INSTRUMENTS}
use Rattle.ft_format.specs.Header.{RawHeader}
use Rattle.ft_xmread.specs.declared.fault.XmFault.TheVariants.{Version, Count}
use Rattle.ft_xmread.specs.declared.header.Header.{Header}
use Rattle.ft_xmread.specs.Reader.{FileReading, field_at, number_at, count_at, checked, give}
use Rattle.ft_xmread.specs.Parts.{◌>>=◌}

unfoldable pub titles_at : FileReading Titles
titles_at = do
  name ← field_at 20
  mark ← number_at 1
  tracker ← field_at 20
  give (record { name = name; mark = mark; tracker = tracker })

-- only one version is known
abbrev pub version_spelled_at : FileReading ℕ
version_spelled_at =
    checked (λ version. not (version == KNOWN)) (λ _ version. Version version) (number_at 2)

-- the header's size counts from its own field on, and its order table has at least a byte
abbrev pub size_at : FileReading ℕ
size_at = checked (λ size. nat_lt size LEAST_HEADER_SIZE) Count (number_at 4)

abbrev pub channels_at : FileReading ℕ
channels_at =
    checked (λ channels. (channels == 0) || nat_lt MOST_CHANNELS channels) Count (number_at 2)

unfoldable pub sizes_at : FileReading Sizes
sizes_at = do
  _ ← version_spelled_at
  size ← size_at
  length ← count_at MOST_ORDERS
  restart ← number_at 2
  channels ← channels_at
  give (record { size = size; length = length; restart = restart; channels = channels })

unfoldable pub settings_at : FileReading Settings
settings_at = do
  patterns ← count_at MOST_PATTERNS
  instruments ← count_at MOST_INSTRUMENTS
  flags ← number_at 2
  tempo ← number_at 2
  bpm ← number_at 2
  give (record {
    patterns = patterns;
    instruments = instruments;
    flags = flags;
    tempo = tempo;
    bpm = bpm;
  })

-- the order table is one field
unfoldable pub header_at : FileReading RawHeader
header_at = do
  titles ← titles_at
  sizes ← sizes_at
  settings ← settings_at
  orders ← field_at (sizes.size - BEFORE_ORDERS)
  give (record { titles = titles; sizes = sizes; settings = settings; orders = orders })

-- ---- the header that the reader holds

abbrev pub raw_of : Header → RawHeader
raw_of header = record {
  titles = header.titles;
  sizes = header.sizes;
  settings = header.settings;
  orders = header.orders.now;
}

-- what reading a header makes sure of
pub record HasHeaderRanges (header : Header) : Type 0 where
  pub table : length header.orders.now + BEFORE_ORDERS ≡ header.sizes.size
  pub orders : header.sizes.length ≤ MOST_ORDERS
  pub channels : header.sizes.channels ≤ MOST_CHANNELS
  pub instruments : header.settings.instruments ≤ MOST_INSTRUMENTS
