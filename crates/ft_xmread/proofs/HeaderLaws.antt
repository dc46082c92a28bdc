-- The two laws of the header.
use Rattle.std.proofs.Common.{◌≡◌, ℕ, ◌-◌, ◌≤◌, Bool, false, List, ◌++◌, refl, ap, arith}
use Rattle.std.specs.Prelude.{nat_lt, not, ◌||◌, ◌==◌}
use Rattle.std.proofs.lemmas.Bool.Decides.{nat_tests}
use Rattle.ft_format.specs.declared.header.Sizes.{Sizes}
use Rattle.ft_format.specs.declared.header.Titles.{Titles}
use Rattle.ft_format.specs.declared.header.Settings.{Settings}
use Rattle.ft_format.specs.Fields.{two_bytes, four_bytes, IsNumber, IsField}
use Rattle.ft_format.specs.Header.{RawHeader, titles_text, sizes_text, settings_text, header_text, TitlesFit, SizesFit, SettingsFit, HeaderFits}
use Rattle.ft_xmread.specs.declared.fault.XmFault.TheVariants.{Version, Count}
use Rattle.ft_xmread.specs.Reader.{FileReading, field_at, number_at, count_at, and_then, seen}
use Rattle.ft_xmread.specs.Header.{titles_at, version_spelled_at, size_at, channels_at, sizes_at, settings_at, header_at}
use Rattle.ft_xmread.proofs.Numbers.{not_lt, fits_limit}
use Rattle.ft_xmread.proofs.Chains.{do2, both2, both3, both5, alike2, alike3, alike5}
use Rattle.ft_xmread.proofs.Lawful.{Lawful, Alike, both, alike_law, next_alike, Passes, field_law, byte_law, u16_law, u32_law, count_law, pair_law, both_law, checked_law, seen_law}

-- ---- the names

abbrev make_titles : List ℕ → ℕ → List ℕ → Titles
make_titles name mark tracker = record { name = name; mark = mark; tracker = tracker }

abbrev titles_parts : FileReading Titles
titles_parts = seen (λ x. make_titles x.0 x.1.0 x.1.1) (both3 (field_at 20) (number_at 1) (field_at 20))

titles_alike : Alike titles_at titles_parts
unfolding titles_at
titles_alike = alike3 (field_at 20) (number_at 1) (field_at 20) make_titles

titles_law : Lawful titles_at titles_text TitlesFit
titles_law =
    alike_law titles_at titles_parts titles_text TitlesFit titles_alike (seen_law _
    (λ titles. (titles.name, (titles.mark, titles.tracker))) _ _ _ titles_text TitlesFit
    (pair_law _ _ _ _ _ _ (field_law 20) (pair_law _ _ _ _ _ _ byte_law (field_law 20)))
    (λ x f. (record { name = f.0; mark = f.1.0; tracker = f.1.1 }, refl))
    (λ y g. ((g.name, (g.mark, g.tracker)), refl, refl)))

-- ---- version, sizes and channels

abbrev unknown : ℕ → Bool
unknown version = not (version == 0x0104)

known : (version : ℕ) → unknown version ≡ false → version ≡ 0x0104
known version e = grind (arith, nat_tests)

version_law : Lawful version_spelled_at two_bytes (Passes (IsNumber 2) unknown)
version_law = checked_law unknown (λ _ version. Version version) (number_at 2) two_bytes (IsNumber 2) u16_law

abbrev low_size : ℕ → Bool
low_size size = nat_lt size 21

abbrev bad_channels : ℕ → Bool
bad_channels channels = (channels == 0) || nat_lt 32 channels

some_channels : (channels : ℕ) → bad_channels channels ≡ false → 1 ≤ channels
some_channels channels e = grind (arith, nat_tests)

few_channels : (channels : ℕ) → bad_channels channels ≡ false → channels ≤ 32
few_channels channels e = grind (arith, nat_tests)

good_channels : (channels : ℕ) → 1 ≤ channels → channels ≤ 32 → bad_channels channels ≡ false
good_channels channels some few = grind (arith, nat_tests)

abbrev sizes_parts : Sizes → ℕ × (ℕ × (ℕ × (ℕ × ℕ)))
sizes_parts sizes = (0x0104, (sizes.size, (sizes.length, (sizes.restart, sizes.channels))))

abbrev behind_version : ℕ × (ℕ × (ℕ × ℕ)) → List ℕ
behind_version x = four_bytes x.0 ++ (two_bytes x.1.0 ++ (two_bytes x.1.1.0 ++ two_bytes x.1.1.1))

abbrev make_sizes : ℕ → ℕ → ℕ → ℕ → ℕ → Sizes
make_sizes version size length restart channels =
    record { size = size; length = length; restart = restart; channels = channels }

abbrev parts_of_sizes : FileReading Sizes
parts_of_sizes =
    seen (λ x. make_sizes x.0 x.1.0 x.1.1.0 x.1.1.1.0 x.1.1.1.1)
    (both5 version_spelled_at size_at (count_at 256) (number_at 2) channels_at)

sizes_alike : Alike sizes_at parts_of_sizes
unfolding sizes_at
sizes_alike = alike5 version_spelled_at size_at (count_at 256) (number_at 2) channels_at make_sizes

sizes_law : Lawful sizes_at sizes_text SizesFit
sizes_law =
    alike_law sizes_at parts_of_sizes sizes_text SizesFit sizes_alike (seen_law _ sizes_parts _ _ _ sizes_text SizesFit
    (pair_law _ _ _ _ _ _ version_law (pair_law _ _ _ _ _ _
    (checked_law low_size Count (number_at 4) four_bytes (IsNumber 4) u32_law)
    (pair_law _ _ _ _ _ _ (count_law 256)
    (pair_law _ _ _ _ _ _ u16_law (checked_law bad_channels Count (number_at 2) two_bytes (IsNumber 2) u16_law)))))
    (λ x f. (
      record {
        size = f.1.0.0;
        some_table = fits_limit x.1.0 21 f.1.0.1;
        length = fits_limit 256 x.1.1.0 f.1.1.0.1;
        restart = f.1.1.1.0;
        some_channels = some_channels x.1.1.1.1 f.1.1.1.1.1;
        few_channels = few_channels x.1.1.1.1 f.1.1.1.1.1;
      },
      ap (λ (version : ℕ). two_bytes version ++ behind_version x.1) (known x.0 f.0.1),
    ))
    (λ y g. (
      ((omega arith, refl), ((g.size, not_lt y.size 21 g.some_table), ((omega (arith, g.length), not_lt 256 y.length g.length), (g.restart, (omega (arith, g.few_channels), good_channels y.channels g.some_channels g.few_channels))))),
      refl,
      refl,
    )))

abbrev make_settings : ℕ → ℕ → ℕ → ℕ → ℕ → Settings
make_settings patterns instruments flags tempo bpm =
    record { patterns = patterns; instruments = instruments; flags = flags; tempo = tempo; bpm = bpm }

abbrev settings_parts : FileReading Settings
settings_parts =
    seen (λ x. make_settings x.0 x.1.0 x.1.1.0 x.1.1.1.0 x.1.1.1.1)
    (both5 (count_at 256) (count_at 128) (number_at 2) (number_at 2) (number_at 2))

settings_alike : Alike settings_at settings_parts
unfolding settings_at
settings_alike = alike5 (count_at 256) (count_at 128) (number_at 2) (number_at 2) (number_at 2) make_settings

settings_law : Lawful settings_at settings_text SettingsFit
settings_law =
    alike_law settings_at settings_parts settings_text SettingsFit settings_alike (seen_law _
    (λ settings. (settings.patterns, (settings.instruments, (settings.flags, (settings.tempo, settings.bpm))))) _ _ _
    settings_text SettingsFit
    (pair_law _ _ _ _ _ _ (count_law 256)
    (pair_law _ _ _ _ _ _ (count_law 128) (pair_law _ _ _ _ _ _ u16_law (pair_law _ _ _ _ _ _ u16_law u16_law))))
    (λ x f. (
      record
          { patterns = fits_limit 256 x.0 f.0.1; instruments = fits_limit 128 x.1.0 f.1.0.1; flags = f.1.1.0; tempo = f.1.1.1.0; bpm = f.1.1.1.1 },
      refl,
    ))
    (λ y g. (((omega (arith, g.patterns), not_lt 256 y.patterns g.patterns), ((omega (arith, g.instruments), not_lt 128 y.instruments g.instruments), (g.flags, (g.tempo, g.bpm)))), refl, refl)))

-- ---- the whole

abbrev make_header : Titles → Sizes → Settings → List ℕ → RawHeader
make_header titles sizes settings orders =
    record { titles = titles; sizes = sizes; settings = settings; orders = orders }

abbrev behind_sizes : Sizes → FileReading (Settings × List ℕ)
behind_sizes sizes = both2 settings_at (field_at (sizes.size - 20))

abbrev behind_titles : FileReading (Sizes × (Settings × List ℕ))
behind_titles = both sizes_at behind_sizes

abbrev header_parts : FileReading RawHeader
header_parts = seen (λ x. make_header x.0 x.1.0 x.1.1.0 x.1.1.1) (both titles_at (λ _. behind_titles))

abbrev sizes_on : Titles → Sizes → FileReading RawHeader
sizes_on titles sizes = do2 settings_at (field_at (sizes.size - 20)) (make_header titles sizes)

abbrev titles_on : Titles → FileReading RawHeader
titles_on titles = and_then sizes_at (sizes_on titles)

header_alike : Alike header_at header_parts
unfolding header_at
header_alike = next_alike (λ x. make_header x.0 x.1.0 x.1.1.0 x.1.1.1) titles_at (λ _. behind_titles) titles_on
    (λ titles. next_alike (λ x. make_header titles x.0 x.1.0 x.1.1) sizes_at behind_sizes (sizes_on titles)
    (λ sizes. alike2 settings_at (field_at (sizes.size - 20)) (make_header titles sizes)))

pub header_law : Lawful header_at header_text HeaderFits
unfolding header_text
header_law =
    alike_law header_at header_parts header_text HeaderFits header_alike (seen_law _
    (λ raw. (raw.titles, (raw.sizes, (raw.settings, raw.orders)))) _ _ _ _ HeaderFits
    (pair_law _ _ _ _ _ _ titles_law
    (both_law sizes_at behind_sizes sizes_text (λ _ x. settings_text x.0 ++ x.1) SizesFit
    (λ sizes x. SettingsFit x.0 × IsField (sizes.size - 20) x.1) sizes_law
    (λ sizes _. pair_law _ _ _ _ _ _ settings_law (field_law (sizes.size - 20)))))
    (λ x f. (record { titles = f.0; sizes = f.1.0; settings = f.1.1.0; orders = f.1.1.1 }, refl))
    (λ y g. ((g.titles, (g.sizes, (g.settings, g.orders))), refl, refl)))
