-- What a view over one module shows, as any version.
use Rattle.std.specs.Prelude.{ℕ, List, [], Option, None, Some, map}
use Rattle.ft_types.specs.declared.module.Module.{Module}
use Rattle.ft_types.specs.declared.kept.Kept.{Kept}
use Rattle.ft_types.specs.Views.{Owned, Shown}
use Rattle.ft_types.specs.Words.{words_in}

-- the sample that a channel keeps, from a version
abbrev pub owned_in : ℕ → Option Kept → Option Owned
owned_in version None = None
owned_in version (Some kept) = Some (record {
  origin = record { version = version; instrument = kept.instrument; sample = kept.number };
  sample = kept.sample.now;
})

abbrev pub words_kept : Option Kept → List ℕ
words_kept None = []
words_kept (Some kept) = words_in kept.words

abbrev pub shown_of : ℕ → Module → List (Option Kept) → Shown
shown_of version song kept = record {
  version = version;
  song = song;
  kept = map (owned_in version) kept;
}
