-- Which songs a view of words may show by a root.
use Rattle.std.specs.Prelude.{◌≡◌, ℕ}
use Rattle.ft_types.specs.declared.module.Module.{Module}
use Rattle.ft_segments.specs.Walk.{Placed}
use Rattle.ft_image.specs.Shown.{Shows}
use Rattle.ft_image.specs.Read.{MayShowAll}

-- a version with this root shows the song, and the view may show all segments of the version
pub record MayShowSong {V : Type 0} (may_show : V → Placed → ℕ → Type 0) (view : V) (root : ℕ)
    (song : Module) : Type 0 where
  pub placed : Placed
  pub all : MayShowAll may_show view placed
  pub shows : Shows placed song
  pub here : placed.root ≡ root

-- whatever it may show afterwards it might show before
abbrev pub HasNarrowed : {V : Type 0} → (V → Placed → ℕ → Type 0) → V → V → Type 0
HasNarrowed may_show old new =
    (placed : Placed) (segment : ℕ) → may_show new placed segment → may_show old placed segment
