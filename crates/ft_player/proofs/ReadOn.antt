-- What a view keeps while its pass reads on.
use Rattle.std.proofs.Common.{◌≡◌, ℕ, List, Option, length, map, ap, ◌∙◌}
use Rattle.ft_shared.specs.Pass.{RegisterId, ReaderState}
use Rattle.ft_image.specs.Passes.{HasReadOn}
use Rattle.ft_player.specs.declared.seat.Seat.{Seat}
use Rattle.ft_player.specs.declared.songs.Songs.{Songs}
use Rattle.ft_player.specs.Seats.{pin_in}
use Rattle.ft_player.specs.Behind.{Holds, AreSongsBehind, AreSeated, HasPlayedOn}
use Rattle.ft_player.specs.BehindLaws.{played_read}

-- what may be behind a pass was behind it before
abbrev pub StoodBefore : Type 0
StoodBefore = (songs : Songs) (old new : ReaderState) → HasPlayedOn old new → AreSongsBehind songs new → AreSongsBehind songs old

-- a view's pass is that of its register and holds its version, and its seats are those of its pins
abbrev pub IsKept : RegisterId → List (Option Seat) → ℕ → ℕ → ReaderState → Type 0
IsKept shared seats version root pass = record {
  here : pass.register ≡ shared;
  held : Holds pass version root;
  many : length seats ≡ shared.sizes.channels;
  pins : pass.notes.pins ≡ map pin_in seats;
  seated : AreSeated pass seats;
}

pub stood : (law : StoodBefore) (old new : ReaderState) → HasReadOn old new → (songs : Songs) → AreSongsBehind songs new
    → AreSongsBehind songs old
stood law old new on songs stands = law songs old new (played_read old new on) stands

pub kept_on : (law : StoodBefore) (shared : RegisterId) (seats : List (Option Seat)) (version root : ℕ) (old new : ReaderState)
    → HasReadOn old new → IsKept shared seats version root old → IsKept shared seats version root new
kept_on law shared seats version root old new on kept = record {
  here = ap (λ (x : ReaderState). x.register) on.is ∙ kept.here;
  held = ap (λ (x : ReaderState). x.notes.held) on.is ∙ kept.held;
  many = kept.many;
  pins = ap (λ (x : ReaderState). x.notes.pins) on.is ∙ kept.pins;
  seated = λ songs channel stands. kept.seated songs channel (stood law old new on songs stands);
}
