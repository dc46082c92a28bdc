-- What the words of a held version say of the sample that a note begins, after its root and its head
-- were read.
use Rattle.std.proofs.Common.{◌≡◌, ℕ, Option, Some, is_some}
use Rattle.ft_types.specs.declared.module.Module.{Module}
use Rattle.ft_types.specs.declared.sample.Sample.{Sample}
use Rattle.ft_types.specs.declared.voice.SampleHead.{SampleHead}
use Rattle.ft_types.specs.Views.{head_of}
use Rattle.ft_segments.specs.Walk.{Placed}
use Rattle.ft_shared.specs.Pass.{ReaderState}
use Rattle.ft_image.specs.Shown.{Shows}
use Rattle.ft_image.specs.Read.{MayShowAll, MayShowSample, IsRootOf, mapped_sample, sample_at, sample_root_at}
use Rattle.ft_image.specs.Passes.{MayShowHeld, HasReadOn}
use Rattle.ft_player.specs.declared.songs.Songs.{Songs}
use Rattle.ft_player.specs.Songs.{song_at, place_at}
use Rattle.ft_player.specs.Behind.{Holds, AreSongsBehind}
use Rattle.ft_player.proofs.Held.{HeldSong, held_song}
use Rattle.ft_player.proofs.Beginning.{Read, read_of}

-- the song of the version, and what its words say of the sample
pub record Begun (songs : Songs) (pass : ReaderState) (version root instrument note found : ℕ) (head : SampleHead) : Type 0 where
  pub song : HeldSong songs pass version root
  pub read : Read songs version instrument note found head

-- what reading the root answered
abbrev pub Answers : ReaderState → ℕ → ℕ → ℕ → Option ℕ → Type 0
Answers pass root instrument note answer =
    (p : Placed) (m : Module) → MayShowAll MayShowHeld pass p → Shows p m → p.root ≡ root
    → answer ≡ sample_root_at p instrument (mapped_sample m instrument note)

abbrev pub IsMissed : ReaderState → ℕ → ℕ → ℕ → Option ℕ → Type 0
IsMissed pass root instrument note answer =
    (p : Placed) (m : Module) → MayShowAll MayShowHeld pass p → Shows p m → p.root ≡ root
    → is_some answer ≡ is_some (sample_at m instrument (mapped_sample m instrument note))

-- what reading the head answered
abbrev pub Heads : ReaderState → ℕ → SampleHead → Type 0
Heads pass found head =
    (p : Placed) (m : Module) (x : Sample) → MayShowSample MayShowHeld pass p found → Shows p m → IsRootOf p m found x
    → head ≡ head_of x

pub begun_read : (songs : Songs) (old mid new : ReaderState) (version root instrument note found : ℕ) (head : SampleHead)
    (answer : Option ℕ)
    → HasReadOn old new → Holds old version root → AreSongsBehind songs new → answer ≡ Some found
    → Answers mid root instrument note answer → IsMissed mid root instrument note answer
    → ((p : Placed) (s : ℕ) → MayShowHeld new p s → MayShowHeld mid p s) → Heads new found head
    → Begun songs new version root instrument note found head
begun_read songs old mid new version root instrument note found head answer on holds stands is answered missed narrows headed =
    let place = place_at songs version in
    let song = song_at songs version in
    let h = held_song songs old new version root on holds stands in
    let before : MayShowAll MayShowHeld mid place = λ s of. narrows place s (h.may s of) in record {
      song = h;
      read = read_of songs version instrument note found head answer is (answered place song before h.shows h.rooted)
          (missed place song before h.shows h.rooted)
          (λ x of. headed place song x (λ s is used. h.may s is) h.shows of);
    }
