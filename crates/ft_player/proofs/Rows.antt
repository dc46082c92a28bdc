-- Frames in a row in a seat's sample.
use Rattle.std.proofs.Common.{◌≡◌, ℕ, ◌<◌, ℤ, Option, Some, length, ap, subst, sym, ◌∙◌}
use Rattle.ft_types.specs.declared.module.Module.{Module}
use Rattle.ft_types.specs.declared.sample.Sample.{Sample}
use Rattle.ft_types.specs.declared.voice.SampleHead.{SampleHead}
use Rattle.ft_types.specs.Valid.{IsValidSample}
use Rattle.ft_types.specs.Views.{Owned, frame_of}
use Rattle.ft_types.specs.Work.{word_of}
use Rattle.ft_segments.specs.Walk.{Placed}
use Rattle.ft_shared.specs.Pass.{ReaderState}
use Rattle.ft_image.specs.Values.{frames_word}
use Rattle.ft_image.specs.Shown.{Shows}
use Rattle.ft_image.specs.Read.{IsRootOf}
use Rattle.ft_player.specs.declared.seat.Seat.{Seat}
use Rattle.ft_player.specs.declared.songs.Songs.{Songs}
use Rattle.ft_player.specs.Songs.{song_at, place_at}
use Rattle.ft_player.specs.Seats.{owned_by, owned_frames, frames_by, IsSeatOf}
use Rattle.ft_player.specs.Behind.{AreSongsBehind}
use Rattle.ft_player.specs.Runs.{IsFrameIn}
use Rattle.ft_player.proofs.Seated.{seat_sample}

-- a sample of a shown song is valid
abbrev pub ShownIsValid : Type 0
ShownIsValid =
    (placed : Placed) (song : Module) (root : ℕ) (sample : Sample) → Shows placed song → IsRootOf placed song root sample
    → IsValidSample sample

-- what a word of a seat's sample holds at a place is the sample's frame there
pub frame_is : ShownIsValid → (songs : Songs) (pass : ReaderState) (seat : Seat) → AreSongsBehind songs pass → IsSeatOf songs seat
    → (word number place : ℕ) (frame : ℤ) → word ≡ frames_word (frames_by songs seat) number → word_of place ≡ number
    → place < seat.head.frames → IsFrameIn seat.head.wide word place frame
    → frame ≡ frame_of (owned_by songs (Some seat)) place
frame_is law songs pass seat stands seated word number place frame value same inside is =
    let s = seat_sample songs pass seat stands seated in
    let x = s.owned.sample in
    let valid = law (place_at songs seat.version) (song_at songs seat.version) seat.root x s.shows s.of in
    let here = value ∙ ap (λ (o : Option Owned). frames_word (owned_frames o) number) s.is ∙ ap (frames_word x.frames) (sym same) in
    let within : place < length x.frames = subst (λ (h : SampleHead). place < h.frames) (sym s.headed) inside in
    is.value x valid (ap (λ (h : SampleHead). h.wide) s.headed) here within
    ∙ sym (ap (λ (o : Option Owned). frame_of o place) s.is)
