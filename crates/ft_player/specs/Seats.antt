-- What a player keeps for its channels, and what that is of the versions of a song.
use Rattle.std.specs.Prelude.{◌≡◌, ◌⊎◌, ℕ, List, [], ◌∷◌, ℤ, Option, Some, None}
use Rattle.ft_types.specs.declared.voice.SampleHead.{SampleHead}
use Rattle.ft_types.specs.Views.{Owned, begun, head_of_owned}
use Rattle.ft_types.specs.Work.{body_of}
use Rattle.ft_shared.specs.declared.law.Pin.{Pin}
use Rattle.ft_image.specs.Values.{frames_word}
use Rattle.ft_image.specs.Read.{body_at, mapped_sample, sample_root_at}
use Rattle.ft_player.specs.declared.seat.KeptWord.{KeptWord}
use Rattle.ft_player.specs.declared.seat.KeptWords.{KeptWords}
use Rattle.ft_player.specs.declared.seat.Seat.{Seat}
use Rattle.ft_player.specs.declared.songs.Songs.{Songs}
use Rattle.ft_player.specs.Songs.{song_at, place_at}

-- ---- what a seat says

abbrev pub head_in : Option Seat → Option SampleHead
head_in None = None
head_in (Some seat) = Some seat.head

-- the pin of a channel with this seat: the sample's root, from the version of the seat
abbrev pub pin_in : Option Seat → Option Pin
pin_in None = None
pin_in (Some seat) = Some (record { version = seat.version; root = seat.root })

-- the numbers of the kept words, the newest first
abbrev pub numbers_in : Option KeptWord → Option KeptWord → List ℕ
numbers_in None older = []
numbers_in (Some newest) None = newest.number ∷ []
numbers_in (Some newest) (Some older) = newest.number ∷ older.number ∷ []

abbrev pub numbers_of : KeptWords → List ℕ
numbers_of words = numbers_in words.newest words.older

abbrev pub seat_words : Option Seat → List ℕ
seat_words None = []
seat_words (Some seat) = numbers_of seat.words

-- with other kept words
abbrev pub reworded : KeptWords → Option Seat → Option Seat
reworded words None = None
reworded words (Some seat) = Some (record seat { words = words })

-- ---- of the versions

-- the sample that the seat's note began in the seat's own version
abbrev pub owned_by : Songs → Option Seat → Option Owned
owned_by songs None = None
owned_by songs (Some seat) =
    begun seat.version (song_at songs seat.version) seat.instrument seat.note

-- its frames
abbrev pub owned_frames : Option Owned → List ℤ
owned_frames None = []
owned_frames (Some owned) = owned.sample.frames

abbrev pub frames_by : Songs → Seat → List ℤ
frames_by songs seat = owned_frames (owned_by songs (Some seat))

-- A word is kept: as the last one or as the one before it
abbrev pub IsWordKept : KeptWords → KeptWord → Type 0
IsWordKept words word = (words.newest ≡ Some word) ⊎ (words.older ≡ Some word)

-- A word is that of the sample, and is in this body of it
pub record IsWordOf (songs : Songs) (seat : Seat) (word : KeptWord) : Type 0 where
  pub value : word.value ≡ frames_word (frames_by songs seat) word.number
  pub body : word.body
      ≡ body_at (place_at songs seat.version).pool seat.root (body_of word.number)

-- The seat is that of its sample: its head, its root, and its words
pub record IsSeatOf (songs : Songs) (seat : Seat) : Type 0 where
  pub head : head_of_owned (owned_by songs (Some seat)) ≡ Some seat.head
  pub root : sample_root_at (place_at songs seat.version) seat.instrument
      (mapped_sample (song_at songs seat.version) seat.instrument seat.note) ≡ Some seat.root
  pub kept : (word : KeptWord) → IsWordKept seat.words word → IsWordOf songs seat word

abbrev pub IsSeated : Songs → Option Seat → Type 0
IsSeated songs place = (seat : Seat) → place ≡ Some seat → IsSeatOf songs seat
