-- What a player has played over some ticks, by the versions that it reported.
use Rattle.std.specs.Prelude.{◌≡◌, ◌≤◌, ◌-◌, ◌*◌, ◌++◌, ◌∷◌, [], ℕ, ℤ, List, Option, Some, None, Contains, All, length, take}
use Rattle.std.specs.List.{AllZip}
use Rattle.ft_replay.specs.State.{SequentialState}
use Rattle.ft_replay.specs.Tick.{Tick}
use Rattle.ft_replay.specs.Replay.{ticks_from, state_after, sound_of_ticks}
use Rattle.ft_shared.specs.declared.law.Notes.{Notes}
use Rattle.ft_shared.specs.declared.law.TakenVersion.{TakenVersion}
use Rattle.ft_player.specs.declared.songs.Songs.{Songs}
use Rattle.ft_player.specs.Songs.{song_at}
use Rattle.ft_player.specs.Player.{PlayerState, ForAllBehind, stood_by}

-- ---- the looks and takes of ticks

-- the number of the version that is held, and 0 where none is
abbrev pub number_held : Option TakenVersion → ℕ
number_held None = 0
number_held (Some taken) = taken.version

-- no version is below the one before it
abbrev pub NeverFall : ℕ → List ℕ → Type 0
NeverFall least [] = Unit {0}
NeverFall least (version ∷ versions) = (least ≤ version) × NeverFall version versions

abbrev pub last_version_of : ℕ → List ℕ → ℕ
last_version_of version [] = version
last_version_of version (next ∷ versions) = last_version_of next versions

-- a take of a version of this number was noted
abbrev pub HasTakenNumber : List TakenVersion → ℕ → Type 0
HasTakenNumber takes number =
    (taken : TakenVersion) × Contains takes taken × (taken.version ≡ number)

-- Ticks were played on these versions, one after the other. Each has looked once, and its version
-- is at least the one looked at. No version is below the one of the tick before, or below what was
-- held at first; what is held now is the last. The pass has noted a take of each version
pub record HaveLooked (old new : Notes) (versions : List ℕ) : Type 0 where
  pub looks : List ℕ
  pub once : new.looks ≡ old.looks ++ looks
  pub current : AllZip (◌≤◌) looks versions
  pub rising : NeverFall (number_held old.held) versions
  pub last : number_held new.held ≡ last_version_of (number_held old.held) versions
  pub taken : All (HasTakenNumber new.takes) versions

-- ---- what is played

-- That many frames are missing after these ticks, of these that were wanted; some were missing
-- before each tick. Each tick has a frame, and two numbers a frame
abbrev pub AreMissing : ℕ → List Tick → ℕ → Type 0
AreMissing wanted [] missing = missing ≡ wanted
AreMissing wanted (tick ∷ ticks) missing =
    (1 ≤ wanted) × (1 ≤ tick.place.frames) × (length tick.sound ≡ 2 * tick.place.frames)
    × AreMissing (wanted - tick.place.frames) ticks missing

-- the first of that many frames of these ticks, left and right in turn
abbrev pub cut_sound : ℕ → List Tick → List ℤ
cut_sound frames ticks = take (2 * frames) (sound_of_ticks ticks)

-- the ticks of a player on these versions, where these songs are behind it
abbrev pub ticks_played : Songs → PlayerState → List ℕ → List Tick
ticks_played songs player versions =
    ticks_from (song_at songs) versions player.rate (stood_by songs player)

abbrev pub state_played : Songs → PlayerState → List ℕ → SequentialState
state_played songs player versions =
    state_after (song_at songs) versions player.rate (stood_by songs player)

-- Where these songs are behind a player, it is in the state after the ticks on these versions, and
-- of the ticks this is true
pub record IsPlayedOn (songs : Songs) (old new : PlayerState) (versions : List ℕ)
    (True : List Tick → Type 0) : Type 0 where
  pub state : stood_by songs new ≡ state_played songs old versions
  pub ticks : True (ticks_played songs old versions)

-- A player has played ticks on these versions, whatever is behind it
pub record HasPlayedTicks (old new : PlayerState) (versions : List ℕ)
    (True : List Tick → Type 0) : Type 0 where
  pub register : new.pass.register ≡ old.pass.register
  pub rate : new.rate ≡ old.rate
  pub looked : HaveLooked old.pass.notes new.pass.notes versions
  pub behind : ForAllBehind old new (λ songs. IsPlayedOn songs old new versions True)
