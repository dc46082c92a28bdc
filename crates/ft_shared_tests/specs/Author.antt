-- What the tests' writer knows: each version is one segment, its root, and no word makes it more.
use Rattle.std.specs.Prelude.{◌≡◌, ◌≢◌, ℕ, ◌+◌, List, length, Some}
use Rattle.std.specs.List.{slice_get}
use Rattle.ft_segments.specs.Packing.{word_at}
use Rattle.ft_shared.specs.declared.law.Sizes.{Sizes}
use Rattle.ft_shared.specs.declared.law.PlacedVersion.{PlacedVersion}
use Rattle.ft_shared.specs.declared.law.Account.{Account}
use Rattle.ft_shared.specs.History.{IsOfVersion}
use Rattle.ft_shared.specs.Account.{IsWhole, IsAnswered, IsPinAnswer}
use Rattle.ft_shared.specs.Pass.{RegisterId, WriterState}

-- no segment names another: its first two words are 0
abbrev pub IsBarePool : List ℕ → Type 0
IsBarePool pool = (segment : ℕ) → (word_at pool segment 0 ≡ 0) × (word_at pool segment 1 ≡ 0)

-- the segments of each version are its root, which the list has at the version's number
abbrev pub AreRoots : List PlacedVersion → List ℕ → Type 0
AreRoots history roots = (version segment : ℕ) → IsOfVersion history version segment
    → slice_get roots version ≡ Some segment

-- the writer of the register, beside the roots of all its versions
pub record IsAuthor (shared : RegisterId) (writer : WriterState) (roots : List ℕ) : Type 0 where
  pub register : writer.register ≡ shared
  pub version : writer.account.version + 1 ≡ length roots
  pub bare : IsBarePool writer.account.pool
  pub known : AreRoots writer.account.history roots

-- a whole scan found the segment neither in a version nor as a pinned root
pub record IsUnfound (sizes : Sizes) (account : Account) (segment : ℕ) : Type 0 where
  pub whole : IsWhole sizes account
  pub current : IsOfVersion account.history account.version segment → ⊥
  pub answered : (version : ℕ) → IsAnswered account version
      → IsOfVersion account.history version segment → ⊥
  pub pins : (reader channel root : ℕ) → IsPinAnswer account reader channel (Some root)
      → root ≢ segment
