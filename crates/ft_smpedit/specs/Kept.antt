-- What a reader of frames keeps of the last word that it asked for.
use Rattle.std.specs.Prelude.{◌≡◌, ℕ, ◌*◌, ◌<◌, List, length}
use Rattle.ft_types.specs.declared.module.Module.{Module}
use Rattle.ft_types.specs.declared.sample.Sample.{Sample}
use Rattle.ft_segments.specs.Walk.{Placed}
use Rattle.ft_image.specs.Values.{frames_word}
use Rattle.ft_image.specs.Shown.{Shows}
use Rattle.ft_image.specs.Read.{MayShowSample, IsRootOf, body_at}
use Rattle.ft_smpedit.specs.declared.kept.LastWord.{LastWord}

-- the word and the segment of the body are those of their numbers, where the sample has them
pub record IsLastWord (pool : List ℕ) (root : ℕ) (sample : Sample) (kept : LastWord) : Type 0 where
  pub word : 4 * kept.number < length sample.frames
      → kept.word ≡ frames_word sample.frames kept.number
  pub segment : 1024 * kept.body < length sample.frames
      → kept.segment ≡ body_at pool root kept.body

-- a version that the view may show as far as a sample's root names it shows a song with this sample
pub record ReadsSample {V : Type 0} (may_show : V → Placed → ℕ → Type 0) (view : V)
    (placed : Placed) (root : ℕ) (sample : Sample) : Type 0 where
  pub song : Module
  pub may : MayShowSample may_show view placed root
  pub shows : Shows placed song
  pub of : IsRootOf placed song root sample
