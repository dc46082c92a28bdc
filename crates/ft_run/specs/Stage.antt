-- The stage on which a song is played.
use Rattle.std.specs.Prelude.{◌≡◌}
use Rattle.ft_types.specs.declared.module.Module.{Module}
use Rattle.ft_shared.specs.Pass.{fresh_pass}
use Rattle.ft_desk.specs.Desk.{IsOpened}
use Rattle.ft_run.specs.declared.stage.Stage.{Stage}

-- A stage was set for a song, and nothing was played yet: its desk was just opened on the song as
-- version 0, and its pass was never used
pub record IsSet (song : Module) (stage : Stage) : Type 0 where
  pub opened : IsOpened stage.shared song 0 stage.desk
  pub pass : stage.pass ≡ fresh_pass stage.shared 0
  pub channels : stage.shared.sizes.channels ≡ song.channels
