-- What the tests say of scans.
use Rattle.std.specs.Prelude.{◌≡◌}
use Rattle.ft_shared.specs.Pass.{WriterState}

-- A scan leaves the register, the current version, the history, the words and the settled passes
pub record IsLeft (old new : WriterState) : Type 0 where
  pub register : new.register ≡ old.register
  pub version : new.account.version ≡ old.account.version
  pub history : new.account.history ≡ old.account.history
  pub pool : new.account.pool ≡ old.account.pool
  pub settled : new.account.settled ≡ old.account.settled
