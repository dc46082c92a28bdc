-- What the tests know of a register that was opened with a song.
use Rattle.std.specs.Prelude.{◌≡◌}
use Rattle.ft_segments.specs.Walk.{IsSound, walk}
use Rattle.ft_shared.specs.Pass.{RegisterId, ReaderState, WriterState, fresh_pass}

-- one reader of one channel; the pool is that of the song, whose root is segment 0; nothing was
-- done yet
pub record IsTestRegister (register : RegisterId) (writer : WriterState)
    (reader : ReaderState) : Type 0
  where
    pub sizes : (register.sizes.readers ≡ 1) × (register.sizes.channels ≡ 1)
    pub came : writer.register ≡ register
    pub first : writer.account.version ≡ 0
    pub sound : IsSound register.sizes.segments (walk writer.account.pool 0)
    pub fresh : reader ≡ fresh_pass register 0
