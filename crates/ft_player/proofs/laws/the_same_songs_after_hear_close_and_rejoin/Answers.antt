use Rattle.std.proofs.Common.{refl}
use Rattle.ft_shared.specs.Pass.{note_heard}
use Rattle.ft_player.proofs.Ordered.{same_songs, songs_before, songs_after, songs_closed, songs_unclosed}
use Rattle.ft_player.proofs.laws.the_same_songs_after_hear_close_and_rejoin.Goals as goal

pub returns : goal.returns
returns c = record {
  heard = λ songs pass version. (
    same_songs songs pass (record pass { notes = note_heard pass.notes version }) refl refl refl refl refl,
    same_songs songs (record pass { notes = note_heard pass.notes version }) pass refl refl refl refl refl,
  );
  closed = λ songs old new e. (songs_closed songs old new e, songs_unclosed songs old new e);
  rejoined = λ songs old new e. (songs_before songs old new e, songs_after songs old new e);
}
