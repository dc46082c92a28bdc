use Rattle.ft_edits.proofs.ChangedOne.{changes_pattern, changes_instrument, changes_samples, changes_frames}
use Rattle.ft_edits.proofs.laws.one_is_changed.Goals as goal

pub returns : goal.returns
returns c = record {
  patterns = changes_pattern;
  instruments = changes_instrument;
  samples = changes_samples;
  frames = changes_frames;
}
