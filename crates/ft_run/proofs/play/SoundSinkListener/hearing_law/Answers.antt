use Rattle.std.proofs.Common.{◌≤◌, ℕ, [], refl, sym, subst, ◌∙◌}
use Rattle.std.specs.Io.KnownBytes.{Appends}
use Rattle.ft_outer.specs.Counts.{Rose}
use Rattle.ft_outer.specs.Pieces.{TakesFront}
use Rattle.ft_out.specs.Wav.{sound_bytes}
use Rattle.ft_run.proofs.Missing.{sound_bytes-append}
use Rattle.ft_run.proofs.Output.{front_of_first, front_of_second}
use Rattle.ft_run.proofs.play.SoundSinkListener.hearing_law.Goals as goal

pub returns-clause-nothing : goal.returns-clause-nothing
returns-clause-nothing g c = λ a. (
  refl,
  record {
    took = c.taking_law.ensures.whole (g.W.Sink.held a.sink.now) (g.W.Sink.held a.sink.now) (sound_bytes []) (sound_bytes [])
        (c.taking_law.ensures.first (g.W.Sink.held a.sink.now) (sound_bytes [])) refl;
    kept = refl;
  },
)

pub returns-clause-joined : goal.returns-clause-joined
returns-clause-joined g c = λ a b d x y e f. (
  e.0 ∙ f.0,
  record {
    took = subst (Appends (g.W.Sink.held a.sink.now) (g.W.Sink.held d.sink.now)) (sym (sound_bytes-append x y))
        (c.taking_law.ensures.joined (g.W.Sink.held a.sink.now) (g.W.Sink.held b.sink.now) (g.W.Sink.held d.sink.now)
        (sound_bytes x) (sound_bytes y) e.1.took f.1.took);
    kept = f.1.kept ∙ e.1.kept;
  },
)

pub returns-clause-cut : goal.returns-clause-cut
returns-clause-cut g c = λ a b d x y e f. (
  e.0 ∙ f.0,
  record {
    took = subst (TakesFront (g.W.Sink.held a.sink.now) (g.W.Sink.held d.sink.now)) (sym (sound_bytes-append x y))
        (front_of_second c.taking_law.ensures.first c.taking_law.ensures.next c.taking_law.ensures.front
        (g.W.Sink.held a.sink.now) (g.W.Sink.held b.sink.now) (g.W.Sink.held d.sink.now)
        (sound_bytes x) (sound_bytes y) e.1.took f.1.took);
    later = subst (λ (n : ℕ). n ≤ g.W.Sink.faults d.sink.now) e.1.kept f.1.later;
    rose = subst (λ (n : ℕ). Rose n (g.W.Sink.faults d.sink.now)) e.1.kept f.1.rose;
  },
)

pub returns-clause-longer : goal.returns-clause-longer
returns-clause-longer g c = λ a b x y e. (
  e.0,
  record {
    took = subst (TakesFront (g.W.Sink.held a.sink.now) (g.W.Sink.held b.sink.now)) (sym (sound_bytes-append x y))
        (front_of_first c.taking_law.ensures.first c.taking_law.ensures.front
        (g.W.Sink.held a.sink.now) (g.W.Sink.held b.sink.now) (sound_bytes x) (sound_bytes y) e.1.took);
    later = e.1.later;
    rose = e.1.rose;
  },
)
