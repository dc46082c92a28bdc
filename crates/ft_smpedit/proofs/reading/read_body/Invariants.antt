use Rattle.std.proofs.Common.{◌≡◌, ℕ, ◌+◌, ◌*◌, ◌<◌, length, get_or, pos}
use Rattle.ft_types.specs.declared.sample.Sample.{Sample}
use Rattle.ft_edits.specs.Changes.{sample_changed}
use Rattle.ft_segments.specs.Walk.{Placed}
use Rattle.ft_smpedit.specs.Kept.{IsLastWord, ReadsSample}
use Rattle.ft_smpedit.specs.Sources.{HasNamedFrames}
use Rattle.ft_smpedit.proofs.reading.read_body.Given as goal

abbrev pub invariant-loop-j : goal.invariant-loop-j
invariant-loop-j g l = record {
  long : length l.out ≡ 1024;
  narrows : (p : Placed) (s : ℕ) → g.V.WordView.may_show l.view p s → g.V.WordView.may_show l.fn.view p s;
  kept : (p : Placed) (x : Sample) → ReadsSample g.V.WordView.may_show l.view p l.fn.sample x
      → l.fn.frames ≡ length x.frames → l.fn.wide ≡ x.wide → HasNamedFrames l.fn.frames l.fn.e
      → IsLastWord p.pool l.fn.sample x l.kept;
  answer : (p : Placed) (x : Sample) → ReadsSample g.V.WordView.may_show l.view p l.fn.sample x
      → l.fn.frames ≡ length x.frames → l.fn.wide ≡ x.wide → HasNamedFrames l.fn.frames l.fn.e
      → (k : ℕ) → k < l.j
      → get_or l.out k (pos 0) ≡ get_or (sample_changed l.fn.e x).frames (l.fn.n * 1024 + k) (pos 0);
  same : g.V.WordView.same l.fn.view l.view;
}
