use Rattle.std.proofs.Common.{refl, ◌≡◌, ◌+◌, ◌-◌, sym, ap, ◌∙◌, arith, Some, ℕ, length, get_or}
use Rattle.std.specs.List.{slice_get}
use Rattle.std.proofs.lemmas.Option.{get_or_from_slice_get}
use Rattle.ft_shared_tests.proofs.Unfound.{unfound}
use Rattle.ft_shared_tests.proofs.author.free_segment.Goals as goal

pub returns-then-is_free : goal.returns-then-is_free
returns-then-is_free c =
    let a = c.args.writer.now.account in
    let roots = c.args.roots.now in
    let s = c.loop-segment.segment in
    let author = c.requires.author in
    let count = author.version in
    let last : length roots - 1 ≡ a.version = omega arith in (
      c.loop-segment-test.true,
      unfound c.args.shared.now.sizes a roots c.args.pins.now.items c.args.answers.now.items s c.requires.whole author.known
          (λ e. c.if-is_free.ensures.apart refl (ap (λ (k : ℕ). get_or roots k 0) last ∙ get_or_from_slice_get roots a.version s 0 e))
          c.requires.scan (c.if-is_free.ensures.answered refl) c.requires.pins (c.if-is_free.ensures.pins refl),
    )
