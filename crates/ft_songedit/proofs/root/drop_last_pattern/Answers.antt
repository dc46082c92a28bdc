use Rattle.std.proofs.Common.{◌≡◌, sym, subst, arith}
use Rattle.std.specs.Prelude.{length}
use Rattle.std.proofs.lemmas.List.{length-map}
use Rattle.ft_segments.specs.Walk.{PatternIds}
use Rattle.ft_sharing.specs.Written.{pattern_roots, instrument_roots}
use Rattle.ft_roots.specs.RootWords.{HasSongWords}
use Rattle.ft_songedit.proofs.Roots.{no_last}
use Rattle.ft_songedit.proofs.root.drop_last_pattern.Goals as goal
use Rattle.ft_songedit.proofs.root.drop_last_pattern.Goals.{else-count-ge1-via-then-count-ge1+else-count-le256, else-count-ge1-via-else-count-ge1}

pub returns-then-count-le256 : goal.returns-then-count-le256
returns-then-count-le256 c = λ m ids valid same few has.
    let n = length-map ids.patterns (λ (x : PatternIds). x.root) in
    let count = c.pattern_count-count.ensures m (pattern_roots ids) (instrument_roots ids) valid has in
    c.drop_pattern_id.ensures m (pattern_roots ids) (instrument_roots ids) few (omega (arith, n, same, count)) has

pub returns-else-count-ge1 : goal.returns-else-count-ge1
returns-else-count-ge1 c = λ m ids valid same few has.
    let n = length-map ids.patterns (λ (x : PatternIds). x.root) in
    let count = c.pattern_count-count.ensures m (pattern_roots ids) (instrument_roots ids) valid has in
    let none : length (pattern_roots ids) ≡ 0 =
    elim c.else-count-ge1.branch [
      | else-count-ge1-via-then-count-ge1+else-count-le256 w ↦
          absurd (omega (arith, w.if-count-le256.false, count, valid.few_patterns))
      | else-count-ge1-via-else-count-ge1 w ↦ omega (arith, n, same, count, w.if-count-ge1.false)
    ] in
    subst (λ ps. HasSongWords c.args.words.now m ps (instrument_roots ids)) (sym (no_last (pattern_roots ids) none)) has
