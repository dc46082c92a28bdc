-- The part that an edit touched is shown, by the words of its fresh segments and what was shown before.
use Rattle.std.proofs.Common.{◌≡◌, ◌≢◌, ℕ, ◌+◌, ◌*◌, ◌/◌, List, [], length, set, get_or, ap, sym, subst, ◌∙◌, arith, inl, inr, ℤ}
use Rattle.std.specs.Prelude.{slice_get, slice_index}
use Rattle.std.proofs.lemmas.Bool.{cases_lt, cases_eq}
use Rattle.std.proofs.lemmas.List.{length-set, get_or-set_other}
use Rattle.std.proofs.lemmas.Option.{none-some, slice_get_past}
use Rattle.ft_types.specs.declared.pattern.Pattern.{Pattern}
use Rattle.ft_types.specs.declared.sample.Sample.{Sample}
use Rattle.ft_types.specs.Blocks.{pieces_of}
use Rattle.ft_segments.specs.Packing.{word_at}
use Rattle.ft_segments.specs.Walk.{PatternIds, IndexIds, SampleIds, bodies_of_index}
use Rattle.ft_changes.specs.Ids.{indexes_if}
use Rattle.ft_changes.specs.Reached.{IsCellChange, frames_if}
use Rattle.ft_image.specs.Values.{cell_word, frames_word}
use Rattle.ft_image.specs.Shown.{Pairwise, ShowsPattern, ShowsIndex, ShowsSample}
use Rattle.ft_sharing.specs.Written.{BodyIsWritten, RootAndBodyAreWritten, SampleRootIsWritten}
use Rattle.ft_sharing.proofs.Pairs.{stored, paired_with}
use Rattle.ft_sharing.proofs.Roots.{pattern_shown, sample_shown}

-- ---- one body of cells

pub cell_shown : (pool : List ℕ) (channels body root segment : ℕ) (bodies : List ℕ) (x y : Pattern) (q : PatternIds)
    → bodies ≡ q.bodies → ShowsPattern pool channels x q → IsCellChange channels body x y
    → RootAndBodyAreWritten pool body y (record { root = root; bodies = set bodies body segment })
    → ShowsPattern pool channels y (record { root = root; bodies = set bodies body segment })
cell_shown pool channels body root segment bodies x y q is shown change written =
    let after = set bodies body segment in
    let many : length after ≡ length q.bodies = length-set bodies body segment ∙ ap length is in
    pattern_shown pool channels y (record { root = root; bodies = after }) written.0
    (many ∙ shown.count ∙ ap (λ n. pieces_of (n * channels) 256) (sym change.rows))
    (λ b lt.
    elim (cases_eq b body) [
      | inl same ↦ subst (λ c. BodyIsWritten pool y (slice_index after c) c) (sym same) written.1
      | inr ne ↦ λ j l.
          let other : (b * 256 + j) / 256 ≢ body = λ e. ne (omega (arith, e, l)) in
          ap (λ s. word_at pool s j) (get_or-set_other bodies body b segment 0 ne ∙ ap (λ bs. get_or bs b 0) is)
          ∙ shown.cells b j (omega (arith, many, lt)) l ∙ ap cell_word (sym (change.cells (b * 256 + j) other))
    ])

-- ---- a sample with the same frames

index_same : (pool : List ℕ) (x y : Sample) (k : ℕ) (index : IndexIds) → x.frames ≡ y.frames → ShowsIndex pool x k index
    → ShowsIndex pool y k index
index_same pool x y k index same shown = record {
  count = shown.count ∙ ap (λ (fs : List ℤ). bodies_of_index (pieces_of (length fs) 1024) k) same;
  bodies = shown.bodies;
  frames = λ b j lt l. shown.frames b j lt l ∙ ap (λ (fs : List ℤ). frames_word fs ((1024 * k + b) * 256 + j)) same;
}

kept_shown : (pool : List ℕ) (root : ℕ) (indexes : List IndexIds) (x y : Sample) (q : SampleIds) → indexes ≡ q.indexes
    → ShowsSample pool x q → x.frames ≡ y.frames
    → SampleRootIsWritten pool y (record { root = root; indexes = indexes })
    → ShowsSample pool y (record { root = root; indexes = indexes })
kept_shown pool root indexes x y q is shown same written =
    sample_shown pool y (record { root = root; indexes = indexes }) written
    (ap length is ∙ shown.count ∙ ap (λ (fs : List ℤ). pieces_of (pieces_of (length fs) 1024) 1024) same)
    (λ k index at.
    index_same pool x y k index same (shown.each k index (ap (λ (all : List IndexIds). slice_get all k) (sym is) ∙ at)))

bare_shown : (pool : List ℕ) (root : ℕ) (indexes : List IndexIds) (y : Sample) → indexes ≡ [] → y.frames ≡ []
    → SampleRootIsWritten pool y (record { root = root; indexes = indexes })
    → ShowsSample pool y (record { root = root; indexes = indexes })
bare_shown pool root indexes y is none written =
    sample_shown pool y (record { root = root; indexes = indexes }) written
    (ap length is ∙ ap (λ (fs : List ℤ). pieces_of (pieces_of (length fs) 1024) 1024) (sym none))
    (λ k index at. absurd (none-some index (ap (λ (all : List IndexIds). slice_get all k) (sym is) ∙ at)))

-- the sample of a number, or a new one behind the last
pub sample_kept : (pool : List ℕ) (s root : ℕ) (xs : List Sample) (ys : List SampleIds) (y : Sample)
    → Pairwise (ShowsSample pool) xs ys → y.frames ≡ frames_if (slice_get xs s)
    → SampleRootIsWritten pool y (record { root = root; indexes = indexes_if (slice_get ys s) })
    → ShowsSample pool y (record { root = root; indexes = indexes_if (slice_get ys s) })
sample_kept pool s root xs ys y pairs same written =
    elim (cases_lt s (length xs)) [
      | inl lt ↦
          let one = stored xs s lt in
          let there = paired_with (ShowsSample pool) xs ys s one.0 pairs one.1 in
          kept_shown pool root (indexes_if (slice_get ys s)) one.0 y there.0 (ap indexes_if there.1) there.2
          (sym (same ∙ ap frames_if one.1)) written
      | inr le ↦
          bare_shown pool root (indexes_if (slice_get ys s)) y
          (ap indexes_if (slice_get_past ys s (omega (arith, pairs.count, le))))
          (same ∙ ap frames_if (slice_get_past xs s le)) written
    ]
