use Rattle.std.proofs.Common.{rules, sym, ◌≡◌, ◌<◌, ◌≤◌, ◌+◌, ◌*◌, ◌/◌, ℕ, length, take, subst, ◌∙◌, arith}
use Rattle.std.specs.List.{sum_by}
use Rattle.std.proofs.lemmas.List.{length-take-le}
use Rattle.ft_types.specs.Views.{Shown}
use Rattle.ft_replay.specs.Sound.{voices_sum, left_of, right_of}
use Rattle.ft_mix.specs.Mixing.{IsFrame, block_cost}
use Rattle.ft_mix.proofs.Costs.{costs_more}
use Rattle.ft_mix.proofs.Sounds.{full_block, last_block, more_frames, block_end, in_block, sound_is}
use Rattle.ft_mix.proofs.block.fill.Goals as goal

pub loop-block-preserved : goal.loop-block-preserved
loop-block-preserved g c =
    let block = c.loop-block.block in
    let many = c.block_len-many.result in
    let some = c.block_len-many.ensures.some in
    let few = c.block_len-many.ensures.few in
    let within = c.block_len-many.ensures.within in
    let whole = c.block_len-many.ensures.whole in
    let lent : length (take many c.loop-block.left) ≡ many = length-take-le many c.loop-block.left (search rules) in
    let cost =
    subst
    (λ (n : ℕ).
    g.V.SongView.work c.fill_block.new.view
    ≤ g.V.SongView.work c.loop-block.view + sum_by (block_cost n) c.args.voices.now) lent
    c.fill_block.ensures.cost in
    record {
      frames = λ w is.
          let a = c.fill_block.ensures.frames w is in
          let b = c.loop-block.invariant.frames w a.0 in
          let kept = (g.V.SongView.shown c.args.view.now w).kept in
          let new : (k : ℕ) → k < many
          → IsFrame (voices_sum (left_of (512 * block + k)) kept c.args.voices.now)
          (voices_sum (right_of (512 * block + k)) kept c.args.voices.now) (512 * block + k)
          c.fill_block.new.out =
          λ k lt.
          subst
          (λ (s : Shown).
          IsFrame (voices_sum (left_of (512 * block + k)) s.kept c.args.voices.now)
          (voices_sum (right_of (512 * block + k)) s.kept c.args.voices.now) (512 * block + k)
          c.fill_block.new.out) b.1 (a.2 k (subst (λ (n : ℕ). k < n) (sym lent) lt)) in (
            b.0,
            a.1 ∙ b.1,
            λ k lt below. more_frames kept c.args.voices.now (512 * block) many c.loop-block.out c.fill_block.new.out
                (λ n less. b.2 n less (omega arith)) c.fill_block.ensures.before new k
                (in_block (512 * block) many (length c.args.out.now / 2) k whole (omega arith) below),
          );
      many = c.fill_block.ensures.many ∙ c.loop-block.invariant.many;
      reached = c.fill_block.ensures.reached ∙ c.loop-block.invariant.reached;
      holds = c.fill_block.ensures.holds ∙ c.loop-block.invariant.holds;
      keeps = λ k h s. c.fill_block.ensures.keeps k h (c.loop-block.invariant.keeps k h s);
      rising = omega arith;
      work = λ n most rest le.
          let same : n ≡ 512 * block + many =
          block_end (512 * block) many (length c.args.out.now / 2) n few within whole (omega arith)
          (λ lt. rest (omega arith)) le in
          let before =
          c.loop-block.invariant.work (512 * block) (omega arith) (λ lt. absurd (omega arith)) (omega arith) in
          let now =
          subst
          (λ (x : ℕ).
          g.V.SongView.work c.fill_block.new.view
          ≤ g.V.SongView.work c.loop-block.view + length c.args.voices.now * (6 * x)) lent
          c.fill_block.ensures.work.1 in
          subst
          (λ (x : ℕ).
          g.V.SongView.work c.fill_block.new.view
          ≤ g.V.SongView.work c.args.view.now + length c.args.voices.now * (6 * x)) (sym same) (omega arith);
      whole = λ le.
          let full : many ≡ 512 = full_block (512 * block) many (length c.args.out.now / 2) few whole (omega arith) in
          let before = c.loop-block.invariant.whole (omega arith) in
          let sums =
          costs_more (512 * block / 2) (6 * (512 * block)) (5 + (many + 3) / 4) (6 * many) (512 * (block + 1) / 2)
          (6 * (512 * (block + 1))) c.args.voices.now (omega arith) (omega arith) in
          omega (arith, cost);
      all = λ le.
          let last : 512 * block + many ≡ length c.args.out.now / 2 =
          last_block (512 * block) many (length c.args.out.now / 2) within whole (omega arith) in
          let before = c.loop-block.invariant.whole (omega arith) in
          let sums =
          costs_more (512 * block / 2) (6 * (512 * block)) (5 + (many + 3) / 4) (6 * many)
          (length c.args.out.now / 2 / 2 + 8) (6 * (length c.args.out.now / 2)) c.args.voices.now (omega arith)
          (omega arith) in
          omega (arith, cost);
      same = g.met.V.SongView.same_through _ _ _ c.loop-block.invariant.same c.fill_block.ensures.same;
    }

pub returns-clause-sound : goal.returns-clause-sound
returns-clause-sound g c = λ w is.
    let b = c.loop-block.invariant.frames w is in
    let many = c.loop-block.invariant.many in
    let even = c.requires.even in
    let end = c.div_ceil-block-end.ensures in (
      b.0,
      b.1,
      sound_is (g.V.SongView.shown c.args.view.now w).kept c.args.voices.now (length c.args.out.now / 2)
          c.loop-block.out (omega arith) (λ k lt. b.2 k (omega arith) lt),
    )
