use Rattle.std.proofs.Common.{rules, refl, ◌≡◌, ◌<◌, ◌+◌, ◌*◌, ℕ, ℤ, Some, ap, ◌∙◌, arith}
use Rattle.std.specs.Prelude.{FitsSigned}
use Rattle.ft_types.specs.Valid.{width_of}
use Rattle.ft_types.specs.Views.{frame_of}
use Rattle.ft_player.specs.Seats.{owned_by}
use Rattle.ft_player.specs.BehindLaws.{played_read}
use Rattle.ft_player.proofs.Unpacked.{four_more}
use Rattle.ft_player.proofs.Rows.{frame_is}
use Rattle.ft_player.proofs.run.follow_whole.Goals as goal

pub loop-k-preserved : goal.loop-k-preserved
loop-k-preserved g c =
    let a = c.args in
    let seat = a.seat.now in
    let i = c.loop-k.k in
    let mid = c.loop-k.pass in
    let word = c.next_word-word.result in
    let new = c.next_word-word.new.pass in
    let number : word.number ≡ a.from.number + 1 + i = omega arith in
    record {
      words = λ songs stands seated is.
          let before = c.songs_agree_with_earlier_notes.ensures songs mid new (played_read mid new c.next_word-word.ensures.on) stands in
          let w = c.loop-k.invariant.words songs before seated is in
          let here = c.next_word-word.ensures.word songs stands seated w.0 in (
            here,
            w.0,
            λ j lt.
                four_more (λ (n : ℕ) (z : ℤ). z ≡ frame_of (owned_by songs (Some seat)) (4 * (a.from.number + 1) + n))
                seat.head.wide word.value (word.number * 4) (i * 4) c.loop-k.out c.unpack.new.out c.unpack.ensures
                (λ n less. w.2 n (omega (arith, less)))
                (λ k z few at.
                let inside : word.number * 4 + k < seat.head.frames = omega (arith, number, few) in
                frame_is c.a_shown_sample_is_of_its_version.ensures.valid songs new seat stands seated word.value
                word.number (word.number * 4 + k) z here.value (omega (arith, few)) inside at
                ∙ ap (frame_of (owned_by songs (Some seat))) (omega (arith, number)))
                j (omega (arith, lt)),
          );
      range = λ j lt.
          four_more (λ (n : ℕ) (z : ℤ). FitsSigned (width_of seat.head.wide) z) seat.head.wide word.value (word.number * 4)
          (i * 4) c.loop-k.out c.unpack.new.out c.unpack.ensures (λ n less. c.loop-k.invariant.range n (omega (arith, less)))
          (λ k z few at. at.range) j (omega (arith, lt));
      many = c.unpack.ensures.many ∙ c.loop-k.invariant.many;
      number = omega arith;
      older = search rules;
      on = c.a_pass_reads_on.ensures.through a.pass.now mid new c.loop-k.invariant.on c.next_word-word.ensures.on;
      counted = c.a_pass_reads_on.ensures.counted a.pass.now mid new a.steps.now c.loop-k.steps c.next_word-word.new.steps
          c.loop-k.invariant.counted c.next_word-word.ensures.counted;
      work = omega arith;
    }

pub loop-k-init : goal.loop-k-init
loop-k-init g c = record {
  words = λ songs stands seated is. (is, is, λ j lt. absurd (omega (arith, lt)));
  range = λ j lt. absurd (omega (arith, lt));
  many = refl;
  number = omega arith;
  older = λ some. absurd (omega (arith, some));
  on = c.a_pass_reads_on.ensures.nothing c.args.pass.now;
  counted = search rules;
  work = omega arith;
}
