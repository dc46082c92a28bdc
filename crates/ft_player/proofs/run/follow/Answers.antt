use Rattle.std.proofs.Common.{◌≡◌, ◌<◌, ◌+◌, ◌*◌, ℕ, ℤ, Some, length, ap, subst, ◌∙◌, inl, inr, arith}
use Rattle.std.specs.Prelude.{FitsSigned}
use Rattle.std.proofs.lemmas.Option.{same_Some}
use Rattle.ft_types.specs.Valid.{width_of}
use Rattle.ft_types.specs.Views.{frame_of}
use Rattle.ft_player.specs.Seats.{owned_by, IsWordOf}
use Rattle.ft_player.specs.BehindLaws.{played_read}
use Rattle.ft_player.proofs.Unpacked.{each_behind}
use Rattle.ft_player.proofs.Rows.{frame_is}
use Rattle.ft_player.proofs.run.follow.Goals as goal

pub returns-clause-words : goal.returns-clause-words
returns-clause-words g c = λ songs stands seated is.
    let a = c.args in
    let seat = a.seat.now in
    let mid = c.follow_whole-trail.new.pass in
    let new = c.next_word-word.new.pass in
    let word = c.next_word-word.result in
    let front = c.follow_whole-trail.new.out in
    let back = c.unpack_part.new.out in
    let before = c.songs_agree_with_earlier_notes.ensures songs mid new (played_read mid new c.next_word-word.ensures.on) stands in
    let w = c.follow_whole-trail.ensures.words songs before seated is in
    let here = c.next_word-word.ensures.word songs stands seated w.0 in (
      λ other kept. elim kept [
        | inl e ↦ subst (IsWordOf songs seat) (same_Some word other e) here
        | inr e ↦ subst (IsWordOf songs seat) (same_Some c.follow_whole-trail.result.newest other e) w.0
      ],
      each_behind (λ (k : ℕ) (z : ℤ). z ≡ frame_of (owned_by songs (Some seat)) (4 * (a.from.number + 1) + k)) front back w.2
          (λ k lt.
          let inside : word.number * 4 + k < seat.head.frames = omega (arith, lt) in
          let same : word.number * 4 + k ≡ 4 * (a.from.number + 1) + (length front + k) = omega (arith, lt) in
          frame_is c.a_shown_sample_is_of_its_version.ensures.valid songs new seat stands seated word.value word.number
          (word.number * 4 + k) _ here.value (omega arith) inside (c.unpack_part.ensures.frames k lt)
          ∙ ap (frame_of (owned_by songs (Some seat))) same),
    )

pub returns-clause-range : goal.returns-clause-range
returns-clause-range g c =
    each_behind (λ (k : ℕ) (z : ℤ). FitsSigned (width_of c.args.seat.now.head.wide) z) c.follow_whole-trail.new.out
    c.unpack_part.new.out c.follow_whole-trail.ensures.range (λ k lt. (c.unpack_part.ensures.frames k lt).range)
