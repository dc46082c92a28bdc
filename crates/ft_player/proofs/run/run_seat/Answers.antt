use Rattle.std.proofs.Common.{◌≡◌, ◌<◌, ◌+◌, ◌-◌, ◌*◌, ◌/◌, ℕ, ℤ, pos, get_or, [], ◌∷◌, Some, length, ap, subst, ◌∙◌, inl, arith}
use Rattle.std.specs.Prelude.{FitsSigned}
use Rattle.ft_types.specs.Valid.{width_of}
use Rattle.ft_types.specs.Views.{frame_of}
use Rattle.ft_types.specs.Work.{word_of, last_word}
use Rattle.ft_player.specs.declared.seat.Seat.{Seat}
use Rattle.ft_player.specs.Seats.{owned_by, numbers_of}
use Rattle.ft_player.specs.Runs.{HasFollowed}
use Rattle.ft_player.specs.BehindLaws.{played_read}
use Rattle.ft_player.proofs.Seated.{reworded_word}
use Rattle.ft_player.proofs.Unpacked.{each_behind}
use Rattle.ft_player.proofs.Rows.{frame_is}
use Rattle.ft_player.proofs.RunWords.{newest_number, asked_one, asked_more}
use Rattle.ft_player.proofs.run.run_seat.Goals as goal

pub returns-then-out-room-clause-values : goal.returns-then-out-room-clause-values
returns-then-out-room-clause-values g c = λ songs stands seated k lt.
    let a = c.args in
    let inside : a.first + k < a.seat.now.head.frames = omega (arith, lt) in
    frame_is c.a_shown_sample_is_of_its_version.ensures.valid songs c.word_for-word.new.pass a.seat.now stands seated
    c.word_for-word.result (word_of a.first) (a.first + k) _ (c.word_for-word.ensures.word songs stands seated)
    (omega (arith, lt)) inside (c.unpack_part.ensures.frames k lt)

pub returns-then-out-room-clause-asked : goal.returns-then-out-room-clause-asked
returns-then-out-room-clause-asked g c =
    let a = c.args in
    asked_one a.first (length a.out.now) a.pass.now c.word_for-word.new.pass a.seat.now c.word_for-word.new.seat a.steps.now
    c.word_for-word.new.steps c.requires.some (omega arith) c.word_for-word.ensures.asked

pub returns-clause-values : goal.returns-clause-values
returns-clause-values g c = λ songs stands seated.
    let a = c.args in
    let seat = a.seat.now in
    let mid = c.word_for-word.new.pass in
    let asked = c.word_for-word.ensures.asked in
    let from = c.newest_of-from.result in
    let front = c.unpack_part-2.new.out in
    let before = c.songs_agree_with_earlier_notes.ensures songs mid c.follow-words.new.pass
    (played_read mid c.follow-words.new.pass c.follow-words.ensures.followed.on) stands in
    let there = asked.seated songs before seated in
    let w = c.follow-words.ensures.words songs stands there (there.kept from (inl c.newest_of-from.ensures)) in
    let number : from.number ≡ word_of a.first
    = newest_number c.word_for-word.new.seat.words from (word_of a.first) (numbers_of seat.words) c.newest_of-from.ensures
    asked.words in
    each_behind (λ (k : ℕ) (z : ℤ). z ≡ frame_of (owned_by songs (Some seat)) (a.first + k)) front c.follow-words.new.out
    (λ k lt.
    let inside : a.first + k < seat.head.frames = omega (arith, lt) in
    frame_is c.a_shown_sample_is_of_its_version.ensures.valid songs mid seat before seated c.word_for-word.result
    (word_of a.first) (a.first + k) _ (c.word_for-word.ensures.word songs before seated) (omega (arith, lt)) inside
    (c.unpack_part-2.ensures.frames k lt))
    (λ k lt.
    let same : 4 * (from.number + 1) + k ≡ a.first + (length front + k) = omega (arith, number, lt) in
    w.1 k lt ∙ ap (λ (s : Seat). frame_of (owned_by songs (Some s)) (4 * (from.number + 1) + k)) asked.rest
    ∙ ap (frame_of (owned_by songs (Some seat))) same)

pub returns-clause-range : goal.returns-clause-range
returns-clause-range g c =
    let seat = c.args.seat.now in
    each_behind (λ (k : ℕ) (z : ℤ). FitsSigned (width_of seat.head.wide) z) c.unpack_part-2.new.out c.follow-words.new.out
    (λ k lt. (c.unpack_part-2.ensures.frames k lt).range)
    (λ k lt.
    subst (λ (s : Seat). FitsSigned (width_of s.head.wide) (get_or c.follow-words.new.out k (pos 0))) c.word_for-word.ensures.asked.rest
    (c.follow-words.ensures.range k lt))

pub returns-clause-asked : goal.returns-clause-asked
returns-clause-asked g c =
    let a = c.args in
    let mid = c.word_for-word.new.pass in
    let there = c.word_for-word.new.seat in
    let asked = c.word_for-word.ensures.asked in
    let from = c.newest_of-from.result in
    let words = c.follow-words.result in
    let many = length a.out.now in
    let new = c.follow-words.new.pass in
    let number : from.number ≡ word_of a.first
    = newest_number there.words from (word_of a.first) (numbers_of a.seat.now.words) c.newest_of-from.ensures asked.words in
    let last : from.number + (length c.split_at_mut-front.result.1.now + 3) / 4 ≡ last_word a.first many
    = omega (arith, number) in
    asked_more a.first many a.pass.now mid new a.seat.now there words a.steps.now c.word_for-word.new.steps
    c.follow-words.new.steps c.requires.some (omega arith) asked
    (λ songs stands seated.
    let before = c.songs_agree_with_earlier_notes.ensures songs mid new (played_read mid new c.follow-words.ensures.followed.on) stands in
    let kept = asked.seated songs before seated in
    let w = c.follow-words.ensures.words songs stands kept (kept.kept from (inl c.newest_of-from.ensures)) in record {
      head = kept.head;
      root = kept.root;
      kept = λ word is. reworded_word songs there words word (w.0 word is);
    })
    (c.follow-words.ensures.numbers ∙ ap (λ (n : ℕ). n ∷ (n - 1) ∷ []) last)
    (subst (λ (n : ℕ). HasFollowed n (last_word a.first many) mid new c.word_for-word.new.steps c.follow-words.new.steps) number
    (subst (λ (n : ℕ). HasFollowed from.number n mid new c.word_for-word.new.steps c.follow-words.new.steps) last
    c.follow-words.ensures.followed))
    (c.a_pass_reads_on.ensures.through a.pass.now mid new asked.on c.follow-words.ensures.followed.on)
    (c.a_pass_reads_on.ensures.counted a.pass.now mid new a.steps.now c.word_for-word.new.steps c.follow-words.new.steps
    asked.counted c.follow-words.ensures.followed.counted)
