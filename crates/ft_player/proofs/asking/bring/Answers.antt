use Rattle.std.proofs.Common.{rules, ℕ, ap, sym, subst, ◌∙◌, inl, inr}
use Rattle.ft_image.specs.Values.{frames_word}
use Rattle.ft_player.specs.Seats.{frames_by, IsWordOf}
use Rattle.ft_player.proofs.Seated.{reworded_word}
use Rattle.ft_player.proofs.asking.bring.Goals as goal

pub returns-clause-word : goal.returns-clause-word
returns-clause-word g c = λ songs stands seated.
    let word = c.other_word-kept.ensures.word songs stands seated in
    word.value ∙ ap (λ (n : ℕ). frames_word (frames_by songs c.args.seat.now) n) c.other_word-kept.ensures.number

pub returns-clause-asked : goal.returns-clause-asked
returns-clause-asked g c = record {
  seated = λ songs stands seated.
      let seat = c.args.seat.now in
      let word = c.other_word-kept.ensures.word songs stands seated in record {
        head = seated.head;
        root = seated.root;
        kept = λ w k. reworded_word songs seat c.put.new.self w (elim (c.put.ensures.kept w k) [
          | inl e ↦ subst (IsWordOf songs seat) (sym e) word
          | inr old ↦ seated.kept w old
        ]);
      };
  rest = search rules;
  words = search rules;
  on = search rules;
  counted = search rules;
  work = search rules;
  cost = search rules;
}
