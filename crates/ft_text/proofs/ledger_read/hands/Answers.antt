use Rattle.std.proofs.Common.{◌≡◌, ◌≤◌, ◌+◌, ◌++◌, ◌∷◌, [], rules, arith, sym, ap, subst, ◌∙◌}
use Rattle.ft_text.specs.Record.{Ascend, HasHandCause}
use Rattle.ft_text.proofs.Pushed.{all_pushed, next_hand, next_pushed, ascend_pushed}
use Rattle.ft_text.proofs.ManyLines.{one_more, none_more, no_line}
use Rattle.ft_text.proofs.ledger_read.hands.Goals as goal

pub returns-in_default-hand_of-clause-read : goal.returns-in_default-hand_of-clause-read
returns-in_default-hand_of-clause-read c =
    none_more c.in-Some.next c.in-Some.line.now c.loop-line.invariant.so_far c.in-Some.ensures (search rules)

pub loop-line-preserved : goal.loop-line-preserved
loop-line-preserved c =
    let ends = c.loop-line.hands.items in
    let end = c.in-Some-hand_of.end in
    let longer : c.push.new.self.items ≡ ends ++ end ∷ [] = search rules in
    let above : next_hand 0 ends ≤ end.hand = omega (arith, c.in-Some-hand_of.ensures.from, c.loop-line.invariant.least) in
    let after : c.from-least.result + 1 ≡ end.hand + 1 = ap (λ n. n + 1) c.from-least.ensures in
    record {
      so_far = one_more _ c.in-Some.next c.in-Some.line.now end c.push.new.self.items c.loop-line.invariant.so_far c.in-Some.ensures
          (search rules) after longer;
      least = after ∙ sym (next_pushed 0 ends end) ∙ ap (next_hand 0) (sym longer);
      ascending = subst (λ xs. Ascend 0 xs) (sym longer) (ascend_pushed 0 ends end c.loop-line.invariant.ascending above);
      causes = all_pushed HasHandCause ends end c.push.new.self.items longer c.loop-line.invariant.causes (search rules);
    }

pub returns-clause-read : goal.returns-clause-read
returns-clause-read c = no_line c.loop-line.invariant.so_far c.in_default.ensures
