use Rattle.std.proofs.Common.{rules, ◌≡◌, ◌≤◌, ◌<◌, ◌+◌, ◌-◌, ◌%◌, ℕ, Some, subst, sym, arith}
use Rattle.ft_replay.specs.Sound.{end_of, place_of}
use Rattle.ft_mix.proofs.Turns.{goes_up, goes_down, end_is}
use Rattle.ft_mix.proofs.piece.piece_at.Goals as goal

pub returns-then-steps-head-clause-piece : goal.returns-then-steps-head-clause-piece
returns-then-steps-head-clause-piece c = record {
  places = λ k lt.
      let head = c.args.head.now in
      let at = c.args.at in
      let looped : 1 ≤ head.loop_kind = c.requires.looped in
      let past : end_of head ≤ at = omega (arith, c.end-end.ensures.value, c.if-at-end.false) in
      let from : head.loop_start ≤ at = omega (arith, past, end_is head looped) in
      let turn = c.turn-turn.result in
      let within : (at - head.loop_start) % turn + k < turn = omega (arith, lt, c.min.ensures) in
      let up : (at - head.loop_start) % turn + k < head.loop_len = omega (arith, lt, c.min.ensures) in
      subst (λ (t : ℕ). place_of head (at + k) ≡ Some (head.loop_start + (at - head.loop_start) % t + k))
      (sym c.turn-turn.ensures.value)
      (goes_up head at k looped past from
      (subst (λ (t : ℕ). (at - head.loop_start) % t + k < t) c.turn-turn.ensures.value within)
      (subst (λ (t : ℕ). (at - head.loop_start) % t + k < head.loop_len) c.turn-turn.ensures.value up));
  some = search rules;
  up = search rules;
  down = search rules;
}

pub returns-clause-piece : goal.returns-clause-piece
returns-clause-piece c = record {
  places = λ k lt.
      let head = c.args.head.now in
      let at = c.args.at in
      let looped : 1 ≤ head.loop_kind = c.requires.looped in
      let past : end_of head ≤ at = omega (arith, c.end-end.ensures.value, c.if-at-end.false) in
      let from : head.loop_start ≤ at = omega (arith, past, end_is head looped) in
      let turn = c.turn-turn.result in
      subst (λ (t : ℕ). place_of head (at + k) ≡ Some (head.loop_start + (t - (at - head.loop_start) % t) - k))
      (sym c.turn-turn.ensures.value)
      (goes_down head at k looped past from
      (subst (λ (t : ℕ). k < t - (at - head.loop_start) % t) c.turn-turn.ensures.value lt)
      (subst (λ (t : ℕ). head.loop_len ≤ (at - head.loop_start) % t) c.turn-turn.ensures.value
      c.if-steps-head.false));
  some = search rules;
  up = search rules;
  down = search rules;
}
