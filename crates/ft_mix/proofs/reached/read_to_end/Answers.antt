use Rattle.std.proofs.Common.{rules, ◌≡◌, ◌≤◌, ◌+◌, ◌∙◌, pos, None, length, take, drop, get_or, ap, sym, refl, arith}
use Rattle.std.proofs.lemmas.List.{length-take-le, get_or_append_left}
use Rattle.ft_replay.specs.Sound.{value_in}
use Rattle.ft_mix.proofs.Costs.{by_lt, place_within, place_past}
use Rattle.ft_mix.proofs.reached.read_to_end.Goals as goal

pub returns-then-at-head-clause-values : goal.returns-then-at-head-clause-values
returns-then-at-head-clause-values g c = λ w is.
    let head = c.args.head.now in
    let owned = get_or (g.V.SongView.shown c.args.view.now w).kept c.args.channel None in (
      is,
      refl,
      λ j lt. c.silence.ensures.silent j (omega arith) lt
          ∙ sym (ap (value_in head owned) (place_past head (c.args.at + j) c.requires.straight (omega arith))),
    )

pub returns-clause-values : goal.returns-clause-values
returns-clause-values g c = λ w is.
    let head = c.args.head.now in
    let at = c.args.at in
    let many = c.min-many.result in
    let a = c.read_up.ensures.values w is in
    let room : many ≤ length c.args.values.now = omega (arith, c.min-many.ensures) in
    let lent : length (take many c.args.values.now) ≡ many = length-take-le many c.args.values.now room in
    let owned = get_or (g.V.SongView.shown c.args.view.now w).kept c.args.channel None in (
      a.0,
      a.1,
      λ j lt. by_lt j many
          (λ before. c.silence-2.ensures.before j before ∙ get_or_append_left c.read_up.new.values (drop many c.args.values.now) (pos 0) j (omega (arith, before, lent, c.read_up.ensures.many))
          ∙ a.2 j (omega (arith, before, lent))
          ∙ sym (ap (value_in head owned) (place_within head (at + j) c.requires.straight (omega arith))))
          (λ past. c.silence-2.ensures.silent j past (search (rules, lt))
          ∙ sym (ap (value_in head owned) (place_past head (at + j) c.requires.straight (omega (arith, past, lt, c.min-many.ensures, c.if-at-head.false))))),
    )
