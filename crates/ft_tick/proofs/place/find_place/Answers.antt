use Rattle.std.proofs.Common.{◌≡◌, ℕ, length, subst, sym, ◌∙◌, arith}
use Rattle.ft_replay.specs.Range.{IsTimed}
use Rattle.ft_tick.proofs.place.find_place.Goals as goal

pub returns-clause-playing : goal.returns-clause-playing
returns-clause-playing g c =
    let range = c.requires.range.control in
    let few = c.requires.valid.few_orders in
    let within = c.bring_within_rows.ensures.within_orders in
    let n = length c.args.channels.now in
    let timed =
    c.bring_within_rows.ensures.playing n
    (c.bring_within_orders.ensures.playing n (c.open_song.ensures.timed n range c.if-control-ne0.false)) in
    let many : length c.bring_within_rows.new.channels ≡ n =
    c.bring_within_rows.ensures.many ∙ c.bring_within_orders.ensures.many in
    record {
      pos = omega arith;
      row = c.bring_within_rows.ensures.row;
      timed = subst (λ (k : ℕ). IsTimed k c.bring_within_rows.new.control) (sym many) timed;
    }

pub returns-clause-range : goal.returns-clause-range
returns-clause-range g c =
    c.bring_within_rows.ensures.range (c.bring_within_orders.ensures.range c.requires.range.channels)
