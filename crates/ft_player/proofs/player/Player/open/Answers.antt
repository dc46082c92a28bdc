use Rattle.std.proofs.Common.{map, ap, ◌∙◌}
use Rattle.ft_player.specs.Seats.{owned_by}
use Rattle.ft_player.specs.Behind.{shown_by}
use Rattle.ft_player.proofs.Opened.{opened, owns_none}
use Rattle.ft_player.proofs.player.Player.open.Goals as goal

pub invariant_of-result : goal.invariant_of-result
invariant_of-result c = record {
  held = c.requires.free;
  order = opened _ c.args.channels c.no_seats.ensures c.first.ensures.voices c.first.ensures.used c.requires.channels
      c.first.ensures.range c.requires.free c.requires.unpinned c.requires.low c.requires.high;
}

pub returns-clause-first : goal.returns-clause-first
returns-clause-first c = λ songs.
    c.first.ensures.state (shown_by songs 0 c.no_seats.result.items)
    (ap (map (owned_by songs)) c.no_seats.ensures ∙ owns_none songs c.args.channels)

pub returns-clause-order : goal.returns-clause-order
returns-clause-order c =
    opened _ c.args.channels c.no_seats.ensures c.first.ensures.voices c.first.ensures.used c.requires.channels
    c.first.ensures.range c.requires.free c.requires.unpinned c.requires.low c.requires.high
