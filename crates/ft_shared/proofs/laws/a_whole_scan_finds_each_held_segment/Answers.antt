use Rattle.ft_shared.proofs.Found.{finds_each_held}
use Rattle.ft_shared.proofs.laws.a_whole_scan_finds_each_held_segment.Goals as goal

pub returns-clause-found : goal.returns-clause-found
returns-clause-found c key state rule whole segment held =
    finds_each_held key c.held_by_a_pin_is_named.ensures state rule whole segment held

pub returns-clause-unheld : goal.returns-clause-unheld
returns-clause-unheld c key state rule segment may held =
    may.1 (finds_each_held key c.held_by_a_pin_is_named.ensures state rule may.0 segment held)
