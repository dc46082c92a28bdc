use Rattle.std.proofs.Common.{◌∙◌, sym, rules}
use Rattle.ft_modread.specs.Patterns.{mod_cell}
use Rattle.ft_modread.proofs.Each.{each_none, pushed}
use Rattle.ft_modread.proofs.pattern.cells_of.Goals as goal

pub loop-k-init : goal.loop-k-init
loop-k-init c = record {
  items = c.in_ok-cells.ensures.items ∙ sym (each_none (mod_cell c.args.bytes.now));
  len = search rules;
  room = search rules;
}

pub loop-k-preserved : goal.loop-k-preserved
loop-k-preserved c = record {
  items = pushed c.loop-k.k (mod_cell c.args.bytes.now) c.loop-k.cells.items c.push_reserved.new.self.items c.cell_of.result
      c.push_reserved.ensures.items c.loop-k.invariant.items c.cell_of.ensures;
  len = search rules;
  room = search rules;
}
