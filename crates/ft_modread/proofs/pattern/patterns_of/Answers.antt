use Rattle.std.proofs.Common.{◌∙◌, sym, rules}
use Rattle.ft_modread.specs.Songs.{mod_pattern}
use Rattle.ft_modread.proofs.Each.{each_none, pushed}
use Rattle.ft_modread.proofs.pattern.patterns_of.Goals as goal

pub loop-p-init : goal.loop-p-init
loop-p-init c = record {
  items = c.in_ok-patterns.ensures.items ∙ sym (each_none (mod_pattern c.args.file.now));
  len = search rules;
  room = search rules;
}

pub loop-p-preserved : goal.loop-p-preserved
loop-p-preserved c = record {
  items = pushed c.loop-p.p (mod_pattern c.args.file.now) c.loop-p.patterns.items c.push_reserved.new.self.items
      c.in_ok-pattern_at.field-0 c.push_reserved.ensures.items c.loop-p.invariant.items c.in_ok-pattern_at.ensures;
  len = search rules;
  room = search rules;
}
