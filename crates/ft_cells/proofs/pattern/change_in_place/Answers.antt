use Rattle.ft_cells.proofs.Patterns.{copy_made}
use Rattle.ft_cells.proofs.pattern.change_in_place.Goals as goal

pub returns-in-Copy : goal.returns-in-Copy
returns-in-Copy c m valid wide named taken allows keeps =
    let x = c.in-Copy in
    copy_made m c.args.e.now x.p x.r x.c x.h x.w x.q x.r2 x.c2 c.args.rows c.args.channels c.args.cells.now
    c.args.source.now c.paste_block.new.cells x.is valid wide named taken allows c.requires.whole c.paste_block.ensures
