use Rattle.std.proofs.Common.{◌≡◌, ℕ, ◌+◌, ◌-◌, ◌*◌, ◌≤◌, length, map, get_or, ap, ◌∙◌, arith}
use borrow.Rule.Slice.PartMut.{put_mid, mid_of}
use Rattle.ft_types.specs.declared.pattern.Cell.{Cell}
use Rattle.ft_cells.specs.Blocks.{blocked}
use Rattle.ft_edits.specs.Changes.{cell_changed}
use Rattle.ft_cells.proofs.BlockCells.{no_rows, row_more, next_row, part_length, part_each, length_each}
use Rattle.ft_cells.proofs.block.change_cells.Goals as goal

pub loop-i-init : goal.loop-i-init
loop-i-init c =
    no_rows c.args.channels c.args.block.r c.args.block.c c.args.block.w
    (λ row channel cell. cell_changed c.args.e.now cell) c.args.cells.now

pub loop-i-preserved : goal.loop-i-preserved
loop-i-preserved c =
    let l = c.loop-i in
    let block = c.args.block in
    let change : ℕ → ℕ → Cell → Cell = λ row channel cell. cell_changed c.args.e.now cell in
    let at : ℕ = (c.from.result + l.i) * c.args.channels + c.from-in-loop-i.result in
    let size : at + c.from-in-loop-i-2.result - at ≡ block.w = omega arith in
    let same : length l.cells ≡ length c.args.cells.now =
    ap length l.invariant
    ∙ length_each (blocked c.args.channels block.r block.c l.i block.w change) 0 c.args.cells.now in
    let place : at ≡ (block.r + l.i) * c.args.channels + block.c =
    ap (λ n. (n + l.i) * c.args.channels + c.from-in-loop-i.result) c.from.ensures
    ∙ ap (λ n. (block.r + l.i) * c.args.channels + n) c.from-in-loop-i.ensures in
    let long : (block.r + l.i) * c.args.channels + c.args.channels ≤ length c.args.cells.now =
    next_row c.args.channels block.r l.i block.h (length c.args.cells.now) (omega arith) c.requires.long in
    let fits : at + block.w ≤ length l.cells = omega (arith, place, long, same, c.requires.wide) in
    let new = c.change_all.ensures ∙ ap (λ n. map (cell_changed c.args.e.now) (mid_of at n l.cells)) size in
    ap (λ n. put_mid at n l.cells c.change_all.new.cells) size
    ∙ row_more c.args.channels block.r block.c l.i block.w change c.args.cells.now l.cells c.change_all.new.cells at
    (record {
      wide = c.requires.wide;
      long = long;
      before = l.invariant;
      place = place;
      count = ap length new ∙ part_length (cell_changed c.args.e.now) at block.w l.cells fits;
      each =
          λ j d below.
          ap (λ zs. get_or zs j d) new ∙ part_each (cell_changed c.args.e.now) at block.w l.cells j d fits below;
    })
