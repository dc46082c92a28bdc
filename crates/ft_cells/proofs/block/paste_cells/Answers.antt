use Rattle.std.proofs.Common.{◌≡◌, ℕ, ◌+◌, ◌-◌, ◌*◌, ◌≤◌, List, length, take, drop, get_or, ap, ◌∙◌, arith}
use borrow.Rule.Slice.PartMut.{put_mid, mid_of}
use Rattle.ft_types.specs.declared.pattern.Cell.{Cell}
use Rattle.ft_cells.specs.Blocks.{blocked, sourced}
use Rattle.ft_cells.proofs.BlockCells.{no_rows, row_more, next_row, mid_length, row_each, length_each}
use Rattle.ft_cells.proofs.block.paste_cells.Goals as goal

pub loop-i-init : goal.loop-i-init
loop-i-init c =
    let block = c.args.block in
    no_rows c.args.channels block.r block.c block.w
    (sourced c.args.channels c.args.source.now c.args.r c.args.c block.r block.c) c.args.cells.now

pub loop-i-preserved : goal.loop-i-preserved
loop-i-preserved c =
    let l = c.loop-i in
    let block = c.args.block in
    let source = c.args.source.now in
    let change : ℕ → ℕ → Cell → Cell = sourced c.args.channels source c.args.r c.args.c block.r block.c in
    let at : ℕ = (c.from.result + l.i) * c.args.channels + c.from-in-loop-i.result in
    let size : at + c.from-w.result - at ≡ block.w = omega arith in
    let same : length l.cells ≡ length c.args.cells.now =
    ap length l.invariant
    ∙ length_each (blocked c.args.channels block.r block.c l.i block.w change) 0 c.args.cells.now in
    let place : at ≡ (block.r + l.i) * c.args.channels + block.c =
    ap (λ n. (n + l.i) * c.args.channels + c.from-in-loop-i.result) c.from.ensures
    ∙ ap (λ n. (block.r + l.i) * c.args.channels + n) c.from-in-loop-i.ensures in
    let long : (block.r + l.i) * c.args.channels + c.args.channels ≤ length c.args.cells.now =
    next_row c.args.channels block.r l.i block.h (length c.args.cells.now) (omega arith) c.requires.long in
    let start : ℕ = (c.args.r + l.i) * c.args.channels + c.args.c in
    let row : (c.args.r + l.i) * c.args.channels + c.args.channels ≤ length source =
    next_row c.args.channels c.args.r l.i block.h (length source) (omega arith) c.requires.whole in
    let there : start + block.w ≤ length source = omega (arith, row, c.requires.from) in
    let first : (c.from-in-loop-i-2.result + l.i) * c.args.channels + c.from-in-loop-i-3.result ≡ start =
    ap (λ n. (n + l.i) * c.args.channels + c.from-in-loop-i-3.result) c.from-in-loop-i-2.ensures
    ∙ ap (λ n. (c.args.r + l.i) * c.args.channels + n) c.from-in-loop-i-3.ensures in
    let fits : at + block.w ≤ length l.cells = omega (arith, place, long, same, c.requires.wide) in
    let new : c.write_part.new.cells ≡ take block.w (drop start source) =
    c.write_part.ensures ∙ ap (λ n. take (length (mid_of at (at + c.from-w.result - at) l.cells)) (drop n source)) first
    ∙ ap (λ n. take (length (mid_of at n l.cells)) (drop start source)) size
    ∙ ap (λ n. take n (drop start source)) (mid_length at block.w l.cells fits) in
    ap (λ n. put_mid at n l.cells c.write_part.new.cells) size
    ∙ row_more c.args.channels block.r block.c l.i block.w change c.args.cells.now l.cells c.write_part.new.cells at
    (record {
      wide = c.requires.wide;
      long = long;
      before = l.invariant;
      place = place;
      count = ap length new ∙ mid_length start block.w source there;
      each = λ j d below. ap (λ (zs : List Cell). get_or zs j d) new
          ∙ row_each c.args.channels c.args.r block.r block.c l.i c.args.c block.w j source d below there;
    })
