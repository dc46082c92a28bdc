use Rattle.std.proofs.Common.{◌≡◌, ℕ, ◌*◌, ◌≤◌, ◌<◌, length, refl, sym, ap, subst, ◌∙◌, arith}
use Rattle.ft_shared.specs.declared.law.Sizes.{Sizes}
use Rattle.ft_shared.specs.Account.{pool_of}
use Rattle.ft_shared.specs.Pass.{WriterState}
use Rattle.ft_image.specs.Laid.{song_laid}
use Rattle.std.specs.Vec.{vec_capacity}
use Rattle.ft_types.specs.Blocks.{blocks_of}
use Rattle.ft_retire.specs.Births.{BirthsState}
use Rattle.ft_desk.specs.Desk.{DeskState, IsDesk, IsOpened, desk_of, opening_births, born_parts}
use Rattle.ft_desk.specs.Parts.{opening_parts}
use Rattle.ft_desk.proofs.Opened.{filled_up, opened_desk, writer_is, opened_parts, unplaced}
use Rattle.ft_desk.proofs.desk.Desk.open.Goals as goal

pub on-desk-requires-clause-desk : goal.on-desk-requires-clause-desk
on-desk-requires-clause-desk c =
    let shared = c.in_ok-shared.shared in
    let image = c.in-Ok.image in
    let long : shared.sizes.segments ≡ c.args.segments = ap (λ (s : Sizes). s.segments) c.in_ok-shared.ensures.sizes in
    let fits : length image ≤ 256 * shared.sizes.segments
    = let b = c.blocks-need.ensures in let n = c.from.ensures in omega (arith, c.in-Ok.ensures.size, c.if-need-from.false) in
    let few : shared.sizes.segments < 65536 = let r = c.ranges.segments.fits in omega arith in
    let is = writer_is shared c.in_ok-shared.pass c.args.version c.root.result c.args.segments c.words.result.now image
    c.in_ok-shared.ensures.writer c.root.ensures c.words.ensures long in
    let reserved = c.in-Ok-reserve.reserved in
    let births : reserved.0 ≡ opening_births shared.sizes.segments (blocks_of c.args.m.now) c.args.version = c.in-Ok-reserve.ensures.births
    ∙ (λ i. opening_births (sym long i) (c.blocks-need.ensures i) c.args.version) in
    let room : vec_capacity reserved.1 ≡ shared.sizes.segments = c.in-Ok-reserve.ensures.room ∙ sym long in
    subst (λ (z : WriterState × BirthsState × ℕ). IsDesk (desk_of z.0 c.new.result z.1 z.2 c.args.m.now c.args.version))
    (λ i. (sym is i, sym births i, sym room i))
    (opened_desk c.shown_stays.ensures c.shown_has_blocks.ensures c.lives_law.ensures.born shared c.args.m.now c.args.version image
    c.new.result c.in-Ok.ensures.shows c.in-Ok.ensures.size fits few
    (sym (ap (λ (s : Sizes). s.channels) c.in_ok-shared.ensures.sizes)) c.new.ensures.entries)

pub returns-clause-desk : goal.returns-clause-desk
returns-clause-desk c =
    let shared = c.in_ok-shared.shared in
    let image = c.in-Ok.image in
    let long : shared.sizes.segments ≡ c.args.segments = ap (λ (s : Sizes). s.segments) c.in_ok-shared.ensures.sizes in
    let fits : length image ≤ 256 * shared.sizes.segments
    = let b = c.blocks-need.ensures in let n = c.from.ensures in omega (arith, c.in-Ok.ensures.size, c.if-need-from.false) in
    let few : shared.sizes.segments < 65536 = let r = c.ranges.segments.fits in omega arith in
    let is = writer_is shared c.in_ok-shared.pass c.args.version c.root.result c.args.segments c.words.result.now image
    c.in_ok-shared.ensures.writer c.root.ensures c.words.ensures long in
    let up = filled_up c.shown_stays.ensures shared.sizes.segments image c.args.m.now c.in-Ok.ensures.shows fits few in
    let reserved = c.in-Ok-reserve.reserved in
    let births : reserved.0 ≡ opening_births shared.sizes.segments (blocks_of c.args.m.now) c.args.version = c.in-Ok-reserve.ensures.births
    ∙ (λ i. opening_births (sym long i) (c.blocks-need.ensures i) c.args.version) in
    let room : vec_capacity reserved.1 ≡ shared.sizes.segments = c.in-Ok-reserve.ensures.room ∙ sym long in
    subst (λ (d : DeskState). IsOpened shared c.args.m.now c.args.version d) (sym c.on-desk.ensures) (record {
      words = image;
      writer = is;
      laid = up.0 ∙ c.in-Ok.ensures.laid;
      entries = c.new.ensures.entries;
      refusals = c.new.ensures.refusals;
      births = births;
      room = room;
      opening = refl;
      first = refl;
    })

pub returns-clause-parts : goal.returns-clause-parts
returns-clause-parts c =
    let shared = c.in_ok-shared.shared in
    let image = c.in-Ok.image in
    let long : shared.sizes.segments ≡ c.args.segments = ap (λ (s : Sizes). s.segments) c.in_ok-shared.ensures.sizes in
    let fits : length image ≤ 256 * shared.sizes.segments
    = let b = c.blocks-need.ensures in let n = c.from.ensures in omega (arith, c.in-Ok.ensures.size, c.if-need-from.false) in
    let few : shared.sizes.segments < 65536 = let r = c.ranges.segments.fits in omega arith in
    let is = writer_is shared c.in_ok-shared.pass c.args.version c.root.result c.args.segments c.words.result.now image
    c.in_ok-shared.ensures.writer c.root.ensures c.words.ensures long in
    let up = filled_up c.shown_stays.ensures shared.sizes.segments image c.args.m.now c.in-Ok.ensures.shows fits few in
    let laid = song_laid c.args.m.now in
    ap born_parts c.on-desk.ensures
    ∙ (opened_parts shared c.args.version (pool_of shared.sizes.segments image) laid c.in_ok-shared.pass (up.0 ∙ c.in-Ok.ensures.laid) is
    ∙ ap (λ (n : ℕ). opening_parts n c.args.version laid) long)

pub returns-clause-others : goal.returns-clause-others
returns-clause-others c segment past =
    unplaced c.in-Ok.image (song_laid c.args.m.now) c.args.m.now c.in-Ok.ensures.shows c.in-Ok.ensures.laid segment
    (omega (arith, c.in-Ok.ensures.size))
