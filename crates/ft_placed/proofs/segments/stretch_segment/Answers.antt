use Rattle.std.proofs.Common.{◌-◌, sym, ◌∙◌, arith}
use Rattle.ft_placed.proofs.InOrder.{stretch_index, stretch_body, stretch_end}
use Rattle.ft_placed.proofs.segments.stretch_segment.Goals as goal

pub returns-then-k-indexes-clause-answer : goal.returns-then-k-indexes-clause-answer
returns-then-k-indexes-clause-answer g c = λ p m ids last may shows of is stretch.
    let first = c.if-k-eq0.false in
    let test = c.if-k-indexes.true in
    c.index_id.ensures.answer p m ids may shows of is
    ∙ stretch_index ids c.args.first last c.args.gone c.args.k (c.args.k - 1) _ stretch (omega arith)
    (omega (arith, c.stretch_indexes-indexes.ensures)) (omega arith)

pub returns-then-rest-saturating_sub-clause-answer : goal.returns-then-rest-saturating_sub-clause-answer
returns-then-rest-saturating_sub-clause-answer g c = λ p m ids last may shows of is stretch.
    let first = c.if-k-eq0.false in
    let second = c.if-k-indexes.false in
    let test = c.if-rest-saturating_sub.true in
    sym (stretch_end ids c.args.first last c.args.gone c.args.k (c.args.k - 1 - c.stretch_indexes-indexes.result) stretch
    (omega (arith, c.stretch_indexes-indexes.ensures)) (omega (arith, c.saturating_sub.ensures)))

pub returns-clause-answer : goal.returns-clause-answer
returns-clause-answer g c = λ p m ids last may shows of is stretch.
    let first = c.if-k-eq0.false in
    let second = c.if-k-indexes.false in
    let test = c.if-rest-saturating_sub.false in
    c.frames_body_id.ensures.answer p m ids may shows of is
    ∙ stretch_body ids c.args.first last c.args.gone c.args.k (c.args.k - 1 - c.stretch_indexes-indexes.result) stretch
    (omega (arith, c.stretch_indexes-indexes.ensures)) (omega (arith, c.saturating_sub.ensures))
