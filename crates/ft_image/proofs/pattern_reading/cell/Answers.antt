use Rattle.std.proofs.Common.{◌≡◌, ◌+◌, ◌*◌, ◌%◌, ◌/◌, ◌<◌, ℕ, arith, refl, sym}
use Rattle.ft_types.specs.Blocks.{pieces_of}
use Rattle.ft_types.specs.Views.{rows_at}
use Rattle.ft_segments.specs.Walk.{IsOf}
use Rattle.ft_image.proofs.Walked.{root_is}
use Rattle.ft_image.proofs.Found.{cell_past, cell_read, channels_read, body_is, number_low, pattern_is, rows_read}
use Rattle.ft_image.proofs.pattern_reading.cell.Goals as goal

pub returns-then-from-word-clause-answer : goal.returns-then-from-word-clause-answer
returns-then-from-word-clause-answer g c = λ p m may shows is lt.
    let found = c.in-Some.found in
    let has = c.in-Some.ensures.answer p m (λ (s : ℕ) (of : IsOf p s). c.word.ensures.narrows p s (may s of)) shows is in
    let word = c.word.ensures.answer p (may found (pattern_is p m c.args.pattern found has)) in
    let rows = rows_read p m c.args.pattern found c.word.result shows has word in
    let test = c.if-from-word.true in
    sym (cell_past p m c.args.pattern found c.args.row c.args.channel has (omega (arith, rows.0)))

pub returns-then-number-ge8192-clause-answer : goal.returns-then-number-ge8192-clause-answer
returns-then-number-ge8192-clause-answer g c = λ p m may shows is lt.
    let found = c.in-Some.found in
    let before = λ (s : ℕ) (of : IsOf p s). c.word-2.ensures.narrows p s (may s of) in
    let has = c.in-Some.ensures.answer p m (λ (s : ℕ) (of : IsOf p s). c.word.ensures.narrows p s (before s of)) shows is in
    let word = c.word.ensures.answer p (before found (pattern_is p m c.args.pattern found has)) in
    let rows = rows_read p m c.args.pattern found c.word.result shows has word in
    let test = c.if-from-word.false in
    let head = c.word-2.ensures.answer p (may c.args.root (root_is p c.args.root is)) in
    let channels = channels_read p m c.args.root c.word-2.result shows is head in
    let low = number_low p m c.args.pattern found c.args.row c.args.channel shows has (omega (arith, rows.0)) lt in
    let number : c.from-2.result * (c.word-2.result / 4294967296 % 256) + c.from-3.result ≡ c.args.row * m.channels + c.args.channel
    = rw (c.from-2.ensures, c.from-3.ensures, channels) refl in
    let over = c.if-number-ge8192.true in
    absurd (omega (arith, number, low.0, low.1))

pub returns-clause-answer : goal.returns-clause-answer
returns-clause-answer g c = λ p m may shows is lt.
    let found = c.in-Some.found in
    let at_body = λ (s : ℕ) (of : IsOf p s). c.word-3.ensures.narrows p s (may s of) in
    let at_head = λ (s : ℕ) (of : IsOf p s). c.id-body.ensures.narrows p s (at_body s of) in
    let before = λ (s : ℕ) (of : IsOf p s). c.word-2.ensures.narrows p s (at_head s of) in
    let has = c.in-Some.ensures.answer p m (λ (s : ℕ) (of : IsOf p s). c.word.ensures.narrows p s (before s of)) shows is in
    let pattern = pattern_is p m c.args.pattern found has in
    let rows = rows_read p m c.args.pattern found c.word.result shows has (c.word.ensures.answer p (before found pattern)) in
    let test = c.if-from-word.false in
    let row : c.args.row < rows_at m c.args.pattern = omega (arith, rows.0) in
    let head = c.word-2.ensures.answer p (at_head c.args.root (root_is p c.args.root is)) in
    let channels = channels_read p m c.args.root c.word-2.result shows is head in
    let number : c.from-2.result * (c.word-2.result / 4294967296 % 256) + c.from-3.result ≡ c.args.row * m.channels + c.args.channel
    = rw (c.from-2.ensures, c.from-3.ensures, channels) refl in
    let id = c.id-body.ensures.answer p (at_body found pattern) in
    let low = number_low p m c.args.pattern found c.args.row c.args.channel shows has row lt in
    let within : (c.from-2.result * (c.word-2.result / 4294967296 % 256) + c.from-3.result) / 256 < pieces_of
    (has.pattern.rows * m.channels) 256
    = omega (arith, number, low.0) in
    let body = body_is p m c.args.pattern found _ c.id-body.result shows has within id in
    let word = c.word-3.ensures.answer p (may c.id-body.result body) in
    let read = cell_read p m c.args.pattern found c.args.row c.args.channel _ c.id-body.result c.word-3.result
    shows has row lt number id word in
    c.cell_from.ensures _ read.0 read.1
