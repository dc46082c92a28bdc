use Rattle.std.proofs.Common.{◌≡◌, ◌<◌, length, ap, ◌∙◌, arith}
use Rattle.std.specs.Prelude.{slice_index}
use Rattle.ft_changes.specs.Parts.{put}
use Rattle.ft_songedit.proofs.Roots.{put_long, put_same}
use Rattle.ft_songedit.proofs.instrument_words.put_fresh_sample.Goals as goal

pub returns-then-s-count : goal.returns-then-s-count
returns-then-s-count c = λ x a samples ids low three few le same small is has.
    let count = c.sample_count-count.ensures x ids few has in
    let last : c.args.s ≡ length x.samples = omega (arith, count, le, c.if-s-count.true) in
    c.count_sample_more.ensures x samples (put c.args.s (slice_index c.args.fresh.now 2) ids)
    (omega (arith, last, low)) (ap length is ∙ put_long c.args.s a x.samples last)
    (c.put_sample_id.ensures x ids small (omega (arith, le, same)) has)

pub returns-else-s-count : goal.returns-else-s-count
returns-else-s-count c = λ x a samples ids low three few le same small is has.
    let count = c.sample_count-count.ensures x ids few has in
    let lt : c.args.s < length x.samples = omega (arith, count, c.if-s-count.false) in
    c.an_instrument_has_the_words_of_its_root.ensures.samples c.put_sample_id.new.words x samples
    (put c.args.s (slice_index c.args.fresh.now 2) ids) (ap length is ∙ put_same c.args.s a x.samples lt)
    (c.put_sample_id.ensures x ids small (omega (arith, le, same)) has)
